-- A login text with very many keys.
use Rattle.std.specs.Prelude.{false, ◌≡◌, ℕ, zero, suc, ◌+◌, ◌/◌, ◌%◌, List, [], ◌∷◌, ◌++◌, None, codes, refl}
use Rattle.iscsi_stream.specs.Canonical.{canon}
use Rattle.iscsi_target.specs.Machine.{answers}
use Rattle.iscsi_target.specs.Worked.{hex, entry, first, says, first_text, fresh, blank}
use Rattle.iscsi_target.proofs.Rows.Computing.{answers_on_literals}

-- the digits of a number below 1000
abbrev three : ℕ → List ℕ
three n = (48 + n / 100) ∷ (48 + n / 10 % 10) ∷ (48 + n % 10) ∷ []

-- n keys, from `K000=1` on
abbrev keys : ℕ → List ℕ
keys zero = []
keys (suc n) = keys n ++ entry (codes "K" ++ three n ++ codes "=1")

-- A text of 500 unknown keys would get an answer of over 8,192 bytes.
pub too_many_keys : (canon (answers false fresh blank (says first (first_text ++ keys 500) ∷ [])).answers
    ≡ hex (codes "23000000 00000000 40000001 00000000 00000000 00000000 00000000 00000001 00000008 03020000 00000000 00000000"))
    × ((answers false fresh blank (says first (first_text ++ keys 500) ∷ [])).rule ≡ None)
unfolding answers_on_literals
too_many_keys = (refl, refl)
