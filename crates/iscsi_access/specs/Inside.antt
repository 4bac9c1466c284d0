-- What functions on the target's pairs see (RFC 7143, section 12.1.3).
use Rattle.std.specs.Prelude.{[], ◌∷◌, codes}
use Rattle.iscsi_text.specs.Value as values
use Rattle.iscsi_text.specs.Text.{Pairs}
use Rattle.iscsi_access.specs.declared.spoken.Words.{Words}
use Rattle.iscsi_access.specs.declared.spoken.Words.TheVariants.{Nothing, Method, Challenge, Response}

-- The pairs that these values make.
abbrev pub word_pairs : Words → Pairs
word_pairs Nothing = []
word_pairs Method = (codes "AuthMethod", values.Items (codes "CHAP")) ∷ []
word_pairs (Challenge algorithm identifier challenge) =
    (codes "CHAP_A", values.Plain algorithm.now)
    ∷ (codes "CHAP_C", values.Plain challenge.items)
    ∷ (codes "CHAP_I", values.Plain identifier.items) ∷ []
word_pairs (Response name response) =
    (codes "CHAP_N", values.Plain name.now)
    ∷ (codes "CHAP_R", values.Plain response.items) ∷ []
