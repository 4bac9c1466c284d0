-- What showing a stream writes: a line for each PDU, one after another. What a line says is not
-- stated.
use Rattle.std.specs.Prelude.{◌≡◌, ◌≤◌, ◌==◌, ◌&&◌, not, Bool, true, ℕ, List, [], ◌∷◌, ◌++◌, length}
use Rattle.iscsi_stream.specs.Stream.{Message}

-- whether none of the bytes is 0a, which ends a line
abbrev pub has_no_end : List ℕ → Bool
has_no_end [] = true
has_no_end (byte ∷ bytes) = not (byte == 10) && has_no_end bytes

-- a line is ended by 0a, its first one, and has at most 320 bytes
pub record IsShownLine (line : List ℕ) : Type 0 where
  pub text : List ℕ
  pub ended : line ≡ text ++ 10 ∷ []
  pub one : has_no_end text ≡ true
  pub short : length line ≤ 320

-- The bytes are a line for each of the PDUs, in their order.
abbrev pub AreLines : List Message → List ℕ → Type 0
AreLines [] bytes = bytes ≡ []
AreLines (m ∷ ms) bytes =
    (line : List ℕ) × (more : List ℕ) × IsShownLine line × (bytes ≡ line ++ more)
    × AreLines ms more
