-- What is written of the PDUs of a stream, one after another.
use Rattle.std.specs.Prelude.{◌≡◌, ℕ, false, List, [], ◌∷◌, ◌++◌}
use Rattle.iscsi_stream.specs.Stream.{Message}
use Rattle.iscsi_stream.specs.Framing.{Framing, FramerMoves, is_ready}
use Rattle.iscsi_explain.specs.declared.form.Form.{Form}
use Rattle.iscsi_explain.specs.Forms.{IsPduEntry}

-- The bytes are an entry for each of the PDUs, in their order.
abbrev pub AreEntries : Form → List Message → List ℕ → Type 0
AreEntries form [] bytes = bytes ≡ []
AreEntries form (m ∷ ms) bytes = (entry : List ℕ) × (more : List ℕ) × IsPduEntry form entry
    × (bytes ≡ entry ++ more) × AreEntries form ms more

-- The framer took these bytes, and an entry for each PDU that it gave up was appended. No PDU is ready.
pub record PassesEntries (form : Form) (old new : Framing) (before after bytes : List ℕ)
    (more : List Message) : Type 0 where
  pub moves : FramerMoves old new bytes more
  pub limit : new.limit ≡ old.limit
  pub unready : is_ready new ≡ false
  pub out : List ℕ
  pub entries : AreEntries form more out
  pub appended : after ≡ before ++ out

-- Entries were appended, for PDUs.
abbrev pub AppendsSome : Form → List ℕ → List ℕ → Type 0
AppendsSome form before after =
    (more : List Message) × (out : List ℕ) × AreEntries form more out × (after ≡ before ++ out)
