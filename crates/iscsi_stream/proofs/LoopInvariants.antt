-- What the loops keep.
use Rattle.std.proofs.Common.{◌≡◌, ℕ, ◌*◌, ◌≤◌, false, List, ◌++◌, length, Option}
use Rattle.std.specs.Io.KnownBytes.{Appends, Consumes}
use Rattle.iscsi_stream.specs.declared.counts.Counts.{Counts}
use Rattle.iscsi_stream.specs.Stream.{Message, longest_segment}
use Rattle.iscsi_pdu.specs.Meaning.{AreBytes}
use Rattle.iscsi_stream.specs.declared.normalising.Form.{Form}
use Rattle.iscsi_stream.specs.Framing.{Framing, HasTaken, is_ready}
use Rattle.iscsi_stream.specs.inner.Passing.{IsDueOutput, PassingProgress, PassesOn}

-- the bytes before the rest are written
pub record WroteUpTo (bytes rest : List ℕ) (old new : Option (List ℕ)) : Type 0 where
  pub before : List ℕ
  pub parts : bytes ≡ before ++ rest
  pub written : Appends old new before

-- the bytes of the piece before the rest are passed on
pub record PassedUpTo (form : Form) (piece rest : List ℕ) (old new : PassingProgress) : Type 0 where
  pub before : List ℕ
  pub more : List Message
  pub parts : piece ≡ before ++ rest
  pub passes : PassesOn form old new before more

-- what is left to read, and what was written, where a contract tells them
pub record Sides : Type 0 where
  pub remaining : Option (List ℕ)
  pub contents : Option (List ℕ)

-- these two together
abbrev pub sides : Option (List ℕ) → Option (List ℕ) → Sides
sides remaining contents = record { remaining = remaining; contents = contents }

-- what is due for what was read is written
pub record WrittenUpTo (form : Form) (v : Framing) (counts : Counts) (turn : ℕ) (old new : Sides) : Type 0 where
  pub read : List ℕ
  pub ms : List Message
  pub out : List ℕ
  pub bytes : AreBytes read
  pub taken : HasTaken read ms v
  pub limit : v.limit ≡ longest_segment
  pub unready : is_ready v ≡ false
  pub due : IsDueOutput form ms out
  pub consumed : Consumes old.remaining new.remaining read
  pub written : Appends old.contents new.contents out
  pub small : length read ≤ 4096 * turn
  pub pdus : counts.pdus ≡ length ms
  pub bytes_in : counts.bytes_in ≡ length read
  pub bytes_out : counts.bytes_out ≡ length out
