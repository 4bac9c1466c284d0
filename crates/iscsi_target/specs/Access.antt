-- The words of the laws of access (RFC 7143, section 12.1.3).
--
-- `protected` says of the store that it refuses each write.
use Rattle.std.specs.Prelude.{◌≡◌, ℕ, Bool, List, ◌∷◌, ◌++◌, Some}
use Rattle.scsi_disk.specs.Disk.{Disk}
use Rattle.iscsi_text.specs.Text.{Pairs}
use Rattle.iscsi_stream.specs.Stream.{Message}
use Rattle.iscsi_access.specs.Chap.{Chap}
use Rattle.iscsi_access.specs.Laws.{AnswersChallenge}
use Rattle.iscsi_target_session.specs.Login.{text_ending}
use Rattle.iscsi_target.specs.State.{Machine}
use Rattle.iscsi_target.specs.Machine.{answers}

-- One of the messages ended a login text that has the name of an account that this initiator may
-- use, and the response of its secret to the challenge (section 12.1.3).
pub record HasResponded (protected : Bool) (s : Machine) (disk : Disk) (c : Chap)
    (initiator : List ℕ) (ms : List Message) : Type 0 where
  pub before : List Message
  pub message : Message
  pub after : List Message
  pub split : ms ≡ before ++ message ∷ after
  pub pairs : Pairs
  pub text : text_ending (answers protected s disk before).machine.session.gathered message.segment
      ≡ Some pairs
  pub right : AnswersChallenge c initiator pairs
