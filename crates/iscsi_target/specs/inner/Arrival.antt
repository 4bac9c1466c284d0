-- A write that takes the segment of a Data-Out as it comes (RFC 7143, section 11.7). No reader of a
-- session's contract needs these.
use Rattle.std.specs.Prelude.{◌≡◌, ◌≤◌, ◌<◌, ℕ, ◌+◌, true, false, nat_lt, List, ◌++◌, length, insert, replicate, Option, Some, None}
use Rattle.iscsi_pdu.specs.declared.head.data_out.DataOut.{DataOut}
use Rattle.iscsi_pdu.specs.declared.head.Head.TheVariants as heads
use Rattle.iscsi_pdu.specs.Meaning.{padding}
use Rattle.iscsi_stream.specs.Framing.{Framing}
use Rattle.iscsi_stream.specs.inner.Gathering.{filling, IsBody}
use Rattle.iscsi_login.specs.declared.phase.Phase.TheVariants as phases
use Rattle.iscsi_login.specs.Held.{first_burst}
use Rattle.iscsi_target_session.specs.Session.{Session}
use Rattle.iscsi_target_session.specs.LoginText.{is_normal}
use Rattle.iscsi_target.specs.Write.{Write}
use Rattle.iscsi_target.specs.Transfer.{bytes_received, is_in_sequence, joined_write}
use Rattle.iscsi_target.specs.declared.tasks.Task.{Task}
use Rattle.iscsi_target.specs.declared.tasks.Task.TheVariants.{Data}
use Rattle.iscsi_target.specs.State.{Machine}
use Rattle.iscsi_target.specs.Machine.{write_of, with_write}
use Rattle.iscsi_target.specs.Feed.{TargetConnection}
use Rattle.iscsi_target.specs.inner.Inside.{AreInPlace}

-- A write that was taken from its place, the Data-Out that is due for it, with n bytes, and what
-- came of the segment and of its padding.
pub record Arrival : Type 0 where
  pub place : ℕ
  pub write : Write
  pub head : DataOut
  pub len : ℕ
  pub segment : List ℕ
  pub padded : ℕ

-- The segment is as long as it is to be, and so is its padding.
pub record IsSegmentThere (a : Arrival) : Type 0 where
  pub segment : a.len ≤ length a.segment
  pub padding : padding a.len ≤ a.padded

-- The Data-Out is one of the sequence that is due, if n bytes may come unasked.
abbrev pub IsDataOutDue : ℕ → Arrival → Type 0
IsDataOutDue first_burst a =
    is_in_sequence first_burst a.write a.head (bytes_received a.write + a.len) a.write.due ≡ true

-- What is kept of the bytes: the first ones are those of the write, and others of a segment of n
-- bytes are behind them, in a buffer with room for the whole write.
pub record IsFilling (total start len : ℕ) (bytes : List ℕ) (padded capacity : ℕ) : Type 0 where
  pub begun : start ≤ length bytes
  pub no_more : length bytes ≤ start + len
  pub fits : start + len ≤ total
  pub has_room : total ≤ capacity
  pub no_more_padding : padded ≤ padding len
  pub order : 0 < padded → length bytes ≡ start + len

-- ---- beside a session

-- The session takes Data-Outs with n bytes: it is in full feature phase and normal, and the segment
-- is no longer than the target declared.
pub record TakesData (s : Session) (n : ℕ) : Type 0 where
  pub full : s.phase ≡ phases.Full
  pub normal : is_normal s.session_type ≡ true
  pub short : nat_lt s.held.target_max_recv n ≡ false

-- The write of these tasks that has the tag of the Data-Out was taken from its place, and others
-- are left; a write with the tag can stand there again.
pub record IsTaken (tasks : List Task) (left : List Task) (a : Arrival) : Type 0 where
  pub found : write_of tasks a.head.initiator_task_tag ≡ Some a.write
  pub within : a.place ≤ length left
  pub room : length left < 9
  pub back : (w : Write) → w.initiator_task_tag ≡ a.head.initiator_task_tag
      → insert left a.place (Data w) ≡ with_write w tasks
  pub in_place : (w : Write) → w.immediate ≡ a.write.immediate → joined_write w ≡ w
      → AreInPlace (insert left a.place (Data w))

-- The tasks with the write in its place.
abbrev pub tasks_with : List Task → Option Arrival → List Task
tasks_with tasks None = tasks
tasks_with tasks (Some a) = insert tasks a.place (Data a.write)

-- The bytes of a PDU, with what came of its segment and of its padding.
abbrev pub held_with : List ℕ → Option Arrival → List ℕ
held_with held None = held
held_with held (Some a) = held ++ (a.segment ++ replicate a.padded 0)

-- A machine and the stream that it takes, with the write and the bytes that are apart from them.
abbrev pub connected : Machine → Framing → Option Arrival → TargetConnection
connected s v a = record {
  machine = record { session = s.session; tasks = tasks_with s.tasks a };
  framing = record v { held = held_with v.held a };
}

-- The framer has the header of a Data-Out, whose segment of a byte at least goes to the write.
pub record ArrivesForWrite (s : Machine) (v : Framing) (a : Arrival) : Type 0 where
  pub live : v.failed ≡ false
  pub body : IsBody v.limit v.held (filling a.segment a.padded) v.room (heads.DataOut a.head) a.len
  pub some : 0 < a.len
  pub takes : TakesData s.session a.len
  pub due : IsDataOutDue (first_burst s.session.held) a
  pub taken : IsTaken (tasks_with s.tasks (Some a)) s.tasks a

-- The same where there is such a write.
abbrev pub MayArrive : Machine → Framing → Option Arrival → Type 0
MayArrive s v None = Unit {0}
MayArrive s v (Some a) = ArrivesForWrite s v a
