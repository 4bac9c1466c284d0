-- How much there is of a session between two PDUs (RFC 7143, section 4.2.2.1; the numbers are own
-- rule).
use Rattle.std.specs.Prelude.{ℕ, ◌≡◌, ◌≤◌, ◌*◌, length}
use Rattle.std.specs.List.{AllByRecursion}
use Rattle.scsi_disk.specs.declared.deed.Deed.{Deed}
use Rattle.scsi_disk.specs.declared.deed.Deed.TheVariants.{Unmap}
use Rattle.iscsi_target.specs.declared.tasks.Task.{Task}
use Rattle.iscsi_target.specs.declared.tasks.Task.TheVariants.{Data}
use Rattle.iscsi_target.specs.State.{unchanged}
use Rattle.iscsi_target.specs.Transfer.{bytes_received}
use Rattle.iscsi_target.specs.Laws.{HasCmdSn}
use Rattle.iscsi_sessions.specs.Turns.{SlotEvent, Takes, executed_by}
use Rattle.iscsi_sessions.specs.Company.{groups_by, messages_in}

-- Each PDU of the event has a CmdSN of 32 bits, and memory was there.
abbrev pub IsNumbered : SlotEvent → Type 0
IsNumbered (Takes t) = AllByRecursion HasCmdSn t.messages
    × (t.front ≡ unchanged t.stepped.machine t.stepped.disk)
IsNumbered _ = Unit {0}

-- For each PDU of the event at most nine commands were executed.
abbrev pub ExecutesFew : SlotEvent → Type 0
ExecutesFew e = length (executed_by e) ≤ 9 * length (messages_in (groups_by e))

-- The most bytes that a command takes for this: 4,194,304, or those of an UNMAP's list, as its block says in
-- a number of two bytes.
abbrev pub most_taken : Deed → ℕ
most_taken (Unmap length) = length
most_taken _ = 4_194_304

-- The task is a write that has at most so many bytes of its data, or another request.
abbrev pub HoldsFew : Task → Type 0
HoldsFew (Data w) = bytes_received w ≤ most_taken w.order.deed
HoldsFew _ = Unit {0}
