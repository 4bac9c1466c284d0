-- One disk of all sessions, in an initiator's words: what the last write left (RFC 7143, section
-- 4.2.2.1; SBC-3).
--
-- `protected` says of the store that it refuses each write.
use Rattle.std.specs.Prelude.{Bool, ◌≡◌, ℕ, ◌-◌, ◌*◌, nat_lt, if◌then◌else◌, List, [], ◌∷◌, length, Option, None, Some, unwrap_or}
use Rattle.scsi_cdb.specs.declared.sense.Sense.{Sense}
use Rattle.scsi_disk.specs.declared.order.Order.{Order}
use Rattle.scsi_disk.specs.declared.order.Plan.{Plan}
use Rattle.scsi_disk.specs.declared.order.Plan.TheVariants.{Take}
use Rattle.scsi_disk.specs.Disk.{Disk, cut}
use Rattle.scsi_disk.specs.Effect.{deed_failure, write_block_data, write_first, effect, guarded}
use Rattle.scsi_disk.specs.Plan.{plan_of}
use Rattle.iscsi_stream.specs.Pieces.{piece_data}
use Rattle.iscsi_target.specs.State.{Execution}

-- What was executed, one after another, leads from one disk to another: each did exactly what its
-- order does, on the disk that the one before left.
unfoldable pub ExactExecutionsLead : Bool → Disk → List Execution → Disk → Type 0
ExactExecutionsLead protected disk [] last = last ≡ disk
ExactExecutionsLead protected disk (e ∷ es) last =
    (e.disk ≡ disk) × ExactExecutionsLead protected (effect protected e.disk e.order
    (piece_data e.pieces)).disk es last

-- Block n of bytes that are written from a first block on; none where they don't reach it.
abbrev pub written_block : ℕ → List ℕ → ℕ → Option (List ℕ)
written_block first bytes n =
    if nat_lt n first then None
    else if nat_lt (512 * (n - first)) (length bytes) then Some (cut 512 bytes (n - first))
    else None

-- What an order, by its plan, writes to block n where it is done; none where it doesn't.
abbrev pub aimed_block : Plan → Order → List ℕ → ℕ → Option (List ℕ)
aimed_block (Take length) order bytes n =
    written_block (write_first order bytes) (write_block_data order bytes) n
aimed_block _ order bytes n = None

-- What a command writes to block n where it is done, on a disk that has `count`; none where it doesn't.
abbrev pub aimed_by : Bool → ℕ → Execution → ℕ → Option (List ℕ)
aimed_by protected count e n =
    aimed_block (guarded protected e.order.deed (plan_of e.order count)) e.order (piece_data e.pieces) n

-- That, and none where a command fails for some reason.
abbrev pub unless_failed : Option Sense → Option (List ℕ) → Option (List ℕ)
unless_failed None written = written
unless_failed (Some sense) written = None

-- What an order, by its plan, writes to block n of a disk; none where it doesn't, and where a comparison
-- fails.
abbrev pub block_by : Plan → Disk → Order → List ℕ → ℕ → Option (List ℕ)
block_by (Take length) disk order bytes n =
    unless_failed (deed_failure disk order bytes) (aimed_block (Take length) order bytes n)
block_by _ disk order bytes n = None

-- What a command wrote to block n of the disk that it met; none where it didn't.
abbrev pub written_by : Bool → Execution → ℕ → Option (List ℕ)
written_by protected e n =
    block_by (guarded protected e.order.deed (plan_of e.order e.disk.count)) e.disk
    e.order (piece_data e.pieces) n

-- The later one, if there is one.
abbrev pub later_or : Option (List ℕ) → Option (List ℕ) → Option (List ℕ)
later_or (Some later) earlier = Some later
later_or None earlier = earlier

-- What the last of these commands that writes to block n wrote there; none where none does.
unfoldable pub last_written : Bool → List Execution → ℕ → Option (List ℕ)
last_written protected [] n = None
last_written protected (e ∷ es) n = later_or (last_written protected es n) (written_by protected e n)

-- Block n behind these commands: what the last write to it left, or what it was at first.
abbrev pub block_left : Bool → Disk → List Execution → ℕ → List ℕ
block_left protected disk es n = unwrap_or (last_written protected es n) (disk.block n)
