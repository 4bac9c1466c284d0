-- More of `Crash`, of which no public contract speaks.
use Rattle.std.specs.Prelude.{Bool, ◌⊎◌, ℕ, List, []}
use Rattle.scsi_disk.specs.Disk.{Disk}
use Rattle.iscsi_pdu.specs.declared.head.Head.{Head}
use Rattle.iscsi_pdu.specs.Meaning.{Means}
use Rattle.iscsi_stream.specs.Framing.{message_of}
use Rattle.iscsi_target.specs.Feed.{TargetConnection}
use Rattle.iscsi_target.specs.Crash.{commands_at, CrashLeavesBlocks}

-- ---- a crash

-- The same where a PDU may be ready: by the commands of that one, or with none changed.
abbrev pub CrashesReady : Bool → TargetConnection → Disk → Disk → (ℕ → List ℕ → Type 0)
    → (ℕ → List ℕ → Type 0)
    → Type 0
CrashesReady protected old before after kept_before kept_after =
    CrashLeavesBlocks protected [] before after kept_before kept_after
    ⊎ ((head : Head) × (segment : List ℕ) × Means old.framing.held head segment
    × CrashLeavesBlocks protected (commands_at old.machine before.count
    (message_of old.framing head segment))
    before after kept_before kept_after)
