-- Which requests may change a target, and which data may differ between targets, by operation
-- code (SPC-4, SBC-3).
use Rattle.std.specs.Prelude.{ℕ, Bool, true, false, not, ◌||◌, ◌==◌, List, [], ◌∷◌, slice_index_or}
use Rattle.std.specs.List.{list_any}
use Rattle.iscsi_job.specs.declared.item.Asked.{Asked}
use Rattle.iscsi_job.specs.declared.item.Asked.TheVariants as asked
use Rattle.iscsi_job.specs.declared.item.Moves.TheVariants as moves
use Rattle.iscsi_replay.specs.declared.ignoring.Ignored.{Ignored}

-- The operation codes that are harmless: TEST UNIT READY, REQUEST SENSE, the READ family, INQUIRY, MODE
-- SENSE, READ CAPACITY, VERIFY, SYNCHRONIZE CACHE, READ DEFECT DATA, READ BUFFER, LOG SENSE, PERSISTENT
-- RESERVE IN, SERVICE ACTION IN(16), REPORT LUNS and MAINTENANCE IN.
abbrev pub harmless_codes : List ℕ
harmless_codes = 0x00 ∷ 0x03 ∷ 0x08 ∷ 0x12 ∷ 0x1a ∷ 0x25 ∷ 0x28 ∷ 0x2f ∷ 0x35 ∷ 0x37 ∷ 0x3c ∷ 0x4d
    ∷ 0x5a ∷ 0x5e ∷ 0x88 ∷ 0x91 ∷ 0x9e ∷ 0xa0 ∷ 0xa3 ∷ 0xa8 ∷ []

-- A descriptor block is of a command that is known to be harmless: its first byte says so.
abbrev pub is_harmless : List ℕ → Bool
is_harmless (code ∷ _) = list_any (λ n. n == code) harmless_codes
is_harmless [] = false

-- A request may change a target: it sends data with a command, or its command is not known to be harmless.
abbrev pub may_write : Asked → Bool
may_write (asked.Command lun cdb moves.Out n) = true
may_write (asked.Command lun cdb moves.In n) = not (is_harmless cdb)
may_write (asked.Command lun cdb moves.Nothing n) = not (is_harmless cdb)
may_write _ = false

-- The data of a command with this operation code are left out: those of all commands are, or those of
-- this code.
abbrev pub ignores : Ignored → ℕ → Bool
ignores ignored code = ignored.«data» || slice_index_or ignored.codes code false
