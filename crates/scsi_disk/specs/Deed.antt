-- What a command does with the data that it takes (SBC-3).
use Rattle.std.specs.Prelude.{ℕ, zero, suc, ◌+◌, ◌-◌, ◌*◌, ◌/◌, Bool, true, false, not, ◌==◌, ◌&&◌, ◌||◌, nat_lt, min, if◌then◌else◌, List, [], ◌∷◌, length as size, take, drop, Option, Some, None, option_map, is_none}
use Rattle.std.specs.List.{repeat}
use Rattle.scsi_cdb.specs.Layout.{number_at}
use Rattle.scsi_cdb.specs.declared.sense.Sense.{Sense}
use Rattle.scsi_cdb.specs.declared.sense.Sense.TheVariants.{Miscompare, InvalidParameter, ParameterLength, OutOfRange}
use Rattle.scsi_disk.specs.declared.deed.Deed.{Deed}
use Rattle.scsi_disk.specs.declared.deed.Deed.TheVariants.{Write, Same, Verify, Compare, Unmap}
use Rattle.scsi_disk.specs.declared.command.transfer.Transfer.{Transfer}
use Rattle.scsi_disk.specs.declared.reading.BlockRange.{BlockRange}
use Rattle.scsi_disk.specs.Disk.{Disk, blocks_from, disk_written, zero_block}

-- ---- kinds

-- how many bytes a command of n blocks takes
abbrev pub taken_by : Deed → ℕ → ℕ
taken_by Write count = 512 * count
taken_by Same count = 512
taken_by Verify count = 512 * count
taken_by Compare count = 1024 * count
taken_by (Unmap length) count = length

-- whether a command may change a block
abbrev pub writes : Deed → Bool
writes Verify = false
writes _ = true

-- whether a command holds data against blocks
abbrev pub compares : Deed → Bool
compares Verify = true
compares Compare = true
compares _ = false

-- whether a command takes the data of one block twice, and so at most one block
abbrev pub is_twofold : Deed → Bool
is_twofold Compare = true
is_twofold _ = false

-- ---- a comparison

-- the place of the first byte that is another one, counted from n, as far as there are both
unfoldable pub first_other : ℕ → List ℕ → List ℕ → Option ℕ
first_other n (x ∷ xs) (y ∷ ys) = if x == y then first_other (n + 1) xs ys else Some n
first_other n xs ys = None

-- why a comparison fails
abbrev pub miscompare : List ℕ → List ℕ → Option Sense
miscompare due found = option_map (λ place. Miscompare place) (first_other 0 due found)

-- ---- the list of an UNMAP

-- How many ranges of it came whole: 16 bytes each, behind 8 in front (SBC-3, section 5.28).
abbrev pub unmap_ranges : List ℕ → ℕ
unmap_ranges list =
    if nat_lt (size list) 8 then 0 else min (number_at 2 3 list) (size list - 8) / 16

-- its range, where it has one, and no blocks of another list
abbrev pub unmap_range : List ℕ → BlockRange
unmap_range list =
    if unmap_ranges list == 1
    then record { first = number_at 8 15 list; count = number_at 16 19 list }
    else record { first = 0; count = 0 }

-- Why it gives back no block, on a disk of n: it is cut in front of its ranges, it has several, its range
-- is too long, or ends past the last block. That there is one range of 8,192 blocks is an own rule.
abbrev pub unmap_refusal : ℕ → List ℕ → Option Sense
unmap_refusal blocks list =
    if not (size list == 0) && nat_lt (size list) 8 then Some ParameterLength
    else if nat_lt 1 (unmap_ranges list) || nat_lt 8192 (unmap_range list).count
    then Some InvalidParameter
    else if nat_lt blocks ((unmap_range list).first + (unmap_range list).count)
    then Some OutOfRange
    else None

-- ---- what is done

-- why a command fails with these bytes, on this disk; None where it does what it is for
abbrev pub failure_by : Deed → Transfer → Disk → List ℕ → Option Sense
failure_by Write named disk bytes = None
failure_by Same named disk bytes = None
failure_by Verify named disk bytes =
    miscompare bytes (blocks_from disk named.first named.count)
failure_by Compare named disk bytes =
    miscompare (take (512 * named.count) bytes) (blocks_from disk named.first named.count)
failure_by (Unmap length) named disk bytes = unmap_refusal disk.count bytes

-- the first block that it writes
abbrev pub written_first : Deed → Transfer → List ℕ → ℕ
written_first (Unmap length) named bytes = (unmap_range bytes).first
written_first _ named bytes = named.first

-- the bytes that it leaves from there on
abbrev pub written_bytes : Deed → Transfer → List ℕ → List ℕ
written_bytes Write named bytes = bytes
written_bytes Same named bytes = repeat named.count bytes
written_bytes Verify named bytes = []
written_bytes Compare named bytes = drop (512 * named.count) bytes
written_bytes (Unmap length) named bytes = repeat (unmap_range bytes).count zero_block
