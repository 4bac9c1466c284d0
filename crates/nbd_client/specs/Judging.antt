-- Which exports keep blocks: those that have 1 to 2^40 whole blocks, and can be written and flushed if
-- that is wanted. They also have to take requests of one block, or of 8 where nothing is written ("Transmission
-- flags", "Block size constraints").
use Rattle.std.specs.Prelude.{ℕ, Bool, if◌then◌else◌, ◌==◌, ◌&&◌, ◌||◌, not, bit_and, nat_lt, min, ◌-◌, ◌/◌, ◌%◌, Result, Ok, Err}
use Rattle.scsi_disk.specs.Disk.{most_blocks}
use Rattle.nbd_wire.specs.declared.information.BlockSizes.{BlockSizes}
use Rattle.nbd_wire.specs.declared.information.Export.{Export}
use Rattle.nbd_client.specs.declared.export.Opened.{Opened}
use Rattle.nbd_client.specs.declared.sizes.RequestSizes.{RequestSizes}
use Rattle.nbd_client.specs.declared.export.ExportFault.{ExportFault}
use Rattle.nbd_client.specs.declared.export.ExportFault.TheVariants.{ReadOnly, NoFlush, Empty, NotWhole, TooLarge, NoBlock, WideBlock, Small}

-- Whether an export has this flag. Bit 0 says that the others mean something, bit 1 is READ_ONLY, bit 2
-- SEND_FLUSH, bit 6 SEND_WRITE_ZEROES.
unfoldable pub has_flag : ℕ → Export → Bool
has_flag flag export = not (bit_and export.flags 1 == 0) && not (bit_and export.flags flag == 0)

-- The requests that an export takes: no longer than it says, nor than the protocol lets one send to any server.
abbrev pub taken_sizes : BlockSizes → RequestSizes
taken_sizes sizes = record {
  longest = min sizes.maximum 33554432 - min sizes.maximum 33554432 % 4096;
  wide = nat_lt 512 sizes.minimum;
}

-- How many blocks an export has, and what it can do, or why none are kept on it. One that is not written
-- needs no FLUSH.
unfoldable pub export_judged : Bool → Export → BlockSizes → Result Opened ExportFault
export_judged written export sizes =
    if written && has_flag 2 export then Err ReadOnly
    else if written && not (has_flag 4 export) then Err NoFlush
    else if export.size == 0 then Err Empty
    else if not (export.size % 512 == 0) then Err NotWhole
    else if nat_lt most_blocks (export.size / 512) then Err TooLarge
    else if written && nat_lt 512 sizes.minimum then Err NoBlock
    else if nat_lt 4096 sizes.minimum then Err WideBlock
    else if nat_lt 512 sizes.minimum && not (export.size % 4096 == 0) then Err NotWhole
    else if nat_lt sizes.maximum 4096 then Err Small
    else Ok (record {
      blocks = export.size / 512;
      sizes = taken_sizes sizes;
      flushes = has_flag 4 export;
      write_zeroes = has_flag 64 export;
    })
