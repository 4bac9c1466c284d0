-- READs of whole blocks, whose data a caller takes from the store itself, in parts.
use Rattle.std.specs.Prelude.{◌/◌, ◌%◌, ◌==◌, ◌&&◌, if◌then◌else◌, Option, Some, None}
use Rattle.scsi_disk.specs.declared.order.Order.{Order}
use Rattle.scsi_disk.specs.declared.order.Plan.{Plan}
use Rattle.scsi_disk.specs.declared.order.Plan.TheVariants.{Give}
use Rattle.scsi_disk.specs.declared.reading.BlockRange.{BlockRange}
use Rattle.scsi_disk.specs.Plan.{is_read, named_transfer}

-- the blocks that an order gives by its plan, where it is a READ that gives whole ones
abbrev pub whole_blocks : Order → Plan → Option BlockRange
whole_blocks order (Give length) =
    if is_read order.cdb && (length % 512 == 0)
    then Some (record { first = (named_transfer order.cdb).first; count = length / 512 })
    else None
whole_blocks order _ = None
