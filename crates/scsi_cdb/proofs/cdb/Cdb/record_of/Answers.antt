use Rattle.std.proofs.Common.{◌≡◌, false, rules}
use Rattle.scsi_cdb.specs.Blocks.{is_block_listed}
use Rattle.scsi_cdb.proofs.RecordLemmas.{is_unknown}
use Rattle.scsi_cdb.proofs.cdb.Cdb.record_of.Goals as goal

pub returns-in_default : goal.returns-in_default
returns-in_default c =
    let unlisted : is_block_listed c.args.block.now ≡ false = search rules in
    is_unknown c.args.block.now (search rules) unlisted
