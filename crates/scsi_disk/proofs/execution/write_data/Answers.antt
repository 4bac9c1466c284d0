use Rattle.std.proofs.Common.{sym, ap}
use Rattle.scsi_disk.specs.Deed.{writes}
use Rattle.scsi_disk.proofs.ProtectedLemmas.{done_keeps}
use Rattle.scsi_disk.proofs.execution.write_data.Goals as goal

pub returns-in-Verify-clause-written : goal.returns-in-Verify-clause-written
returns-in-Verify-clause-written g c = λ same.
    sym (done_keeps (g.S.BlockStore.disk c.args.store.now) c.args.order.now c.args.bytes.now (ap writes c.in-Verify.is))
