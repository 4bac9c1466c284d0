use Rattle.std.proofs.Common.{arith}
use Rattle.nbd_wire.proofs.HandshakeLemmas.{export_again}
use Rattle.nbd_wire.proofs.laws.export_reads_back.Goals as goal

pub returns : goal.returns
returns c = export_again c.args.export (omega arith) (omega arith)
