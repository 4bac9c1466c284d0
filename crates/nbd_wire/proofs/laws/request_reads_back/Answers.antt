use Rattle.std.proofs.Common.{arith}
use Rattle.nbd_wire.proofs.TransmissionLemmas.{request_again}
use Rattle.nbd_wire.proofs.laws.request_reads_back.Goals as goal

pub returns : goal.returns
returns c = request_again c.args.request (omega arith) (omega arith) (omega arith)
