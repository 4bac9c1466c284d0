use Rattle.std.proofs.Common.{arith}
use Rattle.nbd_wire.proofs.HandshakeLemmas.{option_head_again}
use Rattle.nbd_wire.proofs.laws.option_head_reads_back.Goals as goal

pub returns : goal.returns
returns c = option_head_again c.args.head (omega arith) (omega arith) (omega arith)
