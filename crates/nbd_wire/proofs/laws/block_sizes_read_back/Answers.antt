use Rattle.std.proofs.Common.{arith}
use Rattle.nbd_wire.proofs.HandshakeLemmas.{block_sizes_again}
use Rattle.nbd_wire.proofs.laws.block_sizes_read_back.Goals as goal

pub returns : goal.returns
returns c = block_sizes_again c.args.sizes (omega arith) (omega arith) (omega arith)
