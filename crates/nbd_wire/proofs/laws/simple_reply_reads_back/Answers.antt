use Rattle.std.proofs.Common.{arith}
use Rattle.nbd_wire.proofs.TransmissionLemmas.{reply_again}
use Rattle.nbd_wire.proofs.laws.simple_reply_reads_back.Goals as goal

pub returns : goal.returns
returns c = reply_again c.args.reply (omega arith) (omega arith)
