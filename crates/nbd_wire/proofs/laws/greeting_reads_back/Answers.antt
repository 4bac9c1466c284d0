use Rattle.nbd_wire.proofs.HandshakeLemmas.{greeting_again}
use Rattle.nbd_wire.proofs.laws.greeting_reads_back.Goals as goal

pub returns : goal.returns
returns c = greeting_again c.args.greeting
