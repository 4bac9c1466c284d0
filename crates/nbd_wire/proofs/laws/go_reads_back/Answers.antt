use Rattle.nbd_wire.proofs.HandshakeLemmas.{go_again}
use Rattle.nbd_wire.proofs.laws.go_reads_back.Goals as goal

pub returns : goal.returns
returns c = go_again c.args.name.now c.requires.short
