use Rattle.nbd_client.proofs.HeardLemmas.{Hearing}
use Rattle.nbd_client.proofs.handshake.answers.Given as goal

abbrev pub invariant-loop : goal.invariant-loop
invariant-loop g l = Hearing (g.R.Read.remaining l.initial.reader) (g.R.Read.remaining l.reader) l.export l.sizes
