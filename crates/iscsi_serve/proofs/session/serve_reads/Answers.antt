use Rattle.iscsi_serve.proofs.session.serve_reads.Goals as goal

pub returns-clause-serves : goal.returns-clause-serves
returns-clause-serves g c = rw c.new-target.ensures.opening at c.serve_pieces.ensures.serves

pub returns-clause-unsent : goal.returns-clause-unsent
returns-clause-unsent g c = rw c.new-target.ensures.opening at c.serve_pieces.ensures.unsent

pub returns-clause-end : goal.returns-clause-end
returns-clause-end g c = rw c.new-target.ensures.opening at c.serve_pieces.ensures.end
