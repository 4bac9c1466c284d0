use Rattle.iscsi_compare.proofs.SideLemmas.{read_none}
use Rattle.iscsi_compare.proofs.side.Side.new.Goals as goal

pub returns-clause-none : goal.returns-clause-none
returns-clause-none c = rw (c.new.ensures, c.new-2.ensures) read_none
