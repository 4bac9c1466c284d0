use Rattle.iscsi_target.specs.Machine.{step_on}
use Rattle.iscsi_target.proofs.Writes.JoiningLemmas.{step_joined}
use Rattle.iscsi_target.proofs.Turns.ContinuationLemmas.{may_apart, may_same}
use Rattle.iscsi_target.proofs.laws.pieces_joined.Goals as goal

pub returns : goal.returns
returns c = record {
  same = step_joined;
  may = λ protected s disk before after m a p. (
    step_on p.device s disk m,
    may_apart protected s disk before after m a p,
    may_same protected s
        disk before after m a p,
  );
}
