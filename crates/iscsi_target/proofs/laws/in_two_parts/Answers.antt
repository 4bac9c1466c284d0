use Rattle.iscsi_target.proofs.Steps.AppendLemmas.{answers_append, may_append}
use Rattle.iscsi_target.proofs.laws.in_two_parts.Goals as goal

pub returns : goal.returns
returns c = record { together = answers_append; may = may_append }
