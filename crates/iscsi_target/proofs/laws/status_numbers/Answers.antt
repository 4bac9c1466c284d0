use Rattle.iscsi_target.specs.Machine.{answers}
use Rattle.iscsi_target.specs.Laws.{stat_sns}
use Rattle.iscsi_target.proofs.Steps.NumberLaws.{count_on, count_after, answers_stat_sns}
use Rattle.iscsi_target.proofs.laws.status_numbers.Goals as goal

pub returns : goal.returns
returns c = record {
  count_on = λ protected s disk ms lt. count_on s.session.stat_sn (stat_sns (answers protected s disk ms).answers)
      (answers protected s disk ms).machine.session.stat_sn lt (answers_stat_sns protected s disk ms);
  next = λ protected s disk ms lt. count_after s.session.stat_sn (stat_sns (answers protected s disk ms).answers)
      (answers protected s disk ms).machine.session.stat_sn lt (answers_stat_sns protected s disk ms);
}
