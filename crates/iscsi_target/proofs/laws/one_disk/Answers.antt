use Rattle.std.proofs.Common.{◌∙◌, sym}
use Rattle.iscsi_target.specs.Machine.{answers}
use Rattle.iscsi_target.proofs.Steps.DiskFoldLemmas.{answers_fold}
use Rattle.iscsi_target.proofs.Steps.NumberLaws.{answers_tags}
use Rattle.iscsi_target.proofs.Steps.FailingDiskLemmas.{may_leads}
use Rattle.iscsi_target.proofs.Queue.AcceptedOrderLaw.{opening_in_order, tags_of_tasks}
use Rattle.iscsi_target.proofs.Writes.ResponseLaw.{answers_tell}
use Rattle.iscsi_target.proofs.laws.one_disk.Goals as goal

pub returns : goal.returns
returns c = record {
  fold = answers_fold;
  may = may_leads;
  answered = λ protected s disk ms. answers_tags protected s disk ms ∙ sym (tags_of_tasks (answers protected s disk ms).executed);
  told = answers_tell;
  order = opening_in_order;
}
