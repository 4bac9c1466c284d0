use Rattle.iscsi_compare.proofs.RenamingLemmas.{none_some}
use Rattle.iscsi_compare.proofs.same_job.renaming.Renaming.new.Goals as goal

pub returns-clause-all : goal.returns-clause-all
returns-clause-all c r = record {
  tasks_left = c.in_ok-fixed.ensures.kept r.tasks r.no_task;
  transfers_left = c.in_ok-fixed-2.ensures.kept r.transfers r.no_transfer;
  isids_left = λ a b e. none_some (c.new.ensures.fresh a) e;
  tsihs_left = c.in_ok-fixed-3.ensures.kept r.tsihs r.no_session;
  commands_left = tt;
  statuses_left = tt;
}
