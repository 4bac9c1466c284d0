use Rattle.std.proofs.Common.{ap, ◌∙◌}
use Rattle.iscsi_target.proofs.Steps.TurnLemmas.{with_tasks}
use Rattle.iscsi_target.proofs.Queue.TaskPlaceLemmas.{tag_found, with_same}
use Rattle.iscsi_target.proofs.machine.Machine.expect_data.Goals as goal

pub returns-then-not-is_due-clause-none : goal.returns-then-not-is_due-clause-none
returns-then-not-is_due-clause-none c =
    let tag = tag_found c.args.head.now.initiator_task_tag c.self.inside.tasks c.in_ok-place.write c.in_ok-place.ensures.some in
    ap (with_tasks c.self.inside.session) (c.put_write.ensures ∙ c.in_ok-place.ensures.back c.in_ok-place.write tag
    ∙ with_same c.args.head.now.initiator_task_tag c.self.inside.tasks c.in_ok-place.write c.in_ok-place.ensures.some tag) ∙ c.self.view_is
