use Rattle.std.proofs.Common.{◌≤◌, length, arith, rules}
use Rattle.scsi_disk.specs.Plan.{first_refusal}
use Rattle.iscsi_target.proofs.Answers.OrderLemmas.{takes_is, staged_at}
use Rattle.iscsi_target.proofs.machine.writes.opened.Goals.{then-command, else-command}
use Rattle.iscsi_target.proofs.machine.writes.opened.Goals as goal

pub invariant_of-result : goal.invariant_of-result
invariant_of-result c =
    let plan = c.requires.plan in
    let said = takes_is (first_refusal c.args.order plan.0) c.args.order c.args.total plan.0 plan.1 in
    let size : length c.extend_from_slice.new.self.items ≤ c.args.total = search rules in (
      staged_at c.args.order c.args.found c.args.total c.extend_from_slice.new.self.items c.if-command.result said.0 c.requires.found said.1 size
          (elim c.if-command.branch [ then-command w ↦ rw w.result-is (omega arith) | else-command w ↦ rw w.result-is (omega arith) ]),
      search rules,
    )
