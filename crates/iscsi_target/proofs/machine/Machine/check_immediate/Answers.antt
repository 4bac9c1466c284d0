use Rattle.std.proofs.Common.{◌≡◌, [], true, sym, ap, ◌∙◌, arith}
use Rattle.iscsi_target.specs.State.{Machine}
use Rattle.iscsi_target.specs.Machine.{is_busy}
use Rattle.iscsi_target.proofs.Answers.WindowLemmas.{no_length, some_length}
use Rattle.iscsi_target.proofs.Turns.DispatchLemmas.{beside_tasks, at_once}
use Rattle.iscsi_target.proofs.machine.Machine.check_immediate.Goals as goal

pub returns-then-len-gt0 : goal.returns-then-len-gt0
returns-then-len-gt0 c =
    let busy : is_busy c.args.self.now.tasks ≡ true = ap (λ (x : Machine). is_busy x.tasks) (sym c.self.view_is)
    ∙ some_length c.self.inside.tasks (omega (arith, c.len.ensures.value, c.if-len-gt0.true)) in
    λ m is. record { comes = λ count. beside_tasks c.args.self.now count m c.args.request busy; may = is }

pub returns-else-len-gt0 : goal.returns-else-len-gt0
returns-else-len-gt0 c =
    let none : c.args.self.now.tasks ≡ [] = ap (λ (x : Machine). x.tasks) (sym c.self.view_is)
    ∙ no_length c.self.inside.tasks (omega (arith, c.len.ensures.value, c.if-len-gt0.false)) in
    λ m is. record { comes = λ count. sym (at_once c.args.self.now count m c.args.request none); may = (is, none) }
