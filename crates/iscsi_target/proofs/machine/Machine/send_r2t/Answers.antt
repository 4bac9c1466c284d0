use Rattle.std.proofs.Common.{◌≡◌, ℕ, ◌-◌, min, ap, ◌∙◌, arith}
use Rattle.std.proofs.Common.{List}
use Rattle.iscsi_target.specs.State.{Machine}
use Rattle.std.proofs.Common.{◌∷◌}
use Rattle.iscsi_target.specs.declared.tasks.Task.{Task}
use Rattle.iscsi_target.specs.declared.tasks.Task.TheVariants.{Data}
use Rattle.iscsi_target.proofs.Steps.TurnLemmas.{with_tasks}
use Rattle.std.proofs.lemmas.Bool.{eqb-false}
use Rattle.iscsi_target.specs.Transfer.{bytes_received, desired}
use Rattle.iscsi_target.proofs.Answers.CommandLemmas.{asked_out}
use Rattle.iscsi_target.proofs.machine.Machine.send_r2t.Goals as goal

pub await_sequence-requires-clause-some : goal.await_sequence-requires-clause-some
await_sequence-requires-clause-some c =
    let apart = eqb-false c.args.write.total (bytes_received c.args.write) c.requires.whole in
    omega (arith, c.desired-desired.ensures, apart, c.received-received.ensures.fits, c.max_burst.ensures.some)

pub returns : goal.returns
returns c = λ disk.
    let wanted : c.desired-desired.result ≡ desired c.args.self.now.session.held c.args.write = c.desired-desired.ensures
    ∙ ap (λ (n : ℕ). min (c.args.write.total - bytes_received c.args.write) n) c.max_burst.ensures.value in
    let pushed : with_tasks c.self.inside.session c.push_first.new.self ≡ record c.args.self.now {
      tasks =
          Data c.await_sequence.new.self ∷ c.args.self.now.tasks;
    } =
    ap (λ (ts : List Task). with_tasks c.self.inside.session ts) c.push_first.ensures
    ∙ ap (λ (m : Machine). with_tasks m.session (Data c.await_sequence.new.self ∷ m.tasks)) c.self.view_is in
    asked_out c.args.self.now disk c.args.write c.await_sequence.new.self c.r2t_head-head.result c.desired-desired.result
    (with_tasks c.self.inside.session c.push_first.new.self) c.args.out.now.items c.write_pdu.new.out.items wanted c.await_sequence.ensures pushed
    c.r2t_head-head.ensures.head c.in_ok-write_pdu.ensures.ok
