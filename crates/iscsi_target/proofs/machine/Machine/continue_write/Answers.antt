use Rattle.std.proofs.Common.{◌≡◌, ℕ, List, [], refl, sym, ap, ◌∙◌, rules}
use Rattle.iscsi_target.specs.Transfer.{with_piece}
use Rattle.iscsi_target.specs.Write.{Write}
use Rattle.iscsi_target.specs.State.{Machine}
use Rattle.std.proofs.Common.{◌∷◌}
use Rattle.iscsi_target.specs.declared.tasks.Task.{Task}
use Rattle.iscsi_target.specs.declared.tasks.Task.TheVariants.{Data}
use Rattle.iscsi_target.proofs.Steps.TurnLemmas.{with_tasks}
use Rattle.iscsi_target.specs.Execution.{Device, execute}
use Rattle.iscsi_target.specs.Command.{proceed, send_r2t, led_by}
use Rattle.iscsi_target.proofs.Turns.ServingLemmas.{leaves_handles, unchanged_serves, serves_if}
use Rattle.iscsi_target.proofs.Answers.CommandLemmas.{proceeds_whole, proceeds_asking, proceeds_waiting}
use Rattle.iscsi_target.proofs.machine.Machine.continue_write.Goals as goal

pub returns-then-is_whole-clause-handles : goal.returns-then-is_whole-clause-handles
returns-then-is_whole-clause-handles g c = record {
  ok = serves_if g.S.BlockStore.protected c.execute_write.result (g.S.BlockStore.failures c.args.store.now) (g.S.BlockStore.failures c.execute_write.new.store)
      (λ (d : Device). proceed d c.args.self.now (g.S.BlockStore.disk c.args.store.now) c.args.write)
      (λ (d : Device). execute d c.args.self.now (g.S.BlockStore.disk c.args.store.now) c.write.inside.initiator_task_tag c.write.inside.order
      (with_piece [] 0 c.deref.result.now))
      c.execute_write.new.self (g.S.BlockStore.disk c.execute_write.new.store) c.args.out.now.items c.execute_write.new.out.items
      (λ (d : Device). ap (λ (bytes : List ℕ). execute d c.args.self.now (g.S.BlockStore.disk c.args.store.now) c.write.inside.initiator_task_tag
      c.write.inside.order (with_piece [] 0 bytes)) c.deref.ensures.value
      ∙ ap (λ (w : Write). execute d c.args.self.now (g.S.BlockStore.disk c.args.store.now) w.initiator_task_tag w.order w.pieces) c.write.view_is
      ∙ proceeds_whole d c.args.self.now (g.S.BlockStore.disk c.args.store.now) c.args.write (sym c.is_whole.ensures ∙ c.if-is_whole.true))
      c.execute_write.ensures.handles.ok;
  err = search rules;
}

pub returns-then-is_idle-clause-handles : goal.returns-then-is_idle-clause-handles
returns-then-is_idle-clause-handles g c =
    leaves_handles g.S.BlockStore.protected c.send_r2t.result (g.S.BlockStore.failures c.args.store.now)
    (send_r2t c.args.self.now (g.S.BlockStore.disk c.args.store.now) c.args.write)
    (λ (d : Device). proceed d c.args.self.now (g.S.BlockStore.disk c.args.store.now) c.args.write)
    (g.S.BlockStore.disk c.args.store.now) c.args.self.now c.send_r2t.new.self c.args.out.now.items c.send_r2t.new.out.items
    (λ (d : Device). proceeds_asking d c.args.self.now (g.S.BlockStore.disk c.args.store.now) c.args.write (sym c.is_whole.ensures ∙ c.if-is_whole.false)
    (sym c.is_idle.ensures ∙ c.if-is_idle.true)) refl refl (c.send_r2t.ensures (g.S.BlockStore.disk c.args.store.now))

pub returns-clause-handles : goal.returns-clause-handles
returns-clause-handles g c = record {
  ok = let pushed : with_tasks c.self.inside.session c.push_first.new.self ≡ led_by c.args.write c.args.self.now =
      ap (λ (ts : List Task). with_tasks c.self.inside.session ts) c.push_first.ensures
      ∙ ap (λ (m : Machine). with_tasks m.session (Data c.args.write ∷ m.tasks)) c.self.view_is in
      unchanged_serves g.S.BlockStore.protected (g.S.BlockStore.failures c.args.store.now) (led_by c.args.write c.args.self.now)
      (λ (d : Device). proceed d c.args.self.now (g.S.BlockStore.disk c.args.store.now) c.args.write) (g.S.BlockStore.disk c.args.store.now)
      (with_tasks c.self.inside.session c.push_first.new.self) c.args.out.now.items
      (λ (d : Device). proceeds_waiting d c.args.self.now (g.S.BlockStore.disk c.args.store.now) c.args.write (sym c.is_whole.ensures ∙ c.if-is_whole.false)
      (sym c.is_idle.ensures ∙ c.if-is_idle.false)) pushed;
  err = search rules;
}
