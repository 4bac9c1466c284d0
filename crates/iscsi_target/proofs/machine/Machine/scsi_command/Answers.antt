use Rattle.std.proofs.Common.{◌≡◌, ℕ, List, [], ◌∷◌, sym, ap, ◌∙◌, subst, rules}
use Rattle.scsi_disk.specs.Plan.{plan_of}
use Rattle.scsi_disk.specs.Runs.{Supplied}
use Rattle.scsi_disk.specs.declared.order.Order.{Order}
use Rattle.scsi_disk.specs.declared.order.Plan.TheVariants.{Take}
use Rattle.iscsi_target.specs.State.{unit_of}
use Rattle.iscsi_target.specs.Execution.{Device, execute}
use Rattle.iscsi_target.specs.Command.{order_of, write_opened, proceed, task_for}
use Rattle.iscsi_target.specs.Machine.{task_begun}
use Rattle.iscsi_target.specs.Crash.{CrashLeavesBlocks, command_of_task}
use Rattle.iscsi_target.proofs.Writes.OpenWriteLemmas.{data_of_one}
use Rattle.iscsi_target.proofs.Writes.WriteTilingLaws.{immediate_fits}
use Rattle.iscsi_target.proofs.Turns.DispatchLemmas.{task_takes, task_simple}
use Rattle.iscsi_target.proofs.Turns.ServingLemmas.{serves_if}
use Rattle.iscsi_target.proofs.machine.Machine.scsi_command.Goals as goal

pub open-requires-clause-fits : goal.open-requires-clause-fits
open-requires-clause-fits g c =
    let unit = unit_of c.args.self.now.session in
    let count : ℕ = (g.S.BlockStore.disk c.args.store.now).count in
    let plan : plan_of (order_of unit c.args.command.now) count ≡ Take c.in-Take.total = search rules in
    immediate_fits unit count c.args.command.now c.args.self.now.session.held c.in-Take.total c.args.bytes.now c.requires.keeps plan

pub returns-in-Take-clause-handles : goal.returns-in-Take-clause-handles
returns-in-Take-clause-handles g c =
    let unit = unit_of c.args.self.now.session in
    let disk = g.S.BlockStore.disk c.args.store.now in
    let plan : plan_of (order_of unit c.args.command.now) disk.count ≡ Take c.in-Take.total = search rules in
    record {
      ok = serves_if g.S.BlockStore.protected c.open.result (g.S.BlockStore.failures c.args.store.now) (g.S.BlockStore.failures c.open.new.store)
          (λ (d : Device). task_begun d c.args.self.now disk (task_for unit disk.count c.args.command.now c.args.bytes.now))
          (λ (d : Device). proceed d c.args.self.now disk (write_opened c.args.command.now (order_of unit c.args.command.now) c.in-Take.total c.args.bytes.now))
          c.open.new.self (g.S.BlockStore.disk c.open.new.store) c.args.out.now.items c.open.new.out.items
          (λ (d : Device). sym (ap (task_begun d c.args.self.now disk) (task_takes unit disk.count c.in-Take.total c.args.command.now c.args.bytes.now plan)))
          c.open.ensures.handles.ok;
      err = search rules;
    }

pub returns-in-Take-clause-crash : goal.returns-in-Take-clause-crash
returns-in-Take-clause-crash g c =
    let unit = unit_of c.args.self.now.session in
    let disk = g.S.BlockStore.disk c.args.store.now in
    let plan : plan_of (order_of unit c.args.command.now) disk.count ≡ Take c.in-Take.total = search rules in
    subst (λ (orders : List Supplied). CrashLeavesBlocks g.S.BlockStore.protected orders disk (g.S.BlockStore.disk c.open.new.store)
    (g.S.BlockStore.kept c.args.store.now) (g.S.BlockStore.kept c.open.new.store))
    (ap (λ (bytes : List ℕ). (order_of unit c.args.command.now, bytes) ∷ []) (sym (data_of_one c.args.bytes.now))
    ∙ sym (ap command_of_task (task_takes unit disk.count c.in-Take.total c.args.command.now c.args.bytes.now plan))) c.open.ensures.crash

pub returns-in-Refuse-clause-handles : goal.returns-in-Refuse-clause-handles
returns-in-Refuse-clause-handles g c =
    let unit = unit_of c.args.self.now.session in
    let disk = g.S.BlockStore.disk c.args.store.now in
    let none : (n : ℕ) → plan_of (order_of unit c.args.command.now) disk.count ≡ Take n → ⊥ = search rules in
    record {
      ok = serves_if g.S.BlockStore.protected c.execute_order.result (g.S.BlockStore.failures c.args.store.now)
          (g.S.BlockStore.failures c.execute_order.new.store)
          (λ (d : Device). task_begun d c.args.self.now disk (task_for unit disk.count c.args.command.now c.args.bytes.now))
          (λ (d : Device). execute d c.args.self.now disk c.args.command.now.initiator_task_tag c.order_of-order.result [])
          c.execute_order.new.self (g.S.BlockStore.disk c.execute_order.new.store) c.args.out.now.items c.execute_order.new.out.items
          (λ (d : Device). ap (λ (o : Order). execute d c.args.self.now disk c.args.command.now.initiator_task_tag o []) c.order_of-order.ensures
          ∙ sym (ap (task_begun d c.args.self.now disk) (task_simple unit disk.count c.args.command.now c.args.bytes.now none)))
          c.execute_order.ensures.handles.ok;
      err = search rules;
    }

pub returns-in-Refuse-clause-crash : goal.returns-in-Refuse-clause-crash
returns-in-Refuse-clause-crash g c =
    let unit = unit_of c.args.self.now.session in
    let disk = g.S.BlockStore.disk c.args.store.now in
    let none : (n : ℕ) → plan_of (order_of unit c.args.command.now) disk.count ≡ Take n → ⊥ = search rules in
    subst (λ (orders : List Supplied). CrashLeavesBlocks g.S.BlockStore.protected orders disk (g.S.BlockStore.disk c.execute_order.new.store)
    (g.S.BlockStore.kept c.args.store.now) (g.S.BlockStore.kept c.execute_order.new.store))
    (sym (ap command_of_task (task_simple unit disk.count c.args.command.now c.args.bytes.now none))) c.execute_order.ensures.crash
