use Rattle.std.proofs.Common.{◌≡◌, ℕ, List, [], ◌∷◌, length, true, sym, ap, ◌∙◌, subst, rules}
use Rattle.scsi_disk.specs.Plan.{first_refusal, is_write, taken_length}
use Rattle.iscsi_target.specs.State.{unit_of}
use Rattle.iscsi_target.specs.Transfer.{with_piece, is_whole_write}
use Rattle.iscsi_target.specs.Execution.{Device, execute}
use Rattle.iscsi_target.specs.Command.{order_of, write_opened, proceed}
use Rattle.iscsi_target.proofs.Answers.OrderLemmas.{takes_is}
use Rattle.iscsi_target.proofs.Turns.ServingLemmas.{serves_if}
use Rattle.iscsi_target.proofs.Answers.CommandLemmas.{proceeds_whole, same_tags}
use Rattle.scsi_disk.specs.declared.order.Order.{Order}
use Rattle.iscsi_target.specs.Crash.{CrashLeavesBlocks}
use Rattle.iscsi_stream.specs.Pieces.{piece_data}
use Rattle.iscsi_target.specs.Write.{Write}
use Rattle.iscsi_target.proofs.Writes.OpenWriteLemmas.{data_of_one}
use Rattle.iscsi_target.proofs.machine.Machine.open.Goals as goal

pub returns-clause-crash : goal.returns-clause-crash
returns-clause-crash g c =
    subst (λ (order : Order). CrashLeavesBlocks g.S.BlockStore.protected ((order, c.args.bytes.now) ∷ []) (g.S.BlockStore.disk c.args.store.now)
    (g.S.BlockStore.disk c.continue_write.new.store) (g.S.BlockStore.kept c.args.store.now) (g.S.BlockStore.kept c.continue_write.new.store))
    c.order_of-order.ensures
    (subst (λ (bytes : List ℕ). CrashLeavesBlocks g.S.BlockStore.protected ((c.order_of-order.result, bytes) ∷ []) (g.S.BlockStore.disk c.args.store.now)
    (g.S.BlockStore.disk c.continue_write.new.store) (g.S.BlockStore.kept c.args.store.now) (g.S.BlockStore.kept c.continue_write.new.store))
    (data_of_one c.args.bytes.now)
    (subst (λ (w : Write). CrashLeavesBlocks g.S.BlockStore.protected ((w.order, piece_data w.pieces) ∷ []) (g.S.BlockStore.disk c.args.store.now)
    (g.S.BlockStore.disk c.continue_write.new.store) (g.S.BlockStore.kept c.args.store.now)
    (g.S.BlockStore.kept c.continue_write.new.store)) c.in_ok-write.ensures c.continue_write.ensures.crash))

pub execute_write-requires-clause-write : goal.execute_write-requires-clause-write
execute_write-requires-clause-write g c =
    let order = order_of (unit_of c.args.self.now.session) c.args.command.now in
    let said = takes_is (first_refusal order (g.S.BlockStore.disk c.args.store.now).count) order c.args.total (g.S.BlockStore.disk c.args.store.now).count
    c.requires.plan in
    ap (λ (o : Order). is_write o.cdb) c.order_of-order.ensures ∙ said.0

pub execute_write-requires-clause-whole : goal.execute_write-requires-clause-whole
execute_write-requires-clause-whole g c =
    let order = order_of (unit_of c.args.self.now.session) c.args.command.now in
    let said = takes_is (first_refusal order (g.S.BlockStore.disk c.args.store.now).count) order c.args.total (g.S.BlockStore.disk c.args.store.now).count
    c.requires.plan in
    let size : length c.args.bytes.now ≡ c.args.total = search rules in
    size ∙ said.1 ∙ ap taken_length (sym c.order_of-order.ensures)

pub returns-then-bytes-total-clause-handles : goal.returns-then-bytes-total-clause-handles
returns-then-bytes-total-clause-handles g c =
    let order = order_of (unit_of c.args.self.now.session) c.args.command.now in
    let write : Write = write_opened c.args.command.now order c.args.total c.args.bytes.now in
    let size : length c.args.bytes.now ≡ c.args.total = search rules in
    let whole : is_whole_write write ≡ true = same_tags c.args.total (length (piece_data (with_piece [] 0 c.args.bytes.now)))
    (sym size ∙ ap length (sym (data_of_one c.args.bytes.now))) in
    record {
      ok = serves_if g.S.BlockStore.protected c.execute_write.result (g.S.BlockStore.failures c.args.store.now)
          (g.S.BlockStore.failures c.execute_write.new.store)
          (λ (d : Device). proceed d c.args.self.now (g.S.BlockStore.disk c.args.store.now) write)
          (λ (d : Device). execute d c.args.self.now (g.S.BlockStore.disk c.args.store.now) c.args.command.now.initiator_task_tag c.order_of-order.result
          (with_piece [] 0 c.args.bytes.now))
          c.execute_write.new.self (g.S.BlockStore.disk c.execute_write.new.store) c.args.out.now.items c.execute_write.new.out.items
          (λ (d : Device). ap (λ (o : Order). execute d c.args.self.now (g.S.BlockStore.disk c.args.store.now) c.args.command.now.initiator_task_tag o
          (with_piece [] 0 c.args.bytes.now)) c.order_of-order.ensures
          ∙ proceeds_whole d c.args.self.now (g.S.BlockStore.disk c.args.store.now) write whole)
          c.execute_write.ensures.handles.ok;
      err = search rules;
    }
