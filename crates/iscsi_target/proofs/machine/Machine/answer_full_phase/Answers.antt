use Rattle.std.proofs.Common.{◌≡◌, ℕ, [], inl, sym, ap, ◌∙◌, refl, subst, arith}
use Rattle.iscsi_target_session.specs.Rejecting.{reject_and_close}
use Rattle.iscsi_target.specs.State.{Machine, waiting_tasks}
use Rattle.iscsi_target.specs.Command.{presented}
use Rattle.iscsi_target.specs.Machine.{Next, admitted, advanced, beside, on_data_out, full_met}
use Rattle.iscsi_target.specs.Crash.{CrashLeavesBlocks, commands_by}
use Rattle.iscsi_target.specs.Feed.{Store}
use Rattle.iscsi_target.specs.Advances.{store_of}
use Rattle.iscsi_target.specs.inner.Inside.{NextPost, MayCome, moment}
use Rattle.iscsi_target.proofs.Turns.ServingLemmas.{answered_follows, dropped_follows, follows_as}
use Rattle.iscsi_target.proofs.Turns.DispatchLemmas.{checked, checked_data, in_its_turn}
use Rattle.iscsi_target.proofs.machine.Machine.answer_full_phase.Goals as goal

pub returns-in-Outside-clause-follows : goal.returns-in-Outside-clause-follows
returns-in-Outside-clause-follows g c =
    let n : ℕ = (g.S.BlockStore.disk c.args.store.now).count in
    dropped_follows g.S.BlockStore.protected (g.S.BlockStore.failures c.args.store.now) c.args.self.now (full_met c.args.self.now n c.args.received.now).next
    (g.S.BlockStore.disk c.args.store.now) c.args.self.now c.args.out.now.items
    (checked c.args.self.now n c.args.received.now _ c.check.result _ c.check.ensures c.in-Outside.is) refl

pub returns-in-Breaks-clause-follows : goal.returns-in-Breaks-clause-follows
returns-in-Breaks-clause-follows g c =
    let n : ℕ = (g.S.BlockStore.disk c.args.store.now).count in
    answered_follows g.S.BlockStore.protected c.reject_and_close.result (g.S.BlockStore.failures c.args.store.now) c.args.self.now
    (reject_and_close c.args.self.now.session (waiting_tasks c.args.self.now.tasks) c.in-Breaks.rule c.args.received.now)
    (full_met c.args.self.now n c.args.received.now).next (g.S.BlockStore.disk c.args.store.now)
    c.reject_and_close.new.self c.args.out.now.items c.reject_and_close.new.out.items
    (checked c.args.self.now n c.args.received.now _ c.check.result _ c.check.ensures c.in-Breaks.is)
    (c.reject_and_close.ensures (g.S.BlockStore.disk c.args.store.now))

pub returns-in-Beside-clause-follows : goal.returns-in-Beside-clause-follows
returns-in-Beside-clause-follows g c =
    let n : ℕ = (g.S.BlockStore.disk c.args.store.now).count in
    answered_follows g.S.BlockStore.protected c.answer_beside.result (g.S.BlockStore.failures c.args.store.now) c.args.self.now
    (beside c.args.self.now c.args.received.now c.in-Beside.request)
    (full_met c.args.self.now n c.args.received.now).next (g.S.BlockStore.disk c.args.store.now)
    c.answer_beside.new.self c.args.out.now.items c.answer_beside.new.out.items
    (checked c.args.self.now n c.args.received.now _ c.check.result _ c.check.ensures c.in-Beside.is)
    (c.answer_beside.ensures (g.S.BlockStore.disk c.args.store.now))

pub returns-in-Data-clause-follows : goal.returns-in-Data-clause-follows
returns-in-Data-clause-follows g c =
    let n : ℕ = (g.S.BlockStore.disk c.args.store.now).count in
    follows_as g.S.BlockStore.protected c.data_out.result (on_data_out c.args.self.now c.args.received.now c.in-Data.head c.received.inside.pdu.bytes.now)
    (full_met c.args.self.now n c.args.received.now).next c.args.self.now
    (store_of (g.S.BlockStore.disk c.args.store.now) (g.S.BlockStore.failures c.args.store.now)) c.args.out.now.items c.data_out.new.self
    (store_of (g.S.BlockStore.disk c.data_out.new.store) (g.S.BlockStore.failures c.data_out.new.store)) c.data_out.new.out.items
    (checked_data c.args.self.now n c.received.inside.continued c.received.inside.pdu.head c.received.inside.pdu.bytes.now c.args.received.now
    c.received.view_is _ c.check.result c.in-Data.head c.check.ensures c.in-Data.is) c.data_out.ensures.follows

pub returns-in-Data-clause-crash : goal.returns-in-Data-clause-crash
returns-in-Data-clause-crash g c =
    subst (λ (x : Next). CrashLeavesBlocks g.S.BlockStore.protected (commands_by x) (g.S.BlockStore.disk c.args.store.now)
    (g.S.BlockStore.disk c.data_out.new.store)
    (g.S.BlockStore.kept c.args.store.now) (g.S.BlockStore.kept c.data_out.new.store))
    (checked_data c.args.self.now (g.S.BlockStore.disk c.args.store.now).count c.received.inside.continued c.received.inside.pdu.head
    c.received.inside.pdu.bytes.now c.args.received.now c.received.view_is _ c.check.result c.in-Data.head c.check.ensures c.in-Data.is)
    c.data_out.ensures.crash

pub answer_beside-requires : goal.answer_beside-requires
answer_beside-requires g c = subst (MayCome c.args.self.now c.args.received.now) c.in-Beside.is c.check.ensures.may

pub enqueue-requires-clause-is : goal.enqueue-requires-clause-is
enqueue-requires-clause-is g c = (subst (MayCome c.args.self.now c.args.received.now) c.in-AtOnce.is c.check.ensures.may).0

pub enqueue-requires-clause-room : goal.enqueue-requires-clause-room
enqueue-requires-clause-room g c =
    let none : c.args.self.now.tasks ≡ [] = (subst (MayCome c.args.self.now c.args.received.now) c.in-AtOnce.is c.check.ensures.may).1 in
    let size = ap waiting_tasks none in
    omega (arith, size)

pub enqueue-requires-clause-turn : goal.enqueue-requires-clause-turn
enqueue-requires-clause-turn g c = inl (subst (MayCome c.args.self.now c.args.received.now) c.in-AtOnce.is c.check.ensures.may).1

pub returns-in-AtOnce-clause-follows : goal.returns-in-AtOnce-clause-follows
returns-in-AtOnce-clause-follows g c =
    let n : ℕ = (g.S.BlockStore.disk c.args.store.now).count in
    follows_as g.S.BlockStore.protected c.enqueue.result (admitted c.args.self.now (presented n c.args.received.now c.in-AtOnce.request))
    (full_met c.args.self.now n c.args.received.now).next c.args.self.now
    (store_of (g.S.BlockStore.disk c.args.store.now) (g.S.BlockStore.failures c.args.store.now)) c.args.out.now.items c.enqueue.new.self
    (store_of (g.S.BlockStore.disk c.enqueue.new.store) (g.S.BlockStore.failures c.enqueue.new.store)) c.enqueue.new.out.items
    (sym (checked c.args.self.now n c.args.received.now _ c.check.result _ c.check.ensures c.in-AtOnce.is)) c.enqueue.ensures.follows

pub returns-in-AtOnce-clause-crash : goal.returns-in-AtOnce-clause-crash
returns-in-AtOnce-clause-crash g c =
    subst (λ (x : Next). CrashLeavesBlocks g.S.BlockStore.protected (commands_by x) (g.S.BlockStore.disk c.args.store.now)
    (g.S.BlockStore.disk c.enqueue.new.store)
    (g.S.BlockStore.kept c.args.store.now) (g.S.BlockStore.kept c.enqueue.new.store))
    (sym (checked c.args.self.now (g.S.BlockStore.disk c.args.store.now).count c.args.received.now _ c.check.result _ c.check.ensures c.in-AtOnce.is))
    c.enqueue.ensures.crash

pub returns-in-InTurn-clause-follows : goal.returns-in-InTurn-clause-follows
returns-in-InTurn-clause-follows g c =
    let n : ℕ = (g.S.BlockStore.disk c.args.store.now).count in
    let before : Store = store_of (g.S.BlockStore.disk c.args.store.now) (g.S.BlockStore.failures c.args.store.now) in
    let after : Store = store_of (g.S.BlockStore.disk c.enqueue-in-InTurn.new.store) (g.S.BlockStore.failures c.enqueue-in-InTurn.new.store) in
    follows_as g.S.BlockStore.protected c.enqueue-in-InTurn.result (admitted (advanced c.args.self.now) (presented n c.args.received.now c.in-InTurn.request))
    (full_met c.args.self.now n c.args.received.now).next
    c.args.self.now before c.args.out.now.items c.enqueue-in-InTurn.new.self after c.enqueue-in-InTurn.new.out.items
    (sym (checked c.args.self.now n c.args.received.now _ c.check.result _ c.check.ensures c.in-InTurn.is))
    (in_its_turn g.S.BlockStore.protected c.enqueue-in-InTurn.result c.args.self.now n c.args.received.now c.in-InTurn.request before c.args.out.now.items
    (moment c.enqueue-in-InTurn.new.self after c.enqueue-in-InTurn.new.out.items)
    (subst (λ (x : Machine). NextPost g.S.BlockStore.protected (admitted x (presented n c.args.received.now c.in-InTurn.request)) c.enqueue-in-InTurn.result
    (moment x before c.args.out.now.items)
    (moment c.enqueue-in-InTurn.new.self after c.enqueue-in-InTurn.new.out.items)) c.take_cmd_sn.ensures c.enqueue-in-InTurn.ensures.follows))

pub returns-in-InTurn-clause-crash : goal.returns-in-InTurn-clause-crash
returns-in-InTurn-clause-crash g c =
    let n : ℕ = (g.S.BlockStore.disk c.args.store.now).count in
    subst (λ (x : Next). CrashLeavesBlocks g.S.BlockStore.protected (commands_by x) (g.S.BlockStore.disk c.args.store.now)
    (g.S.BlockStore.disk c.enqueue-in-InTurn.new.store)
    (g.S.BlockStore.kept c.args.store.now) (g.S.BlockStore.kept c.enqueue-in-InTurn.new.store))
    (ap (λ (x : Machine). admitted x (presented n c.args.received.now c.in-InTurn.request)) c.take_cmd_sn.ensures
    ∙ sym (checked c.args.self.now n c.args.received.now _ c.check.result _ c.check.ensures c.in-InTurn.is)) c.enqueue-in-InTurn.ensures.crash
