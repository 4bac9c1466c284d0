use Rattle.std.proofs.Common.{◌≡◌, arith, ap, not, set, Option, None, Some, subst, sym}
use Rattle.std.specs.Prelude.{IfSome}
use Rattle.std.proofs.lemmas.Grind.{common_steps}
use Rattle.std.specs.Vec.{with_item}
use Rattle.iscsi_target.specs.Feed.{Store}
use Rattle.iscsi_target.specs.Advances.{store_of}
use Rattle.iscsi_sessions.specs.contracts.session_table.SessionTable.{the_view}
use Rattle.iscsi_target.specs.Crash.{CrashesNext}
use Rattle.iscsi_sessions.specs.Slots.{SessionTable, Slot, SlotTakesPdu, may_take_at, slot_at}
use Rattle.iscsi_sessions.proofs.SlotLemmas.{may_there}
use Rattle.iscsi_sessions.proofs.TakingLaw.{takes_turn}
use Rattle.iscsi_sessions.proofs.session_table.SessionTable.take.Goals as goal

pub returns-clause-turn : goal.returns-clause-turn
returns-clause-turn g c =
    let before : Store = store_of (g.S.BlockStore.disk c.args.store.now) (g.S.BlockStore.failures c.args.store.now) in
    let after : Store = store_of (g.S.BlockStore.disk c.take.new.store) (g.S.BlockStore.failures c.take.new.store) in
    let new : SessionTable = the_view (record { alloc = c.self.inside.alloc; slots = with_item c.self.inside.slots c.args.slot (Some c.take.new.self); buffer = c.self.inside.buffer; holder = c.self.inside.holder; settled = None; is_lost = c.self.inside.is_lost }) in
    let takes : SlotTakesPdu g.S.BlockStore.protected c.args.slot c.args.self.now before c.take.result new after =
    record {
      before = c.in-Some.fed;
      after = c.take.new.self;
      was = grind (arith, common_steps);
      now = ap (λ (h : SessionTable). set h.slots c.args.slot (Some c.take.new.self)) c.self.view_is;
      lost = ap (λ (h : SessionTable). h.lost) c.self.view_is;
      does = c.take.ensures.takes;
    } in
    takes_turn g.S.BlockStore.protected c.args.slot c.args.self.now new before after c.take.result takes
    (may_there (not c.args.self.now.lost) (may_take_at (slot_at c.args.self.now c.args.slot)) c.requires.may)

pub returns-clause-crash : goal.returns-clause-crash
returns-clause-crash g c =
    let was : slot_at c.args.self.now c.args.slot ≡ Some c.in-Some.fed = grind (arith, common_steps) in
    subst (λ (taken : Option Slot). IfSome taken (λ s. CrashesNext g.S.BlockStore.protected s.connection s.unfed (g.S.BlockStore.disk c.args.store.now)
    (g.S.BlockStore.disk c.take.new.store) (g.S.BlockStore.kept c.args.store.now) (g.S.BlockStore.kept c.take.new.store))) (sym was) c.take.ensures.crash
