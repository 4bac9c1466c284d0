use Rattle.std.proofs.Common.{arith, ap, set, None, Some}
use Rattle.std.proofs.lemmas.Grind.{common_steps}
use Rattle.std.specs.Vec.{with_item}
use Rattle.iscsi_sessions.specs.contracts.session_table.SessionTable.{the_view}
use Rattle.iscsi_sessions.specs.Slots.{SlotChanges, SlotFinishes, SessionTable}
use Rattle.iscsi_sessions.proofs.SlotLemmas.{ends_in}
use Rattle.iscsi_sessions.proofs.session_table.SessionTable.finish.Goals as goal

pub returns-clause-ends : goal.returns-clause-ends
returns-clause-ends c =
    let new : SessionTable = the_view (record { alloc = c.self.inside.alloc; slots = with_item c.self.inside.slots c.args.slot (Some c.finish.new.self); buffer = c.self.inside.buffer; holder = c.self.inside.holder; settled = None; is_lost = c.self.inside.is_lost }) in
    let changes : SlotChanges c.args.slot c.args.self.now new (λ before after. SlotFinishes before c.finish.result after) =
    record {
      before = c.in-Some.taken;
      after = c.finish.new.self;
      was = grind (arith, common_steps);
      now = ap (λ (h : SessionTable). set h.slots c.args.slot (Some c.finish.new.self)) c.self.view_is;
      lost = ap (λ (h : SessionTable). h.lost) c.self.view_is;
      does = c.finish.ensures.finishes;
    } in
    ends_in c.args.self.now new c.args.slot c.finish.result changes
