use Rattle.std.proofs.Common.{◌∙◌, Some, ap, sym}
use Rattle.std.specs.Vec.{with_item}
use Rattle.iscsi_sessions.specs.contracts.session_table.SessionTable.{the_view}
use Rattle.iscsi_sessions.specs.Slots.{SessionTable, Slot, with_slot}
use Rattle.iscsi_sessions.proofs.SlotLemmas.{comes_in}
use Rattle.iscsi_sessions.proofs.session_table.SessionTable.slot.Goals as goal

pub returns-clause-comes : goal.returns-clause-comes
returns-clause-comes c =
    let new : SessionTable = the_view (record { alloc = c.self.inside.alloc; slots = with_item c.self.inside.slots c.in-Some.place (Some c.new.result); buffer = c.self.inside.buffer; holder = c.self.inside.holder; settled = c.self.inside.settled; is_lost = c.self.inside.is_lost }) in
    comes_in c.args.self.now new c.in-Some.place c.args.config (sym c.in-Some.ensures)
    (ap (λ (h : SessionTable). with_slot h c.in-Some.place (Some c.new.result)) c.self.view_is
    ∙ ap (λ (s : Slot). with_slot c.args.self.now c.in-Some.place (Some s)) c.new.ensures)
