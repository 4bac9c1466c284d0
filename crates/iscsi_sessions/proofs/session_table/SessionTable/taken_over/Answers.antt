use Rattle.std.proofs.Common.{◌≤◌, length, sym, ◌∙◌, rules}
use Rattle.iscsi_sessions.proofs.ReinstatementLemmas.{none_first, none_next, none_at_all}
use Rattle.iscsi_sessions.proofs.session_table.SessionTable.taken_over.Goals as goal

pub loop-place-init : goal.loop-place-init
loop-place-init c = none_first c.args.self.now c.args.slot

pub loop-place-preserved : goal.loop-place-preserved
loop-place-preserved c = none_next c.args.self.now c.args.slot c.loop-place.place c.loop-place.invariant
    (sym c.takes_place_of.ensures ∙ c.if-takes_place_of.false)

pub returns-clause-none : goal.returns-clause-none
returns-clause-none c = none_at_all c.args.self.now c.args.slot c.loop-place.place c.loop-place.invariant
    (let le : length c.args.self.now.slots ≤ c.loop-place.place = search rules in le)
