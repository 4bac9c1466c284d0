use Rattle.iscsi_sessions.proofs.OwnOrderLemmas.{own_accepted, own_executed, own_turns, placed_all}
use Rattle.iscsi_sessions.proofs.laws.own_order.Goals as goal

pub returns : goal.returns
returns c = record { all = placed_all; turns = own_turns; own = own_executed; accepted = own_accepted }
