use Rattle.iscsi_sessions.proofs.BoundLemmas.{held_few, most_given, takes_few, opening_executes, opening_few, turn_waits}
use Rattle.iscsi_sessions.proofs.laws.few_at_a_time.Goals as goal

pub returns : goal.returns
returns c = record { tasks = opening_few; executed = opening_executes; held = held_few; write = takes_few; read = most_given; waits = turn_waits }
