use Rattle.iscsi_sessions.proofs.ReinstatementLemmas.{NoneBefore}
use Rattle.iscsi_sessions.proofs.session_table.SessionTable.taken_over.Given as goal

abbrev pub invariant-loop-place : goal.invariant-loop-place
invariant-loop-place l = NoneBefore l.self l.slot l.place
