use Rattle.std.proofs.Common.{◌≡◌, replicate, None}
use Rattle.iscsi_sessions.proofs.session_table.SessionTable.new.Given as goal

abbrev pub invariant-loop : goal.invariant-loop
invariant-loop l = l.free.items ≡ replicate l.counter None
