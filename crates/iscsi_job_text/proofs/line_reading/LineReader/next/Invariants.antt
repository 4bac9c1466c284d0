use Rattle.std.proofs.Common.{IfSome}
use Rattle.iscsi_job_text.proofs.LineLemmas.{SoFar}
use Rattle.iscsi_job_text.proofs.line_reading.LineReader.next.Given as goal

abbrev pub invariant-loop : goal.invariant-loop
invariant-loop g l = IfSome (g.R.Read.remaining l.fn.r) (λ left. SoFar l.fn.self l.self left (g.R.Read.remaining l.r))
