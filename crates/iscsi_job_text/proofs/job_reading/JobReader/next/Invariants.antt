use Rattle.std.proofs.Common.{IfSome}
use Rattle.std.specs.Prelude.{option_map}
use Rattle.iscsi_job_text.specs.Pendings.{pending_held}
use Rattle.iscsi_job_text.specs.Reading.{job_held}
use Rattle.iscsi_job_text.proofs.RequestLemmas.{StillToCome}
use Rattle.iscsi_job_text.proofs.job_reading.JobReader.next.Given as goal

abbrev pub invariant-loop : goal.invariant-loop
invariant-loop g l = IfSome (g.R.Read.remaining l.fn.r) (λ left. StillToCome l.fn.self (job_held l.self-inside.lines (option_map pending_held l.self-inside.pending)) left (g.R.Read.remaining l.r))
