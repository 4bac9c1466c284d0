use Rattle.std.specs.Io.KnownBytes.{Keeps}
use Rattle.iscsi_job_text.proofs.line_reading.read_some.Given as goal

abbrev pub invariant-loop : goal.invariant-loop
invariant-loop g l = Keeps (g.R.Read.remaining l.initial.r) (g.R.Read.remaining l.r)
