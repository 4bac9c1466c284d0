use Rattle.std.proofs.Common.{◌≡◌, ◌++◌, map, take, drop}
use Rattle.iscsi_job_text.specs.Jobs.{blank_of}
use Rattle.iscsi_job_text.proofs.line_reading.make_plain.Given as goal

abbrev pub invariant-loop-at : goal.invariant-loop-at
invariant-loop-at l = l.line ≡ map blank_of (take l.at l.fn.line) ++ drop l.at l.fn.line
