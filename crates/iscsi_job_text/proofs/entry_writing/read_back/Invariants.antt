use Rattle.std.proofs.Common.{◌≡◌, false, length, None}
use Rattle.std.specs.Prelude.{option_map}
use Rattle.iscsi_job_text.specs.Jobs.{requests_from, text_lines}
use Rattle.iscsi_job_text.specs.Pendings.{pending_held}
use Rattle.iscsi_job_text.proofs.entry_writing.read_back.Given as goal

abbrev pub invariant-loop-rest : goal.invariant-loop-rest
invariant-loop-rest l = requests_from false None (text_lines l.text) ≡ requests_from false (option_map pending_held l.pending) (text_lines l.rest)

abbrev pub decreases-loop-rest : goal.decreases-loop-rest
decreases-loop-rest l = length l.rest
