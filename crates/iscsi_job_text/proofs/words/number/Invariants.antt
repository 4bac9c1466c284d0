use Rattle.std.proofs.Common.{◌≡◌, ◌≤◌, drop}
use Rattle.iscsi_job_text.specs.Words.{digits_behind}
use Rattle.iscsi_job_text.proofs.words.number.Given as goal

abbrev pub invariant-loop-digit : goal.invariant-loop-digit
invariant-loop-digit l = (digits_behind l.most 0 l.digits ≡ digits_behind l.most l.number (drop l.digit-index l.digits)) × (l.number ≤ l.most)
