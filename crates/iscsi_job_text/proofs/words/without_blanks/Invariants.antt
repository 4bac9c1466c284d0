use Rattle.std.proofs.Common.{◌≡◌, drop}
use Rattle.iscsi_job_text.specs.Words.{words_between}
use Rattle.iscsi_job_text.proofs.words.without_blanks.Given as goal

abbrev pub invariant-loop-at : goal.invariant-loop-at
invariant-loop-at l = words_between (drop l.at l.bytes) ≡ words_between l.bytes
