use Rattle.iscsi_login.proofs.JudgementLemmas.{none_is_good, good_is_taken}
use Rattle.iscsi_login.proofs.laws.judged_answers.Goals as goal

pub returns : goal.returns
returns c = record { good = none_is_good; taken = good_is_taken }
