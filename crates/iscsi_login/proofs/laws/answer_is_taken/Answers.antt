use Rattle.iscsi_login.specs.Answer.{answer}
use Rattle.iscsi_login.proofs.JudgementLemmas.{good_is_taken}
use Rattle.iscsi_login.proofs.TextAgreementLaw.{good_answer}
use Rattle.iscsi_login.proofs.laws.answer_is_taken.Goals as goal

pub returns : goal.returns
returns c = record {
  taken = λ session p range tag max_recv within offered is. good_is_taken offered (answer session p tag max_recv offered)
      (good_answer session p range tag max_recv within offered is);
}
