use Rattle.iscsi_login.proofs.TextAgreementLaw.{good_answer}
use Rattle.iscsi_login.proofs.laws.answer_is_good.Goals as goal

pub returns : goal.returns
returns c = record { good = good_answer }
