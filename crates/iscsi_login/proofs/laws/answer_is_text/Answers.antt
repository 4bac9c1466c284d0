use Rattle.iscsi_login.proofs.AnswerMeaningLaw.{answer_meaning}
use Rattle.iscsi_login.proofs.laws.answer_is_text.Goals as goal

pub returns : goal.returns
returns c = record { meaning = answer_meaning }
