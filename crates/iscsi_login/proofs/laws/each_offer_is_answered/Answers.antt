use Rattle.iscsi_login.proofs.AnswerLemmas.{answers_of_key}
use Rattle.iscsi_login.proofs.laws.each_offer_is_answered.Goals as goal

pub returns : goal.returns
returns c = record { each = answers_of_key }
