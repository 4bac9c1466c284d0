use Rattle.iscsi_login.proofs.TextAgreementLaw.{texts_agree}
use Rattle.iscsi_login.proofs.laws.texts_agree.Goals as goal

pub returns : goal.returns
returns c = record { agree = texts_agree }
