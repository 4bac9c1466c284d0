use Rattle.iscsi_target.proofs.Answers.RefusedLaw.{refused_login}
use Rattle.iscsi_target.proofs.laws.refused_login.Goals as goal

pub returns : goal.returns
returns c = record { refused = refused_login }
