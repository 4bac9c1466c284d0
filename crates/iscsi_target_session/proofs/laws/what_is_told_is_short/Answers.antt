use Rattle.iscsi_target_session.proofs.PortalSizeLaw.{told_short}
use Rattle.iscsi_target_session.proofs.laws.what_is_told_is_short.Goals as goal

pub returns : goal.returns
returns c = record { short = told_short }
