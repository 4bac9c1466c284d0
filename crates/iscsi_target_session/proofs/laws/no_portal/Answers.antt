use Rattle.iscsi_target_session.proofs.PortalLemmas.{without_portal, negotiates_its_own}
use Rattle.iscsi_target_session.proofs.laws.no_portal.Goals as goal

pub returns : goal.returns
returns c = record { text = without_portal; keys = negotiates_its_own }
