use Rattle.iscsi_target_session.proofs.ExchangeLemmas.{open_text}
use Rattle.iscsi_target_session.proofs.laws.open_text.Goals as goal

pub returns : goal.returns
returns c = record { same = open_text }
