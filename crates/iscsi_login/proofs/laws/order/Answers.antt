use Rattle.iscsi_text.proofs.OrderLemmas.{arranged_is}
use Rattle.iscsi_login.proofs.laws.order.Goals as goal

pub returns : goal.returns
returns c = record { one = arranged_is }
