use Rattle.iscsi_stream.proofs.RefusalLaws.{limit_due}
use Rattle.iscsi_stream.proofs.laws.limit_refused.Goals as goal

pub returns : goal.returns
returns c stream piece given rest ms head len v new result t s long over lt takes fails =
    limit_due stream piece given rest ms head len v t s long over lt result new takes fails
