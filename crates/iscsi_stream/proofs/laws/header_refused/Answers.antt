use Rattle.iscsi_stream.proofs.RefusalLaws.{header_due}
use Rattle.iscsi_stream.proofs.laws.header_refused.Goals as goal

pub returns : goal.returns
returns c stream piece given rest ms fault v new result t s long bad takes fails =
    header_due stream piece given rest ms fault v t s long bad result new takes fails
