use Rattle.iscsi_stream.proofs.OneMeaningLaw.{all_given}
use Rattle.iscsi_stream.proofs.laws.no_rest.Goals as goal

pub returns : goal.returns
returns c stream given rest ms ns means s = all_given stream given rest ms ns means s
