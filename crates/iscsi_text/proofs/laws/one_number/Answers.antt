use Rattle.iscsi_text.proofs.NumeralLemmas as spelled
use Rattle.iscsi_text.proofs.laws.one_number.Goals as goal

pub returns : goal.returns
returns c = record { one = spelled.one_number }
