use Rattle.iscsi_text.proofs.TextLaws as laws
use Rattle.iscsi_text.proofs.laws.one_meaning.Goals as goal

pub returns : goal.returns
returns c = record { one = laws.one_meaning }
