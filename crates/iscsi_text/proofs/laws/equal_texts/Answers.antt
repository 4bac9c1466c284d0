use Rattle.iscsi_text.proofs.TextLaws as laws
use Rattle.iscsi_text.proofs.laws.equal_texts.Goals as goal

pub returns : goal.returns
returns c = record { equal = laws.equal_texts }
