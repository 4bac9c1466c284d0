use Rattle.iscsi_text.proofs.TextLaws as laws
use Rattle.iscsi_text.proofs.laws.reading_is_meaning.Goals as goal

pub returns : goal.returns
returns c = record { some = laws.reading_some; none = laws.reading_none; fault = laws.fault_none }
