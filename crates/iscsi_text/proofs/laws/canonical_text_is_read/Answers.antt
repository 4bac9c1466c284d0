use Rattle.iscsi_text.proofs.TextLaws as laws
use Rattle.iscsi_text.proofs.laws.canonical_text_is_read.Goals as goal

pub returns : goal.returns
returns c = record { again = laws.canonical_read; no_longer = laws.read_no_longer }
