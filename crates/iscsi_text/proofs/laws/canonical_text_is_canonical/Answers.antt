use Rattle.iscsi_text.proofs.TextLaws as laws
use Rattle.iscsi_text.proofs.laws.canonical_text_is_canonical.Goals as goal

pub returns : goal.returns
returns c = record { once = laws.canonical_once; no_longer = laws.canonical_no_longer }
