use Rattle.iscsi_text.proofs.TextLaws as laws
use Rattle.iscsi_text.proofs.laws.canonical_text_means.Goals as goal

pub returns : goal.returns
returns c = record { is_meaning = laws.is_meaning; means = laws.canonical_means }
