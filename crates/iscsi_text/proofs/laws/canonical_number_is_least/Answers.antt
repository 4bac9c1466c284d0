use Rattle.iscsi_text.proofs.NumeralLemmas as spelled
use Rattle.iscsi_text.proofs.laws.canonical_number_is_least.Goals as goal

pub returns : goal.returns
returns c = record { spells = spelled.canonical_spells; least = spelled.canonical_least }
