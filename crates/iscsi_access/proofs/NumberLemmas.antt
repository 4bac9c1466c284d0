-- Two readings of a number are one.
use Rattle.std.proofs.Common.{◌≡◌, ℕ, List, Option, Some, None, refl, ap}
use Rattle.std.specs.Option.{MatchOption}
use Rattle.iscsi_text.specs.Numeral.{SpellsNumber}
use Rattle.iscsi_text.specs.Reading.{number_in}
use Rattle.iscsi_text.proofs.ReadingLemmas.{number_exact}
use Rattle.iscsi_text.proofs.NumeralLemmas.{one_number}

-- the number that the text spells, or none where it spells none
abbrev Exact : List ℕ → Option ℕ → Type 0
Exact text a = MatchOption a ((n : ℕ) → ¬ SpellsNumber text n) (SpellsNumber text)

same : (text : List ℕ) (a b : Option ℕ) → Exact text a → Exact text b → a ≡ b
same text None None x y = refl
same text None (Some n) never spelled = absurd (never n spelled)
same text (Some m) None spelled never = absurd (never m spelled)
same text (Some m) (Some n) x y = ap Some (one_number text m n x y)

pub read_is : (text : List ℕ) (a : Option ℕ) → MatchOption a ((n : ℕ) → ¬ SpellsNumber text n) (SpellsNumber text) → a ≡ number_in text
read_is text a x = same text a (number_in text) x (number_exact text)
