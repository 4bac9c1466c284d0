-- What a comparison says, by its verdict.
use Rattle.std.proofs.Common.{◌≡◌, ℕ, refl, subst}
use Rattle.std.specs.Prelude.{Result, Ok, Err, IfErr}
use Rattle.iscsi_compare.specs.declared.fault.CompareFault.{CompareFault}
use Rattle.iscsi_compare.specs.declared.verdict.Verdict.{Verdict}
use Rattle.iscsi_compare.specs.declared.verdict.Verdict.TheVariants as verdict
use Rattle.iscsi_compare.specs.Comparing.{ReadInput, AgreeAtEnds, Part, ComparisonFails, ComparePost}

-- of two inputs that readers gave
abbrev pub Of : (ReadInput → Type 0) → (ReadInput → Type 0) → (ReadInput → ReadInput → Type 0) → Type 0
Of P Q Holds = (first : ReadInput) × (second : ReadInput) × P first × Q second × Holds first second

pub as_said : (P Q : ReadInput → Type 0) (result said : Result Verdict CompareFault) → Of P Q (ComparePost result) → result ≡ said → Of P Q (ComparePost said)
as_said P Q result said h e = subst (λ (r : Result Verdict CompareFault). Of P Q (ComparePost r)) e h

pub fault_said : (P Q : ReadInput → Type 0) (result : Result Verdict CompareFault) → Of P Q (ComparePost result)
    → IfErr result (λ fault. Of P Q (ComparisonFails fault))
fault_said P Q (Ok verdict) h = tt
fault_said P Q (Err fault) h = h

-- and back
pub from_parts : (P Q : ReadInput → Type 0) (result : Result Verdict CompareFault) → (result ≡ Ok verdict.Same → Of P Q AgreeAtEnds)
    → ((place other_place : ℕ) → result ≡ Ok (verdict.Differ place other_place) → Of P Q (λ first second. Part first second place other_place))
    → IfErr result (λ fault. Of P Q (ComparisonFails fault)) → Of P Q (ComparePost result)
from_parts P Q (Ok verdict.Same) same differ fault = same refl
from_parts P Q (Ok (verdict.Differ place other_place)) same differ fault = differ place other_place refl
from_parts P Q (Err f) same differ fault = fault
