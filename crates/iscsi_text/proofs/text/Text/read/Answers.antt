use Rattle.std.proofs.Common.{◌≢◌, Result, Ok, Err, IfErr, List, ℕ, rules, arith}
use Rattle.iscsi_text.specs.declared.fault.TextFault.{TextFault}
use Rattle.iscsi_text.specs.declared.fault.TextFault.TheVariants.{NoMemory}
use Rattle.iscsi_text.specs.Text.{Pairs, TextMeans}
use Rattle.iscsi_text.specs.Fault.{IsFirstFault}
use Rattle.iscsi_text.specs.Shown.{all_shown}
use Rattle.iscsi_text.proofs.CanonicalLemmas.{is_meaning, canonical_no_longer}
use Rattle.iscsi_text.proofs.FaultLemmas.{no_meaning}
use Rattle.iscsi_text.proofs.text.Text.read.Goals as goal

pub invariant_of-result : goal.invariant_of-result
invariant_of-result c = (
  is_meaning c.args.bytes.now (all_shown c.in_ok-pairs.pairs.items) c.in_ok-pairs.ensures.found,
  omega (arith, canonical_no_longer c.args.bytes.now (all_shown c.in_ok-pairs.pairs.items) c.in_ok-pairs.ensures.found),
)

pub returns-clause-no_longer : goal.returns-clause-no_longer
returns-clause-no_longer c = canonical_no_longer c.args.bytes.now (all_shown c.in_ok-pairs.pairs.items) c.in_ok-pairs.ensures.found

-- where the fault is the first, there is no meaning
meaningless : {A : Type 0} (bytes : List ℕ) (r : Result A TextFault) → IfErr r (λ f. f ≢ NoMemory → IsFirstFault bytes f) →
    IfErr r (λ f. f ≢ NoMemory → (m : Pairs) → TextMeans bytes m → ⊥)
meaningless bytes (Ok x) first = tt
meaningless bytes (Err f) first = λ other. no_meaning bytes f (first other)

pub returns-in_err-pairs-clause-none : goal.returns-in_err-pairs-clause-none
returns-in_err-pairs-clause-none c =
    let first : IfErr c.from_residual.result (λ f. f ≢ NoMemory → IsFirstFault c.args.bytes.now f) = search rules in
    meaningless c.args.bytes.now c.from_residual.result first
