-- What is known of a renumbering, and what a pair of numbers adds to it. No reader of the judge's
-- contract needs these.
use Rattle.std.specs.Prelude.{◌≡◌, ℕ, ◌%◌, ◌^◌, Bool, true, false, List, Option, Some, None}
use Rattle.std.specs.Ordering.{nat_cmp}
use Rattle.std.specs.Cmp.Lexicographic.{slice_cmp}
use Rattle.std.specs.declared.cmp.Ordering.{Ordering}
use Rattle.std.specs.BTreeMap.{BTreeMap, get}
use Rattle.iscsi_compare.specs.SameJob.{OneToOne, Renumbering}

-- Of the candidates that are left, those stay of which something is said; and where the answer is
-- no, it is said of none.
pub record LearnsAnswer {R : Type 0} (Old New Said : R → Type 0) (answer : Bool) : Type 0 where
  pub less : (r : R) → New r → Old r
  pub kept : (r : R) → Old r → Said r → New r
  pub said : answer ≡ true → (r : R) → New r → Said r
  pub none : answer ≡ false → (r : R) → Old r → Said r → ⊥

-- the renaming gives each known name its known one
abbrev pub AgreesWithKnown : {K : Type 0} → (K → K → Ordering) → BTreeMap K K → OneToOne K → Type 0
AgreesWithKnown {K} cmp there f = (a b : K) → get cmp there a ≡ Some b → f.to a ≡ b

-- no name is known
abbrev pub IsFresh : {K : Type 0} → (K → K → Ordering) → BTreeMap K K → Type 0
IsFresh {K} cmp there = (a : K) → get cmp there a ≡ None

-- Each of the two tables is the other backwards, and some renaming has them.
pub record IsSound {K : Type 0} (cmp : K → K → Ordering) (there back : BTreeMap K K) : Type 0 where
  pub forth : (a b : K) → get cmp there a ≡ Some b → get cmp back b ≡ Some a
  pub return : (a b : K) → get cmp back b ≡ Some a → get cmp there a ≡ Some b
  pub some : (f : OneToOne K) × AgreesWithKnown cmp there f

-- A pair of names was learnt.
pub record JoinsNames {K : Type 0} (cmp : K → K → Ordering) (old there back : BTreeMap K K)
    (Said : OneToOne K → Type 0) (answer : Bool) : Type 0 where
  pub sound : IsSound cmp there back
  pub learns : LearnsAnswer (AgreesWithKnown cmp old) (AgreesWithKnown cmp there) Said answer

-- n steps, as far as it is known
abbrev pub IsSteps : Option ℕ → ℕ → Type 0
IsSteps None steps = Unit {0}
IsSteps (Some known) steps = steps % 2 ^ 32 ≡ known % 2 ^ 32

-- what is known of a renumbering: some names of each kind, and its steps
pub record KnownNames : Type 0 where
  pub tasks : BTreeMap ℕ ℕ
  pub transfers : BTreeMap ℕ ℕ
  pub isids : BTreeMap (List ℕ) (List ℕ)
  pub tsihs : BTreeMap ℕ ℕ
  pub commands : Option ℕ
  pub statuses : Option ℕ

-- The renumbering is one of those that are left, by each of its parts.
pub record IsRenumberingLeft (known : KnownNames) (r : Renumbering) : Type 0 where
  pub tasks_left : AgreesWithKnown nat_cmp known.tasks r.tasks
  pub transfers_left : AgreesWithKnown nat_cmp known.transfers r.transfers
  pub isids_left : AgreesWithKnown (slice_cmp nat_cmp) known.isids r.isids
  pub tsihs_left : AgreesWithKnown nat_cmp known.tsihs r.tsihs
  pub commands_left : IsSteps known.commands r.commands
  pub statuses_left : IsSteps known.statuses r.statuses

-- The answer says truly whether it is so.
pub record AnswersTruly (So : Type 0) (answer : Bool) : Type 0 where
  pub so : answer ≡ true → So
  pub not_so : answer ≡ false → So → ⊥
