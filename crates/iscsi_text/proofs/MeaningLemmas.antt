-- What bytes mean, and their canonical form.
use Rattle.std.proofs.Common.{◌≡◌, ℕ, ◌≤◌, Bool, true, false, List, length, Option, Some, None, refl, sym, ap, subst, ◌∙◌, arith}
use Rattle.iscsi_text.specs.declared.key.KeyKind.{KeyKind}
use Rattle.iscsi_text.specs.declared.key.KeyKind.TheVariants as kinds
use Rattle.iscsi_text.specs.Numeral.{canonical_number}
use Rattle.iscsi_text.specs.Value.{Typed, Number, Boolean, Items, Plain, Odd, MeansValue, boolean_text, value_text}
use Rattle.iscsi_text.specs.Text.{HasNo}
use Rattle.iscsi_text.proofs.NumeralLemmas.{canonical_spells, canonical_least, spelling_no_zero, one_number}

-- the canonical form means the same, has no 0, and is no longer
pub record Stands (kind : Option KeyKind) (bytes : List ℕ) (v : Typed) : Type 0 where
  pub means : MeansValue kind (value_text v) v
  pub ends : HasNo 0 (value_text v)
  pub no_longer : length (value_text v) ≤ length bytes

-- where the value keeps its bytes
kept : (kind : Option KeyKind) (bytes text : List ℕ) (v : Typed) → value_text v ≡ text → text ≡ bytes → MeansValue kind bytes v → HasNo 0 bytes
    → Stands kind bytes v
kept kind bytes text v shows same means none =
    let e : bytes ≡ value_text v = sym (shows ∙ same) in
    record { means = subst (λ bs. MeansValue kind bs v) e means; ends = subst (HasNo 0) e none; no_longer = omega (arith, ap length e) }

pub stands : (kind : Option KeyKind) (bytes : List ℕ) (v : Typed) → MeansValue kind bytes v → HasNo 0 bytes → Stands kind bytes v
stands (Some kinds.Number) bytes (Number n) means none =
    let spells = canonical_spells n means.fits in
    record { means = spells; ends = spelling_no_zero (canonical_number n) n spells; no_longer = canonical_least bytes n means }
stands (Some kinds.Number) bytes (Odd odd) means none = kept (Some kinds.Number) bytes odd (Odd odd) refl means.0 means none
stands (Some kinds.Boolean) bytes (Boolean b) means none = kept (Some kinds.Boolean) bytes (boolean_text b) (Boolean b) refl (sym means) means none
stands (Some kinds.Boolean) bytes (Odd odd) means none = kept (Some kinds.Boolean) bytes odd (Odd odd) refl means.0 means none
stands (Some kinds.Items) bytes (Items items) means none = kept (Some kinds.Items) bytes items (Items items) refl means.0 means none
stands (Some kinds.Items) bytes (Odd odd) means none = kept (Some kinds.Items) bytes odd (Odd odd) refl means.0 means none
stands (Some kinds.Plain) bytes (Plain plain) means none = kept (Some kinds.Plain) bytes plain (Plain plain) refl means means none
stands None bytes (Plain plain) means none = kept None bytes plain (Plain plain) refl means means none
stands kind bytes v means none = absurd means

-- bytes mean one value behind a key
same_boolean : (a b : Bool) → boolean_text a ≡ boolean_text b → a ≡ b
same_boolean true true e = refl
same_boolean false false e = refl
same_boolean true false e = cc
same_boolean false true e = cc

pub one_value : (kind : Option KeyKind) (bytes : List ℕ) (v w : Typed) → MeansValue kind bytes v → MeansValue kind bytes w → v ≡ w
one_value (Some kinds.Number) bytes (Number n) (Number m) a b = ap Number (one_number bytes n m a b)
one_value (Some kinds.Number) bytes (Number n) (Odd c) a b = absurd (b.1 n a)
one_value (Some kinds.Number) bytes (Odd c) (Number m) a b = absurd (a.1 m b)
one_value (Some kinds.Number) bytes (Odd c) (Odd d) a b = ap Odd (a.0 ∙ sym b.0)
one_value (Some kinds.Boolean) bytes (Boolean c) (Boolean d) a b = ap Boolean (same_boolean c d (sym a ∙ b))
one_value (Some kinds.Boolean) bytes (Boolean c) (Odd d) a b = absurd (b.1 c a)
one_value (Some kinds.Boolean) bytes (Odd c) (Boolean d) a b = absurd (a.1 d b)
one_value (Some kinds.Boolean) bytes (Odd c) (Odd d) a b = ap Odd (a.0 ∙ sym b.0)
one_value (Some kinds.Items) bytes (Items c) (Items d) a b = ap Items (a.0 ∙ sym b.0)
one_value (Some kinds.Items) bytes (Items c) (Odd d) a b = absurd (b.1 a.1)
one_value (Some kinds.Items) bytes (Odd c) (Items d) a b = absurd (a.1 b.1)
one_value (Some kinds.Items) bytes (Odd c) (Odd d) a b = ap Odd (a.0 ∙ sym b.0)
one_value (Some kinds.Plain) bytes (Plain c) (Plain d) a b = ap Plain (a ∙ sym b)
one_value None bytes (Plain c) (Plain d) a b = ap Plain (a ∙ sym b)
one_value kind bytes v w a b = absurd search
