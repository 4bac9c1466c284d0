-- Serial numbers some steps on: none, on and back, and twice.
use Rattle.std.proofs.Common.{◌≡◌, inl, inr, ℕ, ◌+◌, ◌-◌, ◌<◌, ◌≤◌, ◌%◌, ◌^◌, true, false, refl, sym, ap, ◌∙◌, arith}
use Rattle.std.specs.Prelude.{Option, Some, None, nat_lt, option_map, not, ◌==◌}
use Rattle.std.proofs.lemmas.Bool.{cases_lt, cases_Bool, eqb-true}
use Rattle.iscsi_compare.specs.SameJob.{OneToOne, shifted}
use Rattle.iscsi_compare.proofs.RenamingLemmas.{apart, one_to_one}

lt_true : (n m : ℕ) → n < m → nat_lt n m ≡ true
lt_true n m h = grind arith

lt_false : (n m : ℕ) → m ≤ n → nat_lt n m ≡ false
lt_false n m h = grind arith

shifted_small : (s n : ℕ) → n < 2 ^ 32 → shifted s n ≡ (n + s) % 2 ^ 32
shifted_small s n h = rw (lt_true n (2 ^ 32) h) refl

shifted_large : (s n : ℕ) → 2 ^ 32 ≤ n → shifted s n ≡ n
shifted_large s n h = rw (lt_false n (2 ^ 32) h) refl

round : (n s : ℕ) → (n + s) % 2 ^ 32 < 2 ^ 32
round n s = omega arith

pub shifted_none : (n : ℕ) → shifted 0 n ≡ n
shifted_none n =
    elim (cases_lt n (2 ^ 32)) [
      | inl h ↦ shifted_small 0 n h ∙ omega arith
      | inr h ↦ shifted_large 0 n h
    ]

pub shifted_twice : (s t n : ℕ) → shifted t (shifted s n) ≡ shifted (s + t) n
shifted_twice s t n =
    elim (cases_lt n (2 ^ 32)) [
      | inl h ↦ ap (shifted t) (shifted_small s n h) ∙ shifted_small t ((n + s) % 2 ^ 32) (round n s) ∙ omega arith ∙ sym (shifted_small (s + t) n h)
      | inr h ↦ ap (shifted t) (shifted_large s n h) ∙ shifted_large t n h ∙ sym (shifted_large (s + t) n h)
    ]

abbrev pub steps_back : ℕ → ℕ
steps_back s = 2 ^ 32 - s % 2 ^ 32

pub shifted_back : (s n : ℕ) → shifted (steps_back s) (shifted s n) ≡ n
shifted_back s n =
    elim (cases_lt n (2 ^ 32)) [
      | inl h ↦ ap (shifted (steps_back s)) (shifted_small s n h) ∙ shifted_small (steps_back s) ((n + s) % 2 ^ 32) (round n s) ∙ omega arith
      | inr h ↦ ap (shifted (steps_back s)) (shifted_large s n h) ∙ shifted_large (steps_back s) n h
    ]

pub same_tag : (f : OneToOne ℕ) (fixed n : ℕ) → f.to fixed ≡ fixed → not (f.to n == fixed) ≡ not (n == fixed)
same_tag f fixed n e =
    elim (cases_Bool (n == fixed)) [
      | inl p ↦ (let q : f.to n ≡ fixed = ap f.to (eqb-true n fixed p) ∙ e in grind (arith, q))
      | inr p ↦ elim (cases_Bool (f.to n == fixed)) [
        | inl q ↦ apart (let same : n ≡ fixed = one_to_one f n fixed (eqb-true (f.to n) fixed q ∙ sym e) in grind (arith, same)) p
        | inr q ↦ ap not (q ∙ sym p)
      ]
    ]

pub mapped_twice : {A : Type 0} (f g h : A → A) → ((x : A) → g (f x) ≡ h x) → (o : Option A) → option_map g (option_map f o) ≡ option_map h o
mapped_twice f g h e None = refl
mapped_twice f g h e (Some x) = ap Some (e x)

pub mapped_same : {A : Type 0} (f : A → A) → ((x : A) → f x ≡ x) → (o : Option A) → option_map f o ≡ o
mapped_same f e None = refl
mapped_same f e (Some x) = ap Some (e x)
