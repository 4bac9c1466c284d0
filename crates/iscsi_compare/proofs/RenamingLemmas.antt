-- A renaming that has one more pair of names.
use Rattle.std.proofs.Common.{◌≡◌, ◌⊎◌, inl, inr, Bool, true, false, cond, refl, sym, ap, ◌∙◌}
use Rattle.std.specs.Prelude.{Option, Some, None, is_some}
use Rattle.std.specs.declared.cmp.Ordering.{Ordering}
use Rattle.std.specs.Ordering.{is_eq}
use Rattle.std.specs.Cmp.{IsTotalOrder}
use Rattle.std.proofs.lemmas.Cmp.{tied_itself}
use Rattle.std.proofs.lemmas.Map.Lookups.{CmpEqualImpliesEq}
use Rattle.std.proofs.lemmas.Map.Views.{tells_apart}
use Rattle.std.proofs.lemmas.Bool.{cases_Bool}
use Rattle.std.specs.BTreeMap.{BTreeMap, get, IsEmpty, Updates}
use Rattle.iscsi_compare.specs.SameJob.{OneToOne}
use Rattle.iscsi_compare.specs.inner.SameJobLearning.{AgreesWithKnown, IsFresh, IsSound, JoinsNames}

pub apart : {P : Type 0} {b : Bool} → b ≡ true → b ≡ false → P
apart p q = cc

abbrev pub identity : (K : Type 0) → OneToOne K
identity K = record { to = λ a. a; back = λ a. a; there = λ a. refl; again = λ a. refl }

abbrev pub backward : {K : Type 0} → OneToOne K → OneToOne K
backward f = record { to = f.back; back = f.to; there = f.again; again = f.there }

abbrev pub chained : {K : Type 0} → OneToOne K → OneToOne K → OneToOne K
chained f g = record {
  to = λ a. g.to (f.to a);
  back = λ a. f.back (g.back a);
  there = λ a. ap f.back (g.there (f.to a)) ∙ f.there a;
  again = λ a. ap g.to (f.again (g.back a)) ∙ g.again a;
}

-- two names change places
abbrev pub exchanged : {K : Type 0} → (K → K → Ordering) → K → K → K → K
exchanged cmp a b x = cond (is_eq (cmp x a)) b (cond (is_eq (cmp x b)) a x)

pub one : {K : Type 0} (cmp : K → K → Ordering) (a b x : K) → is_eq (cmp x a) ≡ true → exchanged cmp a b x ≡ b
one cmp a b x e = rw e refl

pub other : {K : Type 0} (cmp : K → K → Ordering) (a b x : K) → is_eq (cmp x a) ≡ false → is_eq (cmp x b) ≡ true → exchanged cmp a b x ≡ a
other cmp a b x e f = rw (e, f) refl

pub neither : {K : Type 0} (cmp : K → K → Ordering) (a b x : K) → is_eq (cmp x a) ≡ false → is_eq (cmp x b) ≡ false → exchanged cmp a b x ≡ x
neither cmp a b x e f = rw (e, f) refl

pub itself : {K : Type 0} (cmp : K → K → Ordering) → IsTotalOrder cmp → (x : K) → is_eq (cmp x x) ≡ true
itself cmp o x = ap is_eq (tied_itself o x)

pub exchanged_twice : {K : Type 0} (cmp : K → K → Ordering) → IsTotalOrder cmp → CmpEqualImpliesEq cmp → (a b x : K) → exchanged cmp a b (exchanged cmp a b x)
    ≡ x
exchanged_twice cmp o exact a b x =
    elim (cases_Bool (is_eq (cmp x a))) [
      | inl e ↦ ap (exchanged cmp a b) (one cmp a b x e) ∙ (elim (cases_Bool (is_eq (cmp b a))) [
        | inl f ↦ one cmp a b b f ∙ tells_apart exact b a f ∙ sym (tells_apart exact x a e)
        | inr f ↦ other cmp a b b f (itself cmp o b) ∙ sym (tells_apart exact x a e)
      ])
      | inr e ↦ elim (cases_Bool (is_eq (cmp x b))) [
        | inl f ↦ ap (exchanged cmp a b) (other cmp a b x e f) ∙ one cmp a b a (itself cmp o a) ∙ sym (tells_apart exact x b f)
        | inr f ↦ ap (exchanged cmp a b) (neither cmp a b x e f) ∙ neither cmp a b x e f
      ]
    ]

abbrev pub exchange : {K : Type 0} (cmp : K → K → Ordering) → IsTotalOrder cmp → CmpEqualImpliesEq cmp → K → K → OneToOne K
exchange cmp o exact a b = record {
  to = exchanged cmp a b;
  back = exchanged cmp a b;
  there = exchanged_twice cmp o exact a b;
  again = exchanged_twice cmp o exact a b;
}

pub one_to_one : {K : Type 0} (f : OneToOne K) (a b : K) → f.to a ≡ f.to b → a ≡ b
one_to_one f a b e = sym (f.there a) ∙ ap f.back e ∙ f.there b

some_of : {K : Type 0} (o : Option K) → is_some o ≡ true → (x : K) × (o ≡ Some x)
some_of None e = apart e refl
some_of (Some x) e = (x, refl)

pub none_some : {K : Type 0} {P : Type 0} {x : K} {o : Option K} → o ≡ None → o ≡ Some x → P
none_some p q = cc

-- what the table finds once it has one more pair
found : {K : Type 0} (cmp : K → K → Ordering) → CmpEqualImpliesEq cmp → (old new : BTreeMap K K) (a b q v : K) → Updates cmp old new a (Some b) → get cmp new q
    ≡ Some v
    → ((a ≡ q) × (b ≡ v)) ⊎ (get cmp old q ≡ Some v)
found cmp exact old new a b q v u e =
    elim (cases_Bool (is_eq (cmp a q))) [
      | inl p ↦ (let same = tells_apart exact a q p in
          let at : get cmp new q ≡ Some b = ap (λ x. get cmp new x) (sym same) ∙ u.1 in
          inl (same, cc))
      | inr p ↦ inr (sym (u.2 q p) ∙ e)
    ]

-- and what it found before
kept : {K : Type 0} (cmp : K → K → Ordering) → CmpEqualImpliesEq cmp → (old new : BTreeMap K K) (a b q v : K) → Updates cmp old new a (Some b) → get cmp old a
    ≡ None → get cmp old q ≡ Some v
    → get cmp new q ≡ Some v
kept cmp exact old new a b q v u none e =
    elim (cases_Bool (is_eq (cmp a q))) [
      | inl p ↦ none_some none (ap (λ x. get cmp old x) (tells_apart exact a q p) ∙ e)
      | inr p ↦ u.2 q p ∙ e
    ]

forth : {K : Type 0} (cmp : K → K → Ordering) → CmpEqualImpliesEq cmp → (there back there' back' : BTreeMap K K) (a b : K)
    → ((q v : K) → get cmp there q ≡ Some v → get cmp back v ≡ Some q) → get cmp back b ≡ None → Updates cmp there there' a (Some b) →
    Updates cmp back back' b (Some a)
    → (q v : K) → get cmp there' q ≡ Some v → get cmp back' v ≡ Some q
forth cmp exact there back there' back' a b before none u w q v e =
    elim (found cmp exact there there' a b q v u e) [
      | inl p ↦ ap (λ x. get cmp back' x) (sym p.1) ∙ w.1 ∙ ap Some p.0
      | inr p ↦ kept cmp exact back back' b a v q w none (before q v p)
    ]

-- a renaming that has the pair too
one_more : {K : Type 0} (cmp : K → K → Ordering) (o : IsTotalOrder cmp) (exact : CmpEqualImpliesEq cmp) (there back there' : BTreeMap K K) (a b : K) →
    IsSound cmp there back
    → get cmp there a ≡ None → get cmp back b ≡ None → Updates cmp there there' a (Some b) → (f : OneToOne K) → AgreesWithKnown cmp there f →
    AgreesWithKnown cmp there' (chained f (exchange cmp o exact (f.to a) b))
one_more cmp o exact there back there' a b s none none' u f carries q v e =
    elim (found cmp exact there there' a b q v u e) [
      | inl p ↦ ap (λ x. exchanged cmp (f.to a) b (f.to x)) (sym p.0) ∙ one cmp (f.to a) b (f.to a) (itself cmp o (f.to a)) ∙ p.1
      | inr p ↦ (let at = carries q v p in
          elim (cases_Bool (is_eq (cmp (f.to q) (f.to a)))) [
            | inl h ↦ none_some none (ap (λ x. get cmp there x) (sym (one_to_one f q a (tells_apart exact (f.to q) (f.to a) h))) ∙ p)
            | inr h ↦ elim (cases_Bool (is_eq (cmp (f.to q) b))) [
              | inl i ↦ none_some none' (ap (λ x. get cmp back x) (sym (tells_apart exact (f.to q) b i) ∙ at) ∙ s.forth q v p)
              | inr i ↦ neither cmp (f.to a) b (f.to q) h i ∙ at
            ]
          ])
    ]

pub joins_new : {K : Type 0} (cmp : K → K → Ordering) → IsTotalOrder cmp → CmpEqualImpliesEq cmp → (there back there' back' : BTreeMap K K) (a b : K) →
    IsSound cmp there back
    → get cmp there a ≡ None → get cmp back b ≡ None → Updates cmp there there' a (Some b) → Updates cmp back back' b (Some a) →
    JoinsNames cmp there there' back' (λ f. f.to a ≡ b) true
joins_new cmp o exact there back there' back' a b s none none' u w = record {
  sound = record {
    forth = forth cmp exact there back there' back' a b s.forth none' u w;
    return = λ q v. forth cmp exact back there back' there' b a (λ x y. s.return y x) none w u v q;
    some = (chained s.some.0 (exchange cmp o exact (s.some.0.to a) b), one_more cmp o exact there back there' a b s none none' u s.some.0 s.some.1);
  };
  learns = record {
    less = λ f carries q v p. carries q v (kept cmp exact there there' a b q v u none p);
    kept = λ f carries at q v p. elim (found cmp exact there there' a b q v u p) [
      | inl pair ↦ ap f.to (sym pair.0) ∙ at ∙ pair.1
      | inr before ↦ carries q v before
    ];
    said = λ e f carries. carries a b u.1;
    none = λ e. apart refl e;
  };
}

pub joins_taken : {K : Type 0} (cmp : K → K → Ordering) (there back : BTreeMap K K) (a b : K) → IsSound cmp there back → get cmp there a ≡ None →
    is_some (get cmp back b) ≡ true
    → JoinsNames cmp there there back (λ f. f.to a ≡ b) false
joins_taken cmp there back a b s none taken =
    let x = some_of (get cmp back b) taken in
    record {
      sound = s;
      learns = record {
        less = λ f p. p;
        kept = λ f p at. p;
        said = λ e. apart e refl;
        none = λ e f carries at. none_some none (ap (λ y. get cmp there y) (sym (one_to_one f x.0 a (carries x.0 b (s.return x.0 b x.1) ∙ sym at)))
            ∙ s.return x.0 b x.1);
      };
    }

none_found : {K : Type 0} (cmp : K → K → Ordering) (m : BTreeMap K K) (a : K) → IsEmpty m → get cmp m a ≡ None
none_found cmp m a e = rw e refl

pub sound_new : {K : Type 0} (cmp : K → K → Ordering) (there back : BTreeMap K K) → IsEmpty there → IsEmpty back → IsSound cmp there back
sound_new {K = K} cmp there back e f = record {
  forth = λ a b p. none_some (none_found cmp there a e) p;
  return = λ a b p. none_some (none_found cmp back b f) p;
  some = (identity K, λ a b p. none_some (none_found cmp there a e) p);
}

pub none_of : {K : Type 0} (o : Option K) → is_some o ≡ false → o ≡ None
none_of None e = refl
none_of (Some x) e = apart refl e

-- a name that was joined with itself first stands for itself
pub joined_itself : {K : Type 0} (cmp : K → K → Ordering) (old there back : BTreeMap K K) (a : K) (answer : Bool) → IsFresh cmp old →
    JoinsNames cmp old there back (λ f. f.to a ≡ a) answer
    → (f : OneToOne K) → AgreesWithKnown cmp there f → f.to a ≡ a
joined_itself {K = K} cmp old there back a answer fresh j f carries =
    elim (cases_Bool answer) [
      | inl e ↦ j.learns.said e f carries
      | inr e ↦ absurd (j.learns.none e (identity K) (λ x y p. none_some (fresh x) p) refl)
    ]
