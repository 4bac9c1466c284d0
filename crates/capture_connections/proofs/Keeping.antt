-- Connections of which directions were given up.
use Rattle.std.proofs.Common.{◌≡◌, ◌<◌, unwrap_or, ℕ, zero, suc, List, [], ◌∷◌, set, refl, sym, ap, subst, ◌∙◌, arith, inl, inr}
use Rattle.std.specs.Prelude.{slice_get, Option, Some, None}
use Rattle.capture_connections.specs.declared.connections.Connection.{Connection}
use Rattle.capture_connections.specs.declared.half.Half.{Half}
use Rattle.capture_connections.specs.Following.{KeepsConnection, KeepsConnections, KeepsConnectionAt, MayEnd, direction_given_up}

pub may_stay : (half : Half) → MayEnd half half
may_stay half = inl refl

pub may_end : (old new : Half) → 0 < old.waiting → new ≡ direction_given_up old → MayEnd old new
may_end old new some is = inr (some, is)

may_then : (a b c : Half) → MayEnd a b → MayEnd b c → MayEnd a c
may_then a b c (inl p) q = subst (λ (x : Half). MayEnd x c) p q
may_then a b c (inr p) (inl q) = inr (p.0, q ∙ p.1)
may_then a b c (inr p) (inr q) = absurd (omega (arith, q.0, ap (λ (x : Half). x.waiting) p.1))

keeps_self : (c : Connection) → KeepsConnection c c
keeps_self c = record { ends = refl; first = refl; opener = refl; lower = inl refl; upper = inl refl }

at_self : (c : Option Connection) → KeepsConnectionAt c c
at_self None = tt
at_self (Some c) = keeps_self c

pub keeps_same : (list : List Connection) → KeepsConnections list list
keeps_same list k = at_self (slice_get list k)

at_then : (a b c : Option Connection) → KeepsConnectionAt a b → KeepsConnectionAt b c → KeepsConnectionAt a c
at_then None None None p q = tt
at_then None None (Some c) p q = absurd q
at_then None (Some b) c p q = absurd p
at_then (Some a) None c p q = absurd p
at_then (Some a) (Some b) None p q = absurd q
at_then (Some a) (Some b) (Some c) p q = record {
  ends = q.ends ∙ p.ends;
  first = q.first ∙ p.first;
  opener = q.opener ∙ p.opener;
  lower = may_then a.lower b.lower c.lower p.lower q.lower;
  upper = may_then a.upper b.upper c.upper p.upper q.upper;
}

pub keeps_then : (a b c : List Connection) → KeepsConnections a b → KeepsConnections b c → KeepsConnections a c
keeps_then a b c p q k = at_then (slice_get a k) (slice_get b k) (slice_get c k) (p k) (q k)

pub keeps_one : (list : List Connection) (n : ℕ) (old new : Connection) → slice_get list n ≡ Some old
    → KeepsConnection old new → KeepsConnections list (set list n new)
keeps_one [] n old new is keeps k = tt
keeps_one (c ∷ list) zero old new is keeps zero =
    let e : c ≡ old = ap (λ (x : Option Connection). unwrap_or x c) is in
    subst (λ (x : Connection). KeepsConnection x new) (sym e) keeps
keeps_one (c ∷ list) zero old new is keeps (suc k) = at_self (slice_get list k)
keeps_one (c ∷ list) (suc n) old new is keeps zero = keeps_self c
keeps_one (c ∷ list) (suc n) old new is keeps (suc k) = keeps_one list n old new is keeps k
