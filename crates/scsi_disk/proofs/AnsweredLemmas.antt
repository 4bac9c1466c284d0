-- From what a store answered to what a command answers.
use Rattle.std.proofs.Common.{◌≡◌, ◌<◌, ℕ, List, Bool, true, false, Result, Ok, IsErrOf, refl, sym, ap, ◌∙◌, subst}
use Rattle.std.proofs.Common.{arith}
use Rattle.std.specs.Prelude.{◌&&◌}
use Rattle.scsi_disk.specs.declared.order.Order.{Order}
use Rattle.scsi_disk.specs.declared.order.Outcome.{Outcome}
use Rattle.scsi_disk.specs.declared.order.Plan.{Plan}
use Rattle.scsi_disk.specs.declared.order.Plan.TheVariants.{Give, Take}
use Rattle.scsi_disk.specs.declared.store.StoreFault.{StoreFault}
use Rattle.scsi_disk.specs.declared.store.StoreFault.TheVariants.{Device}
use Rattle.scsi_disk.specs.Disk.{Disk, StoreTellsFailures}
use Rattle.scsi_disk.specs.Deed.{writes}
use Rattle.scsi_disk.specs.declared.deed.Deed.{Deed}
use Rattle.scsi_disk.specs.inner.Taken.{IsTakenBy}
use Rattle.scsi_disk.specs.Plan.{plan_of, taken_length}
use Rattle.scsi_disk.specs.Effect.{Effect, OrderExecuted, StoreFailureLeaves, effect, disk_by, guarded, outcome_by}

-- a failure was counted and not told, so that the store does not tell each
pub does_not_tell : {T : Type 0} (tells : Bool) (before after ub ua : ℕ) (result : Result T StoreFault) → StoreTellsFailures tells before after ub ua result
    → before < after
    → (IsErrOf result Device → ⊥) → tells ≡ false
does_not_tell true before after ub ua result t rose not = (let none = t.honest refl in absurd (not (t.told (omega (arith, none, rose)))))
does_not_tell false before after ub ua result t rose not = refl

pub not_err : {T : Type 0} (x : T) → IsErrOf (Ok x) Device → ⊥
not_err x e = cc

module _ (protected : Bool) (before after ub ua : ℕ) (disk now : Disk) (order : Order) (bytes : List ℕ) (length : ℕ) where
  abbrev pub at : Outcome → Effect
  at o = record { disk = now; outcome = o }

  -- ---- a plan to give

  module _ (plan : guarded protected order.deed (plan_of order disk.count) ≡ Give length) (same : now ≡ disk) where
    pub worked : (o : Outcome) → o ≡ outcome_by (Give length) disk order bytes → at o ≡ effect protected disk order bytes
    worked o e =
        ap (λ (d : Disk). record { disk = d; outcome = o }) same
        ∙ ap (λ (x : Outcome). record { disk = disk; outcome = x }) e
        ∙ ap (λ (p : Plan). record { disk = disk_by p disk order bytes; outcome = outcome_by p disk order bytes }) (sym plan)

    pub failed : (o : Outcome) → StoreFailureLeaves (Give length) disk order bytes (at o)
        → StoreFailureLeaves (guarded protected order.deed (plan_of order disk.count)) disk order bytes (at o)
    failed o f = subst (λ (p : Plan). StoreFailureLeaves p disk order bytes (at o)) (sym plan) f

-- ---- a plan to take

let_by : (protected : Bool) (deed : Deed) (n : ℕ) (b : Bool) → writes deed ≡ b → (b && protected) ≡ false → guarded protected deed (Take n) ≡ Take n
let_by true deed n true w e = absurd (let h : true ≡ false = e in cc)
let_by true deed n false w e = rw w refl
let_by false deed n b w e = refl

-- what was done is what comes of the order, where the store takes what it writes
pub taken_executed : (protected : Bool) (before after : ℕ) (disk : Disk) (order : Order) (bytes : List ℕ) (left : Effect)
    → plan_of order disk.count ≡ Take (taken_length order) → (writes order.deed && protected) ≡ false
    → IsTakenBy before after disk order bytes left → OrderExecuted protected before after disk order bytes left
taken_executed protected before after disk order bytes left plan takes x =
    let guard : guarded protected order.deed (plan_of order disk.count) ≡ Take (taken_length order) =
    ap (guarded protected order.deed) plan ∙ let_by protected order.deed (taken_length order) (writes order.deed) refl takes in
    record {
      rises = x.rises;
      works = λ same. x.works same
          ∙ ap (λ (p : Plan). record { disk = disk_by p disk order bytes; outcome = outcome_by p disk order bytes }) (sym guard);
      fails = λ rose. subst (λ (p : Plan). StoreFailureLeaves p disk order bytes left) (sym guard) (x.fails rose);
    }
