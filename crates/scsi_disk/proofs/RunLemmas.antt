-- Runs of orders: one order more, and runs in which no failure was counted.
use Rattle.std.proofs.Common.{Bool, ◌≡◌, ℕ, ◌+◌, ◌<◌, ◌≤◌, List, [], ◌∷◌, ◌++◌, length, take, get_or, refl, sym, ◌∙◌, ap, arith, Result, Ok, Err, OnErr}
use Rattle.std.proofs.lemmas.List.{take_more}
use Rattle.scsi_disk.specs.declared.order.Outcome.{Outcome}
use Rattle.scsi_disk.specs.Disk.{Disk}
use Rattle.scsi_disk.specs.Effect.{Effect, OrderExecuted, effect}
use Rattle.scsi_disk.specs.Runs.{Supplied, OrdersRun, disk_after, outcomes}

pub on_err : {T E P : Type 0} (r : Result T E) → P → OnErr r P
on_err (Ok x) p = tt
on_err (Err e) p = p

pub ran_none : (protected : Bool) (count : ℕ) (disk : Disk) (told : List Outcome) → told ≡ [] → OrdersRun protected count disk [] count disk told
unfolding OrdersRun
ran_none protected count disk told none = (refl, refl, none)

-- a run, and one order behind it
ran_then : (protected : Bool) (orders : List Supplied) (o : Supplied) (before now after : ℕ) (start disk : Disk) (told : List Outcome) (left : Effect)
    → OrdersRun protected before start orders now disk told → OrderExecuted protected now after disk o.0 o.1 left →
    OrdersRun protected before start (orders ++ o ∷ []) after left.disk (told ++ left.outcome ∷ [])
unfolding OrdersRun
ran_then protected [] o before now after start disk told left ran done =
    (after, left, [], rw (← ran.0, ← ran.1) done, (refl, refl, refl), ap (λ t. t ++ left.outcome ∷ []) ran.2)
ran_then protected (x ∷ orders) o before now after start disk told left ran done = (
  ran.0,
  ran.1,
  ran.2 ++ left.outcome ∷ [],
  ran.3,
  ran_then protected orders o ran.0 now after ran.1.disk disk ran.2 left ran.4 done,
  ap (λ t. t ++ left.outcome ∷ []) ran.5,
)

-- a run of some first orders, and the next
pub ran_next : (protected : Bool) (orders : List Supplied) (i : ℕ) (o : Supplied) → i < length orders → o ≡ get_or orders i o
    → (before now after : ℕ) (start disk : Disk) (told : List Outcome) (left : Effect)
    → OrdersRun protected before start (take i orders) now disk told → OrderExecuted protected now after disk o.0 o.1 left →
    OrdersRun protected before start (take (i + 1) orders) after left.disk (told ++ left.outcome ∷ [])
ran_next protected orders i o here is before now after start disk told left ran done =
    let more : take (i + 1) orders ≡ take i orders ++ o ∷ [] = take_more orders i o here ∙ ap (λ y. take i orders ++ y ∷ []) (sym is) in
    rw more (ran_then protected (take i orders) o before now after start disk told left ran done)

pub ran_rises : (protected : Bool) (orders : List Supplied) (before after : ℕ) (disk last : Disk) (told : List Outcome)
    → OrdersRun protected before disk orders after last told → before
    ≤ after
unfolding OrdersRun
ran_rises protected [] before after disk last told ran = let same = ran.0 in omega arith
ran_rises protected (o ∷ orders) before after disk last told ran =
    let low = ran.3.rises in
    let high = ran_rises protected orders ran.0 after ran.1.disk last ran.2 ran.4 in
    omega arith

-- the first of some orders, where no failure was counted
ran_first : (protected : Bool) (o : Supplied) (orders : List Supplied) (before now after : ℕ) (disk last : Disk) (left : Effect) (more : List Outcome)
    → OrderExecuted protected before now disk o.0 o.1 left → OrdersRun protected now left.disk orders after last more → after ≡ before → (now ≡ before)
    × (left ≡ effect protected disk o.0 o.1)
ran_first protected o orders before now after disk last left more done ran same =
    let low = done.rises in
    let high = ran_rises protected orders now after left.disk last more ran in
    let stayed : now ≡ before = omega arith in
    (stayed, done.works stayed)

pub ran_outcomes : (protected : Bool) (orders : List Supplied) (before after : ℕ) (disk last : Disk) (told : List Outcome) → after ≡ before →
    OrdersRun protected before disk orders after last told → told ≡ outcomes protected orders disk
unfolding OrdersRun outcomes
ran_outcomes protected [] before after disk last told same ran = ran.2
ran_outcomes protected (o ∷ orders) before after disk last told same ran =
    let first = ran_first protected o orders before ran.0 after disk last ran.1 ran.2 ran.3 ran.4 same in
    ran.5 ∙ ap (λ t. ran.1.outcome ∷ t) (ran_outcomes protected orders ran.0 after ran.1.disk last ran.2 (same ∙ sym first.0) ran.4)
    ∙ ap (λ (left : Effect). left.outcome ∷ outcomes protected orders left.disk) first.1

pub ran_disk : (protected : Bool) (orders : List Supplied) (before after : ℕ) (disk last : Disk) (told : List Outcome) → after ≡ before
    → OrdersRun protected before disk orders after last told
    → last ≡ disk_after protected orders disk
unfolding OrdersRun disk_after
ran_disk protected [] before after disk last told same ran = ran.1
ran_disk protected (o ∷ orders) before after disk last told same ran =
    let first = ran_first protected o orders before ran.0 after disk last ran.1 ran.2 ran.3 ran.4 same in
    ran_disk protected orders ran.0 after ran.1.disk last ran.2 (same ∙ sym first.0) ran.4
    ∙ ap (λ (left : Effect). disk_after protected orders left.disk) first.1
