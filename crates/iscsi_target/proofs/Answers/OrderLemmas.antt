-- What orders give and leave.
use Rattle.std.proofs.Common.{◌≡◌, ◌≤◌, inl, inr, ◌∙◌, ℕ, List, [], Bool, true, false, min, length, Option, Some, None, IsTrue, refl, sym, ap}
use Rattle.std.proofs.Common.{arith, ◌<◌, ◌^◌, unwrap_or}
use Rattle.std.specs.declared.alloc.AllocError.{AllocError}
use Rattle.std.specs.Prelude.{◌||◌, ◌&&◌, if◌then◌else◌, option_map, Result, Ok, Err, IfOk, OnErr}
use Rattle.std.proofs.lemmas.Bool.{cases_lt, false≢true}
use Rattle.std.proofs.lemmas.List.{length-take}
use Rattle.scsi_cdb.specs.declared.cdb.Cdb.{Cdb}
use Rattle.scsi_cdb.specs.declared.cdb.Cdb.TheVariants.{Read10, Read16}
use Rattle.scsi_cdb.specs.declared.sense.Sense.{Sense}
use Rattle.scsi_cdb.specs.declared.sense.Sense.TheVariants.{WriteProtected}
use Rattle.scsi_disk.specs.Disk.{Disk}
use Rattle.scsi_disk.specs.Deed.{writes}
use Rattle.scsi_disk.specs.declared.deed.Deed.{Deed}
use Rattle.scsi_disk.specs.Effect.{Effect, IsFailedTaking, OrderExecuted, StoreFailureLeaves, deed_failure, effect, guarded, wanted_data, outcome_by, outcome_taken, disk_by}
use Rattle.scsi_disk.specs.Plan.{plan_of, plan_by, first_refusal, is_read, is_write, is_unknown, taken_length, wanted_length, expected_length}
use Rattle.scsi_disk.proofs.GuardLemmas.{takes_none}
use Rattle.scsi_disk.specs.declared.order.Order.{Order}
use Rattle.scsi_disk.specs.declared.order.Outcome.{Outcome}
use Rattle.scsi_unit.specs.LogicalUnit.{LogicalUnit}
use Rattle.scsi_unit.specs.Telling.{outcome_with_unit, unit_outcome}
use Rattle.iscsi_target.specs.declared.due.Due.{Due}
use Rattle.iscsi_target.specs.Feed.{Store}
use Rattle.iscsi_target.specs.Advances.{store_of}
use Rattle.iscsi_target.specs.inner.Inside.{OrderLedTo}
use Rattle.scsi_disk.specs.Found.{IsFound}
use Rattle.scsi_disk.specs.declared.found.Found.{Found}
use Rattle.iscsi_target.specs.inner.Staged.{IsStaged, CountsR2ts}
use Rattle.scsi_disk.specs.declared.order.Plan.{Plan}
use Rattle.scsi_disk.specs.declared.order.Plan.TheVariants.{Refuse, Take, Give}

-- ---- a WRITE gives no bytes

taken_none : (reason : Option Sense) (order : Order) (n : ℕ) → (outcome_taken reason order n).bytes ≡ []
taken_none None order n = refl
taken_none (Some sense) order n = refl

none_by : (r : Option Sense) (disk : Disk) (order : Order) (bytes : List ℕ) → is_write order.cdb ≡ true
    → (outcome_by (plan_by r order disk.count) disk order bytes).bytes ≡ []
none_by (Some sense) disk order bytes e = refl
none_by None disk order bytes e = rw e (taken_none (deed_failure disk order bytes) order (taken_length order))

not_both : (c : Cdb) → IsTrue (is_read c) → is_write c ≡ true → ⊥
not_both (Read10 t) r w = false≢true w
not_both (Read16 t) r w = false≢true w
not_both _ r w = false≢true r

failed_taking : (tells : Bool) (order : Order) (n : ℕ) (outcome : Outcome) → IsFailedTaking tells order n outcome → outcome.bytes ≡ []
failed_taking tells order n outcome (inl is) = ap (λ (o : Outcome). o.bytes) is
failed_taking tells order n outcome (inr (inl read)) = ap (λ (o : Outcome). o.bytes) read.1
failed_taking tells order n outcome (inr (inr (t, inl good))) = ap (λ (o : Outcome). o.bytes) good
failed_taking tells order n outcome (inr (inr (t, inr other))) = ap (λ (o : Outcome). o.bytes) other.2

failed_none : (plan : Plan) (disk : Disk) (order : Order) (bytes : List ℕ) (after : Effect) → is_write order.cdb ≡ true
    → StoreFailureLeaves plan disk order bytes after →
    after.outcome.bytes ≡ []
failed_none (Refuse sense) disk order bytes after w f = absurd f
failed_none (Take n) disk order bytes after w f = failed_taking disk.tells order n after.outcome f.0
failed_none (Give n) disk order bytes after w f = absurd (not_both order.cdb f.1 w)

-- what a store that refuses writes gives in its place has no bytes
refused_none : (b : Bool) (n : ℕ) (disk : Disk) (order : Order) (bytes : List ℕ)
    → (outcome_by (if b then Refuse WriteProtected else Take n) disk order bytes).bytes ≡ []
refused_none true n disk order bytes = refl
refused_none false n disk order bytes = taken_none (deed_failure disk order bytes) order n

guarded_none : (protected : Bool) (plan : Plan) (disk : Disk) (order : Order) (bytes : List ℕ) → (outcome_by plan disk order bytes).bytes ≡ []
    → (outcome_by (guarded protected order.deed plan) disk order bytes).bytes ≡ []
guarded_none true (Refuse sense) disk order bytes e = e
guarded_none true (Give n) disk order bytes e = e
guarded_none true (Take n) disk order bytes e = refused_none (writes order.deed) n disk order bytes
guarded_none false plan disk order bytes e = e

pub write_gives_none : (protected : Bool) (fb fa : ℕ) (disk : Disk) (order : Order) (bytes : List ℕ) (after : Effect)
    → OrderExecuted protected fb fa disk order bytes after → is_write order.cdb
    ≡ true → after.outcome.bytes ≡ []
write_gives_none protected fb fa disk order bytes after x e =
    elim (cases_lt fb fa) [
      | inl lt ↦ failed_none (guarded protected order.deed (plan_of order disk.count)) disk order bytes after e (x.fails lt)
      | inr ge ↦ ap (λ (a : Effect). a.outcome.bytes) (x.works (omega (arith, ge, x.rises)))
          ∙ guarded_none protected (plan_of order disk.count) disk order bytes (none_by (first_refusal order disk.count) disk order bytes e)
    ]

-- ---- an order that takes no bytes

pub disk_kept : (plan : Plan) (disk : Disk) (order : Order) (bytes : List ℕ) → ((n : ℕ) → plan ≡ Take n → ⊥) → disk_by plan disk order bytes ≡ disk
disk_kept (Refuse sense) disk order bytes no_take = refl
disk_kept (Take n) disk order bytes no_take = absurd (no_take n refl)
disk_kept (Give n) disk order bytes no_take = refl

fails_keeps : (plan : Plan) (disk : Disk) (order : Order) (bytes : List ℕ) (after : Effect) → ((n : ℕ) → plan ≡ Take n → ⊥) →
    StoreFailureLeaves plan disk order bytes after → after.disk ≡ disk
fails_keeps (Refuse sense) disk order bytes after no_take f = absurd f
fails_keeps (Take n) disk order bytes after no_take f = absurd (no_take n refl)
fails_keeps (Give n) disk order bytes after no_take f = f.2

pub order_keeps : (protected : Bool) (fb fa : ℕ) (disk : Disk) (order : Order) (bytes : List ℕ) (after : Effect)
    → OrderExecuted protected fb fa disk order bytes after
    → ((n : ℕ) → plan_of order disk.count ≡ Take n → ⊥) → after.disk ≡ disk
order_keeps protected fb fa disk order bytes after x no_take =
    let none = takes_none protected order.deed (plan_of order disk.count) no_take in
    elim (cases_lt fb fa) [
      | inl lt ↦ fails_keeps (guarded protected order.deed (plan_of order disk.count)) disk order bytes after none (x.fails lt)
      | inr ge ↦ ap (λ (a : Effect). a.disk) (x.works (omega (arith, ge, x.rises)))
          ∙ disk_kept (guarded protected order.deed (plan_of order disk.count)) disk order bytes none
    ]

-- so does one whose result is this
pub result_keeps : (result : Result Outcome AllocError) (protected : Bool) (fb fa : ℕ) (disk now : Disk) (order : Order) (bytes : List ℕ)
    → IfOk result (λ o. OrderExecuted protected fb fa disk order bytes (record { disk = now; outcome = o })) → OnErr result (now ≡ disk)
    → ((n : ℕ) → plan_of order disk.count ≡ Take n → ⊥) → now ≡ disk
result_keeps (Ok o) protected fb fa disk now order bytes x same none =
    order_keeps protected fb fa disk order bytes (record { disk = now; outcome = o }) x none
result_keeps (Err f) protected fb fa disk now order bytes x same none = same

-- what the unit doesn't answer
untold : (unit : Option LogicalUnit) (count : ℕ) (order : Order) (outcome : Outcome) → ((u : LogicalUnit) → unit ≡ Some u → None ≡ unit_outcome u count order)
    → outcome ≡ outcome_with_unit unit count order outcome
untold None count order outcome none = refl
untold (Some u) count order outcome none = ap (λ (o : Option Outcome). unwrap_or o outcome) (none u refl)

-- ---- no more bytes than are expected

pub expected_by : (b : Bool) (n : ℕ) → (if b then n else 0) ≤ n
expected_by true n = omega arith
expected_by false n = omega arith

expected_most : (order : Order) → expected_length order ≤ order.expected
expected_most order = expected_by (order.read || (order.write && (is_write order.cdb || is_unknown order.cdb))) order.expected

given_by : (w : Bool) (n : ℕ) (disk : Disk) (order : Order) (bytes : List ℕ) → length (outcome_by
    (if w then Take n else Give (min (wanted_length order disk.count) (expected_length order))) disk order bytes).bytes ≤ order.expected
given_by true n disk order bytes = omega (arith, ap length (taken_none (deed_failure disk order bytes) order n))
given_by false n disk order bytes = omega (
  arith,
  length-take (min (wanted_length order disk.count) (expected_length order)) (wanted_data disk order),
  expected_most order,
)

-- n bytes a plan gives at most
abbrev given : Plan → ℕ
given (Give n) = n
given _ = 0

failed_most : (plan : Plan) (disk : Disk) (order : Order) (bytes : List ℕ) (after : Effect) → StoreFailureLeaves plan disk order bytes after
    → length after.outcome.bytes ≤ given plan
failed_most (Refuse sense) disk order bytes after f = absurd f
failed_most (Take n) disk order bytes after f = omega (arith, ap length (failed_taking disk.tells order n after.outcome f.0))
failed_most (Give n) disk order bytes after (inl is, reads, same) = omega (arith, ap (λ (o : Outcome). length o.bytes) is)
failed_most (Give n) disk order bytes after (inr other, reads, same) =
    let given_bytes = other.1 in omega (arith, ap (λ (o : Outcome). length o.bytes) given_bytes.2, given_bytes.1)

limit_by : (w : Bool) (n : ℕ) (disk : Disk) (order : Order)
    → given (if w then Take n else Give (min (wanted_length order disk.count) (expected_length order))) ≤ order.expected
limit_by true n disk order = omega arith
limit_by false n disk order = omega (arith, expected_most order)

limit : (r : Option Sense) (disk : Disk) (order : Order) → given (plan_by r order disk.count) ≤ order.expected
limit (Some sense) disk order = omega arith
limit None disk order = limit_by (is_write order.cdb) (taken_length order) disk order

given_most_by : (r : Option Sense) (disk : Disk) (order : Order) (bytes : List ℕ)
    → length (outcome_by (plan_by r order disk.count) disk order bytes).bytes ≤ order.expected
given_most_by (Some sense) disk order bytes = omega arith
given_most_by None disk order bytes = given_by (is_write order.cdb) (taken_length order) disk order bytes

refused_given : (b : Bool) (k n : ℕ) → given (if b then Refuse WriteProtected else Take k) ≤ n
refused_given true k n = omega arith
refused_given false k n = omega arith

guarded_given : (protected : Bool) (deed : Deed) (plan : Plan) (n : ℕ) → given plan ≤ n → given (guarded protected deed plan) ≤ n
guarded_given true deed (Refuse sense) n e = e
guarded_given true deed (Give k) n e = e
guarded_given true deed (Take k) n e = refused_given (writes deed) k n
guarded_given false deed plan n e = e

guarded_most : (protected : Bool) (plan : Plan) (disk : Disk) (order : Order) (bytes : List ℕ) (n : ℕ)
    → length (outcome_by plan disk order bytes).bytes ≤ n
    → length (outcome_by (guarded protected order.deed plan) disk order bytes).bytes ≤ n
guarded_most true (Refuse sense) disk order bytes n e = e
guarded_most true (Give k) disk order bytes n e = e
guarded_most true (Take k) disk order bytes n e = omega (arith, ap length (refused_none (writes order.deed) k disk order bytes))
guarded_most false plan disk order bytes n e = e

pub given_most : (protected : Bool) (fb fa : ℕ) (disk : Disk) (order : Order) (bytes : List ℕ) (after : Effect)
    → OrderExecuted protected fb fa disk order bytes after →
    length after.outcome.bytes ≤ order.expected
given_most protected fb fa disk order bytes after x =
    elim (cases_lt fb fa) [
      | inl lt ↦ omega (
        arith,
        failed_most (guarded protected order.deed (plan_of order disk.count)) disk order bytes after (x.fails lt),
        guarded_given protected order.deed (plan_of order disk.count) order.expected (limit (first_refusal order disk.count) disk order),
      )
      | inr ge ↦ omega (
        arith,
        ap (λ (a : Effect). length a.outcome.bytes) (x.works (omega (arith, ge, x.rises))),
        guarded_most protected (plan_of order disk.count) disk order bytes order.expected (given_most_by (first_refusal order disk.count) disk order bytes),
      )
    ]

-- ---- what a plan to take bytes says

pub takes_is : (r : Option Sense) (order : Order) (n count : ℕ) → plan_by r order count ≡ Take n → (is_write order.cdb ≡ true)
    × (n ≡ taken_length order)
takes_is (Some sense) order n count e = absurd cc
takes_is None order n count e = takes_by (is_write order.cdb) order n count refl e
  where
    takes_by : (w : Bool) (order : Order) (n count : ℕ) → is_write order.cdb ≡ w →
        (if w then Take (taken_length order) else Give (min (wanted_length order count) (expected_length order))) ≡ Take n
        → (is_write order.cdb ≡ true) × (n ≡ taken_length order)
    takes_by true order n count is e = (is, cc)
    takes_by false order n count is e = absurd cc

pub staged_at : (order : Order) (found : Found) (total : ℕ) (bytes : List ℕ) (due : Due) → is_write order.cdb ≡ true → IsFound order found → total
    ≡ taken_length order → length bytes ≤ total → CountsR2ts total (length bytes) 0 due
    → IsStaged order found total bytes due 0
staged_at order found total bytes due w f t fits asked = record { is_write = w; found_is = f; total_is = t; fits = fits; counted_r2ts = asked }

-- ---- what the disk tells of itself

-- an order that the unit answers leaves store and disk as they are
pub told_leads : (protected : Bool) (unit : LogicalUnit) (order : Order) (disk : Disk) (failures : ℕ) (outcome : Outcome)
    → ((n : ℕ) → plan_of order disk.count ≡ Take n → ⊥) → Some outcome ≡ unit_outcome unit disk.count order → length outcome.bytes ≤ 664
    → OrderLedTo protected (Some unit) order (store_of disk failures) (store_of disk failures) outcome
told_leads protected unit order disk failures outcome no_take is few = record {
  given = (effect protected disk order []).outcome;
  executes = record {
    rises = omega arith;
    works = λ same. (let kept = disk_kept (guarded protected order.deed (plan_of order disk.count)) disk order []
        (takes_none protected order.deed (plan_of order disk.count) no_take) in
        λ i. record { disk = sym kept i; outcome = (effect protected disk order []).outcome });
    fails = λ lt. absurd (omega (arith, lt));
  };
  is = ap (λ (o : Option Outcome). unwrap_or o (effect protected disk order []).outcome) is;
  few = omega (arith, few);
}

-- an order that it doesn't answer has the outcome that the store gives
untold_leads : (protected : Bool) (unit : Option LogicalUnit) (order : Order) (before after : Store) (outcome : Outcome)
    → order.expected < 2 ^ 32 → ((u : LogicalUnit) → unit ≡ Some u → None ≡ unit_outcome u before.disk.count order)
    → OrderExecuted protected before.failures after.failures before.disk order [] (record { disk = after.disk; outcome = outcome })
    → OrderLedTo protected unit order before after outcome
untold_leads protected unit order before after outcome fits none x = record {
  given = outcome;
  executes = x;
  is = untold unit before.disk.count order outcome none;
  few = omega (
    arith,
    fits,
    given_most protected before.failures after.failures before.disk order [] (record { disk = after.disk; outcome = outcome }) x,
  );
}

pub untold_ok : {E : Type 0} (protected : Bool) (unit : Option LogicalUnit) (order : Order) (before after : Store) (r : Result Outcome E)
    → order.expected < 2 ^ 32 → ((u : LogicalUnit) → unit ≡ Some u → None ≡ unit_outcome u before.disk.count order)
    → IfOk r (λ outcome. OrderExecuted protected before.failures after.failures before.disk order [] (record { disk = after.disk; outcome = outcome }))
    → IfOk r (OrderLedTo protected unit order before after)
untold_ok protected unit order before after (Ok outcome) fits none x = untold_leads protected unit order before after outcome fits none x
untold_ok protected unit order before after (Err e) fits none x = tt

-- the unit of which a reference is held
pub held_unit : {A : Type 0} (f : A → LogicalUnit) (o : Option A) (x : A) (unit : Option LogicalUnit) → o ≡ Some x → option_map f o ≡ unit → Some (f x) ≡ unit
held_unit {A = A} f o x unit e is = ap (λ (p : Option A). option_map f p) (sym e) ∙ is

-- none is held
pub held_none : {A : Type 0} (f : A → LogicalUnit) (o : Option A) (unit : Option LogicalUnit) (u : LogicalUnit) → o ≡ None → option_map f o ≡ unit
    → unit ≡ Some u → ⊥
held_none {A = A} f o unit u e is some = absurd (let apart : None ≡ Some u = ap (λ (p : Option A). option_map f p) (sym e) ∙ is ∙ some in cc)

-- the unit that is held doesn't answer
pub none_said : (o : Option Outcome) (a u : LogicalUnit) (count : ℕ) (order : Order) (unit : Option LogicalUnit) → o ≡ None → o ≡ unit_outcome a count order
    → Some a ≡ unit → unit ≡ Some u → None ≡ unit_outcome u count order
none_said o a u count order unit none told is some =
    sym none ∙ told ∙ ap (λ (x : LogicalUnit). unit_outcome x count order) (ap (λ (p : Option LogicalUnit). unwrap_or p a) (is ∙ some))
