-- What is known of an order that is planned to take or to give.
use Rattle.std.proofs.Common.{◌≡◌, ℕ, zero, suc, ◌+◌, ◌-◌, ◌*◌, ◌/◌, ◌<◌, ◌≤◌, Bool, true, false, cond, min, List, [], ◌∷◌, ◌++◌, length, take, Option, Some}
use Rattle.std.proofs.Common.{None, refl, sym, ◌∙◌, ap, arith, zero-add, add-zero}
use Rattle.std.proofs.lemmas.List.{append_assoc, take-append-le, length-append, length-take}
use Rattle.std.specs.List.{AllByRecursion}
use Rattle.std.specs.Prelude.{not, ◌==◌, ◌&&◌, ◌||◌, nat_lt, bit_and, is_none}
use borrow.Author.Tests.{ltb-false}
use Rattle.scsi_cdb.specs.declared.sense.Sense.{Sense}
use Rattle.scsi_disk.specs.declared.order.Order.{Order}
use Rattle.scsi_disk.specs.declared.order.Plan.TheVariants.{Refuse, Take, Give}
use Rattle.scsi_disk.specs.Disk.{Disk, IsDisk, joined_blocks, blocks_from}
use Rattle.scsi_disk.specs.declared.reading.BlockRange.{BlockRange}
use Rattle.scsi_disk.specs.Effect.{good_outcome, outcome_by, wanted_data}
use Rattle.scsi_disk.specs.Deed.{is_twofold}
use Rattle.scsi_disk.specs.Found.{NamesFewBlocks}
use Rattle.scsi_disk.specs.Plan.{named_transfer, synchronized, parameter_data, taken_length, is_unknown, is_standard_inquiry, is_write, is_read, first_reason, refusals, first_refusal, plan_by, plan_of, wanted_length, expected_length}

-- where nothing is refused, each test was false
pub all_false : {A : Type 0} (rows : List (Bool × A)) → first_reason rows ≡ None → AllByRecursion (λ row. row.0 ≡ false) rows
all_false [] e = tt
all_false ((true, reason) ∷ rows) e = absurd (let h : Some reason ≡ None = e in cc)
all_false ((false, reason) ∷ rows) e = (refl, all_false rows e)

-- the blocks that an order names are inside the disk, and few
pub record NamesBlocks (order : Order) (blocks : ℕ) : Type 0 where
  pub few : (named_transfer order.cdb).count ≤ 8192
  pub inside : (named_transfer order.cdb).first + (named_transfer order.cdb).count ≤ blocks

-- no reason to refuse an order holds
pub record NotRefused (order : Order) (blocks : ℕ) : Type 0 where
  pub known : is_unknown order.cdb ≡ false
  pub has_unit : (not (order.lun == 0) && not (is_standard_inquiry order.cdb)) ≡ false
  pub one_way : (order.read && order.write) ≡ false
  pub takes_data : (order.write && not (is_write order.cdb)) ≡ false
  pub unprotected : not (bit_and (named_transfer order.cdb).options 0xe0 == 0) ≡ false
  pub has_data : is_none (parameter_data order blocks) ≡ false
  pub few : nat_lt 8192 (named_transfer order.cdb).count ≡ false
  pub once : (is_twofold order.deed && nat_lt 1 (named_transfer order.cdb).count) ≡ false
  pub inside : nat_lt blocks ((named_transfer order.cdb).first + (named_transfer order.cdb).count) ≡ false
  pub expects_all : (is_write order.cdb && not (order.expected == taken_length order)) ≡ false
  pub sends_some : (is_write order.cdb && not order.write && nat_lt 0 (taken_length order)) ≡ false
  pub flushes_inside : nat_lt blocks ((synchronized order.cdb).first + (synchronized order.cdb).count) ≡ false

pub none_refused : (order : Order) (blocks : ℕ) → first_refusal order blocks ≡ None → NotRefused order blocks
none_refused order blocks none =
    let t = all_false (refusals order blocks) none in
    let later = t.1.1.1.1.1 in
    record {
      known = t.0;
      has_unit = t.1.0;
      one_way = t.1.1.0;
      takes_data = t.1.1.1.0;
      unprotected = t.1.1.1.1.0;
      has_data = later.0;
      few = later.1.0;
      once = later.1.1.0;
      inside = later.1.1.1.0;
      expects_all = later.1.1.1.1.0;
      sends_some = later.1.1.1.1.1.0;
      flushes_inside = later.1.1.1.1.1.1.0;
    }

pub unrefused : (order : Order) (blocks : ℕ) → first_refusal order blocks ≡ None → NamesBlocks order blocks
unrefused order blocks e =
    let none = none_refused order blocks e in
    record { few = ltb-false _ _ none.few; inside = ltb-false _ _ none.inside }

pub record IsTaken (order : Order) (blocks n : ℕ) : Type 0 where
  pub names : NamesBlocks order blocks
  pub length : n ≡ taken_length order

pub record IsGiven (order : Order) (blocks n : ℕ) : Type 0 where
  pub names : NamesBlocks order blocks
  pub most : n ≤ wanted_length order blocks

taken_by : (order : Order) (blocks n : ℕ) (r : Option Sense) → first_refusal order blocks ≡ r → plan_by r order blocks ≡ Take n → IsTaken order blocks n
taken_by order blocks n (Some sense) e p = absurd (let h : Refuse sense ≡ Take n = p in cc)
taken_by order blocks n None e p = record {
  names = unrefused order blocks e;
  length = elim (is_write order.cdb) as (λ b. cond b (Take (taken_length order)) (Give (min (wanted_length order blocks) (expected_length order)))
      ≡ Take n → n ≡ taken_length order) [
        | true ↦ λ h. cc
        | false ↦ λ h. cc
      ] p;
}

pub taken : (order : Order) (blocks n : ℕ) → plan_of order blocks ≡ Take n → IsTaken order blocks n
taken order blocks n p = taken_by order blocks n (first_refusal order blocks) refl p

given_by : (order : Order) (blocks n : ℕ) (r : Option Sense) → first_refusal order blocks ≡ r → plan_by r order blocks ≡ Give n → IsGiven order blocks n
given_by order blocks n (Some sense) e p = absurd (let h : Refuse sense ≡ Give n = p in cc)
given_by order blocks n None e p = record {
  names = unrefused order blocks e;
  most = elim (is_write order.cdb) as (λ b. cond b (Take (taken_length order)) (Give (min (wanted_length order blocks) (expected_length order)))
      ≡ Give n → n ≤ wanted_length order blocks) [
        | true ↦ λ h. cc
        | false ↦ λ h. let least : min (wanted_length order blocks) (expected_length order) ≡ n = cc in omega arith
      ] p;
}

pub given : (order : Order) (blocks n : ℕ) → plan_of order blocks ≡ Give n → IsGiven order blocks n
given order blocks n p = given_by order blocks n (first_refusal order blocks) refl p

none_if : (order : Order) (blocks : ℕ) (r : Option Sense) → first_refusal order blocks ≡ r → ((sense : Sense) → plan_of order blocks ≡ Refuse sense → ⊥) → r
    ≡ None
none_if order blocks None e none = refl
none_if order blocks (Some sense) e none = absurd (none sense (ap (λ (r : Option Sense). plan_by r order blocks) e))

-- where the plan is no refusal, there is no reason for one
pub not_refused : (order : Order) (blocks : ℕ) → ((sense : Sense) → plan_of order blocks ≡ Refuse sense → ⊥) → first_refusal order blocks ≡ None
not_refused order blocks none = none_if order blocks (first_refusal order blocks) refl none

-- ---- the front of some blocks

pub joined-add : (block : ℕ → List ℕ) (first c d : ℕ) → joined_blocks block first (c + d) ≡ joined_blocks block first c ++ joined_blocks block (first + c) d
unfolding joined_blocks
joined-add block first zero d = ap (joined_blocks block first) (zero-add d) ∙ ap (λ k. joined_blocks block k d) (sym (add-zero first))
joined-add block first (suc c) d =
    let more : suc c + d ≡ suc (c + d) = omega arith in
    let next : first + 1 + c ≡ first + suc c = omega arith in
    ap (joined_blocks block first) more ∙ ap (λ t. block first ++ t) (joined-add block (first + 1) c d
    ∙ ap (λ k. joined_blocks block (first + 1) c ++ joined_blocks block k d) next)
    ∙ sym (append_assoc (block first) (joined_blocks block (first + 1) c) (joined_blocks block (first + suc c) d))

pub length-joined : (size : ℕ) (block : ℕ → List ℕ) (first c : ℕ) → ((n : ℕ) → first ≤ n → n < first + c → length (block n) ≡ size)
    → length (joined_blocks block first c) ≡ size * c
unfolding joined_blocks
length-joined size block first zero h = let e : 0 ≡ size * zero = omega arith in e
length-joined size block first (suc c) h =
    let rest = length-joined size block (first + 1) c (λ n low high. h n (omega arith) (omega arith)) in
    let here = h first (omega arith) (omega arith) in
    length-append (block first) (joined_blocks block (first + 1) c) ∙ (let e : length (block first) + length (joined_blocks block (first + 1) c)
    ≡ size * suc c = omega arith in e)

-- a front needs only the blocks that have it
front_of : (block : ℕ → List ℕ) (first few count n : ℕ) → few ≤ count → n ≤ length (joined_blocks block first few) → take n (joined_blocks block first few)
    ≡ take n (joined_blocks block first count)
front_of block first few count n less covers =
    let all : few + (count - few) ≡ count = omega (arith, less) in
    sym (ap (λ k. take n (joined_blocks block first k)) (sym all) ∙ ap (take n) (joined-add block first few (count - few))
    ∙ take-append-le n (joined_blocks block first few) (joined_blocks block (first + few) (count - few)) covers)

-- a front needs only the blocks that it reaches into
pub front-joined : (disk : Disk) (first count n : ℕ) → IsDisk disk → first + count ≤ disk.count → n ≤ 512 * count
    → take n (joined_blocks disk.block first ((n + 511) / 512)) ≡ take n (joined_blocks disk.block first count)
front-joined disk first count n is inside fits =
    let c = (n + 511) / 512 in
    let few : (n + 511) / 512 ≤ count = omega arith in
    let long = length-joined 512 disk.block first ((n + 511) / 512) (λ k low high. is.inside k (omega arith)) in
    front_of disk.block first ((n + 511) / 512) count n few (omega arith)

-- what a READ gives is the front of the blocks that it names
pub read_gives : (disk : Disk) (order : Order) (n : ℕ) → IsDisk disk → plan_of order disk.count ≡ Give n → is_read order.cdb ≡ true
    → take n (blocks_from disk (named_transfer order.cdb).first ((n + 511) / 512)) ≡ take n (wanted_data disk order)
read_gives disk order n is p reads =
    let facts = given order disk.count n p in
    let most : n ≤ 512 * (named_transfer order.cdb).count = rw reads at facts.most in
    rw reads (front-joined disk (named_transfer order.cdb).first (named_transfer order.cdb).count n is facts.names.inside most)

-- a READ of these blocks would give them
pub read_wants : (order : Order) (blocks : ℕ) (range : BlockRange) → is_read order.cdb ≡ true → NamesFewBlocks order blocks range → wanted_length order
    blocks ≡ 512 * range.count
read_wants order blocks range reads names = rw reads (ap (λ n. 512 * n) (sym names.count))

-- and the front of them is what it gives
pub gives_front : (disk : Disk) (order : Order) (range : BlockRange) (n : ℕ) (bytes : List ℕ) → is_read order.cdb ≡ true → NamesFewBlocks order disk.count
    range → n ≤ 512 * range.count
    → length bytes ≡ n → bytes ≡ take n (blocks_from disk range.first ((n + 511) / 512)) → good_outcome order (512 * range.count) bytes
    ≡ outcome_by (Give n) disk order []
gives_front disk order range n bytes reads names most size is =
    let named = named_transfer order.cdb in
    let few : (n + 511) / 512 ≤ named.count = omega (arith, names.count, most) in
    let covers : n ≤ length (blocks_from disk range.first ((n + 511) / 512)) =
    omega (arith, length-take n (blocks_from disk range.first ((n + 511) / 512)), ap length is, size) in
    ap (good_outcome order (512 * range.count)) is
    ∙ rw (reads, names.first, names.count) (ap (good_outcome order (512 * named.count))
    (front_of disk.block named.first ((n + 511) / 512) named.count n few (rw names.first at covers)))
