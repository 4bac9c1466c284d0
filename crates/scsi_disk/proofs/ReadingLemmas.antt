-- READs whose data a caller takes from the store itself.
use Rattle.std.proofs.Common.{◌≡◌, ◌<◌, ◌≤◌, ℕ, ◌+◌, ◌*◌, ◌/◌, ◌%◌, List, [], ◌++◌, Bool, true, false, cond, length, take, drop, Some, None, refl, sym}
use Rattle.std.proofs.Common.{inl, inr, ap, ◌∙◌, arith, Ok}
use Rattle.std.specs.Prelude.{◌==◌, ◌&&◌}
use Rattle.std.proofs.lemmas.Bool.{cases_lt, eqb-true}
use Rattle.std.proofs.lemmas.List.{length-append, take_all, drop_at}
use Rattle.scsi_cdb.specs.declared.sense.Sense.TheVariants.{ReadError}
use Rattle.scsi_disk.specs.declared.order.Order.{Order}
use Rattle.scsi_disk.specs.declared.order.Outcome.{Outcome}
use Rattle.scsi_disk.specs.declared.order.Plan.{Plan}
use Rattle.scsi_disk.specs.declared.order.Plan.TheVariants.{Refuse, Give, Take}
use Rattle.scsi_disk.specs.declared.reading.BlockRange.{BlockRange}
use Rattle.scsi_disk.specs.Disk.{AppendsBytes, Disk, IsDisk, StoreTellsFailures, blocks_from, joined_blocks}
use Rattle.scsi_disk.specs.Effect.{OrderExecuted, good_outcome, check_condition, wanted_data}
use Rattle.scsi_disk.specs.Plan.{is_read, plan_of, named_transfer, wanted_length}
use Rattle.scsi_disk.specs.Reading.{whole_blocks}
use Rattle.scsi_disk.specs.inner.Reading.{WereRead}
use Rattle.scsi_disk.proofs.PlanLemmas.{given, joined-add, length-joined, read_gives}
use Rattle.scsi_disk.proofs.AnsweredLemmas.{does_not_tell, failed, not_err, worked}
use Rattle.scsi_disk.proofs.GuardLemmas.{plan_stays}

-- what is known of an order that gives whole blocks
pub record IsWhole (disk : Disk) (order : Order) (range : BlockRange) : Type 0 where
  pub plan : plan_of order disk.count ≡ Give (512 * range.count)
  pub reads : is_read order.cdb ≡ true
  pub first : range.first ≡ (named_transfer order.cdb).first
  pub inside : range.first + range.count ≤ disk.count
  pub few : range.count ≤ 8192

chosen : (b : Bool) (x y : BlockRange) → cond b (Some x) None ≡ Some y → (b ≡ true) × (x ≡ y)
chosen true x y e = (refl, cc)
chosen false x y e = absurd (let h : None ≡ Some y = e in cc)

both : (a b : Bool) → (a && b) ≡ true → (a ≡ true) × (b ≡ true)
both true b e = (refl, e)
both false b e = absurd (let h : false ≡ true = e in cc)

whole_by : (disk : Disk) (order : Order) (planned : Plan) (range : BlockRange) → plan_of order disk.count ≡ planned → whole_blocks order planned ≡ Some range →
    IsWhole disk order range
whole_by disk order (Refuse sense) range p e = absurd cc
whole_by disk order (Take length) range p e = absurd cc
whole_by disk order (Give n) range p e =
    let named = named_transfer order.cdb in
    let fits = chosen (is_read order.cdb && (n % 512 == 0)) (record { first = named.first; count = n / 512 }) range e in
    let tests = both (is_read order.cdb) (n % 512 == 0) fits.0 in
    let even : n % 512 ≡ 0 = eqb-true (n % 512) 0 tests.1 in
    let count : n / 512 ≡ range.count = ap (λ (r : BlockRange). r.count) fits.1 in
    let first : named.first ≡ range.first = ap (λ (r : BlockRange). r.first) fits.1 in
    let size : n ≡ 512 * range.count = omega arith in
    let facts = given order disk.count n p in
    let most : n ≤ 512 * named.count = rw tests.0 at facts.most in
    record {
      plan = p ∙ ap Give size;
      reads = tests.0;
      first = sym first;
      inside = omega (arith, facts.names.inside);
      few = omega (arith, facts.names.few);
    }

pub whole : (disk : Disk) (order : Order) (planned : Plan) (range : BlockRange) → planned ≡ plan_of order disk.count → whole_blocks order planned ≡ Some range →
    IsWhole disk order range
whole disk order planned range p e = whole_by disk order planned range (sym p) e

-- ---- what was read

pub none_read : (disk : Disk) (first n : ℕ) → WereRead disk first 0 n n []
unfolding joined_blocks
none_read disk first n = record { size = omega arith; works = λ same. refl; hides = λ rose. absurd (omega (arith, rose)) }

pub read_more : (disk : Disk) (first a b before mid after : ℕ) (x y : List ℕ) → before ≤ mid → mid ≤ after → WereRead disk first a before mid x
    → WereRead disk (first + a) b mid after y → WereRead disk first (a + b) before after (x ++ y)
read_more disk first a b before mid after x y low high p q = record {
  size = omega (arith, length-append x y, p.size, q.size);
  works = λ same.
      (λ i. p.works (let e : mid ≡ before = omega arith in e) i ++ q.works (let e : after ≡ mid = omega arith in e) i)
      ∙ sym (joined-add disk.block first a b);
  hides = λ rose. elim (cases_lt before mid) [
    | inl lt ↦ p.hides lt
    | inr ge ↦ q.hides (omega (arith, rose, ge))
  ];
}

-- the bytes that one read appended
pub appended_read : {T : Type 0} (disk : Disk) (first count before after ub ua : ℕ) (x : T) (old new : List ℕ)
    → StoreTellsFailures disk.tells before after ub ua (Ok x)
    → (after ≡ before → new ≡ old ++ blocks_from disk first count) → (a : AppendsBytes (512 * count) old new) → WereRead disk first count before after a.bytes
appended_read disk first count before after ub ua x old new tells works a = record {
  size = a.size;
  works = λ same.
      sym (drop_at old a.bytes (length old) refl) ∙ ap (drop (length old)) (sym a.behind ∙ works same)
      ∙ drop_at old (blocks_from disk first count) (length old) refl;
  hides = λ rose. does_not_tell disk.tells before after ub ua (Ok x) tells rose (not_err x);
}

-- ---- what was executed

whole_data : (disk : Disk) (order : Order) (range : BlockRange) → IsWhole disk order range → IsDisk disk
    → blocks_from disk range.first range.count ≡ take (512 * range.count) (wanted_data disk order)
whole_data disk order range is is_disk =
    let n : ℕ = 512 * range.count in
    let count : (512 * range.count + 511) / 512 ≡ range.count = omega arith in
    let long = length-joined 512 disk.block range.first range.count (λ k low high. is_disk.inside k (omega (arith, is.inside, high))) in
    sym (take_all n (blocks_from disk range.first range.count) (omega (arith, long)))
    ∙ ap (λ (k : ℕ). take n (blocks_from disk range.first k)) (sym count)
    ∙ ap (λ (k : ℕ). take n (blocks_from disk k ((512 * range.count + 511) / 512))) is.first
    ∙ read_gives disk order n is_disk is.plan is.reads

pub executed : (protected : Bool) (disk now : Disk) (order : Order) (range : BlockRange) (before after : ℕ) (bytes : List ℕ) → IsWhole disk order range
    → IsDisk disk
    → now ≡ disk → before ≤ after → WereRead disk range.first range.count before after bytes
    → OrderExecuted protected before after disk order [] (record { disk = now; outcome = good_outcome order (wanted_length order disk.count) bytes })
executed protected disk now order range before after bytes is is_disk same rises were =
    let n : ℕ = 512 * range.count in
    let plan = plan_stays protected order.deed (plan_of order disk.count) n is.plan in
    record {
      rises = rises;
      works = λ none. worked protected before after 0 0 disk now order [] n plan same (good_outcome order (wanted_length order disk.count) bytes)
          (ap (good_outcome order (wanted_length order disk.count)) (were.works none ∙ whole_data disk order range is is_disk));
      fails = λ rose. failed protected before after 0 0 disk now order [] n plan same (good_outcome order (wanted_length order disk.count) bytes)
          (inr (were.hides rose, (bytes, were.size, refl)), is.reads, same);
    }

pub not_executed : (protected : Bool) (disk now : Disk) (order : Order) (range : BlockRange) (before after : ℕ) (o : Outcome) → IsWhole disk order range
    → now ≡ disk
    → before < after → o ≡ check_condition order ReadError → OrderExecuted protected before after disk order [] (record { disk = now; outcome = o })
not_executed protected disk now order range before after o is same rose told = record {
  rises = omega (arith, rose);
  works = λ none. absurd (omega (arith, none, rose));
  fails = λ _. failed protected before after 0 0 disk now order [] (512 * range.count)
      (plan_stays protected order.deed (plan_of order disk.count) (512 * range.count) is.plan)
      same o (inl told, is.reads, same);
}
