-- A unit refuses a command as unknown exactly if its list doesn't have it.
use Rattle.std.proofs.Common.{◌≡◌, ◌≢◌, ◌∙◌, ℕ, Bool, true, false, List, [], ◌∷◌, length, drop, Option, Some, None, refl, sym, ap}
use Rattle.std.specs.Prelude.{◌==◌, ◌&&◌, if◌then◌else◌, not, is_none, option_map, unwrap_or}
use Rattle.std.specs.List.{list_all}
use Rattle.std.proofs.lemmas.Bool.{eqb-true, false≢true}
use Rattle.scsi_cdb.proofs.RecordLemmas.{part-whole}
use Rattle.scsi_cdb.specs.Blocks.{record_of}
use Rattle.scsi_cdb.specs.Layout.{bits_at, number_at, part}
use Rattle.scsi_cdb.specs.declared.cdb.Cdb.{Cdb}
use Rattle.scsi_cdb.specs.declared.cdb.Transfer16.{Transfer16}
use Rattle.scsi_cdb.specs.declared.sense.Sense.{Sense}
use Rattle.scsi_cdb.specs.declared.sense.Sense.TheVariants.{InvalidCode, InvalidField, InvalidParameter, Miscompare, OutOfRange, ParameterLength, WriteProtected}
use Rattle.scsi_disk.specs.Disk.{Disk}
use Rattle.scsi_disk.specs.Deed.{failure_by, writes}
use Rattle.scsi_disk.specs.declared.deed.Deed.{Deed}
use Rattle.scsi_disk.specs.declared.deed.Deed.TheVariants.{Write, Same, Verify, Compare, Unmap}
use Rattle.scsi_disk.specs.Effect.{deed_failure, effect, guarded, outcome_by, outcome_taken}
use Rattle.scsi_disk.specs.Plan.{first_reason, is_unknown, is_write, named_transfer, plan_by, refusals}
use Rattle.scsi_disk.specs.declared.order.Order.{Order}
use Rattle.scsi_disk.specs.declared.order.Outcome.{Outcome}
use Rattle.scsi_disk.specs.declared.order.Plan.TheVariants.{Refuse, Take, Give}
use Rattle.scsi_unit.specs.LogicalUnit.{LogicalUnit}
use Rattle.scsi_unit.specs.Laws.{answered}
use Rattle.scsi_unit.specs.Spellings.{naming, spelled_block, stops}
use Rattle.scsi_unit.specs.Supported.{is_supported}
use Rattle.scsi_unit.specs.Telling.{data_told, outcome_or_refused, told_outcome, told_refusals, unit_block_data}
use Rattle.scsi_unit.specs.Deeds.{anchors, block_taken, checks_bytes, meant, meant_cdb}
use Rattle.scsi_unit.specs.WriteSame.{is_plain}

by_cases : {A : Type 0} (b : Bool) → (b ≡ true → A) → (b ≡ false → A) → A
by_cases true yes_ no_ = yes_ refl
by_cases false yes_ no_ = no_ refl

-- ---- why a command is refused

abbrev is_code : Sense → Bool
is_code InvalidCode = true
is_code _ = false

-- the command is refused as unknown
abbrev says_code : Option Sense → Bool
says_code None = false
says_code (Some sense) = is_code sense

sense_is : (sense : Sense) → is_code sense ≡ true → sense ≡ InvalidCode
sense_is InvalidCode e = refl
sense_is _ e = absurd (false≢true e)

code_is : (found : Option Sense) → says_code found ≡ true → found ≡ Some InvalidCode
code_is None e = absurd (false≢true e)
code_is (Some sense) e = ap Some (sense_is sense e)

by_row : (b : Bool) (sense : Sense) (found : Option Sense) (more : Bool) → (not (is_code sense) && more) ≡ true
    → (more ≡ true → says_code found ≡ false) → says_code (if b then Some sense else found) ≡ false
by_row b InvalidCode found more e later = absurd (false≢true e)
by_row true _ found more e later = refl
by_row false _ found more e later = later e

-- another reason than that
abbrev other_reason : Bool × Sense → Bool
other_reason row = not (is_code row.1)

no_code : (rows : List (Bool × Sense)) → list_all other_reason rows ≡ true → says_code (first_reason rows) ≡ false
no_code [] e = refl
no_code (row ∷ rows) e = by_row row.0 row.1 (first_reason rows) (list_all other_reason rows) e (no_code rows)

-- ---- on a disk

compared_other : (place : Option ℕ) → says_code (option_map (λ n. Miscompare n) place) ≡ false
compared_other None = refl
compared_other (Some n) = refl

listed_other : (a b c : Bool) → says_code (if a then Some ParameterLength else if b then Some InvalidParameter else if c then Some OutOfRange else None) ≡ false
listed_other true b c = refl
listed_other false true c = refl
listed_other false false true = refl
listed_other false false false = refl

failure_other : (deed : Deed) (order : Order) (disk : Disk) (bytes : List ℕ) → says_code (failure_by deed (named_transfer order.cdb) disk bytes) ≡ false
failure_other Write order disk bytes = refl
failure_other Same order disk bytes = refl
failure_other Verify order disk bytes = compared_other _
failure_other Compare order disk bytes = compared_other _
failure_other (Unmap length) order disk bytes = listed_other _ _ _

taken_other : (reason : Option Sense) (order : Order) (length : ℕ) → says_code reason ≡ false → says_code (outcome_taken reason order length).sense ≡ false
taken_other None order length e = refl
taken_other (Some sense) order length e = e

done_other : (disk : Disk) (order : Order) (bytes : List ℕ) (length : ℕ) → says_code (outcome_by (Take length) disk order bytes).sense ≡ false
done_other disk order bytes length =
    taken_other (deed_failure disk order bytes) order length (failure_other order.deed order disk bytes)

by_deed : (b : Bool) (disk : Disk) (order : Order) (bytes : List ℕ) (length : ℕ)
    → says_code (outcome_by (if b then Refuse WriteProtected else Take length) disk order bytes).sense ≡ false
by_deed true disk order bytes length = refl
by_deed false disk order bytes length = done_other disk order bytes length

by_write : (protected write : Bool) (taken given : ℕ) (disk : Disk) (order : Order) (bytes : List ℕ)
    → says_code (outcome_by (guarded protected order.deed (if write then Take taken else Give given)) disk order bytes).sense ≡ false
by_write true true taken given disk order bytes = by_deed (writes order.deed) disk order bytes taken
by_write true false taken given disk order bytes = refl
by_write false true taken given disk order bytes = done_other disk order bytes taken
by_write false false taken given disk order bytes = refl

by_reason : (protected : Bool) (found : Option Sense) (disk : Disk) (order : Order) (bytes : List ℕ) → says_code found ≡ false
    → says_code (outcome_by (guarded protected order.deed (plan_by found order disk.count)) disk order bytes).sense ≡ false
by_reason true (Some sense) disk order bytes e = e
by_reason false (Some sense) disk order bytes e = e
by_reason protected None disk order bytes e = by_write protected (is_write order.cdb) _ _ disk order bytes

by_unknown : (protected b : Bool) (found : Option Sense) (disk : Disk) (order : Order) (bytes : List ℕ) → (b ≡ false → says_code found ≡ false)
    → says_code (outcome_by (guarded protected order.deed (plan_by (if b then Some InvalidCode else found) order disk.count)) disk order bytes).sense ≡ b
by_unknown true true found disk order bytes other = refl
by_unknown false true found disk order bytes other = refl
by_unknown protected false found disk order bytes other = by_reason protected found disk order bytes (other refl)

-- a disk refuses a command so exactly if it is none of the table
disk_says : (protected : Bool) (disk : Disk) (order : Order) (bytes : List ℕ)
    → says_code (effect protected disk order bytes).outcome.sense ≡ is_unknown order.cdb
disk_says protected disk order bytes =
    by_unknown protected (is_unknown order.cdb) (first_reason (drop 1 (refusals order disk.count))) disk order bytes
    (λ e. no_code (drop 1 (refusals order disk.count)) refl)

-- ---- what a unit tells of itself

no_page : (found : Option Sense) → says_code found ≡ false → is_code (unwrap_or found InvalidField) ≡ false
no_page None e = refl
no_page (Some sense) e = e

data_or : (found : Option Sense) (order : Order) (bytes : List ℕ) → says_code found ≡ false
    → says_code (outcome_or_refused found order bytes).sense ≡ false
data_or None order bytes e = refl
data_or (Some sense) order bytes e = e

told_known : (blocks : ℕ) (order : Order) (found : Option (List ℕ)) → says_code (told_outcome blocks order found).sense ≡ false
told_known blocks order None = no_page (first_reason (told_refusals blocks order)) (no_code (told_refusals blocks order) refl)
told_known blocks order (Some bytes) = data_or (first_reason (told_refusals blocks order)) order bytes (no_code (told_refusals blocks order) refl)

by_told : (blocks : ℕ) (order : Order) (found : Option (Option (List ℕ))) (outcome : Outcome)
    → says_code (unwrap_or (option_map (told_outcome blocks order) found) outcome).sense ≡ (is_none found && says_code outcome.sense)
by_told blocks order None outcome = refl
by_told blocks order (Some found) outcome = told_known blocks order found

-- ---- by the block

-- a unit neither tells of the command of a block nor leaves one of the table to its disk
abbrev unknown_to : LogicalUnit → Bool → ℕ → List ℕ → Bool
unknown_to unit present blocks block =
    is_none (data_told unit present blocks (meant_cdb (Some unit) (record_of block))) && is_unknown (meant_cdb (Some unit) (record_of block))

answer_says : (unit : LogicalUnit) (protected : Bool) (disk : Disk) (order : Order) (block bytes : List ℕ) → order.cdb ≡ record_of block
    → says_code (answered unit protected disk order bytes).sense ≡ unknown_to unit (order.lun == 0) disk.count block
answer_says unit protected disk order block bytes e =
    let does : Order = meant (Some unit) order in
    by_told disk.count does (data_told unit (does.lun == 0) disk.count does.cdb) (effect protected disk does bytes).outcome
    ∙ ap (λ (b : Bool). is_none (data_told unit (does.lun == 0) disk.count does.cdb) && b) (disk_says protected disk does bytes)
    ∙ ap (λ (c : Cdb). is_none (data_told unit (order.lun == 0) disk.count (meant_cdb (Some unit) c)) && is_unknown (meant_cdb (Some unit) c)) e

-- the blocks of each code, of a unit that is thin or not

abbrev IsTold : LogicalUnit → Bool → ℕ → List ℕ → Type 0
IsTold unit present blocks block = unknown_to unit present blocks block ≡ not (is_supported unit.thin block)

module _ (unit : LogicalUnit) (present : Bool) (blocks : ℕ) (block : List ℕ) (size : length block ≡ 16) where
  -- the blocks that a WRITE SAME names
  abbrev same10 : Transfer16
  same10 = naming (number_at 1 1 block) (number_at 2 5 block) (number_at 7 8 block)

  abbrev same16 : Transfer16
  same16 = naming (number_at 1 1 block) (number_at 2 9 block) (number_at 10 13 block)

  whole : part 0 15 block ≡ block
  whole = part-whole block size

  plain_00 : unit.thin ≡ false → (number_at 0 0 block == 0x00) ≡ true → IsTold unit present blocks block
  unfolding record_of spelled_block unit_block_data block_taken
  plain_00 t e = rw (t, whole, eqb-true (number_at 0 0 block) 0x00 e) refl

  plain_12 : unit.thin ≡ false → (number_at 0 0 block == 0x12) ≡ true → IsTold unit present blocks block
  unfolding record_of spelled_block unit_block_data block_taken
  plain_12 t e = rw (t, whole, eqb-true (number_at 0 0 block) 0x12 e) refl

  plain_25 : unit.thin ≡ false → (number_at 0 0 block == 0x25) ≡ true → IsTold unit present blocks block
  unfolding record_of spelled_block unit_block_data block_taken
  plain_25 t e = rw (t, whole, eqb-true (number_at 0 0 block) 0x25 e) refl

  plain_28 : unit.thin ≡ false → (number_at 0 0 block == 0x28) ≡ true → IsTold unit present blocks block
  unfolding record_of spelled_block unit_block_data block_taken
  plain_28 t e = rw (t, whole, eqb-true (number_at 0 0 block) 0x28 e) refl

  plain_2a : unit.thin ≡ false → (number_at 0 0 block == 0x2a) ≡ true → IsTold unit present blocks block
  unfolding record_of spelled_block unit_block_data block_taken
  plain_2a t e = rw (t, whole, eqb-true (number_at 0 0 block) 0x2a e) refl

  plain_35 : unit.thin ≡ false → (number_at 0 0 block == 0x35) ≡ true → IsTold unit present blocks block
  unfolding record_of spelled_block unit_block_data block_taken
  plain_35 t e = rw (t, whole, eqb-true (number_at 0 0 block) 0x35 e) refl

  plain_88 : unit.thin ≡ false → (number_at 0 0 block == 0x88) ≡ true → IsTold unit present blocks block
  unfolding record_of spelled_block unit_block_data block_taken
  plain_88 t e = rw (t, whole, eqb-true (number_at 0 0 block) 0x88 e) refl

  plain_8a : unit.thin ≡ false → (number_at 0 0 block == 0x8a) ≡ true → IsTold unit present blocks block
  unfolding record_of spelled_block unit_block_data block_taken
  plain_8a t e = rw (t, whole, eqb-true (number_at 0 0 block) 0x8a e) refl

  plain_a0 : unit.thin ≡ false → (number_at 0 0 block == 0xa0) ≡ true → IsTold unit present blocks block
  unfolding record_of spelled_block unit_block_data block_taken
  plain_a0 t e = rw (t, whole, eqb-true (number_at 0 0 block) 0xa0 e) refl

  plain_08 : unit.thin ≡ false → (number_at 0 0 block == 0x08) ≡ true → IsTold unit present blocks block
  unfolding record_of spelled_block unit_block_data block_taken
  plain_08 t e = rw (t, whole, eqb-true (number_at 0 0 block) 0x08 e, eqb-true (number_at 0 0 block) 0x08 e) refl

  plain_0a : unit.thin ≡ false → (number_at 0 0 block == 0x0a) ≡ true → IsTold unit present blocks block
  unfolding record_of spelled_block unit_block_data block_taken
  plain_0a t e = rw (t, whole, eqb-true (number_at 0 0 block) 0x0a e, eqb-true (number_at 0 0 block) 0x0a e) refl

  plain_a8 : unit.thin ≡ false → (number_at 0 0 block == 0xa8) ≡ true → IsTold unit present blocks block
  unfolding record_of spelled_block unit_block_data block_taken
  plain_a8 t e = rw (t, whole, eqb-true (number_at 0 0 block) 0xa8 e, eqb-true (number_at 0 0 block) 0xa8 e) refl

  plain_aa : unit.thin ≡ false → (number_at 0 0 block == 0xaa) ≡ true → IsTold unit present blocks block
  unfolding record_of spelled_block unit_block_data block_taken
  plain_aa t e = rw (t, whole, eqb-true (number_at 0 0 block) 0xaa e, eqb-true (number_at 0 0 block) 0xaa e) refl

  plain_2e : unit.thin ≡ false → (number_at 0 0 block == 0x2e) ≡ true → IsTold unit present blocks block
  unfolding record_of spelled_block unit_block_data block_taken
  plain_2e t e = rw (t, whole, eqb-true (number_at 0 0 block) 0x2e e, eqb-true (number_at 0 0 block) 0x2e e) refl

  plain_ae : unit.thin ≡ false → (number_at 0 0 block == 0xae) ≡ true → IsTold unit present blocks block
  unfolding record_of spelled_block unit_block_data block_taken
  plain_ae t e = rw (t, whole, eqb-true (number_at 0 0 block) 0xae e, eqb-true (number_at 0 0 block) 0xae e) refl

  plain_8e : unit.thin ≡ false → (number_at 0 0 block == 0x8e) ≡ true → IsTold unit present blocks block
  unfolding record_of spelled_block unit_block_data block_taken
  plain_8e t e = rw (t, whole, eqb-true (number_at 0 0 block) 0x8e e, eqb-true (number_at 0 0 block) 0x8e e) refl

  plain_91 : unit.thin ≡ false → (number_at 0 0 block == 0x91) ≡ true → IsTold unit present blocks block
  unfolding record_of spelled_block unit_block_data block_taken
  plain_91 t e = rw (t, whole, eqb-true (number_at 0 0 block) 0x91 e, eqb-true (number_at 0 0 block) 0x91 e) refl

  plain_89 : unit.thin ≡ false → (number_at 0 0 block == 0x89) ≡ true → IsTold unit present blocks block
  unfolding record_of spelled_block unit_block_data block_taken
  plain_89 t e = rw (t, whole, eqb-true (number_at 0 0 block) 0x89 e, eqb-true (number_at 0 0 block) 0x89 e) refl

  plain_03 : unit.thin ≡ false → (number_at 0 0 block == 0x03) ≡ true → IsTold unit present blocks block
  unfolding record_of spelled_block unit_block_data block_taken
  plain_03 t e = rw (t, whole, eqb-true (number_at 0 0 block) 0x03 e, eqb-true (number_at 0 0 block) 0x03 e, eqb-true (number_at 0 0 block) 0x03 e) refl

  plain_1a : unit.thin ≡ false → (number_at 0 0 block == 0x1a) ≡ true → IsTold unit present blocks block
  unfolding record_of spelled_block unit_block_data block_taken
  plain_1a t e = rw (t, whole, eqb-true (number_at 0 0 block) 0x1a e, eqb-true (number_at 0 0 block) 0x1a e, eqb-true (number_at 0 0 block) 0x1a e) refl

  plain_5a : unit.thin ≡ false → (number_at 0 0 block == 0x5a) ≡ true → IsTold unit present blocks block
  unfolding record_of spelled_block unit_block_data block_taken
  plain_5a t e = rw (t, whole, eqb-true (number_at 0 0 block) 0x5a e, eqb-true (number_at 0 0 block) 0x5a e, eqb-true (number_at 0 0 block) 0x5a e) refl

  plain_34 : unit.thin ≡ false → (number_at 0 0 block == 0x34) ≡ true → IsTold unit present blocks block
  unfolding record_of spelled_block unit_block_data block_taken
  plain_34 t e = rw (t, whole, eqb-true (number_at 0 0 block) 0x34 e, eqb-true (number_at 0 0 block) 0x34 e, eqb-true (number_at 0 0 block) 0x34 e) refl

  plain_90 : unit.thin ≡ false → (number_at 0 0 block == 0x90) ≡ true → IsTold unit present blocks block
  unfolding record_of spelled_block unit_block_data block_taken
  plain_90 t e = rw (t, whole, eqb-true (number_at 0 0 block) 0x90 e, eqb-true (number_at 0 0 block) 0x90 e, eqb-true (number_at 0 0 block) 0x90 e) refl

  plain_2f : unit.thin ≡ false → (number_at 0 0 block == 0x2f) ≡ true → IsTold unit present blocks block
  unfolding record_of spelled_block unit_block_data block_taken
  plain_2f t e = by_cases (checks_bytes block) (λ f. rw (t, whole, eqb-true (number_at 0 0 block) 0x2f e, eqb-true (number_at 0 0 block) 0x2f e, f) refl)
      (λ f. rw (t, whole, eqb-true (number_at 0 0 block) 0x2f e, eqb-true (number_at 0 0 block) 0x2f e, f, eqb-true (number_at 0 0 block) 0x2f e) refl)

  plain_af : unit.thin ≡ false → (number_at 0 0 block == 0xaf) ≡ true → IsTold unit present blocks block
  unfolding record_of spelled_block unit_block_data block_taken
  plain_af t e = by_cases (checks_bytes block) (λ f. rw (t, whole, eqb-true (number_at 0 0 block) 0xaf e, eqb-true (number_at 0 0 block) 0xaf e, f) refl)
      (λ f. rw (t, whole, eqb-true (number_at 0 0 block) 0xaf e, eqb-true (number_at 0 0 block) 0xaf e, f, eqb-true (number_at 0 0 block) 0xaf e) refl)

  plain_8f : unit.thin ≡ false → (number_at 0 0 block == 0x8f) ≡ true → IsTold unit present blocks block
  unfolding record_of spelled_block unit_block_data block_taken
  plain_8f t e = by_cases (checks_bytes block) (λ f. rw (t, whole, eqb-true (number_at 0 0 block) 0x8f e, eqb-true (number_at 0 0 block) 0x8f e, f) refl)
      (λ f. rw (t, whole, eqb-true (number_at 0 0 block) 0x8f e, eqb-true (number_at 0 0 block) 0x8f e, f, eqb-true (number_at 0 0 block) 0x8f e) refl)

  plain_1b : unit.thin ≡ false → (number_at 0 0 block == 0x1b) ≡ true → IsTold unit present blocks block
  unfolding record_of spelled_block unit_block_data block_taken
  plain_1b t e = by_cases (stops block) (λ f. rw (t, whole, eqb-true (number_at 0 0 block) 0x1b e, eqb-true (number_at 0 0 block) 0x1b e, f) refl)
      (λ f. rw (t, whole, eqb-true (number_at 0 0 block) 0x1b e, eqb-true (number_at 0 0 block) 0x1b e, f, eqb-true (number_at 0 0 block) 0x1b e) refl)

  plain_9e : unit.thin ≡ false → (number_at 0 0 block == 0x9e) ≡ true → IsTold unit present blocks block
  unfolding record_of spelled_block unit_block_data block_taken
  plain_9e t e = by_cases (bits_at 1 0x1f block == 0x10) (λ f. rw (t, whole, eqb-true (number_at 0 0 block) 0x9e e, f) refl)
      (λ f. rw (t, whole, eqb-true (number_at 0 0 block) 0x9e e, f, eqb-true (number_at 0 0 block) 0x9e e, eqb-true (number_at 0 0 block) 0x9e e) refl)

  plain_a3 : unit.thin ≡ false → (number_at 0 0 block == 0xa3) ≡ true → IsTold unit present blocks block
  unfolding record_of spelled_block unit_block_data block_taken
  plain_a3 t e = by_cases (bits_at 1 0x1f block == 0x0c) (λ f. rw (t, whole, eqb-true (number_at 0 0 block) 0xa3 e, eqb-true (number_at 0 0 block) 0xa3 e, eqb-true (number_at 0 0 block) 0xa3 e, f) refl)
      (λ f. rw (t, whole, eqb-true (number_at 0 0 block) 0xa3 e, eqb-true (number_at 0 0 block) 0xa3 e, eqb-true (number_at 0 0 block) 0xa3 e, f) refl)

  plain_none : unit.thin ≡ false → (number_at 0 0 block == 0x00) ≡ false → (number_at 0 0 block == 0x12) ≡ false → (number_at 0 0 block == 0x25) ≡ false → (number_at 0 0 block == 0x28) ≡ false → (number_at 0 0 block == 0x2a) ≡ false → (number_at 0 0 block == 0x35) ≡ false → (number_at 0 0 block == 0x88) ≡ false → (number_at 0 0 block == 0x8a) ≡ false → (number_at 0 0 block == 0xa0) ≡ false → (number_at 0 0 block == 0x08) ≡ false → (number_at 0 0 block == 0x0a) ≡ false → (number_at 0 0 block == 0xa8) ≡ false → (number_at 0 0 block == 0xaa) ≡ false → (number_at 0 0 block == 0x2e) ≡ false → (number_at 0 0 block == 0xae) ≡ false → (number_at 0 0 block == 0x8e) ≡ false → (number_at 0 0 block == 0x91) ≡ false → (number_at 0 0 block == 0x89) ≡ false → (number_at 0 0 block == 0x03) ≡ false → (number_at 0 0 block == 0x1a) ≡ false → (number_at 0 0 block == 0x5a) ≡ false → (number_at 0 0 block == 0x34) ≡ false → (number_at 0 0 block == 0x90) ≡ false → (number_at 0 0 block == 0x2f) ≡ false → (number_at 0 0 block == 0xaf) ≡ false → (number_at 0 0 block == 0x8f) ≡ false → (number_at 0 0 block == 0x1b) ≡ false → (number_at 0 0 block == 0x9e) ≡ false → (number_at 0 0 block == 0xa3) ≡ false → IsTold unit present blocks block
  unfolding record_of spelled_block unit_block_data block_taken
  plain_none t e00 e12 e25 e28 e2a e35 e88 e8a ea0 e08 e0a ea8 eaa e2e eae e8e e91 e89 e03 e1a e5a e34 e90 e2f eaf e8f e1b e9e ea3 = rw (t, whole, e00, e12, e25, e28, e2a, e35, e88, e8a, ea0, e9e, e89, e2f, eaf, e8f, e08, e0a, ea8, eaa, e2e, eae, e8e, e91, e1b, e03, e1a, e5a, e1b, e34, e90, e2f, eaf, e8f, ea3) refl

  plain_told : unit.thin ≡ false → IsTold unit present blocks block
  plain_told t =
      by_cases (number_at 0 0 block == 0x00) (plain_00 t) (λ e00.
      by_cases (number_at 0 0 block == 0x12) (plain_12 t) (λ e12.
      by_cases (number_at 0 0 block == 0x25) (plain_25 t) (λ e25.
      by_cases (number_at 0 0 block == 0x28) (plain_28 t) (λ e28.
      by_cases (number_at 0 0 block == 0x2a) (plain_2a t) (λ e2a.
      by_cases (number_at 0 0 block == 0x35) (plain_35 t) (λ e35.
      by_cases (number_at 0 0 block == 0x88) (plain_88 t) (λ e88.
      by_cases (number_at 0 0 block == 0x8a) (plain_8a t) (λ e8a.
      by_cases (number_at 0 0 block == 0xa0) (plain_a0 t) (λ ea0.
      by_cases (number_at 0 0 block == 0x08) (plain_08 t) (λ e08.
      by_cases (number_at 0 0 block == 0x0a) (plain_0a t) (λ e0a.
      by_cases (number_at 0 0 block == 0xa8) (plain_a8 t) (λ ea8.
      by_cases (number_at 0 0 block == 0xaa) (plain_aa t) (λ eaa.
      by_cases (number_at 0 0 block == 0x2e) (plain_2e t) (λ e2e.
      by_cases (number_at 0 0 block == 0xae) (plain_ae t) (λ eae.
      by_cases (number_at 0 0 block == 0x8e) (plain_8e t) (λ e8e.
      by_cases (number_at 0 0 block == 0x91) (plain_91 t) (λ e91.
      by_cases (number_at 0 0 block == 0x89) (plain_89 t) (λ e89.
      by_cases (number_at 0 0 block == 0x03) (plain_03 t) (λ e03.
      by_cases (number_at 0 0 block == 0x1a) (plain_1a t) (λ e1a.
      by_cases (number_at 0 0 block == 0x5a) (plain_5a t) (λ e5a.
      by_cases (number_at 0 0 block == 0x34) (plain_34 t) (λ e34.
      by_cases (number_at 0 0 block == 0x90) (plain_90 t) (λ e90.
      by_cases (number_at 0 0 block == 0x2f) (plain_2f t) (λ e2f.
      by_cases (number_at 0 0 block == 0xaf) (plain_af t) (λ eaf.
      by_cases (number_at 0 0 block == 0x8f) (plain_8f t) (λ e8f.
      by_cases (number_at 0 0 block == 0x1b) (plain_1b t) (λ e1b.
      by_cases (number_at 0 0 block == 0x9e) (plain_9e t) (λ e9e.
      by_cases (number_at 0 0 block == 0xa3) (plain_a3 t) (λ ea3.
      plain_none t e00 e12 e25 e28 e2a e35 e88 e8a ea0 e08 e0a ea8 eaa e2e eae e8e e91 e89 e03 e1a e5a e34 e90 e2f eaf e8f e1b e9e ea3)))))))))))))))))))))))))))))

  thin_00 : unit.thin ≡ true → (number_at 0 0 block == 0x00) ≡ true → IsTold unit present blocks block
  unfolding record_of spelled_block unit_block_data block_taken
  thin_00 t e = rw (t, whole, eqb-true (number_at 0 0 block) 0x00 e) refl

  thin_12 : unit.thin ≡ true → (number_at 0 0 block == 0x12) ≡ true → IsTold unit present blocks block
  unfolding record_of spelled_block unit_block_data block_taken
  thin_12 t e = rw (t, whole, eqb-true (number_at 0 0 block) 0x12 e) refl

  thin_25 : unit.thin ≡ true → (number_at 0 0 block == 0x25) ≡ true → IsTold unit present blocks block
  unfolding record_of spelled_block unit_block_data block_taken
  thin_25 t e = rw (t, whole, eqb-true (number_at 0 0 block) 0x25 e) refl

  thin_28 : unit.thin ≡ true → (number_at 0 0 block == 0x28) ≡ true → IsTold unit present blocks block
  unfolding record_of spelled_block unit_block_data block_taken
  thin_28 t e = rw (t, whole, eqb-true (number_at 0 0 block) 0x28 e) refl

  thin_2a : unit.thin ≡ true → (number_at 0 0 block == 0x2a) ≡ true → IsTold unit present blocks block
  unfolding record_of spelled_block unit_block_data block_taken
  thin_2a t e = rw (t, whole, eqb-true (number_at 0 0 block) 0x2a e) refl

  thin_35 : unit.thin ≡ true → (number_at 0 0 block == 0x35) ≡ true → IsTold unit present blocks block
  unfolding record_of spelled_block unit_block_data block_taken
  thin_35 t e = rw (t, whole, eqb-true (number_at 0 0 block) 0x35 e) refl

  thin_88 : unit.thin ≡ true → (number_at 0 0 block == 0x88) ≡ true → IsTold unit present blocks block
  unfolding record_of spelled_block unit_block_data block_taken
  thin_88 t e = rw (t, whole, eqb-true (number_at 0 0 block) 0x88 e) refl

  thin_8a : unit.thin ≡ true → (number_at 0 0 block == 0x8a) ≡ true → IsTold unit present blocks block
  unfolding record_of spelled_block unit_block_data block_taken
  thin_8a t e = rw (t, whole, eqb-true (number_at 0 0 block) 0x8a e) refl

  thin_a0 : unit.thin ≡ true → (number_at 0 0 block == 0xa0) ≡ true → IsTold unit present blocks block
  unfolding record_of spelled_block unit_block_data block_taken
  thin_a0 t e = rw (t, whole, eqb-true (number_at 0 0 block) 0xa0 e) refl

  thin_08 : unit.thin ≡ true → (number_at 0 0 block == 0x08) ≡ true → IsTold unit present blocks block
  unfolding record_of spelled_block unit_block_data block_taken
  thin_08 t e = rw (t, whole, eqb-true (number_at 0 0 block) 0x08 e, eqb-true (number_at 0 0 block) 0x08 e) refl

  thin_0a : unit.thin ≡ true → (number_at 0 0 block == 0x0a) ≡ true → IsTold unit present blocks block
  unfolding record_of spelled_block unit_block_data block_taken
  thin_0a t e = rw (t, whole, eqb-true (number_at 0 0 block) 0x0a e, eqb-true (number_at 0 0 block) 0x0a e) refl

  thin_a8 : unit.thin ≡ true → (number_at 0 0 block == 0xa8) ≡ true → IsTold unit present blocks block
  unfolding record_of spelled_block unit_block_data block_taken
  thin_a8 t e = rw (t, whole, eqb-true (number_at 0 0 block) 0xa8 e, eqb-true (number_at 0 0 block) 0xa8 e) refl

  thin_aa : unit.thin ≡ true → (number_at 0 0 block == 0xaa) ≡ true → IsTold unit present blocks block
  unfolding record_of spelled_block unit_block_data block_taken
  thin_aa t e = rw (t, whole, eqb-true (number_at 0 0 block) 0xaa e, eqb-true (number_at 0 0 block) 0xaa e) refl

  thin_2e : unit.thin ≡ true → (number_at 0 0 block == 0x2e) ≡ true → IsTold unit present blocks block
  unfolding record_of spelled_block unit_block_data block_taken
  thin_2e t e = rw (t, whole, eqb-true (number_at 0 0 block) 0x2e e, eqb-true (number_at 0 0 block) 0x2e e) refl

  thin_ae : unit.thin ≡ true → (number_at 0 0 block == 0xae) ≡ true → IsTold unit present blocks block
  unfolding record_of spelled_block unit_block_data block_taken
  thin_ae t e = rw (t, whole, eqb-true (number_at 0 0 block) 0xae e, eqb-true (number_at 0 0 block) 0xae e) refl

  thin_8e : unit.thin ≡ true → (number_at 0 0 block == 0x8e) ≡ true → IsTold unit present blocks block
  unfolding record_of spelled_block unit_block_data block_taken
  thin_8e t e = rw (t, whole, eqb-true (number_at 0 0 block) 0x8e e, eqb-true (number_at 0 0 block) 0x8e e) refl

  thin_91 : unit.thin ≡ true → (number_at 0 0 block == 0x91) ≡ true → IsTold unit present blocks block
  unfolding record_of spelled_block unit_block_data block_taken
  thin_91 t e = rw (t, whole, eqb-true (number_at 0 0 block) 0x91 e, eqb-true (number_at 0 0 block) 0x91 e) refl

  thin_89 : unit.thin ≡ true → (number_at 0 0 block == 0x89) ≡ true → IsTold unit present blocks block
  unfolding record_of spelled_block unit_block_data block_taken
  thin_89 t e = rw (t, whole, eqb-true (number_at 0 0 block) 0x89 e, eqb-true (number_at 0 0 block) 0x89 e) refl

  thin_03 : unit.thin ≡ true → (number_at 0 0 block == 0x03) ≡ true → IsTold unit present blocks block
  unfolding record_of spelled_block unit_block_data block_taken
  thin_03 t e = rw (t, whole, eqb-true (number_at 0 0 block) 0x03 e, eqb-true (number_at 0 0 block) 0x03 e, eqb-true (number_at 0 0 block) 0x03 e) refl

  thin_1a : unit.thin ≡ true → (number_at 0 0 block == 0x1a) ≡ true → IsTold unit present blocks block
  unfolding record_of spelled_block unit_block_data block_taken
  thin_1a t e = rw (t, whole, eqb-true (number_at 0 0 block) 0x1a e, eqb-true (number_at 0 0 block) 0x1a e, eqb-true (number_at 0 0 block) 0x1a e) refl

  thin_5a : unit.thin ≡ true → (number_at 0 0 block == 0x5a) ≡ true → IsTold unit present blocks block
  unfolding record_of spelled_block unit_block_data block_taken
  thin_5a t e = rw (t, whole, eqb-true (number_at 0 0 block) 0x5a e, eqb-true (number_at 0 0 block) 0x5a e, eqb-true (number_at 0 0 block) 0x5a e) refl

  thin_34 : unit.thin ≡ true → (number_at 0 0 block == 0x34) ≡ true → IsTold unit present blocks block
  unfolding record_of spelled_block unit_block_data block_taken
  thin_34 t e = rw (t, whole, eqb-true (number_at 0 0 block) 0x34 e, eqb-true (number_at 0 0 block) 0x34 e, eqb-true (number_at 0 0 block) 0x34 e) refl

  thin_90 : unit.thin ≡ true → (number_at 0 0 block == 0x90) ≡ true → IsTold unit present blocks block
  unfolding record_of spelled_block unit_block_data block_taken
  thin_90 t e = rw (t, whole, eqb-true (number_at 0 0 block) 0x90 e, eqb-true (number_at 0 0 block) 0x90 e, eqb-true (number_at 0 0 block) 0x90 e) refl

  thin_2f : unit.thin ≡ true → (number_at 0 0 block == 0x2f) ≡ true → IsTold unit present blocks block
  unfolding record_of spelled_block unit_block_data block_taken
  thin_2f t e = by_cases (checks_bytes block) (λ f. rw (t, whole, eqb-true (number_at 0 0 block) 0x2f e, eqb-true (number_at 0 0 block) 0x2f e, f) refl)
      (λ f. rw (t, whole, eqb-true (number_at 0 0 block) 0x2f e, eqb-true (number_at 0 0 block) 0x2f e, f, eqb-true (number_at 0 0 block) 0x2f e) refl)

  thin_af : unit.thin ≡ true → (number_at 0 0 block == 0xaf) ≡ true → IsTold unit present blocks block
  unfolding record_of spelled_block unit_block_data block_taken
  thin_af t e = by_cases (checks_bytes block) (λ f. rw (t, whole, eqb-true (number_at 0 0 block) 0xaf e, eqb-true (number_at 0 0 block) 0xaf e, f) refl)
      (λ f. rw (t, whole, eqb-true (number_at 0 0 block) 0xaf e, eqb-true (number_at 0 0 block) 0xaf e, f, eqb-true (number_at 0 0 block) 0xaf e) refl)

  thin_8f : unit.thin ≡ true → (number_at 0 0 block == 0x8f) ≡ true → IsTold unit present blocks block
  unfolding record_of spelled_block unit_block_data block_taken
  thin_8f t e = by_cases (checks_bytes block) (λ f. rw (t, whole, eqb-true (number_at 0 0 block) 0x8f e, eqb-true (number_at 0 0 block) 0x8f e, f) refl)
      (λ f. rw (t, whole, eqb-true (number_at 0 0 block) 0x8f e, eqb-true (number_at 0 0 block) 0x8f e, f, eqb-true (number_at 0 0 block) 0x8f e) refl)

  thin_1b : unit.thin ≡ true → (number_at 0 0 block == 0x1b) ≡ true → IsTold unit present blocks block
  unfolding record_of spelled_block unit_block_data block_taken
  thin_1b t e = by_cases (stops block) (λ f. rw (t, whole, eqb-true (number_at 0 0 block) 0x1b e, eqb-true (number_at 0 0 block) 0x1b e, f) refl)
      (λ f. rw (t, whole, eqb-true (number_at 0 0 block) 0x1b e, eqb-true (number_at 0 0 block) 0x1b e, f, eqb-true (number_at 0 0 block) 0x1b e) refl)

  thin_9e : unit.thin ≡ true → (number_at 0 0 block == 0x9e) ≡ true → IsTold unit present blocks block
  unfolding record_of spelled_block unit_block_data block_taken
  thin_9e t e = by_cases (bits_at 1 0x1f block == 0x10) (λ f. rw (t, whole, eqb-true (number_at 0 0 block) 0x9e e, f) refl)
      (λ f. by_cases (bits_at 1 0x1f block == 0x12) (λ g. rw (t, whole, eqb-true (number_at 0 0 block) 0x9e e, f, eqb-true (number_at 0 0 block) 0x9e e, eqb-true (number_at 0 0 block) 0x9e e, g) refl)
      (λ g. rw (t, whole, eqb-true (number_at 0 0 block) 0x9e e, f, eqb-true (number_at 0 0 block) 0x9e e, eqb-true (number_at 0 0 block) 0x9e e, g) refl))

  thin_a3 : unit.thin ≡ true → (number_at 0 0 block == 0xa3) ≡ true → IsTold unit present blocks block
  unfolding record_of spelled_block unit_block_data block_taken
  thin_a3 t e = by_cases (bits_at 1 0x1f block == 0x0c) (λ f. rw (t, whole, eqb-true (number_at 0 0 block) 0xa3 e, eqb-true (number_at 0 0 block) 0xa3 e, eqb-true (number_at 0 0 block) 0xa3 e, f) refl)
      (λ f. rw (t, whole, eqb-true (number_at 0 0 block) 0xa3 e, eqb-true (number_at 0 0 block) 0xa3 e, eqb-true (number_at 0 0 block) 0xa3 e, f) refl)

  thin_41 : unit.thin ≡ true → (number_at 0 0 block == 0x41) ≡ true → IsTold unit present blocks block
  unfolding record_of spelled_block unit_block_data block_taken
  thin_41 t e = by_cases (is_plain same10) (λ f. rw (t, whole, eqb-true (number_at 0 0 block) 0x41 e, eqb-true (number_at 0 0 block) 0x41 e, f) refl)
      (λ f. rw (t, whole, eqb-true (number_at 0 0 block) 0x41 e, eqb-true (number_at 0 0 block) 0x41 e, f, eqb-true (number_at 0 0 block) 0x41 e) refl)

  thin_93 : unit.thin ≡ true → (number_at 0 0 block == 0x93) ≡ true → IsTold unit present blocks block
  unfolding record_of spelled_block unit_block_data block_taken
  thin_93 t e = by_cases (is_plain same16) (λ f. rw (t, whole, eqb-true (number_at 0 0 block) 0x93 e, eqb-true (number_at 0 0 block) 0x93 e, f) refl)
      (λ f. rw (t, whole, eqb-true (number_at 0 0 block) 0x93 e, eqb-true (number_at 0 0 block) 0x93 e, f, eqb-true (number_at 0 0 block) 0x93 e) refl)

  thin_42 : unit.thin ≡ true → (number_at 0 0 block == 0x42) ≡ true → IsTold unit present blocks block
  unfolding record_of spelled_block unit_block_data block_taken
  thin_42 t e = by_cases (anchors block) (λ f. rw (t, whole, eqb-true (number_at 0 0 block) 0x42 e, eqb-true (number_at 0 0 block) 0x42 e, f, eqb-true (number_at 0 0 block) 0x42 e) refl)
      (λ f. rw (t, whole, eqb-true (number_at 0 0 block) 0x42 e, eqb-true (number_at 0 0 block) 0x42 e, f) refl)

  thin_none : unit.thin ≡ true → (number_at 0 0 block == 0x00) ≡ false → (number_at 0 0 block == 0x12) ≡ false → (number_at 0 0 block == 0x25) ≡ false → (number_at 0 0 block == 0x28) ≡ false → (number_at 0 0 block == 0x2a) ≡ false → (number_at 0 0 block == 0x35) ≡ false → (number_at 0 0 block == 0x88) ≡ false → (number_at 0 0 block == 0x8a) ≡ false → (number_at 0 0 block == 0xa0) ≡ false → (number_at 0 0 block == 0x08) ≡ false → (number_at 0 0 block == 0x0a) ≡ false → (number_at 0 0 block == 0xa8) ≡ false → (number_at 0 0 block == 0xaa) ≡ false → (number_at 0 0 block == 0x2e) ≡ false → (number_at 0 0 block == 0xae) ≡ false → (number_at 0 0 block == 0x8e) ≡ false → (number_at 0 0 block == 0x91) ≡ false → (number_at 0 0 block == 0x89) ≡ false → (number_at 0 0 block == 0x03) ≡ false → (number_at 0 0 block == 0x1a) ≡ false → (number_at 0 0 block == 0x5a) ≡ false → (number_at 0 0 block == 0x34) ≡ false → (number_at 0 0 block == 0x90) ≡ false → (number_at 0 0 block == 0x2f) ≡ false → (number_at 0 0 block == 0xaf) ≡ false → (number_at 0 0 block == 0x8f) ≡ false → (number_at 0 0 block == 0x1b) ≡ false → (number_at 0 0 block == 0x9e) ≡ false → (number_at 0 0 block == 0xa3) ≡ false → (number_at 0 0 block == 0x41) ≡ false → (number_at 0 0 block == 0x93) ≡ false → (number_at 0 0 block == 0x42) ≡ false → IsTold unit present blocks block
  unfolding record_of spelled_block unit_block_data block_taken
  thin_none t e00 e12 e25 e28 e2a e35 e88 e8a ea0 e08 e0a ea8 eaa e2e eae e8e e91 e89 e03 e1a e5a e34 e90 e2f eaf e8f e1b e9e ea3 e41 e93 e42 = rw (t, whole, e00, e12, e25, e28, e2a, e35, e88, e8a, ea0, e9e, e89, e2f, eaf, e8f, e42, e41, e93, e08, e0a, ea8, eaa, e2e, eae, e8e, e91, e1b, e03, e1a, e5a, e1b, e34, e90, e2f, eaf, e8f, ea3, e9e, e42, e41, e93) refl

  thin_told : unit.thin ≡ true → IsTold unit present blocks block
  thin_told t =
      by_cases (number_at 0 0 block == 0x00) (thin_00 t) (λ e00.
      by_cases (number_at 0 0 block == 0x12) (thin_12 t) (λ e12.
      by_cases (number_at 0 0 block == 0x25) (thin_25 t) (λ e25.
      by_cases (number_at 0 0 block == 0x28) (thin_28 t) (λ e28.
      by_cases (number_at 0 0 block == 0x2a) (thin_2a t) (λ e2a.
      by_cases (number_at 0 0 block == 0x35) (thin_35 t) (λ e35.
      by_cases (number_at 0 0 block == 0x88) (thin_88 t) (λ e88.
      by_cases (number_at 0 0 block == 0x8a) (thin_8a t) (λ e8a.
      by_cases (number_at 0 0 block == 0xa0) (thin_a0 t) (λ ea0.
      by_cases (number_at 0 0 block == 0x08) (thin_08 t) (λ e08.
      by_cases (number_at 0 0 block == 0x0a) (thin_0a t) (λ e0a.
      by_cases (number_at 0 0 block == 0xa8) (thin_a8 t) (λ ea8.
      by_cases (number_at 0 0 block == 0xaa) (thin_aa t) (λ eaa.
      by_cases (number_at 0 0 block == 0x2e) (thin_2e t) (λ e2e.
      by_cases (number_at 0 0 block == 0xae) (thin_ae t) (λ eae.
      by_cases (number_at 0 0 block == 0x8e) (thin_8e t) (λ e8e.
      by_cases (number_at 0 0 block == 0x91) (thin_91 t) (λ e91.
      by_cases (number_at 0 0 block == 0x89) (thin_89 t) (λ e89.
      by_cases (number_at 0 0 block == 0x03) (thin_03 t) (λ e03.
      by_cases (number_at 0 0 block == 0x1a) (thin_1a t) (λ e1a.
      by_cases (number_at 0 0 block == 0x5a) (thin_5a t) (λ e5a.
      by_cases (number_at 0 0 block == 0x34) (thin_34 t) (λ e34.
      by_cases (number_at 0 0 block == 0x90) (thin_90 t) (λ e90.
      by_cases (number_at 0 0 block == 0x2f) (thin_2f t) (λ e2f.
      by_cases (number_at 0 0 block == 0xaf) (thin_af t) (λ eaf.
      by_cases (number_at 0 0 block == 0x8f) (thin_8f t) (λ e8f.
      by_cases (number_at 0 0 block == 0x1b) (thin_1b t) (λ e1b.
      by_cases (number_at 0 0 block == 0x9e) (thin_9e t) (λ e9e.
      by_cases (number_at 0 0 block == 0xa3) (thin_a3 t) (λ ea3.
      by_cases (number_at 0 0 block == 0x41) (thin_41 t) (λ e41.
      by_cases (number_at 0 0 block == 0x93) (thin_93 t) (λ e93.
      by_cases (number_at 0 0 block == 0x42) (thin_42 t) (λ e42.
      thin_none t e00 e12 e25 e28 e2a e35 e88 e8a ea0 e08 e0a ea8 eaa e2e eae e8e e91 e89 e03 e1a e5a e34 e90 e2f eaf e8f e1b e9e ea3 e41 e93 e42))))))))))))))))))))))))))))))))

block_told : (thin : Bool) (unit : LogicalUnit) (present : Bool) (blocks : ℕ) (block : List ℕ) → unit.thin ≡ thin → length block ≡ 16 → IsTold unit present blocks block
block_told true unit present blocks block t size = thin_told unit present blocks block size t
block_told false unit present blocks block t size = plain_told unit present blocks block size t

pub listed : (unit : LogicalUnit) (protected : Bool) (disk : Disk) (order : Order) (block bytes : List ℕ) → length block ≡ 16 → order.cdb ≡ record_of block
    → is_supported unit.thin block ≡ true → (answered unit protected disk order bytes).sense ≢ Some InvalidCode
listed unit protected disk order block bytes size e there = λ refused.
    false≢true (sym (ap not there) ∙ sym (block_told unit.thin unit (order.lun == 0) disk.count block refl size)
    ∙ sym (answer_says unit protected disk order block bytes e) ∙ ap says_code refused)

pub unlisted : (unit : LogicalUnit) (protected : Bool) (disk : Disk) (order : Order) (block bytes : List ℕ) → length block ≡ 16 → order.cdb ≡ record_of block
    → is_supported unit.thin block ≡ false → (answered unit protected disk order bytes).sense ≡ Some InvalidCode
unlisted unit protected disk order block bytes size e none =
    code_is (answered unit protected disk order bytes).sense
    (answer_says unit protected disk order block bytes e ∙ block_told unit.thin unit (order.lun == 0) disk.count block refl size ∙ ap not none)
