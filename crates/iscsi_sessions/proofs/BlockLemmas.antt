-- What commands that were executed exactly leave in a block.
use Rattle.std.proofs.Common.{◌≡◌, ℕ, zero, suc, ◌+◌, Bool, true, false, if◌then◌else◌, List, [], ◌∷◌, ◌++◌, Option, None, Some, refl, sym, ap, subst, ◌∙◌}
use Rattle.std.proofs.Common.{take}
use Rattle.std.specs.Prelude.{unwrap_or, nat_lt, ◌*◌, ◌-◌, ◌||◌, length as list_length}
use Rattle.scsi_cdb.specs.declared.sense.Sense.{Sense}
use Rattle.scsi_disk.specs.declared.order.Order.{Order}
use Rattle.scsi_disk.specs.declared.order.Plan.{Plan}
use Rattle.scsi_disk.specs.declared.order.Plan.TheVariants.{Refuse, Take, Give}
use Rattle.scsi_disk.specs.Disk.{Disk, cut, joined_blocks, overlaid}
use Rattle.scsi_disk.specs.Effect.{write_block_data, write_first, deed_failure, effect, disk_by, disk_taken, done_by, guarded, outcome_by, wanted_data}
use Rattle.scsi_disk.proofs.GuardLemmas.{plan_stays}
use Rattle.scsi_disk.specs.Plan.{plan_of, named_transfer, is_read, is_write}
use Rattle.scsi_disk.specs.declared.order.Outcome.{Outcome}
use Rattle.scsi_unit.proofs.TellingLemmas.{not_told}
use Rattle.iscsi_stream.specs.Pieces.{piece_data}
use Rattle.iscsi_target.specs.State.{Execution}
use Rattle.iscsi_target.specs.Tiles.{bytes_given}
use Rattle.iscsi_sessions.specs.Blocks.{ExactExecutionsLead, aimed_block, block_by, unless_failed, written_by, later_or, last_written, block_left}

-- ---- one command

chosen : (b c : Bool) (x y : List ℕ) → (if b then y else if c then x else y) ≡ unwrap_or (if b then None else if c then Some x else None) y
chosen true c x y = refl
chosen false true x y = refl
chosen false false x y = refl

pub aim_block : (p : Plan) (disk : Disk) (order : Order) (bytes : List ℕ) (n : ℕ) → (done_by p disk order bytes).block n
    ≡ unwrap_or (aimed_block p order bytes n) (disk.block n)
unfolding overlaid
aim_block (Refuse sense) disk order bytes n = refl
aim_block (Give length) disk order bytes n = refl
aim_block (Take length) disk order bytes n = let first : ℕ = write_first order bytes in
    chosen (nat_lt n first) (nat_lt (512 * (n - first)) (list_length (write_block_data order bytes))) (cut 512 (write_block_data order bytes) (n - first))
    (disk.block n)

taken_block : (reason : Option Sense) (length : ℕ) (disk : Disk) (order : Order) (bytes : List ℕ) (n : ℕ) → (disk_taken reason disk order bytes).block n
    ≡ unwrap_or (unless_failed reason (aimed_block (Take length) order bytes n)) (disk.block n)
taken_block None length disk order bytes n = aim_block (Take length) disk order bytes n
taken_block (Some sense) length disk order bytes n = refl

pub plan_block : (p : Plan) (disk : Disk) (order : Order) (bytes : List ℕ) (n : ℕ) → (disk_by p disk order bytes).block n
    ≡ unwrap_or (block_by p disk order bytes n) (disk.block n)
plan_block (Refuse sense) disk order bytes n = refl
plan_block (Give length) disk order bytes n = refl
plan_block (Take length) disk order bytes n = taken_block (deed_failure disk order bytes) length disk order bytes n

taken_count : (reason : Option Sense) (disk : Disk) (order : Order) (bytes : List ℕ) → (disk_taken reason disk order bytes).count ≡ disk.count
taken_count None disk order bytes = refl
taken_count (Some sense) disk order bytes = refl

pub plan_count : (p : Plan) (disk : Disk) (order : Order) (bytes : List ℕ) → (disk_by p disk order bytes).count ≡ disk.count
plan_count (Refuse sense) disk order bytes = refl
plan_count (Give length) disk order bytes = refl
plan_count (Take length) disk order bytes = taken_count (deed_failure disk order bytes) disk order bytes

-- ---- one after another

later_first : (later earlier : Option (List ℕ)) (d : List ℕ) → unwrap_or (later_or later earlier) d ≡ unwrap_or later (unwrap_or earlier d)
later_first None earlier d = refl
later_first (Some x) earlier d = refl

pub follow_count : (protected : Bool) (disk last : Disk) (es : List Execution) → ExactExecutionsLead protected disk es last → last.count ≡ disk.count
unfolding ExactExecutionsLead
follow_count protected disk last [] f = ap (λ (d : Disk). d.count) f
follow_count protected disk last (e ∷ es) f =
    follow_count protected (effect protected e.disk e.order (piece_data e.pieces)).disk last es f.1
    ∙ plan_count (guarded protected e.order.deed (plan_of e.order e.disk.count)) e.disk e.order (piece_data e.pieces)
    ∙ ap (λ (d : Disk). d.count) f.0

pub follow_block : (protected : Bool) (disk last : Disk) (es : List Execution) → ExactExecutionsLead protected disk es last → (n : ℕ)
    → last.block n ≡ block_left protected disk es n
unfolding ExactExecutionsLead last_written
follow_block protected disk last [] f n = ap (λ (d : Disk). d.block n) f
follow_block protected disk last (e ∷ es) f n =
    let next : Disk = (effect protected e.disk e.order (piece_data e.pieces)).disk in
    let first : next.block n ≡ unwrap_or (written_by protected e n) (disk.block n) =
    plan_block (guarded protected e.order.deed (plan_of e.order e.disk.count)) e.disk e.order (piece_data e.pieces) n
    ∙ ap (λ (d : Disk). unwrap_or (written_by protected e n) (d.block n)) f.0 in
    follow_block protected next last es f.1 n
    ∙ ap (λ (b : List ℕ). unwrap_or (last_written protected es n) b) first
    ∙ sym (later_first (last_written protected es n) (written_by protected e n) (disk.block n))

follow_front : (protected : Bool) (disk last : Disk) (past : List Execution) (e : Execution) (later : List Execution)
    → ExactExecutionsLead protected disk (past ++ e ∷ later) last →
    ExactExecutionsLead protected disk past e.disk
unfolding ExactExecutionsLead
follow_front protected disk last [] e later f = f.0
follow_front protected disk last (p ∷ past) e later f = (
  f.0,
  follow_front protected (effect protected p.disk p.order (piece_data p.pieces)).disk
      last past e later f.1,
)

-- ---- a read

if_true : (b : Bool) (x y : List ℕ) → b ≡ true → (if b then x else y) ≡ x
if_true true x y e = refl
if_true false x y e = absurd cc

given_bytes : (p : Plan) (length : ℕ) (disk : Disk) (order : Order) (bytes : List ℕ) → p ≡ Give length
    → (outcome_by p disk order bytes).bytes ≡ take length (wanted_data disk order)
given_bytes p length disk order bytes e = subst (λ (q : Plan). (outcome_by q disk order bytes).bytes ≡ take length (wanted_data disk order)) (sym e) refl

joined_same : (f g : ℕ → List ℕ) → ((n : ℕ) → f n ≡ g n) → (first count : ℕ) → joined_blocks f first count ≡ joined_blocks g first count
unfolding joined_blocks
joined_same f g h first zero = refl
joined_same f g h first (suc count) =
    ap (λ (x : List ℕ). x ++ joined_blocks f (first + 1) count) (h first) ∙ ap (λ (x : List ℕ). g first ++ x) (joined_same f g h (first + 1) count)

pub read_bytes : (protected : Bool) (disk last : Disk) (past later : List Execution) (e : Execution) (length : ℕ)
    → ExactExecutionsLead protected disk (past ++ e ∷ later) last →
    is_read e.order.cdb ≡ true → plan_of e.order disk.count ≡ Give length →
    bytes_given protected e
    ≡ take length (joined_blocks (block_left protected disk past) (named_transfer e.order.cdb).first (named_transfer e.order.cdb).count)
read_bytes protected disk last past later e length f is p =
    let front : ExactExecutionsLead protected disk past e.disk = follow_front protected disk last past e later f in
    ap (λ (o : Outcome). o.bytes) (not_told e.unit e.disk.count e.order (effect protected e.disk e.order (piece_data e.pieces)).outcome
    (ap (λ (b : Bool). b || is_write e.order.cdb) is))
    ∙ given_bytes (guarded protected e.order.deed (plan_of e.order e.disk.count)) length e.disk e.order (piece_data e.pieces)
    (plan_stays protected e.order.deed (plan_of e.order e.disk.count) length (ap (λ (c : ℕ). plan_of e.order c) (follow_count protected disk e.disk past front) ∙ p))
    ∙ ap (λ (x : List ℕ). take length x) (if_true (is_read e.order.cdb) _ _ is
    ∙ joined_same e.disk.block (block_left protected disk past) (follow_block protected disk e.disk past front) (named_transfer e.order.cdb).first
    (named_transfer e.order.cdb).count)
