-- The blocks of a target's disk are those of some bytes, whatever it executed.
use Rattle.std.specs.List.{AllByRecursion}
use Rattle.std.specs.Prelude.{if◌then◌else◌}
use Rattle.std.proofs.lemmas.Bool.{ltb-false}
use Rattle.std.proofs.Common.{Bool, true, false, Option, Some, None, ◌≡◌, ◌≤◌, ℕ, ◌+◌, ◌-◌, ◌*◌, ◌/◌, List, [], ◌∷◌, ◌++◌, length, take, drop, refl, sym, ap, ◌∙◌, subst, arith}
use Rattle.std.proofs.lemmas.List.{drop_at, length-append, length-drop, length-take-le, take_at}
use borrow.Rule.Slice.PartMut.{put_mid}
use Rattle.scsi_disk.specs.Disk.{Disk, disk_of, joined_blocks, disk_written, zero_block}
use Rattle.scsi_disk.specs.Effect.{deed_failure, disk_taken, write_block_data, write_first, disk_by, effect}
use Rattle.scsi_disk.specs.Deed.{failure_by, taken_by, unmap_range, written_bytes, written_first}
use Rattle.scsi_disk.specs.Plan.{plan_of, named_transfer, taken_length}
use Rattle.scsi_cdb.specs.declared.sense.Sense.{Sense}
use Rattle.scsi_cdb.specs.declared.sense.Sense.TheVariants.{InvalidParameter, OutOfRange, ParameterLength}
use Rattle.scsi_disk.specs.declared.deed.Deed.{Deed}
use Rattle.scsi_disk.specs.declared.deed.Deed.TheVariants.{Write, Same, Verify, Compare, Unmap}
use Rattle.scsi_disk.specs.declared.order.Order.{Order}
use Rattle.scsi_disk.specs.declared.order.Plan.{Plan}
use Rattle.scsi_disk.specs.declared.order.Plan.TheVariants.{Refuse, Take, Give}
use Rattle.scsi_disk.proofs.BlockLemmas.{cut-put, joined-cut, same_disk}
use Rattle.scsi_disk.proofs.PlanLemmas.{IsTaken, taken}
use Rattle.scsi_disk.proofs.RepeatLemmas.{length_repeat}
use Rattle.iscsi_stream.specs.Pieces.{Pieces, TilesFrom, piece_data}
use Rattle.iscsi_stream.specs.Stream.{Message}
use Rattle.iscsi_target.specs.State.{Machine, Execution, TargetStep}
use Rattle.iscsi_target.specs.Execution.{reliable}
use Rattle.iscsi_target.specs.Machine.{answers, target_step}
use Rattle.iscsi_target.specs.Tiles.{IsTiled, TilesPlan}
use Rattle.iscsi_target.proofs.Steps.DiskFoldLemmas.{Does, step_does}
use Rattle.iscsi_target.proofs.Writes.WriteTilingLaws.{IsSound, step_count, step_goes}

-- some bytes have these blocks
pub record HasBlocks (disk : Disk) : Type 0 where
  pub bytes : List ℕ
  pub is : disk_of bytes ≡ disk

-- ---- a write

length_put : (a k : ℕ) (xs ys : List ℕ) → length ys ≡ k → a + k ≤ length xs → length (put_mid a k xs ys) ≡ length xs
length_put a k xs ys e room =
    let front : length (take a xs) ≡ a = length-take-le a xs (omega (arith, room)) in
    let back : length (drop k (drop a xs)) ≡ length xs - a - k = length-drop k (drop a xs) ∙ ap (λ (n : ℕ). n - k) (length-drop a xs) in
    let one = length-append (take a xs) (ys ++ drop k (drop a xs)) in
    let two = length-append ys (drop k (drop a xs)) in
    omega (arith, front, back, one, two, e, room)

-- whole blocks inside the disk are written
writes : (xs ys : List ℕ) (first count : ℕ) → length ys ≡ 512 * count → first + count ≤ length xs / 512 → HasBlocks (disk_written first ys (disk_of xs))
writes xs ys first count whole inside =
    let room : 512 * first + length ys ≤ length xs = omega (arith, whole, inside) in
    record {
      bytes = put_mid (512 * first) (length ys) xs ys;
      is = same_disk _ _ (ap (λ (n : ℕ). n / 512) (length_put (512 * first) (length ys) xs ys refl room))
          (cut-put 512 xs ys first count whole (omega (arith, room))) refl;
    }

-- what is written there is read there
pub joined_back : (xs ys : List ℕ) (first count : ℕ) → length ys ≡ 512 * count → first + count ≤ length xs / 512
    → joined_blocks (disk_written first ys (disk_of xs)).block first count ≡ ys
joined_back xs ys first count whole inside =
    let a : ℕ = 512 * first in
    let tail : List ℕ = drop (length ys) (drop a xs) in
    let room : a ≤ length xs = omega (arith, inside) in
    ap (λ (block : ℕ → List ℕ). joined_blocks block first count) (sym (cut-put 512 xs ys first count whole room))
    ∙ joined-cut 512 (put_mid a (length ys) xs ys) first count
    ∙ ap (take (512 * count)) (drop_at (take a xs) (ys ++ tail) a (length-take-le a xs room))
    ∙ take_at ys tail (512 * count) whole

-- ---- an order

-- whole blocks that lie inside a disk
record IsWhole (first : ℕ) (bytes : List ℕ) (disk : Disk) : Type 0 where
  count : ℕ
  size : length bytes ≡ 512 * count
  inside : first + count ≤ disk.count

-- a list that isn't refused has no range past the end
not_past : (a b c : Bool) → (if a then Some ParameterLength else if b then Some InvalidParameter else if c then Some OutOfRange else None) ≡ None → c ≡ false
not_past true b c e = absurd (let h : Some ParameterLength ≡ None = e in cc)
not_past false true c e = absurd (let h : Some InvalidParameter ≡ None = e in cc)
not_past false false true e = absurd (let h : Some OutOfRange ≡ None = e in cc)
not_past false false false e = refl

-- pieces that tile n bytes have as many
tiles_size : (at : ℕ) (pieces : Pieces) (end : ℕ) → TilesFrom at pieces end → at + length (piece_data pieces) ≡ end
tiles_size at [] end e = omega (arith, e)
tiles_size at (piece ∷ pieces) end e =
    let more = tiles_size (at + length piece.1) pieces end e.1 in
    let both = length-append piece.1 (piece_data pieces) in
    omega (arith, more, both)

-- what a command writes that doesn't fail
written_whole : (deed : Deed) (order : Order) (disk : Disk) (bytes : List ℕ) → failure_by deed (named_transfer order.cdb) disk bytes ≡ None
    → (named_transfer order.cdb).first + (named_transfer order.cdb).count ≤ disk.count → length bytes ≡ taken_by deed (named_transfer order.cdb).count
    → IsWhole (written_first deed (named_transfer order.cdb) bytes) (written_bytes deed (named_transfer order.cdb) bytes) disk
written_whole Write order disk bytes none inside size = record { count = (named_transfer order.cdb).count; size = size; inside = inside }
written_whole Same order disk bytes none inside size = record {
  count = (named_transfer order.cdb).count;
  size = length_repeat (named_transfer order.cdb).count 512 bytes size;
  inside = inside;
}
written_whole Verify order disk bytes none inside size = record { count = 0; size = omega arith; inside = omega (arith, inside) }
written_whole Compare order disk bytes none inside size = record {
  count = (named_transfer order.cdb).count;
  size = length-drop (512 * (named_transfer order.cdb).count) bytes ∙ (let half : length bytes - 512 * (named_transfer order.cdb).count
      ≡ 512 * (named_transfer order.cdb).count = omega (arith, size) in half);
  inside = inside;
}
written_whole (Unmap n) order disk bytes none inside size = record {
  count = (unmap_range bytes).count;
  size = length_repeat (unmap_range bytes).count 512 zero_block refl;
  inside = ltb-false _ _ (not_past _ _ _ none);
}

taken_blocks : (reason : Option Sense) (xs : List ℕ) (order : Order) (bytes : List ℕ) → deed_failure (disk_of xs) order bytes ≡ reason
    → (named_transfer order.cdb).first + (named_transfer order.cdb).count ≤ length xs / 512 → length bytes ≡ taken_length order
    → HasBlocks (disk_taken reason (disk_of xs) order bytes)
taken_blocks (Some sense) xs order bytes is inside size = record { bytes = xs; is = refl }
taken_blocks None xs order bytes is inside size =
    let w = written_whole order.deed order (disk_of xs) bytes is inside size in
    writes xs (write_block_data order bytes) (write_first order bytes) w.count w.size w.inside

by_plan : (plan : Plan) (xs : List ℕ) (order : Order) (pieces : Pieces) → plan_of order (length xs / 512) ≡ plan → TilesPlan plan pieces
    → HasBlocks (disk_by plan (disk_of xs) order (piece_data pieces))
by_plan (Refuse sense) xs order pieces is t = record { bytes = xs; is = refl }
by_plan (Give n) xs order pieces is t = record { bytes = xs; is = refl }
by_plan (Take n) xs order pieces is t =
    let f : IsTaken order (length xs / 512) n = taken order (length xs / 512) n is in
    let size = tiles_size 0 pieces n t in
    let same : length (piece_data pieces) ≡ n = omega (arith, size) in
    taken_blocks (deed_failure (disk_of xs) order (piece_data pieces)) xs order (piece_data pieces) refl f.names.inside (same ∙ f.length)

-- an order is executed, with data that tile what it takes
executes : (xs : List ℕ) (order : Order) (pieces : Pieces) → TilesPlan (plan_of order (length xs / 512)) pieces
    → HasBlocks (effect false (disk_of xs) order (piece_data pieces)).disk
executes xs order pieces t = by_plan (plan_of order (length xs / 512)) xs order pieces refl t

-- ---- messages

-- orders one after another
does_blocks : (xs : List ℕ) (es : List Execution) (last : Disk) → Does (reliable false) (disk_of xs) es last → AllByRecursion IsTiled es → HasBlocks last
does_blocks xs [] last d t = record { bytes = xs; is = sym d }
does_blocks xs (e ∷ es) last d t =
    let tiled : TilesPlan (plan_of e.order (length xs / 512)) e.pieces = subst (λ (x : Disk). TilesPlan (plan_of e.order x.count) e.pieces) d.0 t.0 in
    let h : HasBlocks (effect false e.disk e.order (piece_data e.pieces)).disk =
    subst (λ (x : Disk). HasBlocks (effect false x e.order (piece_data e.pieces)).disk) (sym d.0) (executes xs e.order e.pieces tiled) in
    does_blocks h.bytes es last (subst (λ (x : Disk). Does (reliable false) x es last) (sym h.is) d.1) t.1

step_blocks : (s : Machine) (disk : Disk) (m : Message) → IsSound disk.count s.tasks → HasBlocks disk → HasBlocks (target_step false s disk m).disk
step_blocks s disk m o h =
    let r : TargetStep = target_step false s disk m in
    does_blocks h.bytes r.executed r.disk (subst (λ (x : Disk). Does (reliable false) x r.executed r.disk) (sym h.is) (step_does (reliable false) s disk m).is)
    (step_goes false disk s m o).tiled

pub answers_blocks : (s : Machine) (disk : Disk) (ms : List Message) → IsSound disk.count s.tasks → HasBlocks disk → HasBlocks (answers false s disk ms).disk
unfolding answers
answers_blocks s disk [] o h = h
answers_blocks s disk (m ∷ ms) o h =
    let r : TargetStep = target_step false s disk m in
    answers_blocks r.machine r.disk ms (subst (λ (n : ℕ). IsSound n r.machine.tasks) (sym (step_count false s disk m)) (step_goes false disk s m o).sound)
    (step_blocks s disk m o h)
