-- A store that refuses writes keeps its blocks.
use Rattle.std.proofs.Common.{◌≡◌, ◌∙◌, inl, inr, ℕ, ◌-◌, ◌*◌, Bool, true, false, List, [], ◌∷◌, Option, Some, None, arith, ap, refl}
use Rattle.std.specs.Prelude.{if◌then◌else◌, nat_lt}
use Rattle.std.proofs.lemmas.Bool.{cases_lt, le-ltb}
use Rattle.scsi_cdb.specs.declared.sense.Sense.{Sense}
use Rattle.scsi_cdb.specs.declared.sense.Sense.TheVariants.{WriteProtected}
use Rattle.scsi_disk.specs.declared.command.transfer.Transfer.{Transfer}
use Rattle.scsi_disk.specs.declared.deed.Deed.{Deed}
use Rattle.scsi_disk.specs.declared.deed.Deed.TheVariants.{Write, Same, Verify, Compare, Unmap}
use Rattle.scsi_disk.specs.declared.order.Order.{Order}
use Rattle.scsi_disk.specs.declared.order.Outcome.{Outcome}
use Rattle.scsi_disk.specs.declared.order.Plan.{Plan}
use Rattle.scsi_disk.specs.declared.order.Plan.TheVariants.{Refuse, Take, Give}
use Rattle.scsi_disk.specs.Disk.{Disk, IsOldOrNew, cut, disk_written, overlaid}
use Rattle.scsi_disk.specs.Deed.{writes, written_bytes, written_first}
use Rattle.scsi_disk.specs.Effect.{Effect, OrderExecuted, StoreFailureLeaves, deed_failure, disk_by, disk_done, disk_taken, guarded}
use Rattle.scsi_disk.specs.Plan.{named_transfer, plan_of}
use Rattle.scsi_disk.specs.Runs.{Supplied, OrdersRun}

none_by : (a b : Bool) (x y : List ℕ) → b ≡ false → (if a then x else if b then y else x) ≡ x
none_by true b x y e = refl
none_by false b x y e = rw e refl

-- no bytes change no block
none_over : (size first : ℕ) (block : ℕ → List ℕ) (n : ℕ) → overlaid size first [] block n ≡ block n
unfolding overlaid
none_over size first block n = none_by (nat_lt n first) (nat_lt (size * (n - first)) 0) (block n) (cut size [] (n - first))
    (le-ltb (size * (n - first)) 0 (omega arith))

pub none_written : (first : ℕ) (disk : Disk) → disk_written first [] disk ≡ disk
none_written first disk = λ i. record { count = disk.count; block = λ n. none_over 512 first disk.block n i; tells = disk.tells }

-- what a command that writes nothing leaves
keeps_done : (deed : Deed) (named : Transfer) (bytes : List ℕ) (disk : Disk) → writes deed ≡ false →
    disk_written (written_first deed named bytes) (written_bytes deed named bytes) disk ≡ disk
keeps_done Write named bytes disk e = absurd (let h : true ≡ false = e in cc)
keeps_done Same named bytes disk e = absurd (let h : true ≡ false = e in cc)
keeps_done Compare named bytes disk e = absurd (let h : true ≡ false = e in cc)
keeps_done (Unmap length) named bytes disk e = absurd (let h : true ≡ false = e in cc)
keeps_done Verify named bytes disk e = none_written named.first disk

pub done_keeps : (disk : Disk) (order : Order) (bytes : List ℕ) → writes order.deed ≡ false → disk_done disk order bytes ≡ disk
done_keeps disk order bytes e = keeps_done order.deed (named_transfer order.cdb) bytes disk e

taken_keeps : (reason : Option Sense) (disk : Disk) (order : Order) (bytes : List ℕ) → writes order.deed ≡ false → disk_taken reason disk order bytes ≡ disk
taken_keeps None disk order bytes e = done_keeps disk order bytes e
taken_keeps (Some sense) disk order bytes e = refl

one_of_same : (old new disk : Disk) → new ≡ old → IsOldOrNew old new disk → disk ≡ old
one_of_same old new disk same is = λ i. record { count = is.count i; block = λ n. each n i; tells = is.tells i }
  where
    each : (n : ℕ) → disk.block n ≡ old.block n
    each n = elim (is.each n) [ inl a ↦ a | inr b ↦ b ∙ ap (λ (d : Disk). d.block n) same ]

-- ---- on a store that refuses each write

works_by : (b : Bool) (length : ℕ) (disk : Disk) (order : Order) (bytes : List ℕ) → writes order.deed ≡ b →
    disk_by (if b then Refuse WriteProtected else Take length) disk order bytes ≡ disk
works_by true length disk order bytes e = refl
works_by false length disk order bytes e = taken_keeps (deed_failure disk order bytes) disk order bytes e

pub works_keep : (plan : Plan) (disk : Disk) (order : Order) (bytes : List ℕ) → disk_by (guarded true order.deed plan) disk order bytes ≡ disk
works_keep (Refuse sense) disk order bytes = refl
works_keep (Take n) disk order bytes = works_by (writes order.deed) n disk order bytes refl
works_keep (Give n) disk order bytes = refl

fails_by : (b : Bool) (length : ℕ) (disk : Disk) (order : Order) (bytes : List ℕ) (left : Effect) → writes order.deed ≡ b →
    StoreFailureLeaves (if b then Refuse WriteProtected else Take length) disk order bytes left → left.disk ≡ disk
fails_by true length disk order bytes left e f = absurd f
fails_by false length disk order bytes left e f = one_of_same disk (disk_done disk order bytes) left.disk (done_keeps disk order bytes e) f.1

pub fails_keep : (plan : Plan) (disk : Disk) (order : Order) (bytes : List ℕ) (left : Effect) → StoreFailureLeaves (guarded true order.deed plan) disk order bytes left
    → left.disk ≡ disk
fails_keep (Refuse sense) disk order bytes left f = absurd f
fails_keep (Take n) disk order bytes left f = fails_by (writes order.deed) n disk order bytes left refl f
fails_keep (Give n) disk order bytes left f = f.2

pub order_keeps : (before after : ℕ) (disk : Disk) (order : Order) (bytes : List ℕ) (left : Effect) → OrderExecuted true before after disk order bytes left
    → left.disk ≡ disk
order_keeps before after disk order bytes left x = elim (cases_lt before after) [
  | inl lt ↦ fails_keep (plan_of order disk.count) disk order bytes left (x.fails lt)
  | inr ge ↦ ap (λ (e : Effect). e.disk) (x.works (omega (arith, ge, x.rises))) ∙ works_keep (plan_of order disk.count) disk order bytes
]

pub run_keeps : (orders : List Supplied) (before after : ℕ) (disk last : Disk) (told : List Outcome) → OrdersRun true before disk orders after last told
    → last ≡ disk
unfolding OrdersRun
run_keeps [] before after disk last told ran = ran.1
run_keeps (o ∷ orders) before after disk last told ran =
    run_keeps orders ran.0 after ran.1.disk last ran.2 ran.4 ∙ order_keeps before ran.0 disk o.0 o.1 ran.1 ran.3
