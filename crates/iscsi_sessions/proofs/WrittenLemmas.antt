-- Each block is what it was, or what a command wrote there.
use Rattle.std.proofs.Common.{◌≡◌, ◌⊎◌, inl, inr, ◌∙◌, ℕ, Bool, List, [], ◌∷◌, Option, None, Some, ap, sym, subst}
use Rattle.std.specs.Prelude.{unwrap_or}
use Rattle.scsi_cdb.specs.declared.sense.Sense.{Sense}
use Rattle.scsi_disk.specs.Disk.{Disk}
use Rattle.scsi_disk.specs.Effect.{Effect, StoreFailureLeaves, deed_failure, disk_by, disk_taken, guarded}
use Rattle.scsi_disk.specs.Plan.{plan_of}
use Rattle.scsi_disk.specs.Runs.{Supplied}
use Rattle.scsi_disk.specs.declared.order.Order.{Order}
use Rattle.scsi_disk.specs.declared.order.Plan.{Plan}
use Rattle.scsi_disk.specs.declared.order.Plan.TheVariants.{Refuse, Take, Give}
use Rattle.iscsi_stream.specs.Pieces.{piece_data}
use Rattle.iscsi_target.specs.Crash.{IsBehindCommand}
use Rattle.iscsi_target.specs.Feed.{Store}
use Rattle.iscsi_target.specs.Laws.{ExecutionsLead, MayLeave}
use Rattle.iscsi_target.specs.State.{Execution}
use Rattle.iscsi_sessions.specs.Blocks.{aimed_block, aimed_by}
use Rattle.iscsi_sessions.specs.Flushes.{IsOrdered, IsWrittenBy}
use Rattle.iscsi_sessions.specs.Turns.{SlotEvent, SlotEventsRun, Slots, executed_in}
use Rattle.iscsi_sessions.proofs.BlockLemmas.{aim_block, plan_count}
use Rattle.iscsi_sessions.proofs.RunLemmas.{runs_lead}

-- ---- one command

or_else : (o : Option (List ℕ)) (was now : List ℕ) → now ≡ unwrap_or o was → (now ≡ was) ⊎ (o ≡ Some now)
or_else None was now e = inl e
or_else (Some x) was now e = inr (ap (λ (y : List ℕ). Some y) (sym e))

-- what was written is what is written where the command is done
taken_aims : (reason : Option Sense) (k : ℕ) (disk : Disk) (order : Order) (bytes : List ℕ) (n : ℕ) (now : List ℕ)
    → now ≡ (disk_taken reason disk order bytes).block n → (now ≡ disk.block n) ⊎ (aimed_block (Take k) order bytes n ≡ Some now)
taken_aims None k disk order bytes n now is = or_else (aimed_block (Take k) order bytes n) (disk.block n) now (is ∙ aim_block (Take k) disk order bytes n)
taken_aims (Some sense) k disk order bytes n now is = inl is

plan_aims : (p : Plan) (disk : Disk) (order : Order) (bytes : List ℕ) (n : ℕ) (now : List ℕ)
    → now ≡ (disk_by p disk order bytes).block n → (now ≡ disk.block n) ⊎ (aimed_block p order bytes n ≡ Some now)
plan_aims (Refuse sense) disk order bytes n now is = inl is
plan_aims (Give k) disk order bytes n now is = inl is
plan_aims (Take k) disk order bytes n now is = taken_aims (deed_failure disk order bytes) k disk order bytes n now is

fails_block : (p : Plan) (disk : Disk) (order : Order) (bytes : List ℕ) (after : Effect) (n : ℕ) → StoreFailureLeaves p disk order bytes after
    → (after.disk.block n ≡ disk.block n) ⊎ (aimed_block p order bytes n ≡ Some (after.disk.block n))
fails_block (Refuse sense) disk order bytes after n f = absurd f
fails_block (Give k) disk order bytes after n f = inl (ap (λ (d : Disk). d.block n) f.2)
fails_block (Take k) disk order bytes after n f = elim (f.1.each n) [
  | inl same ↦ inl same
  | inr now ↦ or_else (aimed_block (Take k) order bytes n) (disk.block n) (after.disk.block n) (now ∙ aim_block (Take k) disk order bytes n)
]

fails_count : (p : Plan) (disk : Disk) (order : Order) (bytes : List ℕ) (after : Effect) → StoreFailureLeaves p disk order bytes after
    → after.disk.count ≡ disk.count
fails_count (Refuse sense) disk order bytes after f = absurd f
fails_count (Give k) disk order bytes after f = ap (λ (d : Disk). d.count) f.2
fails_count (Take k) disk order bytes after f = f.1.count

leave_block : (protected : Bool) (e : Execution) (after : Effect) (n : ℕ) → MayLeave protected e after
    → (after.disk.block n ≡ e.disk.block n) ⊎ (aimed_by protected e.disk.count e n ≡ Some (after.disk.block n))
leave_block protected e after n (inl is) =
    plan_aims (guarded protected e.order.deed (plan_of e.order e.disk.count)) e.disk e.order (piece_data e.pieces) n (after.disk.block n)
    (ap (λ (a : Effect). a.disk.block n) is)
leave_block protected e after n (inr f) =
    fails_block (guarded protected e.order.deed (plan_of e.order e.disk.count)) e.disk e.order (piece_data e.pieces) after n f

leave_count : (protected : Bool) (e : Execution) (after : Effect) → MayLeave protected e after → after.disk.count ≡ e.disk.count
leave_count protected e after (inl is) =
    ap (λ (a : Effect). a.disk.count) is ∙ plan_count (guarded protected e.order.deed (plan_of e.order e.disk.count)) e.disk e.order (piece_data e.pieces)
leave_count protected e after (inr f) =
    fails_count (guarded protected e.order.deed (plan_of e.order e.disk.count)) e.disk e.order (piece_data e.pieces) after f

-- ---- commands behind which a block stands

pub behind_writes : (protected : Bool) (disk : Disk) (orders : List Supplied) (n : ℕ) (bytes : List ℕ) → IsBehindCommand protected disk orders n bytes
    → (bytes ≡ disk.block n) ⊎ IsOrdered protected disk.count orders n bytes
behind_writes protected disk [] n bytes h = absurd h
behind_writes protected disk (o ∷ orders) n bytes (inl is) =
    elim (or_else (aimed_block (guarded protected o.0.deed (plan_of o.0 disk.count)) o.0 o.1 n) (disk.block n) bytes
    (is.1 ∙ aim_block (guarded protected o.0.deed (plan_of o.0 disk.count)) disk o.0 o.1 n)) [
      | inl same ↦ inl same
      | inr wrote ↦ inr (inl wrote)
    ]
behind_writes protected disk (o ∷ orders) n bytes (inr later) = elim (behind_writes protected disk orders n bytes later) [
  | inl same ↦ inl same
  | inr wrote ↦ inr (inr wrote)
]

-- ---- commands one after another

lead_block : (protected : Bool) (disk last : Disk) (es : List Execution) → ExecutionsLead protected disk es last → (n : ℕ)
    → (last.block n ≡ disk.block n) ⊎ IsWrittenBy protected disk.count es n (last.block n)
unfolding ExecutionsLead
lead_block protected disk last [] f n = inl (ap (λ (d : Disk). d.block n) f)
lead_block protected disk last (e ∷ es) f n =
    let counts : f.0.disk.count ≡ disk.count = leave_count protected e f.0 f.2 ∙ ap (λ (d : Disk). d.count) f.1 in
    elim (lead_block protected f.0.disk last es f.3 n) [
      | inl same ↦ elim (leave_block protected e f.0 n f.2) [
        | inl kept ↦ inl (same ∙ kept ∙ ap (λ (d : Disk). d.block n) f.1)
        | inr wrote ↦ inr (inl (ap (λ (d : Disk). aimed_by protected d.count e n) (sym f.1) ∙ wrote ∙ ap (λ (b : List ℕ). Some b) (sym same)))
      ]
      | inr later ↦ inr (inr (subst (λ (c : ℕ). IsWrittenBy protected c es n (last.block n)) counts later))
    ]

pub runs_block : (protected : Bool) (slots after : Slots) (store last : Store) (es : List SlotEvent) (n : ℕ) → SlotEventsRun protected slots store es after last
    → (last.disk.block n ≡ store.disk.block n) ⊎ IsWrittenBy protected store.disk.count (executed_in es) n (last.disk.block n)
runs_block protected slots after store last es n r =
    lead_block protected store.disk last.disk (executed_in es) (runs_lead protected slots after store last es r) n
