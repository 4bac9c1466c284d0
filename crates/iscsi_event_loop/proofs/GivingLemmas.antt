-- How many bytes are given to the peer of a slot, one thing behind the other.
use Rattle.std.proofs.Common.{◌≡◌, ◌<◌, ◌≤◌, ◌+◌, ◌-◌, inl, inr, ℕ, Bool, true, false, ◌==◌, List, [], ◌∷◌, ◌++◌, length, Option, None, Some, refl, sym, ap, subst, ◌∙◌, arith}
use Rattle.std.proofs.Common.{get_or, length-append, length-drop, set}
use Rattle.std.proofs.lemmas.Bool.{eqb-true}
use Rattle.std.specs.Prelude.{Result, max}
use Rattle.iscsi_stream.specs.Canonical.{canon}
use Rattle.iscsi_target_session.specs.Configured.{TargetSettings}
use Rattle.iscsi_target.specs.declared.fault.TargetFault.{TargetFault}
use Rattle.iscsi_target.specs.Feed.{Store}
use Rattle.iscsi_sessions.specs.Slots.{SessionTable, Slot, opening_slot, may_take_at, slot_at, slot_waiting, with_slot, with_sent, SlotChanges}
use Rattle.iscsi_sessions.specs.Turns.{SlotEvent, Takes, TakesTurn, answers_of}
use Rattle.iscsi_sessions.proofs.SlotLemmas.{changed_other, changed_same, some_within}
use Rattle.iscsi_sessions.proofs.BoundLemmas.{turn_waits}
use Rattle.iscsi_event_loop.specs.Giving.{GivesNothing, IsSlotKept, bytes_answered, answered_in, most_answered, most_waiting_at, waits_at}
use Rattle.iscsi_event_loop.specs.inner.Giving.{GivesWithin}

-- ---- events behind others

answered_append : (es fs : List SlotEvent) → answered_in (es ++ fs) ≡ answered_in es + answered_in fs
answered_append [] fs = omega arith
answered_append (e ∷ es) fs = omega (arith, answered_append es fs)

max_zero : (n : ℕ) → n ≡ max 0 n
max_zero n = omega arith

max_more : (a b c m : ℕ) → m ≡ max b c → max a m ≡ max (max a b) c
max_more a b c m e = omega (arith, e)

most_append : (es fs : List SlotEvent) → most_answered (es ++ fs) ≡ max (most_answered es) (most_answered fs)
most_append [] fs = max_zero (most_answered fs)
most_append (e ∷ es) fs =
    max_more (bytes_answered e) (most_answered es) (most_answered fs) (most_answered (es ++ fs)) (most_append es fs)

-- what waited behind the first events waits, or more
more_waiting : (wa wb a b m : ℕ) → m ≡ max a b → wb ≤ max wa (65_535 + a) → max wb (65_535 + b) ≤ max wa (65_535 + m)
more_waiting wa wb a b m e le = omega (arith, e, le)

then_going : (wa wb wc a b ab had mid left : ℕ) → ab ≡ a + b → (wa + a - wb) + mid ≤ had → (wb + b - wc) + left ≤ mid
    → (wa + ab - wc) + left ≤ had
then_going wa wb wc a b ab had mid left e p q = omega (arith, e, p, q)

then_most : (wa wb wc a b ab had mid waits more : ℕ) → ab ≡ a + b → (wa + a - wb) + mid ≤ had → (wb + b - wc) ≤ mid + waits → waits ≤ more
    → (wa + ab - wc) ≤ had + more
then_most wa wb wc a b ab had mid waits more e p q le = omega (arith, e, p, q, le)

le_of : (a b c : ℕ) → a ≤ b → b ≤ c → a ≤ c
le_of a b c p q = omega (arith, p, q)

pub then_gives : (slot had mid left : ℕ) (a b c : SessionTable) (es fs : List SlotEvent) → 0 < mid → GivesWithin slot had mid a es b
    → GivesWithin slot mid left b fs c → GivesWithin slot had left a (es ++ fs) c
then_gives slot had mid left a b c es fs some p q =
    let more : most_waiting_at slot b fs ≤ most_waiting_at slot a (es ++ fs) =
    more_waiting (waits_at slot a) (waits_at slot b) (most_answered es) (most_answered fs) (most_answered (es ++ fs)) (most_append es fs) p.waits in
    record {
      going = λ going. then_going (waits_at slot a) (waits_at slot b) (waits_at slot c) (answered_in es) (answered_in fs) (answered_in (es ++ fs))
          had mid left (answered_append es fs) (p.going some) (q.going going);
      most = then_most (waits_at slot a) (waits_at slot b) (waits_at slot c) (answered_in es) (answered_in fs) (answered_in (es ++ fs))
          had mid (most_waiting_at slot b fs) (most_waiting_at slot a (es ++ fs)) (answered_append es fs) (p.going some) q.most more;
      waits = le_of (waits_at slot c) (most_waiting_at slot b fs) (most_waiting_at slot a (es ++ fs)) q.waits more;
    }

-- ---- nothing is given

same_going : (w v left : ℕ) → v ≡ w → (w + 0 - v) + left ≤ left
same_going w v left e = omega (arith, e)

same_most : (w v had : ℕ) → v ≡ w → w + 0 - v ≤ had + max w (65_535 + 0)
same_most w v had e = omega (arith, e)

same_waits : (w v : ℕ) → v ≡ w → v ≤ max w (65_535 + 0)
same_waits w v e = omega (arith, e)

-- by no event
pub none_gives : (slot had : ℕ) (old new : SessionTable) → waits_at slot new ≡ waits_at slot old → GivesWithin slot had had old [] new
none_gives slot had old new same = record {
  going = λ going. same_going (waits_at slot old) (waits_at slot new) had same;
  most = same_most (waits_at slot old) (waits_at slot new) had same;
  waits = same_waits (waits_at slot old) (waits_at slot new) same;
}

-- by one that answers nothing
silent_going : (w v n left : ℕ) → n ≡ 0 → v ≡ w → (w + (n + 0) - v) + left ≤ left
silent_going w v n left z e = omega (arith, z, e)

silent_most : (w v n had : ℕ) → n ≡ 0 → v ≡ w → w + (n + 0) - v ≤ had + max w (65_535 + max n 0)
silent_most w v n had z e = omega (arith, z, e)

silent_waits : (w v n : ℕ) → v ≡ w → v ≤ max w (65_535 + max n 0)
silent_waits w v n e = omega (arith, e)

pub silent_gives : (slot had : ℕ) (old new : SessionTable) (e : SlotEvent) → bytes_answered e ≡ 0 → waits_at slot new ≡ waits_at slot old
    → GivesWithin slot had had old (e ∷ []) new
silent_gives slot had old new e none same = record {
  going = λ going. silent_going (waits_at slot old) (waits_at slot new) (bytes_answered e) had none same;
  most = silent_most (waits_at slot old) (waits_at slot new) (bytes_answered e) had none same;
  waits = silent_waits (waits_at slot old) (waits_at slot new) (bytes_answered e) same;
}

-- ---- a slot that changed

pub waits_before : (slot : ℕ) (old new : SessionTable) (P : Slot → Slot → Type 0) (c : SlotChanges slot old new P) → waits_at slot old ≡ length c.before.waiting
waits_before slot old new P c = ap (λ (o : Option Slot). length (slot_waiting o)) c.was

pub waits_behind : (slot : ℕ) (old new : SessionTable) (P : Slot → Slot → Type 0) (c : SlotChanges slot old new P) → waits_at slot new ≡ length c.after.waiting
waits_behind slot old new P c =
    ap (λ (o : Option Slot). length (slot_waiting o))
    (changed_same slot old new (Some c.after) (some_within old.slots slot c.before c.was) c.now)

-- whose bytes wait as before
pub waits_same : (slot : ℕ) (old new : SessionTable) (P : Slot → Slot → Type 0) (c : SlotChanges slot old new P) → c.after.waiting ≡ c.before.waiting
    → waits_at slot new ≡ waits_at slot old
waits_same slot old new P c same =
    waits_behind slot old new P c ∙ ap (λ (x : List ℕ). length x) same ∙ sym (waits_before slot old new P c)

-- of which some were written
pub waits_less : (slot count : ℕ) (old new : SessionTable) → SlotChanges slot old new (λ before after. after ≡ with_sent count before)
    → waits_at slot new ≡ waits_at slot old - count
waits_less slot count old new c =
    waits_behind slot old new _ c ∙ ap (λ (s : Slot). length s.waiting) c.does ∙ length-drop count c.before.waiting
    ∙ ap (λ (n : ℕ). n - count) (sym (waits_before slot old new _ c))

-- ---- a write

sent_going : (w v n count had left : ℕ) → n ≡ 0 → v ≡ w - count → left ≡ had - count → 0 < left → (w + (n + 0) - v) + left ≤ had
sent_going w v n count had left z e f some = omega (arith, z, e, f, some)

sent_most : (w v n had : ℕ) → n ≡ 0 → w + (n + 0) - v ≤ had + max w (65_535 + max n 0)
sent_most w v n had z = omega (arith, z)

sent_waits : (w v n count : ℕ) → v ≡ w - count → v ≤ max w (65_535 + max n 0)
sent_waits w v n count e = omega (arith, e)

pub sent_gives : (slot count had left : ℕ) (old new : SessionTable) (e : SlotEvent) → bytes_answered e ≡ 0 → waits_at slot new ≡ waits_at slot old - count
    → left ≡ had - count → GivesWithin slot had left old (e ∷ []) new
sent_gives slot count had left old new e none less is = record {
  going = λ going. sent_going (waits_at slot old) (waits_at slot new) (bytes_answered e) count had left none less is going;
  most = sent_most (waits_at slot old) (waits_at slot new) (bytes_answered e) had none;
  waits = sent_waits (waits_at slot old) (waits_at slot new) (bytes_answered e) count less;
}

-- ---- a PDU

turn_going : (w v n left : ℕ) → v ≡ w + n → (w + (n + 0) - v) + left ≤ left
turn_going w v n left e = omega (arith, e)

turn_most : (w v n had : ℕ) → v ≡ w + n → w + (n + 0) - v ≤ had + max w (65_535 + max n 0)
turn_most w v n had e = omega (arith, e)

turn_room : (w v n : ℕ) → v ≤ 65_535 + n → v ≤ max w (65_535 + max n 0)
turn_room w v n le = omega (arith, le)

pub turn_gives : (protected : Bool) (slot had : ℕ) (old new : SessionTable) (before after : Store) (result : Result ℕ TargetFault)
    (t : TakesTurn protected slot old before result new after) → may_take_at (slot_at old slot) ≡ true → GivesWithin slot had had old (Takes t.turn ∷ []) new
turn_gives protected slot had old new before after result t may =
    let n : ℕ = length (canon (answers_of t.turn)) in
    let more : waits_at slot new ≡ waits_at slot old + n =
    ap (λ (x : List ℕ). length x) t.answers_are ∙ length-append (slot_waiting (slot_at old slot)) (canon (answers_of t.turn)) in
    record {
      going = λ going. turn_going (waits_at slot old) (waits_at slot new) n had more;
      most = turn_most (waits_at slot old) (waits_at slot new) n had more;
      waits = turn_room (waits_at slot old) (waits_at slot new) n (turn_waits protected slot old new before after result t may);
    }

-- ---- sessions come and go

pub none_kept : (table : SessionTable) → GivesNothing table table
none_kept table = λ k. inl refl

then_at_slot : (a b c : Option Slot) → IsSlotKept a b → IsSlotKept b c → IsSlotKept a c
then_at_slot a b c p (inl q) = subst (λ (o : Option Slot). IsSlotKept a o) (sym q) p
then_at_slot a b c p (inr q) = inr q

pub then_kept : (a b c : SessionTable) → GivesNothing a b → GivesNothing b c → GivesNothing a c
then_kept a b c p q = λ k. then_at_slot (slot_at a k) (slot_at b k) (slot_at c k) (p k) (q k)

-- one slot has this now
one_at : (t : Bool) (place k : ℕ) (old new : SessionTable) (o : Option Slot) → (place == k) ≡ t → place < length old.slots → new.slots ≡ set old.slots place o
    → ((k : ℕ) → IsSlotKept (slot_at old k) o) → IsSlotKept (slot_at old k) (slot_at new k)
one_at false place k old new o e within now fits = inl (changed_other place k old new o e now)
one_at true place k old new o e within now fits =
    let at : place ≡ k = eqb-true place k e in
    let is : slot_at new k ≡ o = subst (λ (j : ℕ). slot_at new j ≡ o) at (changed_same place old new o within now) in
    subst (λ (x : Option Slot). IsSlotKept (slot_at old k) x) (sym is) (fits k)

pub comes_kept : (place : ℕ) (old new : SessionTable) (settings : TargetSettings) → place < length old.slots
    → new ≡ with_slot old place (Some (opening_slot settings)) → GivesNothing old new
comes_kept place old new settings within is =
    λ k. one_at (place == k) place k old new (Some (opening_slot settings)) refl within (ap (λ (h : SessionTable). h.slots) is)
    (λ j. inr (inr (settings, refl)))

pub goes_kept : (place : ℕ) (old new : SessionTable) → place < length old.slots → new ≡ with_slot old place None → GivesNothing old new
goes_kept place old new within is =
    λ k. one_at (place == k) place k old new None refl within (ap (λ (h : SessionTable). h.slots) is) (λ j. inr (inl refl))

-- no slot changed
pub same_kept : (old new : SessionTable) → new.slots ≡ old.slots → GivesNothing old new
same_kept old new same = λ k. inl (ap (λ (x : List (Option Slot)). get_or x k None) same)
