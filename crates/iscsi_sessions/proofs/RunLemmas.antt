-- Interleaved sessions: what they execute, and each by itself.
use Rattle.std.proofs.Common.{◌≡◌, inl, inr, ℕ, Bool, true, false, ◌==◌, List, [], ◌∷◌, ◌++◌, Some, refl, sym, ap, subst, ◌∙◌}
use mathlib.Core.Path.{fun_ext}
use Rattle.std.proofs.lemmas.Bool.{eqb-true}
use Rattle.std.proofs.lemmas.Option.{same_Some}
use Rattle.scsi_disk.specs.Disk.{Disk}
use Rattle.iscsi_target.specs.State.{Machine, TargetStep}
use Rattle.iscsi_target.specs.Laws.{ExecutionsLead}
use Rattle.iscsi_target.specs.Feed.{Store}
use Rattle.iscsi_target.proofs.Steps.FailingDiskLemmas.{leads_append, may_leads, stop_leads}
use Rattle.iscsi_sessions.specs.Turns.{Slots, Turn, IsTaskFront, IsOwn, IsEnded, OthersStay, SlotEvent, Comes, Takes, Syncs, Ends, Goes, SlotEventStep, SlotEventsRun, SessionEvents, KeepsSession}
use Rattle.iscsi_sessions.specs.Turns.{KeepsSlot, executed_of, executed_by, executed_in, slot_of, event_if, slot_events}

-- ---- the blocks

front_leads : (protected : Bool) (r : TargetStep) (counted : ℕ) (front : TargetStep) (after : ℕ) → IsTaskFront protected r counted front after
    → ExecutionsLead protected r.disk front.executed front.disk
unfolding ExecutionsLead
front_leads protected r counted front after (inl f) = subst (λ (x : TargetStep). ExecutionsLead protected r.disk x.executed x.disk) (sym f.0) refl
front_leads protected r counted front after (inr f) = stop_leads protected r.machine r.disk counted after f.0 front f.1

own_leads : (protected : Bool) (s : Machine) (t : Turn) → IsOwn protected s t → ExecutionsLead protected t.before.disk (executed_of t) t.after.disk
own_leads protected s t o =
    leads_append protected t.before.disk t.stepped.disk t.after.disk t.stepped.executed t.front.executed
    (may_leads protected s t.before.disk t.before.failures o.counted t.messages t.stepped o.may)
    (subst (λ (d : Disk). ExecutionsLead protected t.stepped.disk t.front.executed d) (sym o.disk)
    (front_leads protected t.stepped o.counted t.front t.after.failures o.front))

none_leads : (protected : Bool) (store last : Store) → last ≡ store → ExecutionsLead protected store.disk [] last.disk
unfolding ExecutionsLead
none_leads protected store last e = ap (λ (x : Store). x.disk) e

sync_leads : (protected : Bool) (store last : Store) → last.disk ≡ store.disk → ExecutionsLead protected store.disk [] last.disk
unfolding ExecutionsLead
sync_leads protected store last e = e

happens_leads : (protected : Bool) (slots : Slots) (store : Store) (e : SlotEvent) (after : Slots) (last : Store)
    → SlotEventStep protected slots store e after last →
    ExecutionsLead protected store.disk (executed_by e) last.disk
happens_leads protected slots store (Comes k settings) after last h = none_leads protected store last h.3
happens_leads protected slots store (Takes t) after last h =
    subst (λ (x : Store). ExecutionsLead protected x.disk (executed_of t) last.disk) h.met
    (subst (λ (x : Store). ExecutionsLead protected t.before.disk (executed_of t) x.disk) (sym h.last_is) (own_leads protected h.machine t h.own))
happens_leads protected slots store (Syncs k) after last h = sync_leads protected store last h.1
happens_leads protected slots store (Ends k) after last h = none_leads protected store last h.1
happens_leads protected slots store (Goes k) after last h = none_leads protected store last h.2

pub runs_lead : (protected : Bool) (slots after : Slots) (store last : Store) (es : List SlotEvent) → SlotEventsRun protected slots store es after last
    → ExecutionsLead protected store.disk (executed_in es) last.disk
unfolding SlotEventsRun
runs_lead protected slots after store last [] r = none_leads protected store last r.1
runs_lead protected slots after store last (e ∷ es) r =
    leads_append protected store.disk r.1.disk last.disk (executed_by e) (executed_in es) (happens_leads protected slots store e r.0 r.1 r.2)
    (runs_lead protected r.0 after r.1 last es r.3)

-- ---- one behind the other

-- two runs are one
pub runs_append : (protected : Bool) (slots mid after : Slots) (store now last : Store) (es fs : List SlotEvent) → SlotEventsRun protected slots store es
    mid now
    → SlotEventsRun protected mid now fs after last →
    SlotEventsRun protected slots store (es ++ fs) after last
unfolding SlotEventsRun
runs_append protected slots mid after store now last [] fs r q =
    subst (λ (s : Store). SlotEventsRun protected slots s fs after last) r.1
    (subst (λ (x : Slots). SlotEventsRun protected x now fs after last) (fun_ext r.0) q)
runs_append protected slots mid after store now last (e ∷ es) fs r q = (r.0, r.1, r.2, runs_append protected r.0 mid after r.1 now last es fs r.3 q)

-- no event
pub runs_none : (protected : Bool) (slots after : Slots) (store : Store) → ((k : ℕ) → after k ≡ slots k) → SlotEventsRun protected slots store [] after store
unfolding SlotEventsRun
runs_none protected slots after store same = (same, refl)

-- one event
pub runs_one : (protected : Bool) (slots after : Slots) (store last : Store) (e : SlotEvent) → SlotEventStep protected slots store e after last
    → SlotEventsRun protected slots store (e ∷ []) after last
unfolding SlotEventsRun
runs_one protected slots after store last e h = (after, last, h, ((λ k. refl), refl))

-- ---- one session

pub happens_others : (protected : Bool) (slots : Slots) (store : Store) (e : SlotEvent) (after : Slots) (last : Store)
    → SlotEventStep protected slots store e after last →
    OthersStay (slot_of e) slots after
happens_others protected slots store (Comes k settings) after last h = h.2
happens_others protected slots store (Takes t) after last h = h.others
happens_others protected slots store (Syncs k) after last h = λ j ne. h.0 j
happens_others protected slots store (Ends k) after last h = h.0.others
happens_others protected slots store (Goes k) after last h = h.1

-- behind these events the session stands so
abbrev StandsBehind : Bool → ℕ → Machine → List SlotEvent → Slots → Type 0
StandsBehind protected k s es after = (end : Machine) × (after k ≡ Some end) × SessionEvents protected s es end

own_event : (protected : Bool) (k : ℕ) (slots mid after : Slots) (store now : Store) (e : SlotEvent) (es : List SlotEvent) (s : Machine) → slot_of e ≡ k →
    SlotEventStep protected slots store e mid now → slots k ≡ Some s → KeepsSession true e →
    ((m : Machine) → mid k ≡ Some m → StandsBehind protected k m es after) → StandsBehind protected k s (e ∷ es) after
unfolding SessionEvents
own_event protected k slots mid after store now (Comes j settings) es s same h has keeps go = absurd keeps
own_event protected k slots mid after store now (Goes j) es s same h has keeps go = absurd keeps
own_event protected k slots mid after store now (Takes t) es s same h has keeps go =
    let rest : StandsBehind protected k h.left es after = go h.left (subst (λ (j : ℕ). mid j ≡ Some h.left) same h.has) in
    let is : h.machine ≡ s = same_Some h.machine s (sym h.had ∙ ap slots same ∙ has) in
    (rest.0, rest.1, (h.left, subst (λ (m : Machine). IsOwn protected m t) is h.own, h.is_left, rest.2))
own_event protected k slots mid after store now (Syncs j) es s same h has keeps go = go s (h.0 k ∙ has)
own_event protected k slots mid after store now (Ends j) es s same h has keeps go =
    let rest : StandsBehind protected k h.0.left es after = go h.0.left (subst (λ (j : ℕ). mid j ≡ Some h.0.left) same h.0.has) in
    let is : h.0.machine ≡ s = same_Some h.0.machine s (sym h.0.had ∙ ap slots same ∙ has) in
    (rest.0, rest.1, (h.0.left, subst (λ (m : Machine). IsEnded m h.0.left) is h.0.does, rest.2))

one_event : (protected : Bool) (b : Bool) (k : ℕ) (slots mid after : Slots) (store now : Store) (e : SlotEvent) (es : List SlotEvent) (s : Machine)
    → (slot_of e == k) ≡ b →
    SlotEventStep protected slots store e mid now → slots k ≡ Some s → KeepsSession b e →
    ((m : Machine) → mid k ≡ Some m → StandsBehind protected k m es after) → StandsBehind protected k s (event_if b e es) after
one_event protected true k slots mid after store now e es s at h has keeps go =
    own_event protected k slots mid after store now e es s (eqb-true (slot_of e) k at) h has keeps go
one_event protected false k slots mid after store now e es s at h has keeps go = go s (happens_others protected slots store e mid now h k at ∙ has)

pub own_session : (protected : Bool) (slots after : Slots) (store last : Store) (es : List SlotEvent) (k : ℕ) (s : Machine)
    → SlotEventsRun protected slots store es after last →
    slots k ≡ Some s → KeepsSlot k es → (end : Machine) × (after k ≡ Some end) × SessionEvents protected s (slot_events k es) end
unfolding SlotEventsRun SessionEvents
own_session protected slots after store last [] k s r has stays = (s, r.0 k ∙ has, refl)
own_session protected slots after store last (e ∷ es) k s r has stays =
    one_event protected (slot_of e == k) k slots r.0 after store r.1 e (slot_events k es) s refl r.2 has stays.0
    (λ m now. own_session protected r.0 after r.1 last es k m r.3 now stays.1)
