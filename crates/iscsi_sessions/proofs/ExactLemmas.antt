-- Where no failure was counted, what was executed did exactly what its order does.
use Rattle.std.proofs.Common.{Bool, ◌≡◌, ◌≤◌, inl, inr, ℕ, List, [], ◌∷◌, ◌++◌, refl, sym, ap, subst, arith}
use Rattle.scsi_disk.specs.Disk.{Disk}
use Rattle.scsi_disk.specs.Effect.{Effect, effect}
use Rattle.iscsi_stream.specs.Pieces.{piece_data}
use Rattle.iscsi_stream.specs.Stream.{Message}
use Rattle.iscsi_target.specs.State.{Machine, Execution, TargetStep}
use Rattle.iscsi_target.specs.Execution.{Device, reliable, device_next}
use Rattle.iscsi_target.specs.Machine.{ExecutionsRun, answers, target_step}
use Rattle.iscsi_target.specs.Feed.{Store}
use Rattle.iscsi_target.proofs.Steps.DiskFoldLemmas.{Does, Goes, step_does, first_does}
use Rattle.iscsi_target.proofs.Feed.FeedInvariant.{may_rise}
use Rattle.iscsi_target.proofs.Turns.ServingLemmas.{runs_rise}
use Rattle.iscsi_sessions.specs.Turns.{Slots, Turn, IsTaskFront, IsOwn, SlotEvent, Comes, Takes, Syncs, Ends, Goes as Leaves, SlotEventStep, SlotEventsRun, executed_of, executed_by, executed_in}
use Rattle.iscsi_sessions.specs.Blocks.{ExactExecutionsLead}

follow_append : (protected : Bool) (disk mid last : Disk) (a b : List Execution) → ExactExecutionsLead protected disk a mid
    → ExactExecutionsLead protected mid b last
    → ExactExecutionsLead protected disk (a ++ b) last
unfolding ExactExecutionsLead
follow_append protected disk mid last [] b p q = subst (λ (d : Disk). ExactExecutionsLead protected d b last) p q
follow_append protected disk mid last (e ∷ a) b p q = (
  p.0,
  follow_append protected
      (effect protected e.disk e.order (piece_data e.pieces)).disk mid last a b p.1 q,
)

does_follow : (protected : Bool) (disk last : Disk) (es : List Execution) → Does (reliable protected) disk es last → ExactExecutionsLead protected disk es last
unfolding ExactExecutionsLead
does_follow protected disk last [] d = d
does_follow protected disk last (e ∷ es) d = (d.0, does_follow protected (effect protected e.disk e.order (piece_data e.pieces)).disk last es d.1)

answers_follow : (protected : Bool) (s : Machine) (disk : Disk) (ms : List Message)
    → ExactExecutionsLead protected disk (answers protected s disk ms).executed (answers protected s disk ms).disk
unfolding ExactExecutionsLead answers
answers_follow protected s disk [] = refl
answers_follow protected s disk (m ∷ ms) =
    let first : TargetStep = target_step protected s disk m in
    let later : TargetStep = answers protected first.machine first.disk ms in
    follow_append protected disk first.disk later.disk first.executed later.executed
    (does_follow protected disk first.disk first.executed (step_does (reliable protected) s disk m).is) (answers_follow protected first.machine first.disk ms)

runs_follow : (protected : Bool) (device : Device) (before after : ℕ) (es : List Execution) (disk last : Disk) → after ≡ before
    → ExecutionsRun protected device before es after →
    Does device disk es last → ExactExecutionsLead protected disk es last
unfolding ExactExecutionsLead
runs_follow protected device before after [] disk last same r d = d
runs_follow protected device before after (e ∷ es) disk last same r d =
    let low : before ≤ r.0 = r.1.rises in
    let high : r.0 ≤ after = runs_rise protected (device_next device) r.0 es after r.2 in
    let left : Effect = device 0 e.disk e.order (piece_data e.pieces) in
    let is : left ≡ effect protected e.disk e.order (piece_data e.pieces) = r.1.works (omega arith) in (
      d.0,
      subst (λ (x : Effect). ExactExecutionsLead protected x.disk es last) is
          (runs_follow protected (device_next device) r.0 after es left.disk last (omega arith) r.2 d.1),
    )

-- ---- a turn

front_rises : (protected : Bool) (r : TargetStep) (counted : ℕ) (front : TargetStep) (after : ℕ) → IsTaskFront protected r counted front after → counted ≤ after
front_rises protected r counted front after (inl f) = f.1
front_rises protected r counted front after (inr f) =
    let a = f.1.rises in let b = runs_rise protected f.1.device counted front.executed f.1.failures f.1.runs in omega (arith, a, b)

front_follows : (protected : Bool) (r : TargetStep) (counted : ℕ) (front : TargetStep) (after : ℕ) → after ≡ counted
    → IsTaskFront protected r counted front after →
    ExactExecutionsLead protected r.disk front.executed front.disk
unfolding ExactExecutionsLead
front_follows protected r counted front after same (inl f) = subst (λ (x : TargetStep). ExactExecutionsLead protected r.disk x.executed x.disk) (sym f.0) refl
front_follows protected r counted front after same (inr (m, f)) =
    let a : f.failures ≤ after = f.rises in
    let b : counted ≤ f.failures = runs_rise protected f.device counted front.executed f.failures f.runs in
    let d : Goes f.device r.disk front =
    subst (λ (x : TargetStep). Goes f.device r.disk x) (sym f.is) (first_does f.done f.device f.session r.disk f.tasks) in
    runs_follow protected f.device counted f.failures front.executed r.disk front.disk (omega arith) f.runs d.is

own_rises : (protected : Bool) (s : Machine) (t : Turn) → IsOwn protected s t → t.before.failures ≤ t.after.failures
own_rises protected s t o =
    let a = may_rise protected s t.before.disk t.before.failures t.messages t.stepped o.counted o.may in
    let b = front_rises protected t.stepped o.counted t.front t.after.failures o.front in
    omega (arith, a, b)

own_follows : (protected : Bool) (s : Machine) (t : Turn) → IsOwn protected s t → t.after.failures ≡ t.before.failures
    → ExactExecutionsLead protected t.before.disk (executed_of t) t.after.disk
own_follows protected s t o same =
    let a = may_rise protected s t.before.disk t.before.failures t.messages t.stepped o.counted o.may in
    let b = front_rises protected t.stepped o.counted t.front t.after.failures o.front in
    follow_append protected t.before.disk t.stepped.disk t.after.disk t.stepped.executed t.front.executed
    (subst (λ (x : TargetStep). ExactExecutionsLead protected t.before.disk x.executed x.disk) (sym (o.works same))
    (answers_follow protected s t.before.disk t.messages))
    (subst (λ (d : Disk). ExactExecutionsLead protected t.stepped.disk t.front.executed d) (sym o.disk)
    (front_follows protected t.stepped o.counted t.front t.after.failures (omega (arith, a, b, same)) o.front))

-- ---- events

none_rises : (store last : Store) → last ≡ store → store.failures ≤ last.failures
none_rises store last e = omega (arith, ap (λ (x : Store). x.failures) e)

happens_rises : (protected : Bool) (slots : Slots) (store : Store) (e : SlotEvent) (after : Slots) (last : Store)
    → SlotEventStep protected slots store e after last →
    store.failures ≤ last.failures
happens_rises protected slots store (Comes k settings) after last h = none_rises store last h.3
happens_rises protected slots store (Takes t) after last h =
    let a = own_rises protected h.machine t h.own in
    let b = ap (λ (x : Store). x.failures) h.met in
    let d = ap (λ (x : Store). x.failures) h.last_is in
    omega (arith, a, b, d)
happens_rises protected slots store (Syncs k) after last h = h.2
happens_rises protected slots store (Ends k) after last h = none_rises store last h.1
happens_rises protected slots store (Leaves k) after last h = none_rises store last h.2

runs_rises : (protected : Bool) (slots after : Slots) (store last : Store) (es : List SlotEvent) → SlotEventsRun protected slots store es after last
    → store.failures ≤ last.failures
unfolding SlotEventsRun
runs_rises protected slots after store last [] r = none_rises store last r.1
runs_rises protected slots after store last (e ∷ es) r =
    let a = happens_rises protected slots store e r.0 r.1 r.2 in let b = runs_rises protected r.0 after r.1 last es r.3 in omega (arith, a, b)

sync_follows : (protected : Bool) (store last : Store) → last.disk ≡ store.disk → ExactExecutionsLead protected store.disk [] last.disk
unfolding ExactExecutionsLead
sync_follows protected store last e = e

none_follows : (protected : Bool) (store last : Store) → last ≡ store → ExactExecutionsLead protected store.disk [] last.disk
unfolding ExactExecutionsLead
none_follows protected store last e = ap (λ (x : Store). x.disk) e

happens_follows : (protected : Bool) (slots : Slots) (store : Store) (e : SlotEvent) (after : Slots) (last : Store)
    → SlotEventStep protected slots store e after last →
    last.failures ≡ store.failures → ExactExecutionsLead protected store.disk (executed_by e) last.disk
happens_follows protected slots store (Comes k settings) after last h same = none_follows protected store last h.3
happens_follows protected slots store (Takes t) after last h same =
    let b = ap (λ (x : Store). x.failures) h.met in
    let d = ap (λ (x : Store). x.failures) h.last_is in
    subst (λ (x : Store). ExactExecutionsLead protected x.disk (executed_of t) last.disk) h.met
    (subst (λ (x : Store). ExactExecutionsLead protected t.before.disk (executed_of t) x.disk) (sym h.last_is)
    (own_follows protected h.machine t h.own (omega (arith, b, d, same))))
happens_follows protected slots store (Syncs k) after last h same = sync_follows protected store last h.1
happens_follows protected slots store (Ends k) after last h same = none_follows protected store last h.1
happens_follows protected slots store (Leaves k) after last h same = none_follows protected store last h.2

pub runs_follows : (protected : Bool) (slots after : Slots) (store last : Store) (es : List SlotEvent) → SlotEventsRun protected slots store es after last
    → last.failures ≡ store.failures →
    ExactExecutionsLead protected store.disk (executed_in es) last.disk
unfolding SlotEventsRun
runs_follows protected slots after store last [] r same = none_follows protected store last r.1
runs_follows protected slots after store last (e ∷ es) r same =
    let a = happens_rises protected slots store e r.0 r.1 r.2 in
    let b = runs_rises protected r.0 after r.1 last es r.3 in
    follow_append protected store.disk r.1.disk last.disk (executed_by e) (executed_in es)
    (happens_follows protected slots store e r.0 r.1 r.2 (omega (arith, a, b, same)))
    (runs_follows protected r.0 after r.1 last es r.3 (omega (arith, a, b, same)))
