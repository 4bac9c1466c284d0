-- What a login showed before a command of its session was executed.
use Rattle.std.proofs.Common.{◌≡◌, ◌⊎◌, inl, inr, ◌∙◌, ℕ, Bool, true, false, ◌==◌, List, [], ◌∷◌, ◌++◌, Some, None, refl, sym, ap, subst}
use Rattle.std.proofs.lemmas.Bool.{eqb-true, eq-eqb}
use Rattle.iscsi_login.specs.declared.phase.Phase.TheVariants as phases
use Rattle.iscsi_access.specs.Chap.{Chap}
use Rattle.iscsi_access.specs.declared.verdict.Progress.TheVariants.{Passed}
use Rattle.iscsi_target_session.specs.Configured.{TargetSettings}
use Rattle.iscsi_target_session.specs.Session.{Session}
use Rattle.iscsi_target.specs.State.{Machine, Execution, TargetStep, closed_machine, opening_machine}
use Rattle.iscsi_target.specs.Machine.{MayStop}
use Rattle.iscsi_target.specs.Feed.{Store}
use Rattle.iscsi_target.proofs.Access.AccessLaws.{Held, Kept, Responded, all_kept, all_kept_here, then_kept, passed, executed, opening_held}
use Rattle.iscsi_target.proofs.Access.AllowedLaw.{Admitted, Admits, unmoved, then_admits, all_admit, executed_text, opening_admitted, named}
use Rattle.iscsi_target.proofs.Steps.KeepingLemmas.{stop_stays, stop_settings}
use Rattle.iscsi_sessions.specs.Turns.{Slots, Turn, IsTaskFront, IsOwn, IsTurn, IsEnded, IsLeftSession, SlotEvent, Comes, Takes, Syncs, Ends, Goes, SlotEventStep}
use Rattle.iscsi_sessions.specs.Turns.{SlotEventsRun, SessionEvents, KeepsSession, KeepsSlot, executed_of, executed_by, executed_in, slot_of, slot_events, event_if}
use Rattle.iscsi_sessions.specs.Access.{HasRespondedIn, IsLetIn}
use Rattle.iscsi_sessions.proofs.RunLemmas.{happens_others, own_session, runs_append, runs_one}

-- ---- a secret

-- a session that is closed keeps it
closed_kept : (c : Chap) (s : Machine) → Kept c s.session (closed_machine s).session
closed_kept c s = record {
  held = λ h. record { demands = h.demands; stage = h.stage; phase = λ e. absurd (cc e) };
  has_text = λ e. e;
  name = λ e. refl;
}

-- so does one of which some tasks were done
stop_kept : (protected : Bool) (c : Chap) (r front : TargetStep) (counted after : ℕ) (m : _) → MayStop protected r.machine r.disk counted m front after
    → Held c r.machine.session → Kept c r.machine.session front.machine.session
stop_kept protected c r front counted after m x h =
    let k = stop_stays protected r.machine r.disk counted m front after x in
    record {
      held = λ h. record {
        demands = ap (λ (p : TargetSettings). p.extras.chap) (stop_settings protected r.machine r.disk counted m front after x) ∙ h.demands;
        stage = λ e. k.progress ∙ h.stage (sym k.stage ∙ e);
        phase = λ e. k.progress ∙ h.phase x.full;
      };
      has_text = λ e. k.has_text ∙ e;
      name = λ e. k.name;
    }

front_kept : (protected : Bool) (c : Chap) (r front : TargetStep) (counted after : ℕ) → IsTaskFront protected r counted front after → Held c r.machine.session
    → Kept c r.machine.session front.machine.session
front_kept protected c r front counted after (inl f) h =
    subst (λ (x : TargetStep). Kept c r.machine.session x.machine.session) (sym f.0) (all_kept_here c r.machine.session)
front_kept protected c r front counted after (inr f) h = stop_kept protected c r front counted after f.0 f.1 h

left_kept : (c : Chap) (s m : Machine) → IsLeftSession s m → Kept c s.session m.session
left_kept c s m (inl e) = subst (λ (x : Machine). Kept c s.session x.session) (sym e) (all_kept_here c s.session)
left_kept c s m (inr e) = subst (λ (x : Machine). Kept c s.session x.session) (sym e) (closed_kept c s)

ended_kept : (c : Chap) (s m : Machine) → IsEnded s m → Kept c s.session m.session
ended_kept c s m (inl e) = subst (λ (x : Machine). Kept c s.session x.session) (sym e) (all_kept_here c s.session)
ended_kept c s m (inr e) = subst (λ (x : Machine). Kept c s.session x.session) (sym e) (closed_kept c s)

-- the exchange came no further behind the PDUs of a turn
front_progress : (protected : Bool) (r front : TargetStep) (counted after : ℕ) → IsTaskFront protected r counted front after
    → front.machine.session.progress ≡ r.machine.session.progress
front_progress protected r front counted after (inl f) = ap (λ (x : TargetStep). x.machine.session.progress) f.0
front_progress protected r front counted after (inr f) = (stop_stays protected r.machine r.disk counted f.0 front after f.1).progress

left_progress : (s m : Machine) → IsLeftSession s m → m.session.progress ≡ s.session.progress
left_progress s m (inl e) = ap (λ (x : Machine). x.session.progress) e
left_progress s m (inr e) = ap (λ (x : Machine). x.session.progress) e

ended_progress : (s m : Machine) → IsEnded s m → m.session.progress ≡ s.session.progress
ended_progress s m (inl e) = ap (λ (x : Machine). x.session.progress) e
ended_progress s m (inr e) = ap (λ (x : Machine). x.session.progress) e

-- what the session keeps up to a turn's end
turn_kept : (protected : Bool) (c : Chap) (s : Machine) (t : Turn) (o : IsOwn protected s t) → Held c s.session → Kept c s.session t.front.machine.session
turn_kept protected c s t o h =
    let k : Kept c s.session t.stepped.machine.session = all_kept protected c s t.before.disk t.before.failures t.messages t.stepped o.counted o.may h in
    then_kept c s.session t.stepped.machine.session t.front.machine.session k
    (front_kept protected c t.stepped t.front o.counted t.after.failures o.front (k.held h))

session_kept : (protected : Bool) (c : Chap) (s end : Machine) (es : List SlotEvent) → SessionEvents protected s es end → Held c s.session
    → Kept c s.session end.session
unfolding SessionEvents
session_kept protected c s end [] x h = subst (λ (m : Machine). Kept c s.session m.session) (sym x) (all_kept_here c s.session)
session_kept protected c s end (Comes k settings ∷ es) x h = absurd x
session_kept protected c s end (Goes k ∷ es) x h = absurd x
session_kept protected c s end (Syncs k ∷ es) x h = session_kept protected c s end es x h
session_kept protected c s end (Ends k ∷ es) x h =
    let k : Kept c s.session x.0.session = ended_kept c s x.0 x.1 in
    then_kept c s.session x.0.session end.session k (session_kept protected c x.0 end es x.2 (k.held h))
session_kept protected c s end (Takes t ∷ es) x h =
    let k : Kept c s.session x.0.session =
    then_kept c s.session t.front.machine.session x.0.session (turn_kept protected c s t x.1 h) (left_kept c t.front.machine x.0 x.2) in
    then_kept c s.session x.0.session end.session k (session_kept protected c x.0 end es x.3 (k.held h))

-- the session had come to the end of the exchange before, or came there in one of these turns
abbrev Shows : Bool → Chap → Machine → List ℕ → List SlotEvent → Type 0
Shows protected c s name es = (s.session.progress ≡ Passed) ⊎ HasRespondedIn protected s c name es

shows_now : (protected : Bool) (c : Chap) (s : Machine) (name : List ℕ) (t : Turn) (es : List SlotEvent)
    → Responded protected c s t.before.disk name t.messages → Shows protected c s name (Takes t ∷ es)
unfolding SessionEvents
shows_now protected c s name t es (inl was) = inl was
shows_now protected c s name t es (inr x) =
    inr (record { past = []; turn = t; later = es; split = refl; machine = s; reached = refl; responded = x })

-- in a later turn
shows_later : (protected : Bool) (c : Chap) (s mid : Machine) (name : List ℕ) (e : SlotEvent) (es : List SlotEvent)
    → ((past : List SlotEvent) (m : Machine) → SessionEvents protected mid past m → SessionEvents protected s (e ∷ past) m)
    → HasRespondedIn protected mid c name es → HasRespondedIn protected s c name (e ∷ es)
shows_later protected c s mid name e es step x = record {
  past = e ∷ x.past;
  turn = x.turn;
  later = x.later;
  split = ap (λ (l : List SlotEvent). e ∷ l) x.split;
  machine = x.machine;
  reached = step x.past x.machine x.reached;
  responded = x.responded;
}

some_or_none : (l : List Execution) → (l ≡ []) ⊎ (l ≡ [] → ⊥)
some_or_none [] = inl refl
some_or_none (e ∷ es) = inr (λ f. absurd (cc f))

front_full : (protected : Bool) (r front : TargetStep) (counted after : ℕ) → IsTaskFront protected r counted front after → (front.executed ≡ [] → ⊥)
    → r.machine.session.phase ≡ phases.Full
front_full protected r front counted after (inl f) some = absurd (some (ap (λ (x : TargetStep). x.executed) f.0))
front_full protected r front counted after (inr f) some = f.1.full

-- what was executed at a turn, or behind it
rest_some : (a b rest : List Execution) → a ≡ [] → b ≡ [] → ((a ++ b) ++ rest ≡ [] → ⊥) → rest ≡ [] → ⊥
rest_some a b rest e f some g =
    some (ap (λ (l : List Execution). (l ++ b) ++ rest) e ∙ ap (λ (l : List Execution). l ++ rest) f ∙ g)

taken_step : (protected : Bool) (s mid : Machine) (t : Turn) → IsOwn protected s t → IsLeftSession t.front.machine mid → (past : List SlotEvent) (m : Machine)
    → SessionEvents protected mid past m → SessionEvents protected s (Takes t ∷ past) m
unfolding SessionEvents
taken_step protected s mid t o left past m x = (mid, o, left, x)

synced_step : (protected : Bool) (s : Machine) (k : ℕ) (past : List SlotEvent) (m : Machine) → SessionEvents protected s past m
    → SessionEvents protected s (Syncs k ∷ past) m
unfolding SessionEvents
synced_step protected s k past m x = x

ended_step : (protected : Bool) (s mid : Machine) (k : ℕ) → IsEnded s mid → (past : List SlotEvent) (m : Machine) → SessionEvents protected mid past m
    → SessionEvents protected s (Ends k ∷ past) m
unfolding SessionEvents
ended_step protected s mid k ends past m x = (mid, ends, x)

shows_synced : (protected : Bool) (c : Chap) (s : Machine) (name : List ℕ) (k : ℕ) (es : List SlotEvent) → Shows protected c s name es
    → Shows protected c s name (Syncs k ∷ es)
shows_synced protected c s name k es (inl was) = inl was
shows_synced protected c s name k es (inr x) = inr (shows_later protected c s s name (Syncs k) es (synced_step protected s k) x)

shows_ended : (protected : Bool) (c : Chap) (s mid : Machine) (name : List ℕ) (k : ℕ) (es : List SlotEvent) → IsEnded s mid → Shows protected c mid name es
    → Shows protected c s name (Ends k ∷ es)
shows_ended protected c s mid name k es ends (inl was) = inl (sym (ended_progress s mid ends) ∙ was)
shows_ended protected c s mid name k es ends (inr x) =
    inr (shows_later protected c s mid name (Ends k) es (ended_step protected s mid k ends) x)

-- a turn whose PDUs led to the end of the exchange
passed_now : (protected : Bool) (c : Chap) (s : Machine) (t : Turn) (es : List SlotEvent) (last : Session) (o : IsOwn protected s t) → Held c s.session
    → Kept c t.stepped.machine.session last → t.stepped.machine.session.progress ≡ Passed → Shows protected c s last.initiator_name (Takes t ∷ es)
passed_now protected c s t es last o h k e =
    shows_now protected c s last.initiator_name t es
    (passed protected c s t.before.disk t.before.failures t.messages t.stepped o.counted last o.may h k e)

shows_taken : (protected : Bool) (c : Chap) (s mid : Machine) (t : Turn) (es : List SlotEvent) (last : Session) (o : IsOwn protected s t) → Held c s.session
    → Kept c t.stepped.machine.session last → IsLeftSession t.front.machine mid → Shows protected c mid last.initiator_name es
    → Shows protected c s last.initiator_name (Takes t ∷ es)
shows_taken protected c s mid t es last o h k left (inl was) =
    passed_now protected c s t es last o h k
    (sym (left_progress t.front.machine mid left ∙ front_progress protected t.stepped t.front o.counted t.after.failures o.front) ∙ was)
shows_taken protected c s mid t es last o h k left (inr x) =
    inr (shows_later protected c s mid last.initiator_name (Takes t) es (taken_step protected s mid t o left) x)

turn_shows : (protected : Bool) (c : Chap) (s mid : Machine) (t : Turn) (es : List SlotEvent) (last : Session) (o : IsOwn protected s t) → Held c s.session
    → Held c t.stepped.machine.session → Kept c t.stepped.machine.session last → IsLeftSession t.front.machine mid
    → ((executed_of t ++ executed_in es ≡ [] → ⊥)) → ((executed_in es ≡ [] → ⊥) → Shows protected c mid last.initiator_name es)
    → (t.stepped.executed ≡ []) ⊎ (t.stepped.executed ≡ [] → ⊥) → (t.front.executed ≡ []) ⊎ (t.front.executed ≡ [] → ⊥)
    → Shows protected c s last.initiator_name (Takes t ∷ es)
turn_shows protected c s mid t es last o h held k left some go (inr first) front =
    shows_now protected c s last.initiator_name t es
    (executed protected c s t.before.disk t.before.failures t.messages t.stepped o.counted last o.may h k first)
turn_shows protected c s mid t es last o h held k left some go (inl none) (inr front) =
    passed_now protected c s t es last o h k
    (held.phase (front_full protected t.stepped t.front o.counted t.after.failures o.front front))
turn_shows protected c s mid t es last o h held k left some go (inl none) (inl quiet) =
    shows_taken protected c s mid t es last o h k left
    (go (rest_some t.stepped.executed t.front.executed (executed_in es) none quiet some))

session_shows : (protected : Bool) (c : Chap) (s end : Machine) (es : List SlotEvent) → SessionEvents protected s es end → Held c s.session
    → (executed_in es ≡ [] → ⊥) → Shows protected c s end.session.initiator_name es
unfolding SessionEvents
session_shows protected c s end [] x h some = absurd (some refl)
session_shows protected c s end (Comes k settings ∷ es) x h some = absurd x
session_shows protected c s end (Goes k ∷ es) x h some = absurd x
session_shows protected c s end (Syncs k ∷ es) x h some =
    shows_synced protected c s end.session.initiator_name k es (session_shows protected c s end es x h some)
session_shows protected c s end (Ends k ∷ es) x h some =
    shows_ended protected c s x.0 end.session.initiator_name k es x.1
    (session_shows protected c x.0 end es x.2 ((ended_kept c s x.0 x.1).held h) some)
session_shows protected c s end (Takes t ∷ es) x h some =
    let own : IsOwn protected s t = x.1 in
    let k : Kept c s.session t.stepped.machine.session =
    all_kept protected c s t.before.disk t.before.failures t.messages t.stepped own.counted own.may h in
    let front : Kept c t.stepped.machine.session t.front.machine.session =
    front_kept protected c t.stepped t.front own.counted t.after.failures own.front (k.held h) in
    let left : Kept c t.front.machine.session x.0.session = left_kept c t.front.machine x.0 x.2 in
    let held : Held c x.0.session = left.held (front.held (k.held h)) in
    let rest : Kept c x.0.session end.session = session_kept protected c x.0 end es x.3 held in
    turn_shows protected c s x.0 t es end.session own h (k.held h)
    (then_kept c t.stepped.machine.session t.front.machine.session end.session front
    (then_kept c t.front.machine.session x.0.session end.session left rest)) x.2 some
    (λ more. session_shows protected c x.0 end es x.3 held more) (some_or_none t.stepped.executed) (some_or_none t.front.executed)

unpassed : (protected : Bool) (settings : TargetSettings) (c : Chap) (name : List ℕ) (es : List SlotEvent)
    → Shows protected c (opening_machine settings 1) name es → HasRespondedIn protected (opening_machine settings 1) c name es
unpassed protected settings c name es (inl was) = absurd (cc was)
unpassed protected settings c name es (inr x) = x

-- ---- a name

closed_admits : (s : Machine) → Admits s.session (closed_machine s).session
closed_admits s = unmoved s.session (closed_machine s).session refl refl refl (λ e. absurd (cc e))

same_admits : (s : Session) → Admits s s
same_admits s = unmoved s s refl refl refl (λ e. e)

front_admits : (protected : Bool) (r front : TargetStep) (counted after : ℕ) → IsTaskFront protected r counted front after
    → Admits r.machine.session front.machine.session
front_admits protected r front counted after (inl f) =
    subst (λ (x : TargetStep). Admits r.machine.session x.machine.session) (sym f.0) (same_admits r.machine.session)
front_admits protected r front counted after (inr f) =
    let k = stop_stays protected r.machine r.disk counted f.0 front after f.1 in
    unmoved r.machine.session front.machine.session (stop_settings protected r.machine r.disk counted f.0 front after f.1) k.has_text k.name
    (λ e. f.1.full)

left_admits : (s m : Machine) → IsLeftSession s m → Admits s.session m.session
left_admits s m (inl e) = subst (λ (x : Machine). Admits s.session x.session) (sym e) (same_admits s.session)
left_admits s m (inr e) = subst (λ (x : Machine). Admits s.session x.session) (sym e) (closed_admits s)

ended_admits : (s m : Machine) → IsEnded s m → Admits s.session m.session
ended_admits s m (inl e) = subst (λ (x : Machine). Admits s.session x.session) (sym e) (same_admits s.session)
ended_admits s m (inr e) = subst (λ (x : Machine). Admits s.session x.session) (sym e) (closed_admits s)

session_admits : (protected : Bool) (s end : Machine) (es : List SlotEvent) → SessionEvents protected s es end → Admits s.session end.session
unfolding SessionEvents
session_admits protected s end [] x = subst (λ (m : Machine). Admits s.session m.session) (sym x) (same_admits s.session)
session_admits protected s end (Comes k settings ∷ es) x = absurd x
session_admits protected s end (Goes k ∷ es) x = absurd x
session_admits protected s end (Syncs k ∷ es) x = session_admits protected s end es x
session_admits protected s end (Ends k ∷ es) x =
    then_admits s.session x.0.session end.session (ended_admits s x.0 x.1) (session_admits protected x.0 end es x.2)
session_admits protected s end (Takes t ∷ es) x =
    let own : IsOwn protected s t = x.1 in
    then_admits s.session t.stepped.machine.session end.session
    (all_admit protected s t.before.disk t.before.failures t.messages t.stepped own.counted own.may)
    (then_admits t.stepped.machine.session t.front.machine.session end.session
    (front_admits protected t.stepped t.front own.counted t.after.failures own.front)
    (then_admits t.front.machine.session x.0.session end.session (left_admits t.front.machine x.0 x.2) (session_admits protected x.0 end es x.3)))

turn_text : (protected : Bool) (s mid end : Machine) (t : Turn) (rest : List Execution) (o : IsOwn protected s t) → Admitted s.session
    → Admits t.stepped.machine.session end.session → ((executed_of t ++ rest ≡ [] → ⊥)) → ((rest ≡ [] → ⊥) → end.session.has_text ≡ true)
    → (t.stepped.executed ≡ []) ⊎ (t.stepped.executed ≡ [] → ⊥) → (t.front.executed ≡ []) ⊎ (t.front.executed ≡ [] → ⊥) → end.session.has_text ≡ true
turn_text protected s mid end t rest o a k some go (inr first) front =
    k.text (executed_text protected s t.before.disk t.before.failures t.messages t.stepped o.counted o.may a first)
turn_text protected s mid end t rest o a k some go (inl none) (inr front) =
    k.text (((all_admit protected s t.before.disk t.before.failures t.messages t.stepped o.counted o.may).admitted a).full
    (front_full protected t.stepped t.front o.counted t.after.failures o.front front))
turn_text protected s mid end t rest o a k some go (inl none) (inl quiet) =
    go (rest_some t.stepped.executed t.front.executed rest none quiet some)

session_text : (protected : Bool) (s end : Machine) (es : List SlotEvent) → SessionEvents protected s es end → Admitted s.session
    → (executed_in es ≡ [] → ⊥) → end.session.has_text ≡ true
unfolding SessionEvents
session_text protected s end [] x a some = absurd (some refl)
session_text protected s end (Comes k settings ∷ es) x a some = absurd x
session_text protected s end (Goes k ∷ es) x a some = absurd x
session_text protected s end (Syncs k ∷ es) x a some = session_text protected s end es x a some
session_text protected s end (Ends k ∷ es) x a some = session_text protected x.0 end es x.2 ((ended_admits s x.0 x.1).admitted a) some
session_text protected s end (Takes t ∷ es) x a some =
    let own : IsOwn protected s t = x.1 in
    let first : Admits s.session t.stepped.machine.session =
    all_admit protected s t.before.disk t.before.failures t.messages t.stepped own.counted own.may in
    let front : Admits t.stepped.machine.session x.0.session =
    then_admits t.stepped.machine.session t.front.machine.session x.0.session
    (front_admits protected t.stepped t.front own.counted t.after.failures own.front) (left_admits t.front.machine x.0 x.2) in
    turn_text protected s x.0 end t (executed_in es) own a
    (then_admits t.stepped.machine.session x.0.session end.session front (session_admits protected x.0 end es x.3)) some
    (λ more. session_text protected x.0 end es x.3 (front.admitted (first.admitted a)) more) (some_or_none t.stepped.executed)
    (some_or_none t.front.executed)

-- ---- the session of a turn

-- The session of a slot was there at first, or came.
record WasThere (k : ℕ) (slots : Slots) (es : List SlotEvent) : Type 0 where
  machine : Machine
  had : slots k ≡ Some machine
  keeps : KeepsSlot k es

record HasCome (protected : Bool) (k : ℕ) (es : List SlotEvent) (mid : Slots) (now : Store) : Type 0 where
  settings : TargetSettings
  earlier : List SlotEvent
  own : List SlotEvent
  split : es ≡ earlier ++ Comes k settings ∷ own
  keeps : KeepsSlot k own
  slots : Slots
  store : Store
  has : slots k ≡ Some (opening_machine settings 1)
  runs : SlotEventsRun protected slots store own mid now

come_before : (protected : Bool) (k : ℕ) (e : SlotEvent) (es : List SlotEvent) (mid : Slots) (now : Store) → HasCome protected k es mid now
    → HasCome protected k (e ∷ es) mid now
come_before protected k e es mid now x = record {
  settings = x.settings;
  earlier = e ∷ x.earlier;
  own = x.own;
  split = ap (λ (l : List SlotEvent). e ∷ l) x.split;
  keeps = x.keeps;
  slots = x.slots;
  store = x.store;
  has = x.has;
  runs = x.runs;
}

-- an event of the slot
here_before : (protected : Bool) (k : ℕ) (e : SlotEvent) (es : List SlotEvent) (slots first mid : Slots) (store then now : Store) → slot_of e ≡ k
    → (slot_of e == k) ≡ true → SlotEventStep protected slots store e first then → SlotEventsRun protected first then es mid now → WasThere k first es
    → WasThere k slots (e ∷ es) ⊎ HasCome protected k (e ∷ es) mid now
here_before protected k (Comes j settings) es slots first mid store then now is at h rest x = inr (record {
  settings = settings;
  earlier = [];
  own = es;
  split = ap (λ (n : ℕ). Comes n settings ∷ es) is;
  keeps = x.keeps;
  slots = first;
  store = then;
  has = subst (λ (n : ℕ). first n ≡ Some (opening_machine settings 1)) is h.1;
  runs = rest;
})
here_before protected k (Goes j) es slots first mid store then now is at h rest x =
    absurd (let bad : None ≡ Some x.machine = sym (subst (λ (n : ℕ). first n ≡ None) is h.0) ∙ x.had in cc bad)
here_before protected k (Takes t) es slots first mid store then now is at h rest x = inl (record {
  machine = h.machine;
  had = subst (λ (n : ℕ). slots n ≡ Some h.machine) is h.had;
  keeps = (subst (λ (b : Bool). KeepsSession b (Takes t)) (sym at) tt, x.keeps);
})
here_before protected k (Syncs j) es slots first mid store then now is at h rest x = inl (record {
  machine = x.machine;
  had = sym (h.0 k) ∙ x.had;
  keeps = (subst (λ (b : Bool). KeepsSession b (Syncs j)) (sym at) tt, x.keeps);
})
here_before protected k (Ends j) es slots first mid store then now is at h rest x = inl (record {
  machine = h.0.machine;
  had = subst (λ (n : ℕ). slots n ≡ Some h.0.machine) is h.0.had;
  keeps = (subst (λ (b : Bool). KeepsSession b (Ends j)) (sym at) tt, x.keeps);
})

one_before : (protected : Bool) (b : Bool) (k : ℕ) (e : SlotEvent) (es : List SlotEvent) (slots first mid : Slots) (store then now : Store)
    → (slot_of e == k) ≡ b → SlotEventStep protected slots store e first then → SlotEventsRun protected first then es mid now → WasThere k first es
    → WasThere k slots (e ∷ es) ⊎ HasCome protected k (e ∷ es) mid now
one_before protected true k e es slots first mid store then now at h rest x =
    here_before protected k e es slots first mid store then now (eqb-true (slot_of e) k at) at h rest x
one_before protected false k e es slots first mid store then now at h rest x = inl (record {
  machine = x.machine;
  had = sym (happens_others protected slots store e first then h k at) ∙ x.had;
  keeps = (subst (λ (b : Bool). KeepsSession b e) (sym at) tt, x.keeps);
})

came : (protected : Bool) (k : ℕ) (es : List SlotEvent) (slots mid : Slots) (store now : Store) (s : Machine)
    → SlotEventsRun protected slots store es mid now → mid k ≡ Some s → WasThere k slots es ⊎ HasCome protected k es mid now
unfolding SlotEventsRun
came protected k [] slots mid store now s r has = inl (record { machine = s; had = sym (r.0 k) ∙ has; keeps = tt })
came protected k (e ∷ es) slots mid store now s r has = elim (came protected k es r.0 mid r.1 now s r.3 has) [
  | inl x ↦ one_before protected (slot_of e == k) k e es slots r.0 mid store r.1 now refl r.2 r.3 x
  | inr x ↦ inr (come_before protected k e es mid now x)
]

-- a run in two parts
record RunsTo (protected : Bool) (slots : Slots) (store : Store) (es : List SlotEvent) (t : Turn) : Type 0 where
  mid : Slots
  now : Store
  runs : SlotEventsRun protected slots store es mid now
  after : Slots
  last : Store
  turn : IsTurn protected mid now t after last

runs_to : (protected : Bool) (slots after : Slots) (store last : Store) (past later : List SlotEvent) (t : Turn)
    → SlotEventsRun protected slots store (past ++ Takes t ∷ later) after last → RunsTo protected slots store past t
unfolding SlotEventsRun
runs_to protected slots after store last [] later t r =
    record { mid = slots; now = store; runs = (λ k. refl, refl); after = r.0; last = r.1; turn = r.2 }
runs_to protected slots after store last (e ∷ past) later t r =
    let x : RunsTo protected r.0 r.1 past t = runs_to protected r.0 after r.1 last past later t r.3 in
    record { mid = x.mid; now = x.now; runs = (r.0, r.1, r.2, x.runs); after = x.after; last = x.last; turn = x.turn }

keeps_turn : (k : ℕ) (own : List SlotEvent) (t : Turn) → t.slot ≡ k → KeepsSlot k own → KeepsSlot k (own ++ Takes t ∷ [])
keeps_turn k [] t is x = (subst (λ (b : Bool). KeepsSession b (Takes t)) (sym (eq-eqb t.slot k is)) tt, tt)
keeps_turn k (e ∷ own) t is x = (x.0, keeps_turn k own t is x.1)

-- what the turn executed is among what the session did
has_turn : (k : ℕ) (own : List SlotEvent) (t : Turn) → t.slot ≡ k → (executed_of t ≡ [] → ⊥)
    → executed_in (slot_events k (own ++ Takes t ∷ [])) ≡ [] → ⊥
has_turn k [] t is some e =
    some (none_of (executed_of t) (subst (λ (b : Bool). executed_in (event_if b (Takes t) []) ≡ []) (eq-eqb t.slot k is) e))
  where
    none_of : (l : List Execution) → l ++ [] ≡ [] → l ≡ []
    none_of [] e = refl
    none_of (x ∷ xs) e = absurd (cc e)
has_turn k (f ∷ own) t is some e = rest_of (λ x. has_turn k own t is some x) (slot_of f == k) e
  where
    last_of : (a b : List Execution) → a ++ b ≡ [] → b ≡ []
    last_of [] b e = e
    last_of (x ∷ a) b e = absurd (cc e)

    rest_of : (executed_in (slot_events k (own ++ Takes t ∷ [])) ≡ [] → ⊥) → (b : Bool)
        → executed_in (event_if b f (slot_events k (own ++ Takes t ∷ []))) ≡ [] → ⊥
    rest_of go true e = go (last_of (executed_by f) (executed_in (slot_events k (own ++ Takes t ∷ []))) e)
    rest_of go false e = go e

let_in_by : (protected : Bool) (past : List SlotEvent) (t : Turn) (slots : Slots) (store : Store) (x : RunsTo protected slots store past t)
    (h : HasCome protected t.slot past x.mid x.now) → (executed_of t ≡ [] → ⊥) → IsLetIn protected past t h.settings
let_in_by protected past t slots store x h some =
    let es : List SlotEvent = h.own ++ Takes t ∷ [] in
    let own = own_session protected h.slots x.after h.store x.last es t.slot (opening_machine h.settings 1)
    (runs_append protected h.slots x.mid x.after h.store x.now x.last h.own (Takes t ∷ []) h.runs
    (runs_one protected x.mid x.after x.now x.last (Takes t) x.turn)) h.has (keeps_turn t.slot h.own t refl h.keeps) in
    let did : executed_in (slot_events t.slot es) ≡ [] → ⊥ = has_turn t.slot h.own t refl some in
    record {
      earlier = h.earlier;
      own = h.own;
      split = h.split;
      keeps = h.keeps;
      end = own.0;
      events = own.2;
      secret = λ c d. unpassed protected h.settings c own.0.session.initiator_name (slot_events t.slot es)
          (session_shows protected c (opening_machine h.settings 1) own.0 (slot_events t.slot es) own.2 (opening_held h.settings 1 c d) did);
      name = λ names d. named h.settings names 1 own.0.session d
          (session_admits protected (opening_machine h.settings 1) own.0 (slot_events t.slot es) own.2)
          (session_text protected (opening_machine h.settings 1) own.0 (slot_events t.slot es) own.2 (opening_admitted h.settings 1) did);
    }

pub let_in : (protected : Bool) (slots after : Slots) (store last : Store) (past later : List SlotEvent) (t : Turn)
    → SlotEventsRun protected slots store (past ++ Takes t ∷ later) after last → ((k : ℕ) → slots k ≡ None) → (executed_of t ≡ [] → ⊥)
    → (settings : TargetSettings) × IsLetIn protected past t settings
let_in protected slots after store last past later t r free some =
    let x : RunsTo protected slots store past t = runs_to protected slots after store last past later t r in
    elim (came protected t.slot past slots x.mid store x.now x.turn.machine x.runs x.turn.had) [
      | inl w ↦ absurd (let bad : None ≡ Some w.machine = sym (free t.slot) ∙ w.had in cc bad)
      | inr h ↦ (h.settings, let_in_by protected past t slots store x h some)
    ]
