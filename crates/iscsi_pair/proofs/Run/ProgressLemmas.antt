-- In a served run each turn, in which all bytes move, leaves fewer answers to come, until nothing is on its way.
use Rattle.std.proofs.Common.{◌≡◌, ◌<◌, ◌≤◌, ◌⊎◌, inl, inr, ℕ, ◌+◌, zero, suc, false, List, [], ◌∷◌, ◌++◌, length, take, drop, Option, Some, None, refl, sym}
use Rattle.std.proofs.Common.{ap, ◌∙◌, subst, arith}
use Rattle.std.proofs.Math.Seq.{drop-length}
use Rattle.std.proofs.lemmas.List.{length-append, take_all}
use Rattle.scsi_disk.specs.Disk.{Disk, disk_of}
use Rattle.iscsi_stream.specs.declared.logins.Logins.{Logins}
use Rattle.iscsi_stream.specs.Stream.{Message, logins_after_all}
use Rattle.iscsi_login.specs.declared.stage.Stage.{Stage}
use Rattle.iscsi_login.specs.declared.stage.Stage.TheVariants as stages
use Rattle.iscsi_login.specs.Stage.{is_closed_phase}
use Rattle.iscsi_target.specs.declared.fault.TargetFault.{TargetFault}
use Rattle.iscsi_target.specs.State as target
use Rattle.iscsi_target.specs.Machine.{answers}
use Rattle.iscsi_initiator.specs.declared.request.Done.{Done}
use Rattle.iscsi_initiator.specs.declared.request.Request.{Request}
use Rattle.iscsi_initiator.specs.Configured.{IsStart}
use Rattle.iscsi_initiator.specs.State as initiator
use Rattle.iscsi_initiator.specs.State.{is_session_closed}
use Rattle.iscsi_initiator.specs.Steps.{InitiatorStep}
use Rattle.iscsi_initiator.specs.Calls as calls
use Rattle.iscsi_initiator.specs.Machine.{initiator_step}
use Rattle.iscsi_initiator.specs.Submitted.{submitted}
use Rattle.iscsi_pair.specs.declared.step.EndFault.{EndFault}
use Rattle.iscsi_pair.specs.World.{World, Opening, IsOpening, PairEvent, ToTarget, ToInitiator, PairEventStep, InitiatorReceives, MovesToTarget, MovesToInitiator}
use Rattle.iscsi_pair.specs.World.{keeps_no_memory, new_pair}
use Rattle.iscsi_pair.specs.LocalDisk.{DiskExchange}
use Rattle.iscsi_pair.specs.Served.{IsNormal, RunsServed, requests_of}
use Rattle.iscsi_pair.proofs.Login.NearerLemmas.{IsNearer, nearer, unsent_few}
use Rattle.iscsi_pair.proofs.Request.AnswersInOrder.{Leads, most_answers}
use Rattle.iscsi_pair.proofs.Request.Invariant.{Goes, History, IsKept, Relation, SoFar, Sends, between, limits_of, so_far}
use Rattle.iscsi_pair.proofs.Run.CarriedBytes.{Improves, Stands}
use Rattle.iscsi_pair.proofs.Run.DiskInvariant.{IsServing, LogsOn, Rests, Serves, Logs, Rest, Serve, login_goes, most_out, none_asked, receives_well, same_first}
use Rattle.iscsi_pair.proofs.Run.DiskInvariant.{serves_asks, serves_receives, serves_takes, written_within}
use Rattle.iscsi_pair.proofs.Run.InvariantHolds.{happens, receives_some}
use Rattle.iscsi_pair.proofs.Run.MemoryLemmas.{calm_first}
use Rattle.iscsi_pair.proofs.Run.MoveLemmas.{runs_more, runs_none}
use Rattle.iscsi_pair.proofs.Run.OneDiskLaw.{served}
use Rattle.iscsi_pair.proofs.Run.QueueReading.{way_empty, way_none}

-- ---- how much is still to come

-- how many rounds a login has before it at most, by its stage and how much of its text is left
abbrev pub left_in : Stage → ℕ → ℕ
left_in stages.Security n = n + 8194
left_in stages.Operational n = n + 1
left_in stages.Full n = 0

abbrev pub left_of : initiator.InitiatorSession → ℕ
left_of i = left_in i.stage (length i.unsent_text)

left_few : (stage : Stage) (n : ℕ) → n ≤ 8192 → left_in stage n ≤ most_answers
left_few stages.Security n le = omega (arith, le)
left_few stages.Operational n le = omega (arith, le)
left_few stages.Full n le = omega arith

left_some : (stage : Stage) (n : ℕ) → IsStart stage → left_in stage n ≤ 0 → ⊥
left_some stages.Security n is le = omega (arith, le)
left_some stages.Operational n is le = omega (arith, le)
left_some stages.Full n is le = is

-- the stage before, and the next one
abbrev AreNearer : Stage → Stage → ℕ → ℕ → Type 0
AreNearer s u n k = ((u ≡ s) × (k < n)) ⊎ ((s ≡ stages.Security) × (u ≡ stages.Operational))

not_first : stages.Operational ≡ stages.Security → ⊥
not_first e = cc e

left_falls : (s u : Stage) (n k : ℕ) → IsStart s → IsStart u → k ≤ 8192 → AreNearer s u n k → left_in u k < left_in s n
left_falls stages.Security stages.Security n k a b few near = elim near [
  | inl x ↦ (let lt = x.1 in omega (arith, lt))
  | inr x ↦ absurd (not_first (sym x.1))
]
left_falls stages.Security stages.Operational n k a b few near = omega (arith, few)
left_falls stages.Operational stages.Security n k a b few near = elim near [
  | inl x ↦ absurd (not_first (sym x.0))
  | inr x ↦ absurd (not_first x.0)
]
left_falls stages.Operational stages.Operational n k a b few near = elim near [
  | inl x ↦ (let lt = x.1 in omega (arith, lt))
  | inr x ↦ absurd (not_first x.0)
]
left_falls stages.Full u n k a b few near = absurd a
left_falls s stages.Full n k a b few near = absurd b

-- at most so many answers are still to come
pub data Nears (c : Opening) (k : ℕ) (x : DiskExchange) (s : SoFar) : Type 0 where
  Logging : LogsOn c x s → left_of x.initiator ≤ k → Nears c k x s
  Resting : Rests c x s.history → Nears c k x s
  Serving : (v : IsServing c x s.history) → v.leads.0 ≤ k → Nears c k x s

nears_more : (c : Opening) (k n : ℕ) (x : DiskExchange) (s : SoFar) → k ≤ n → Nears c k x s → Nears c n x s
nears_more c k n x s le (Logging l few) = Logging l (omega (arith, le, few))
nears_more c k n x s le (Resting r) = Resting r
nears_more c k n x s le (Serving v few) = Serving v (omega (arith, le, few))

-- never more than a command has
serves_nears : (c : Opening) (x : DiskExchange) (s : SoFar) → IsOpening c → Serves c x s → Nears c most_answers x s
serves_nears c x s o (Logs l) =
    Logging l (left_few x.initiator.stage (length x.initiator.unsent_text) (unsent_few c x.initiator l.before l.said l.request o l.asking))
serves_nears c x s o (Rest r) = Resting r
serves_nears c x s o (Serve v) = Serving v v.leads.1

-- where none is to come none is there
none_leads : (n : ℕ) (c : Opening) (x : DiskExchange) (h : History) (v : IsServing c x h) → Leads v.held n x v.last → n ≤ 0 → x.answers ≡ []
none_leads zero c x h v l le = ap (λ (y : DiskExchange). y.answers) l ∙ v.ended.silent
none_leads (suc n) c x h v l le = absurd (omega (arith, le))

nears_none : (c : Opening) (x : DiskExchange) (s : SoFar) → Nears c 0 x s → x.answers ≡ []
nears_none c x s (Logging l few) = absurd (left_some x.initiator.stage (length x.initiator.unsent_text) l.asking.stage few)
nears_none c x s (Resting r) = r.none_back
nears_none c x s (Serving v few) = none_leads v.leads.0 c x s.history v v.leads.2 few

-- ---- an answer comes

-- the login goes on
no_request : (c : Opening) (x : DiskExchange) (h : History) → IsServing c x h → h ≡ none_asked → ⊥
no_request c x h v none = nothing v.past v.request (ap (λ (g : History). g.requests) (sym none) ∙ v.requests_are)
  where
    nothing : (past : List Request) (request : Request) → [] ≡ past ++ request ∷ [] → ⊥
    nothing [] request e = cc e
    nothing (r ∷ past) request e = cc e

login_left : (c : Opening) (k : ℕ) (i j : initiator.InitiatorSession) (t : target.Machine) (disk : Disk) (back : List Message) (there here : Logins)
    (h : History)
    → IsOpening c → IsStart i.stage → (IsStart j.stage → IsNearer i j) → left_of i ≤ suc k → h ≡ none_asked
    → Serves c (between j t disk back) (so_far there here h) → Nears c k (between j t disk back) (so_far there here h)
login_left c k i j t disk back there here h o start near few none (Logs l) =
    let lt = left_falls i.stage j.stage (length i.unsent_text) (length j.unsent_text) start l.asking.stage
    (unsent_few c j l.before l.said l.request o l.asking) (near l.asking.stage) in
    Logging l (omega (arith, lt, few))
login_left c k i j t disk back there here h o start near few none (Rest r) = Resting r
login_left c k i j t disk back there here h o start near few none (Serve v) = absurd (no_request c (between j t disk back) h v none)

login_nears : (k : ℕ) (c : Opening) (i : initiator.InitiatorSession) (t : target.Machine) (disk : Disk) (m : Message) (back : List Message)
    (there here : Logins)
    (h : History) → IsNormal c → (l : LogsOn c (between i t disk (m ∷ back)) (so_far there here h)) → left_of i ≤ suc k
    → Goes (limits_of c) (Nears c k) (between i t disk back) m (so_far there here h)
login_nears k c i t disk m back there here h o l few =
    let g : Goes (limits_of c) (Serves c) (between i t disk back) m (so_far there here h) = login_goes c i t disk m back there here h o l in
    let s : InitiatorStep = initiator_step i m in
    let r : target.TargetStep = answers false t disk s.output in
    let same : m ≡ l.turn.answer = same_first m l.turn.answer back [] l.back_is in
    let near : IsStart s.machine.stage → IsNearer i s.machine = λ on.
    subst (λ (x : Message). IsNearer i (initiator_step i x).machine) (sym same)
    (nearer c i l.before l.said there l.request (disk_of c.blocks) o.opening o.suits l.asking l.suited l.turn
    (subst (λ (x : Message). IsStart (initiator_step i x).machine.stage) same on)) in
    record {
      live = g.live;
      fault = g.fault;
      sends = record {
        written = g.sends.written;
        received = g.sends.received;
        kept = login_left c k i s.machine r.machine r.disk (back ++ r.answers) (logins_after_all there s.output) (logins_after_all here r.answers) h o.opening
            l.asking.stage near few l.none g.sends.kept;
      };
    }

-- a request is served
serving_nears : (n : ℕ) → n ≤ most_answers → (k : ℕ) → n ≤ suc k → (c : Opening) (i : initiator.InitiatorSession) (t : target.Machine) (disk : Disk)
    (m : Message)
    (back : List Message) (there here : Logins) (h : History) (v : IsServing c (between i t disk (m ∷ back)) h)
    → Leads v.held n (between i t disk (m ∷ back)) v.last → Goes (limits_of c) (Nears c k) (between i t disk back) m (so_far there here h)
serving_nears zero most k few c i t disk m back there here h v l =
    absurd (let bad : m ∷ back ≡ [] = ap (λ (x : DiskExchange). x.answers) l ∙ v.ended.silent in cc)
serving_nears (suc n) most k few c i t disk m back there here h v l =
    let s : InitiatorStep = initiator_step i m in
    record {
      live = ap is_closed_phase l.0.full;
      fault = l.0.fault;
      sends = record {
        written = written_within v.held.target_max_recv (most_out c) there s.output v.agreed.out (l.0.sends_.written there);
        received = receives_well c v.held t disk here s.output v.agreed l.0.sends_;
        kept = Serving (record {
          held = v.held;
          agreed = v.agreed;
          past = v.past;
          request = v.request;
          requests_are = v.requests_are;
          outcomes_are = v.outcomes_are;
          last = v.last;
          leads = (n, omega (arith, most), l.1);
          ended = v.ended;
        }) (omega (arith, few));
      };
    }

nears_goes : (k : ℕ) (c : Opening) (i : initiator.InitiatorSession) (t : target.Machine) (disk : Disk) (m : Message) (back : List Message) (there here : Logins)
    (h : History) → IsNormal c → Nears c (suc k) (between i t disk (m ∷ back)) (so_far there here h)
    → Goes (limits_of c) (Nears c k) (between i t disk back) m (so_far there here h)
nears_goes k c i t disk m back there here h o (Logging l few) = login_nears k c i t disk m back there here h o l few
nears_goes k c i t disk m back there here h o (Resting r) = absurd (let bad : m ∷ back ≡ [] = r.none_back in cc)
nears_goes k c i t disk m back there here h o (Serving v few) = serving_nears v.leads.0 v.leads.1 k few c i t disk m back there here h v v.leads.2

-- ---- while nothing is asked or taken

-- how many requests were asked and outcomes taken
abbrev pub total : History → ℕ
total h = length h.requests + length h.outcomes

-- both ends keep what they keep, and until something more is asked or taken this relation holds
abbrev pub While : Opening → ℕ → ℕ → DiskExchange → SoFar → Type 0
While c n k x s = (n ≤ total s.history) × Serves c x s × (total s.history ≡ n → Nears c k x s)

while_goes : (c : Opening) (n k j : ℕ) → IsNormal c → k ≤ suc j → Improves (limits_of c) (While c n k) (While c n j)
while_goes c n k j o le = λ i t disk m back there here h w.
    let g : Goes (limits_of c) (Serves c) (between i t disk back) m (so_far there here h) = serves_receives c i t disk m back there here h o w.1 in
    record {
      live = g.live;
      fault = g.fault;
      sends = record {
        written = g.sends.written;
        received = g.sends.received;
        kept = (
          w.0,
          g.sends.kept,
          λ e. (nears_goes j c i t disk m back there here h o
              (nears_more c k (suc j) (between i t disk (m ∷ back)) (so_far there here h) le (w.2 e))).sends.kept,
        );
      };
    }

while_asks : (c : Opening) (n k : ℕ) (i : initiator.InitiatorSession) (out : List Message) (t : target.Machine) (disk : Disk) (back : List Message)
    (there here : Logins) (h : History) (request : Request) → n ≤ total h
    → Sends (limits_of c) (Serves c) (between i t disk back) out (so_far there here (record h { requests = h.requests ++ request ∷ [] }))
    → Sends (limits_of c) (While c n k) (between i t disk back) out (so_far there here (record h { requests = h.requests ++ request ∷ [] }))
while_asks c n k i out t disk back there here h request le s =
    let more = length-append h.requests (request ∷ []) in
    record {
      written = s.written;
      received = s.received;
      kept = (omega (arith, le, more), s.kept, λ e. absurd (omega (arith, le, more, e)));
    }

while_kept : (c : Opening) (n k : ℕ) → IsNormal c → IsKept (limits_of c) (While c n k)
while_kept c n k o = record {
  receives = λ i t disk m back there here h w. while_goes c n k k o (omega arith) i t disk m back there here h w;
  asks = λ i t disk back there here h request w is none.
      while_asks c n k (submitted i request).machine (submitted i request).output t disk back there here h request w.0
      (serves_asks c i t disk back there here h request w.1 is none);
  takes = λ i t disk back there here h d w is.
      (let more = length-append h.outcomes (d ∷ []) in let le = w.0 in (
        omega (arith, le, more),
        serves_takes c i t disk back there here h d w.1 is,
        λ e. absurd (omega (arith, le, more, e)),
      ));
}

-- ---- worlds

-- another relation holds of the same world
stands_by : (c : Opening) (P Q : Relation) (h : History) (w : World) → (s : Stands c P h w)
    → Q (between w.initiator.machine (answers false s.session s.disk s.out).machine (answers false s.session s.disk s.out).disk
    (s.back ++ (answers false s.session s.disk s.out).answers)) (so_far s.there (logins_after_all s.here (answers false s.session s.disk s.out).answers) h)
    → Stands c Q h w
stands_by c P Q h w s q = record {
  target_well = s.target_well;
  initiator_well = s.initiator_well;
  session = s.session;
  disk = s.disk;
  out = s.out;
  back = s.back;
  there = s.there;
  here = s.here;
  machine = s.machine;
  disk_is = s.disk_is;
  to_target = s.to_target;
  to_initiator = s.to_initiator;
  received = s.received;
  kept = q;
}

-- all bytes moved to the target
moved_there : (fault : Option TargetFault) (moved : List ℕ) (old new : World) → fault ≡ None → moved ≡ old.to_target → MovesToTarget fault moved old new
    → new.to_target ≡ []
moved_there fault [] old new none m e = ap (λ (w : World). w.to_target) e ∙ sym m
moved_there None (byte ∷ bytes) old new none m e = e.dropped ∙ ap (λ (x : List ℕ). drop (length x) old.to_target) m ∙ drop-length old.to_target
moved_there (Some fault) (byte ∷ bytes) old new none m e = absurd (cc none)

-- all bytes moved to the initiator
moved_here : (fault : Option EndFault) (moved : List ℕ) (old new : World) → fault ≡ None → (moved ≡ [] → ⊥) → MovesToInitiator fault moved old new
    → InitiatorReceives moved old new
moved_here fault [] old new none some e = absurd (some refl)
moved_here None (byte ∷ bytes) old new none some e = e
moved_here (Some fault) (byte ∷ bytes) old new none some e = absurd (cc none)

none_moved : (fault : Option EndFault) (moved : List ℕ) (old new : World) → moved ≡ [] → MovesToInitiator fault moved old new → new ≡ old
none_moved fault [] old new none e = e
none_moved fault (byte ∷ bytes) old new none e = absurd (cc none)

-- a world in which at most so many answers are to come, or nothing is on its way
pub record Turned (c : Opening) (k : ℕ) (w : World) : Type 0 where
  pub n : ℕ
  pub h : History
  pub stands : Stands c (While c n k) h w
  pub is : total h ≡ n

-- nothing is on its way
abbrev pub IsSilent : World → Type 0
IsSilent w = (w.to_target ≡ []) × (w.to_initiator ≡ [])

pub record TurnsOn (c : Opening) (k : ℕ) (w : World) : Type 0 where
  pub left : ℕ
  pub turned : Turned c left w
  pub less : (left < k) ⊎ ((left ≤ k) × IsSilent w)

-- the history behind a move
abbrev same_later : History → History
same_later h = record { requests = h.requests ++ []; outcomes = h.outcomes ++ [] }

same_total : (h : History) (n : ℕ) → total h ≡ n → total (same_later h) ≡ n
same_total h n e = (let a = length-append h.requests [] in let b = length-append h.outcomes [] in omega (arith, e, a, b))

calm_mid : (mid new : World) (event : PairEvent) → PairEventStep mid event new → keeps_no_memory new ≡ false → keeps_no_memory mid ≡ false
calm_mid mid new event e calm = calm_first mid ([] ++ event ∷ []) new (runs_more mid mid new [] event (runs_none mid) e) calm

-- the second half of a turn, where answers wait
half_on : (k : ℕ) (c : Opening) (n : ℕ) (h : History) (m : Message) (more : List Message) (mid new : World) → IsNormal c → (s : Stands c (While c n k) h mid)
    → total h ≡ n → s.back ≡ m ∷ more → PairEventStep mid (ToInitiator (length mid.to_initiator)) new → keeps_no_memory new ≡ false → TurnsOn c k new
half_on zero c n h m more mid new o s is waits e calm =
    absurd (let a : target.TargetStep = answers false s.session s.disk s.out in
    let x : DiskExchange = between mid.initiator.machine a.machine a.disk (s.back ++ a.answers) in
    let none : s.back ++ a.answers ≡ [] = nears_none c x (so_far s.there (logins_after_all s.here a.answers) h) (s.kept.2 is) in
    let bad : m ∷ (more ++ a.answers) ≡ [] = ap (λ (ms : List Message). ms ++ a.answers) (sym waits) ∙ none in cc)
half_on (suc k) c n h m more mid new o s is waits e calm =
    let queue : List ℕ = mid.to_initiator in
    let all : take (length queue) queue ≡ queue = take_all (length queue) queue (omega arith) in
    let after = happens c (While c n (suc k)) h mid (ToInitiator (length queue)) new (while_kept c n (suc k) o) s e tt calm in
    let some : s.back ≡ [] → ⊥ = λ none. (let bad : m ∷ more ≡ [] = sym waits ∙ none in cc) in
    let moves : take (length queue) queue ≡ [] → ⊥ = λ none.
    some (way_none (is_session_closed mid.initiator.machine) (calls.initiator_limit c.initiator) mid.initiator.framing queue s.back s.here s.to_initiator
    (sym all ∙ none)) in
    record {
      left = k;
      turned = record {
        n = n;
        h = h;
        stands = receives_some c (While c n (suc k)) (While c n k) h mid new (length queue) (take (length queue) queue) (while_kept c n k o)
            (while_goes c n (suc k) k o (omega arith)) s refl (ap (λ (x : List ℕ). drop (length x) queue) all ∙ drop-length queue) some
            (moved_here mid.initiator_fault (take (length queue) queue) mid new s.initiator_well moves e) after.initiator_well;
        is = is;
      };
      less = inl (omega arith);
    }

-- where none waits nothing more happens
half_still : (k : ℕ) (c : Opening) (n : ℕ) (h : History) (mid new : World) → (s : Stands c (While c n k) h mid) → total h ≡ n → mid.to_target ≡ []
    → s.back ≡ [] → PairEventStep mid (ToInitiator (length mid.to_initiator)) new → TurnsOn c k new
half_still k c n h mid new s is none waits e =
    let queue : List ℕ = mid.to_initiator in
    let empty : queue ≡ [] = way_empty (is_session_closed mid.initiator.machine) (calls.initiator_limit c.initiator) mid.initiator.framing queue s.back s.here
    s.to_initiator
    waits in
    let all : take (length queue) queue ≡ [] = take_all (length queue) queue (omega arith) ∙ empty in
    let same : new ≡ mid = none_moved mid.initiator_fault (take (length queue) queue) mid new all e in
    record {
      left = k;
      turned = record { n = n; h = h; stands = subst (Stands c (While c n k) h) (sym same) s; is = is };
      less = inr (omega arith, (ap (λ (w : World). w.to_target) same ∙ none, ap (λ (w : World). w.to_initiator) same ∙ empty));
    }

half : (back : List Message) (k : ℕ) (c : Opening) (n : ℕ) (h : History) (mid new : World) → IsNormal c → (s : Stands c (While c n k) h mid) → total h ≡ n
    → mid.to_target ≡ [] → s.back ≡ back → PairEventStep mid (ToInitiator (length mid.to_initiator)) new → keeps_no_memory new ≡ false → TurnsOn c k new
half [] k c n h mid new o s is none waits e calm = half_still k c n h mid new s is none waits e
half (m ∷ more) k c n h mid new o s is none waits e calm = half_on k c n h m more mid new o s is waits e calm

-- all that is on its way to the target reaches it, and then all that is on its way back the initiator
pub turns_on : (c : Opening) (k : ℕ) (old mid new : World) → IsNormal c → Turned c k old → PairEventStep old (ToTarget (length old.to_target)) mid
    → PairEventStep mid (ToInitiator (length mid.to_initiator)) new → keeps_no_memory new ≡ false → TurnsOn c k new
turns_on c k old mid new o t e f calm =
    let queue : List ℕ = old.to_target in
    let s : Stands c (While c t.n k) (same_later t.h) mid =
    happens c (While c t.n k) t.h old (ToTarget (length queue)) mid (while_kept c t.n k o) t.stands e tt
    (calm_mid mid new (ToInitiator (length mid.to_initiator)) f calm) in
    let none : mid.to_target ≡ [] = moved_there old.target_fault (take (length queue) queue) old mid t.stands.target_well
    (take_all (length queue) queue (omega arith)) e in
    half s.back k c t.n (same_later t.h) mid new o s (same_total t.h t.n t.is) none refl f calm

-- every world of a served run is such a one
pub turned_first : (c : Opening) (events : List PairEvent) (w : World) (outcomes : List Done) → IsNormal c → RunsServed (new_pair c) events w outcomes
    → Turned c most_answers w
turned_first c events w outcomes o r =
    let h : History = record { requests = requests_of events; outcomes = outcomes } in
    let s : Stands c (Serves c) h w = served c events w outcomes o r in
    record {
      n = total h;
      h = h;
      stands = stands_by c (Serves c) (While c (total h) most_answers) h w s (omega arith, s.kept, λ e. serves_nears c _ _ o.opening s.kept);
      is = refl;
    }
