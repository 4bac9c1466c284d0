-- Requests that are handed in one after another, each once nothing is on its way: such a run is served where memory holds.
use Rattle.std.specs.List.{AllByRecursion}
use Rattle.std.specs.Prelude.{IfErr, Result, Ok, Err, get_or}
use Rattle.std.proofs.Common.{◌≡◌, ◌<◌, ◌≤◌, ◌⊎◌, inl, inr, ℕ, ◌+◌, zero, suc, false, List, [], ◌∷◌, ◌++◌, length, map, take, Option, Some, None, refl, sym, ap, subst}
use Rattle.std.proofs.Common.{◌∙◌, arith, append-nil, append_assoc}
use Rattle.std.proofs.lemmas.Bool.{or_from}
use Rattle.std.proofs.lemmas.List.Concat.{flat_map-append}
use Rattle.scsi_disk.specs.Disk.{disk_of}
use Rattle.iscsi_text.specs.declared.negotiated.Session.TheVariants as sessions
use Rattle.iscsi_target.specs.State as target
use Rattle.iscsi_initiator.specs.declared.request.Done.{Done}
use Rattle.iscsi_initiator.specs.declared.request.Request.{Request}
use Rattle.iscsi_initiator.specs.declared.request.Request.TheVariants as requests
use Rattle.iscsi_initiator.specs.Laws.{listed}
use Rattle.iscsi_initiator.specs.Machine.{outcome_handed_out}
use Rattle.iscsi_initiator.specs.State as initiator
use Rattle.iscsi_initiator.specs.Submitted.{submitted}
use Rattle.iscsi_pair.specs.declared.step.RunFault.{RunFault}
use Rattle.iscsi_pair.specs.declared.step.RunFault.TheVariants as faults
use Rattle.iscsi_pair.specs.declared.step.Step.{Step}
use Rattle.iscsi_pair.specs.declared.step.Step.TheVariants as steps
use Rattle.iscsi_pair.specs.World.{World, Opening, IsOpening, SuitEachOther, PairEvent, Submits, Takes, ToTarget, ToInitiator, PairEventStep, PairRuns, event_of, new_pair, keeps_no_memory}
use Rattle.iscsi_pair.specs.World.{target_ran_out, initiator_ran_out}
use Rattle.iscsi_pair.specs.LocalDisk.{AreInStep, local_outcomes}
use Rattle.iscsi_pair.specs.Served.{AreAtEnd, EndsInLogout, IsAlwaysTaken, IsNormal, IsServed, RunsServed, requests_of, pair_outcome_in, local_disk_after, disk_outcomes}
use Rattle.iscsi_pair.specs.Outcomes.{GivesOutcomes, CanBeServed, IsIdle, step_request, requests_among}
use Rattle.iscsi_pair.proofs.Login.NoFailure.{both_none}
use Rattle.iscsi_pair.proofs.Request.AnswersInOrder.{most_answers}
use Rattle.iscsi_pair.proofs.Request.OneRequestLaw.{accepts}
use Rattle.iscsi_pair.proofs.Run.MemoryLemmas.{calm_first}
use Rattle.iscsi_pair.proofs.Run.MoveLemmas.{runs_more, runs_none, step_more}
use Rattle.iscsi_pair.proofs.Run.OneDiskLaw.{idle_rests, idle_whole}
use Rattle.iscsi_pair.proofs.Run.ServedRunsLaw.{all_parts}
use Rattle.iscsi_pair.proofs.Run.GivingLemmas.{gives_more, none_given, requests_more, same_request, served_giving}
use Rattle.iscsi_pair.proofs.Run.ProgressLemmas.{IsSilent, Turned, TurnsOn, turned_first, turns_on}
use Rattle.iscsi_pair.proofs.Lists.StepLemmas.{served_more}
use Rattle.iscsi_pair.proofs.Lists.ListsAreServedLaw.{taken_served, taken_short}

-- ---- turns, one after another

-- less is to come than at first, or nothing is on its way
pub record HasLess (c : Opening) (turns : ℕ) (w : World) : Type 0 where
  pub k : ℕ
  pub turned : Turned c k w
  pub less : (k + turns ≤ most_answers) ⊎ IsSilent w

-- so many turns led there: steps that hand in nothing, and where the run was served that leave less to come each time
pub record HasTurned (old : World) (turns : ℕ) (new : World) : Type 0 where
  pub taken : List Step
  pub none_asked : requests_among taken ≡ []
  pub ran : PairRuns old (map event_of taken) new
  pub left : (c : Opening) (events : List PairEvent) (outcomes : List Done) → IsNormal c → RunsServed (new_pair c) events old outcomes
      → keeps_no_memory new ≡ false → HasLess c turns new

pub none_turned : (w : World) → HasTurned w 0 w
unfolding PairRuns
none_turned w = record {
  taken = [];
  none_asked = refl;
  ran = refl;
  left = λ c events outcomes o r calm. record { k = most_answers; turned = turned_first c events w outcomes o r; less = inl (omega arith) };
}

less_by : (c : Opening) (k turns : ℕ) (mid new : World) → (k + turns ≤ most_answers) ⊎ IsSilent mid → (IsSilent mid → ⊥) → TurnsOn c k new
    → HasLess c (turns + 1) new
less_by c k turns mid new less busy t = record {
  k = t.left;
  turned = t.turned;
  less = elim less [
    | inl few ↦ elim t.less [
      | inl lt ↦ inl (omega (arith, lt, few))
      | inr x ↦ inr x.1
    ]
    | inr silent ↦ absurd (busy silent)
  ];
}

none_more : (taken : List Step) (step : Step) → requests_among taken ≡ [] → step_request step ≡ [] → requests_among (taken ++ step ∷ []) ≡ []
none_more taken step none e = flat_map-append step_request taken (step ∷ []) ∙ ap (λ (x : List Request). x ++ (step_request step ++ [])) none
    ∙ ap (λ (x : List Request). x ++ []) e

-- one turn more
pub turned_more : (old mid half new : World) (turns : ℕ) → HasTurned old turns mid → (IsSilent mid → ⊥)
    → PairEventStep mid (ToTarget (length mid.to_target)) half → PairEventStep half (ToInitiator (length half.to_initiator)) new → HasTurned old (turns + 1) new
turned_more old mid half new turns h busy e f =
    let there : Step = steps.ToTarget (length mid.to_target) in
    let here : Step = steps.ToInitiator (length half.to_initiator) in
    record {
      taken = (h.taken ++ there ∷ []) ++ here ∷ [];
      none_asked = none_more (h.taken ++ there ∷ []) here (none_more h.taken there h.none_asked refl) refl;
      ran = step_more old half new (h.taken ++ there ∷ []) here (step_more old mid half h.taken there h.ran e) f;
      left = λ c events outcomes o r calm.
          (let first : PairEvent = ToTarget (length mid.to_target) in
          let second : PairEvent = ToInitiator (length half.to_initiator) in
          let both : PairRuns mid (([] ++ first ∷ []) ++ second ∷ []) new =
          runs_more mid half new ([] ++ first ∷ []) second (runs_more mid mid half [] first (runs_none mid) e) f in
          let l : HasLess c turns mid = h.left c events outcomes o r (calm_first mid (([] ++ first ∷ []) ++ second ∷ []) new both calm) in
          less_by c l.k turns mid new l.less busy (turns_on c l.k mid half new o l.turned e f calm));
    }

-- behind the last turn a served run is idle
pub comes_to_rest : (old new : World) (turns : ℕ) → HasTurned old turns new → IsSilent new ⊎ (most_answers < turns) → (IsIdle new → ⊥)
    → keeps_no_memory new ≡ false → (c : Opening) (events : List PairEvent) (outcomes : List Done) → IsNormal c → RunsServed (new_pair c) events old outcomes
    → ⊥
comes_to_rest old new turns h how not_idle calm c events outcomes o r =
    let l : HasLess c turns new = h.left c events outcomes o r calm in
    let silent : IsSilent new = elim how [
      | inl s ↦ s
      | inr lt ↦ elim l.less [
        | inl few ↦ absurd (omega (arith, lt, few))
        | inr s ↦ s
      ]
    ] in
    not_idle (l.turned.stands.target_well, l.turned.stands.initiator_well, silent.0, silent.1)

-- ---- requests, one after another

gives_append : (old mid new : World) (xs ys : List PairEvent) (a b : List Done) → GivesOutcomes old xs mid a → GivesOutcomes mid ys new b
    → GivesOutcomes old (xs ++ ys) new (a ++ b)
unfolding GivesOutcomes
gives_append old mid new [] ys a b g h =
    subst (λ (x : List Done). GivesOutcomes old ys new (x ++ b)) (sym g.1) (subst (λ (w : World). GivesOutcomes w ys new b) g.0 h)
gives_append old mid new (event ∷ xs) ys a b g h = (
  g.0,
  g.1 ++ b,
  g.2,
  ap (λ (x : List Done). x ++ b) g.3 ∙ append_assoc (pair_outcome_in event old) g.1 b,
  gives_append g.0 mid new xs ys g.1 b g.4 h,
)

-- steps give nothing
gives_steps : (old new : World) (taken : List Step) → PairRuns old (map event_of taken) new → GivesOutcomes old (map event_of taken) new []
unfolding GivesOutcomes PairRuns
gives_steps old new [] r = (r, refl)
gives_steps old new (step ∷ taken) r =
    (r.0, [], r.1, sym (append-nil (pair_outcome_in (event_of step) old) ∙ none_given step old), gives_steps r.0 new taken r.2)

steps_ask : (taken : List Step) → requests_of (map event_of taken) ≡ requests_among taken
steps_ask [] = refl
steps_ask (step ∷ taken) = ap (λ (x : List Request). x ++ requests_of (map event_of taken)) (same_request step)
    ∙ ap (λ (x : List Request). step_request step ++ x) (steps_ask taken)

-- these requests were handed in, and gave these outcomes; nothing is on its way
pub record HasServed (first : World) (asked : List Request) (w : World) (outcomes : List Done) : Type 0 where
  pub events : List PairEvent
  pub gives : GivesOutcomes first events w outcomes
  pub requests : requests_of events ≡ asked
  pub idle : IsIdle w
  pub none_left : (w.initiator.machine.done ≡ None) ⊎ (asked ≡ [])

pub served_first : (first : World) (taken : List Step) (w : World) → requests_among taken ≡ [] → PairRuns first (map event_of taken) w → IsIdle w
    → HasServed first [] w []
served_first first taken w none r idle = record {
  events = map event_of taken;
  gives = gives_steps first w taken r;
  requests = steps_ask taken ∙ none;
  idle = idle;
  none_left = inr refl;
}

pub served_next : (first : World) (asked : List Request) (request : Request) (old mid settled new : World) (taken : List Step) (outcomes : List Done)
    → HasServed first asked old outcomes → PairEventStep old (Submits request) mid → requests_among taken ≡ [] → PairRuns mid (map event_of taken) settled
    → IsIdle settled → PairEventStep settled Takes new
    → HasServed first (asked ++ request ∷ []) new (outcomes ++ listed settled.initiator.machine.done)
served_next first asked request old mid settled new taken outcomes h e none r idle t =
    let events : List PairEvent = h.events ++ Submits request ∷ [] in
    let more : List PairEvent = map event_of taken in
    let asks : GivesOutcomes first events mid (outcomes ++ []) = gives_more first old mid h.events (Submits request) outcomes h.gives e in
    let second : GivesOutcomes first (events ++ more) settled ((outcomes ++ []) ++ []) =
    gives_append first mid settled events more (outcomes ++ []) [] asks (gives_steps mid settled taken r) in
    let third : GivesOutcomes first ((events ++ more) ++ Takes ∷ []) new (((outcomes ++ []) ++ []) ++ listed settled.initiator.machine.done) =
    gives_more first settled new (events ++ more) Takes ((outcomes ++ []) ++ []) second t in
    record {
      events = (events ++ more) ++ Takes ∷ [];
      gives = subst (λ (x : List Done). GivesOutcomes first ((events ++ more) ++ Takes ∷ []) new (x ++ listed settled.initiator.machine.done))
          (append-nil (outcomes ++ []) ∙ append-nil outcomes) third;
      requests = requests_more (events ++ more) (Takes ∷ []) ∙ append-nil (requests_of (events ++ more))
          ∙ requests_more events more ∙ ap (λ (x : List Request). requests_of events ++ x) (steps_ask taken ∙ none) ∙ append-nil (requests_of events)
          ∙ requests_more h.events (Submits request ∷ []) ∙ ap (λ (x : List Request). x ++ request ∷ []) h.requests;
      idle = subst IsIdle (sym t) idle;
      none_left = inl (ap (λ (w : World). w.initiator.machine.done) t);
    }

-- no growth was refused, and no request
pub runs_served : (c : Opening) (asked : List Request) (w : World) (outcomes : List Done) → (h : HasServed (new_pair c) asked w outcomes)
    → AllByRecursion IsServed asked → RunsServed (new_pair c) h.events w outcomes
runs_served c asked w outcomes h served =
    served_giving (new_pair c) h.events w outcomes h.gives (subst (λ (x : List Request). AllByRecursion IsServed x) (sym h.requests) served)
    (or_from (target_ran_out w.target_fault) (initiator_ran_out w.initiator_fault) (ap target_ran_out h.idle.0) (ap initiator_ran_out h.idle.1)) h.idle.1

listed_none : (o : Option Done) → listed o ≡ [] → o ≡ None
listed_none None e = refl
listed_none (Some d) e = absurd (cc e)

-- no outcome waits
none_waits : (c : Opening) (asked : List Request) (w : World) (outcomes : List Done) → IsNormal c → (h : HasServed (new_pair c) asked w outcomes)
    → RunsServed (new_pair c) h.events w outcomes → w.initiator.machine.done ≡ None
unfolding local_outcomes
none_waits c asked w outcomes o h r =
    elim h.none_left [
      | inl none ↦ none
      | inr first ↦ (let whole = idle_whole c h.events w outcomes o r h.idle.2 h.idle.3 in
          listed_none w.initiator.machine.done
          (both_none outcomes (listed w.initiator.machine.done) (whole.0 ∙ ap (disk_outcomes c) (h.requests ∙ first))).1)
    ]

-- what was given is what one local disk gives
pub record AreServed (c : Opening) (asked : List Request) (w : World) (outcomes : List Done) : Type 0 where
  pub outcomes_are : outcomes ≡ disk_outcomes c asked
  pub disk_is : disk_of w.blocks ≡ local_disk_after c asked

pub served_on_disk : (c : Opening) (asked : List Request) (w : World) (outcomes : List Done) → IsOpening c → HasServed (new_pair c) asked w outcomes
    → SuitEachOther c
    → c.initiator.proposal.session ≡ sessions.Normal → AllByRecursion IsServed asked → AreServed c asked w outcomes
served_on_disk c asked w outcomes opening h suits normal served =
    let o : IsNormal c = record { opening = opening; suits = suits; session = normal } in
    let r : RunsServed (new_pair c) h.events w outcomes = runs_served c asked w outcomes h served in
    let whole = idle_whole c h.events w outcomes o r h.idle.2 h.idle.3 in
    record {
      outcomes_are = sym (append-nil outcomes) ∙ ap (λ (x : Option Done). outcomes ++ listed x) (sym (none_waits c asked w outcomes o h r)) ∙ whole.0
          ∙ ap (λ (x : List Request). disk_outcomes c x) h.requests;
      disk_is = whole.1 ∙ ap (λ (x : List Request). local_disk_after c x) h.requests;
    }

-- ---- the next request is accepted

-- each of these is served
all_served : (asked : List Request) → AllByRecursion IsAlwaysTaken asked → AllByRecursion IsServed asked
all_served [] a = tt
all_served (request ∷ asked) a = (taken_served request a.0, all_served asked a.1)

-- a request that any target takes, or a logout
abbrev pub IsNext : Request → Type 0
IsNext request = IsAlwaysTaken request ⊎ (request ≡ requests.Logout)

next_served : (request : Request) → IsNext request → IsServed request
next_served request next = elim next [
  | inl a ↦ taken_served request a
  | inr e ↦ subst IsServed (sym e) tt
]

next_accepted : (request : Request) (m : initiator.InitiatorSession) (t : target.Machine) → AreInStep m t → IsNext request → (submitted m request).refusal
    ≡ None
next_accepted request m t s next = elim next [
  | inl a ↦ accepts m t request s (taken_short request m t s a)
  | inr e ↦ subst (λ (r : Request). (submitted m r).refusal ≡ None) (sym e) (accepts m t requests.Logout s refl)
]

-- no logout is among them
no_logout : (asked : List Request) → AllByRecursion IsAlwaysTaken asked → EndsInLogout asked → ⊥
no_logout asked a e = (let parts = all_parts IsAlwaysTaken e.0 (requests.Logout ∷ []) (subst (λ (x : List Request). AllByRecursion IsAlwaysTaken x) e.1 a) in
    parts.1.0)

are_in_step : (asked : List Request) (m : initiator.InitiatorSession) (t : target.Machine) → AllByRecursion IsAlwaysTaken asked → AreAtEnd asked m t
    → AreInStep m t
are_in_step asked m t a end = elim end [
  | inl on ↦ on
  | inr over ↦ absurd (no_logout asked a over.1)
]

-- so the run is served with it, too
pub asks_next : (c : Opening) (asked : List Request) (request : Request) (old mid : World) (outcomes : List Done) → IsNormal c
    → (h : HasServed (new_pair c) asked old outcomes) → AllByRecursion IsAlwaysTaken asked → IsNext request → PairEventStep old (Submits request) mid
    → keeps_no_memory mid ≡ false → RunsServed (new_pair c) (h.events ++ Submits request ∷ []) mid (outcomes ++ [])
asks_next c asked request old mid outcomes o h a next e calm =
    let r : RunsServed (new_pair c) h.events old outcomes = runs_served c asked old outcomes h (all_served asked a) in
    let none : old.initiator.machine.done ≡ None = none_waits c asked old outcomes o h r in
    let same : outcome_handed_out old.initiator.machine ≡ old.initiator.machine = ap (λ (d : Option Done). record old.initiator.machine { done = d }) (sym none) in
    let end : AreAtEnd asked (outcome_handed_out old.initiator.machine) old.target.machine =
    subst (λ (x : List Request). AreAtEnd x (outcome_handed_out old.initiator.machine) old.target.machine) h.requests
    (idle_rests c h.events old outcomes o r h.idle.2 h.idle.3) in
    let on : AreInStep old.initiator.machine old.target.machine =
    subst (λ (m : initiator.InitiatorSession). AreInStep m old.target.machine) same
    (are_in_step asked (outcome_handed_out old.initiator.machine) old.target.machine a end) in
    served_more (new_pair c) h.events old outcomes (Submits request) mid r e
    (next_served request next, next_accepted request old.initiator.machine old.target.machine on next) calm

-- a request that isn't served so doesn't come about
pub not_refused : (c : Opening) (asked : List Request) (request : Request) (old mid settled : World) (taken : List Step) (outcomes : List Done) → IsNormal c
    → HasServed (new_pair c) asked old outcomes → AllByRecursion IsAlwaysTaken asked → IsNext request → PairEventStep old (Submits request) mid
    → PairRuns mid (map event_of taken) settled → keeps_no_memory settled ≡ false
    → ((c : Opening) (events : List PairEvent) (outcomes : List Done) → IsNormal c → RunsServed (new_pair c) events mid outcomes → ⊥) → ⊥
not_refused c asked request old mid settled taken outcomes o h a next e r calm refuted =
    refuted c (h.events ++ Submits request ∷ []) (outcomes ++ []) o
    (asks_next c asked request old mid outcomes o h a next e (calm_first mid (map event_of taken) settled r calm))

first_runs : (c : Opening) → RunsServed (new_pair c) [] (new_pair c) []
unfolding RunsServed
first_runs c = (refl, refl)

-- ---- lists that can be served

-- the requests before the last one that was handed in are none of logout
pub record AreNext (past : List Request) (request : Request) : Type 0 where
  pub past_are : AllByRecursion IsAlwaysTaken past
  pub next : IsNext request

next_of : (past : List Request) (request : Request) (more : List Request) → CanBeServed (past ++ request ∷ more) → AreNext past request
next_of [] request [] a = record { past_are = tt; next = a }
next_of [] request (r ∷ more) a = record { past_are = tt; next = inl a.0 }
next_of (first ∷ []) request more a = (let x = next_of [] request more a.1 in record { past_are = (a.0, tt); next = x.next })
next_of (first ∷ second ∷ past) request more a =
    (let x = next_of (second ∷ past) request more a.1 in record { past_are = (a.0, x.past_are); next = x.next })

pub are_next : (all past : List Request) (request : Request) (more : List Request) → all ≡ past ++ request ∷ more → CanBeServed all → AreNext past request
are_next all past request more e a = next_of past request more (subst CanBeServed e a)

-- ---- behind the last turn

-- a fault says that memory ran out, or that the run was not served
pub at_last : (result : Result (Unit {0}) RunFault) (old new : World) (turns : ℕ) → HasTurned old turns new → IsSilent new ⊎ (most_answers < turns)
    → IfErr result (λ fault. (fault ≡ faults.NoMemory) ⊎ ((keeps_no_memory new ≡ false) × (IsIdle new → ⊥)))
    → IfErr result (λ fault. (fault ≡ faults.NoMemory) ⊎ ((keeps_no_memory new ≡ false)
    × ((c : Opening) (events : List PairEvent) (outcomes : List Done) → IsNormal c → RunsServed (new_pair c) events old outcomes → ⊥)))
at_last (Ok done_) old new turns h how e = e
at_last (Err fault) old new turns h how e = elim e [
  | inl memory ↦ inl memory
  | inr x ↦ inr (x.0, comes_to_rest old new turns h how x.1 x.0)
]

-- what a login that failed says
pub first_memory : (c : Opening) (w settled : World) (fault : RunFault) → w ≡ new_pair c → IsNormal c
    → (fault ≡ faults.NoMemory) ⊎ ((keeps_no_memory settled ≡ false)
    × ((c' : Opening) (events : List PairEvent) (outcomes : List Done) → IsNormal c' → RunsServed (new_pair c') events w outcomes → ⊥)) → fault
    ≡ faults.NoMemory
first_memory c w settled fault is o e = elim e [
  | inl memory ↦ memory
  | inr x ↦ absurd (x.1 c [] [] o (subst (λ (v : World). RunsServed (new_pair c) [] v []) (sym is) (first_runs c)))
]

-- and what a request that failed says
pub next_memory : (c : Opening) (past : List Request) (request : Request) (old mid settled : World) (taken : List Step) (outcomes : List Done)
    (fault : RunFault) → IsNormal c → HasServed (new_pair c) past old outcomes → AreNext past request → PairEventStep old (Submits request) mid
    → PairRuns mid (map event_of taken) settled
    → (fault ≡ faults.NoMemory) ⊎ ((keeps_no_memory settled ≡ false)
    × ((c' : Opening) (events : List PairEvent) (outcomes : List Done) → IsNormal c' → RunsServed (new_pair c') events mid outcomes → ⊥)) → fault
    ≡ faults.NoMemory
next_memory c past request old mid settled taken outcomes fault o h n e r how = elim how [
  | inl memory ↦ memory
  | inr x ↦ absurd (not_refused c past request old mid settled taken outcomes o h n.past_are n.next e r x.0 x.1)
]

-- ---- what a loop over requests has yielded

pub map_same : {A : Type 0} (xs : List A) → map (λ x. x) xs ≡ xs
map_same [] = refl
map_same (x ∷ xs) = ap (λ ys. x ∷ ys) (map_same xs)

record IsCut (all : List Request) (n : ℕ) (r : Request) : Type 0 where
  more : List Request
  whole : all ≡ take n all ++ r ∷ more

is_cut : (all : List Request) (n : ℕ) (r : Request) → n < length all → r ≡ get_or all n r → IsCut all n r
is_cut [] n r lt e = absurd (omega (arith, lt))
is_cut (x ∷ xs) zero r lt e = record { more = xs; whole = ap (λ (y : Request). y ∷ xs) (sym e) }
is_cut (x ∷ xs) (suc n) r lt e =
    let c : IsCut xs n r = is_cut xs n r (omega (arith, lt)) e in
    record { more = c.more; whole = ap (λ (ys : List Request). x ∷ ys) c.whole }

-- so each that is handed in can be served
pub next_yielded : (all yielded : List Request) (request : Request) → map (λ x. x) yielded ≡ take (length yielded) all → length yielded < length all
    → request ≡ get_or all (length yielded) request → CanBeServed all → AreNext yielded request
next_yielded all yielded request so_far lt e can =
    let c : IsCut all (length yielded) request = is_cut all (length yielded) request lt e in
    are_next all yielded request c.more
    (c.whole ∙ ap (λ (x : List Request). x ++ request ∷ c.more) (sym so_far ∙ map_same yielded)) can
