-- What a crash leaves of a session's blocks, from read to read.
use Rattle.std.proofs.Common.{◌≡◌, ◌≤◌, ◌+◌, ◌-◌, inl, inr, ℕ, Bool, true, false, List, [], ◌∷◌, ◌++◌, length, take, drop, Option, refl, sym, ap, subst}
use Rattle.std.proofs.Common.{◌⊎◌, ◌∙◌, arith, append-nil, append_assoc}
use Rattle.std.proofs.lemmas.List.{append_cancel_right}
use Rattle.std.specs.Prelude.{Result, Ok}
use Rattle.std.specs.Io.KnownBytes.{Appends, Consumes}
use Rattle.std.proofs.KnownBytes.{Consumes-nil, Consumes-trans}
use Rattle.scsi_disk.specs.Disk.{Disk}
use Rattle.scsi_disk.specs.Lasting.{Within}
use Rattle.iscsi_stream.specs.Stream.{Message}
use Rattle.iscsi_stream.proofs.TakingLemmas.{taken_more}
use Rattle.iscsi_login.specs.declared.phase.Phase.{Phase}
use Rattle.iscsi_login.specs.Stage.{is_closed_phase}
use Rattle.iscsi_target.specs.declared.fault.TargetFault.{TargetFault}
use Rattle.iscsi_login.specs.Negotiation.{ArePreferencesInRange}
use Rattle.iscsi_target_session.specs.Configured.{TargetSettings}
use Rattle.iscsi_target.specs.Execution.{Device, device_next}
use Rattle.iscsi_target.specs.State.{Execution, Machine, TargetStep}
use Rattle.iscsi_target.specs.Machine.{MayAnswer, ExecutionsRun, is_machine_closed}
use Rattle.iscsi_target.specs.Feed.{TargetConnection, Store, FeedNextPost, FeedNextPostIfClosed, opening_target, scene}
use Rattle.iscsi_target.specs.Crash.{CrashesFed, CrashesNext, IsMidCommandBlock}
use Rattle.iscsi_target.specs.Advances.{TargetAdvances, store_of}
use Rattle.iscsi_target.proofs.Feed.PassedLemmas.{no_advance, advances_then, feeds_advance, crashes_none, crashes_next, crashes_more, crashes_then, passed_more}
use Rattle.iscsi_target.proofs.Turns.ServingLemmas.{runs_rise}
use Rattle.iscsi_serve.specs.Session.{SyncedAdvances, SentBefore, GoesOnOrClosed, exchange}
use Rattle.iscsi_serve.specs.inner.SessionSteps.{ServedTarget, service, ServiceGoesOn, LeftLast, StoreSynced}
use Rattle.iscsi_serve.proofs.SessionReadInvariant.{Outside, outside, ReadUpTo, all_served, next_is_open}
use Rattle.iscsi_serve.proofs.PieceLemmas.{PieceUpTo, goes_none}
use Rattle.iscsi_serve.proofs.FedMoreLemmas.{at_start}
use Rattle.iscsi_serve.proofs.NextPduLemmas.{next_rises}

-- ---- failures that a sync counts

-- executions, from a count that is less by n
runs_lower : (protected : Bool) (d : Device) (low high more : ℕ) (xs : List Execution) (after : ℕ) → high ≡ low + more → ExecutionsRun protected d high xs after
    →
    ExecutionsRun protected d low xs (after - more)
runs_lower protected d low high more [] after is h = omega (arith, is, h)
runs_lower protected d low high more (x ∷ xs) after is h =
    let rises = h.1.rises in
    let next : h.0 ≡ (h.0 - more) + more = omega (arith, is, rises) in (
      h.0 - more,
      record {
        rises = omega (arith, is, rises);
        works = λ e. h.1.works (omega (arith, is, rises, e));
        fails = λ e. h.1.fails (omega (arith, is, rises, e));
      },
      runs_lower protected (device_next d) (h.0 - more) h.0 more xs after next h.2,
    )

may_lower : (protected : Bool) (s : Machine) (disk : Disk) (low high more : ℕ) (ms : List Message) (r : TargetStep) (after : ℕ) → high ≡ low + more →
    MayAnswer protected s disk high ms r after → MayAnswer protected s disk low ms r (after - more)
unfolding MayAnswer
may_lower protected s disk low high more [] r after is h = (h.0, omega (arith, is, h.1))
may_lower protected s disk low high more (m ∷ ms) r after is h =
    let rises = runs_rise protected h.3.device high h.0.executed h.2 h.3.runs in
    let next : h.2 ≡ (h.2 - more) + more = omega (arith, is, rises) in (
      h.0,
      h.1,
      h.2 - more,
      record { device = h.3.device; is = h.3.is; runs = runs_lower protected h.3.device low high more h.0.executed h.2 is h.3.runs },
      may_lower protected h.0.machine h.0.disk (h.2 - more) h.2 more ms h.1 after next h.4,
      h.5,
    )

-- what is passed from a count that is less
passed_lower : (protected : Bool) (old : TargetConnection) (before : Store) (low : ℕ) (piece : List ℕ) (most n : ℕ) (bytes : List ℕ) → low ≤ before.failures →
    IsMidCommandBlock protected old before piece most n bytes → IsMidCommandBlock protected old (store_of before.disk low) piece most n bytes
passed_lower protected old before low piece most n bytes few p =
    let more : ℕ = before.failures - low in record {
      messages = p.messages;
      message = p.message;
      framing = p.framing;
      count = p.count;
      taken = p.taken;
      led = p.led;
      failures = p.failures - more;
      may = may_lower protected old.machine before.disk low before.failures more p.messages p.led p.failures (omega (arith, few)) p.may;
      few = (let most_ = p.few in omega (arith, most_));
      behind = p.behind;
    }

passed_later : (protected : Bool) (old : TargetConnection) (before : Store) (piece : List ℕ) (most last n : ℕ) (bytes : List ℕ) → most ≤ last →
    IsMidCommandBlock protected old before piece most n bytes → IsMidCommandBlock protected old before piece last n bytes
passed_later protected old before piece most last n bytes rises p =
    subst (λ (x : List ℕ). IsMidCommandBlock protected old before x last n bytes) (append-nil piece)
    (passed_more protected old before piece [] most last n bytes rises p)

-- nothing came
no_bytes_come : (protected : Bool) (old : TargetConnection) (before : Store) → SyncedAdvances protected old before [] old before
no_bytes_come protected old before = record { failures = before.failures; few = omega arith; advances = no_advance protected old before }

pub comes_synced : (protected : Bool) (old new : TargetConnection) (before store after : Store) (bytes : List ℕ)
    → SyncedAdvances protected old before bytes new store
    → StoreSynced store after →
    SyncedAdvances protected old before bytes new after
comes_synced protected old new before store after bytes c s = record {
  failures = c.failures;
  few = (let low = c.few in let high = s.rises in omega (arith, low, high));
  advances = subst (λ (d : Disk). TargetAdvances protected old before bytes new (store_of d c.failures)) (sym s.disk) c.advances;
}

-- bytes behind others
comes_then : (protected : Bool) (old mid new : TargetConnection) (before store after : Store) (x y : List ℕ) → SyncedAdvances protected old before x mid store
    → SyncedAdvances protected mid store y new after →
    SyncedAdvances protected old before (x ++ y) new after
comes_then protected old mid new before store after x y a b =
    let more : ℕ = store.failures - a.failures in
    let low = a.few in
    let left : ℕ = b.failures - more in
    let later : TargetAdvances protected mid (store_of store.disk a.failures) y new (store_of after.disk left) = record {
      messages = b.advances.messages;
      taken = b.advances.taken;
      led = b.advances.led;
      may = may_lower protected mid.machine store.disk a.failures store.failures more b.advances.messages b.advances.led b.failures
          (omega (arith, low)) b.advances.may;
      machine = b.advances.machine;
      disk_is = b.advances.disk_is;
    } in
    record {
      failures = left;
      few = (let few_ = b.few in omega (arith, few_));
      advances = advances_then protected old mid new before (store_of store.disk a.failures) (store_of after.disk left) x y a.advances later;
    }

-- what a crash leaves behind bytes, whose failures may be counted
abbrev pub Crashed : Bool → TargetConnection → Store → List ℕ → Store → (ℕ → List ℕ → Type 0) → (ℕ → List ℕ → Type 0) → Type 0
Crashed protected old before bytes after kept left = (before.failures ≤ after.failures) × CrashesFed protected old before bytes after kept left

crash_synced : (protected : Bool) (old : TargetConnection) (before store after : Store) (piece : List ℕ) (kept was left : ℕ → List ℕ → Type 0) →
    CrashesFed protected old before piece store kept was → StoreSynced store after → Within was left → CrashesFed protected old before piece after kept left
crash_synced protected old before store after piece kept was left c s within = record {
  count = ap (λ (d : Disk). d.count) s.disk ∙ c.count;
  adds = λ n bytes k. elim (c.adds n bytes (within n bytes k)) [
    | inl first ↦ inl first
    | inr is ↦ inr (passed_later protected old before piece store.failures after.failures n bytes s.rises is)
  ];
}

pub crashes_synced : (protected : Bool) (old : TargetConnection) (before store after : Store) (piece : List ℕ) (kept was left : ℕ → List ℕ → Type 0) →
    Crashed protected old before piece store kept was → StoreSynced store after → Within was left → Crashed protected old before piece after kept left
crashes_synced protected old before store after piece kept was left c s within =
    ((let low = c.0 in let high = s.rises in omega (arith, low, high)), crash_synced protected old before store after piece kept was left c.1 s within)

-- a crash behind bytes that came behind others
crashes_behind : (protected : Bool) (old mid : TargetConnection) (before store after : Store) (piece front rest : List ℕ) (kept was left : ℕ → List ℕ → Type 0)
    →
    piece ≡ front ++ rest → SyncedAdvances protected old before front mid store
    → store.failures ≤ after.failures → CrashesFed protected old before piece store kept was → CrashesFed protected mid store rest after was left →
    CrashesFed protected old before piece after kept left
crashes_behind protected old mid before store after piece front rest kept was left parts a rises p q =
    let low = a.few in
    let at : Store = store_of store.disk a.failures in
    let none : CrashesFed protected old before piece at was was = record { count = p.count; adds = λ n bytes h. inl h } in
    let later : CrashesFed protected mid at rest after was left = record {
      count = q.count;
      adds = λ n bytes h. elim (q.adds n bytes h) [
        | inl first ↦ inl first
        | inr is ↦ inr (passed_lower protected mid store a.failures rest after.failures n bytes low is)
      ];
    } in
    let all : CrashesFed protected old before piece after was left =
    crashes_then protected old mid before at after piece front rest was was left parts a.advances (omega (arith, low, rises)) none later in
    record {
      count = all.count;
      adds = λ n bytes h. elim (all.adds n bytes h) [
        | inl first ↦ elim (p.adds n bytes first) [
          | inl kept_ ↦ inl kept_
          | inr is ↦ inr (passed_later protected old before piece store.failures after.failures n bytes rises is)
        ]
        | inr is ↦ inr is
      ];
    }

-- ---- one PDU

pub next_crashes : (protected : Bool) (old new : TargetConnection) (before after : Store) (out piece written : List ℕ) (result : Result (ℕ × Phase) TargetFault)
    (kept left : ℕ → List ℕ → Type 0) → FeedNextPost protected (scene old before out) piece result (scene new after written)
    → CrashesNext protected old piece before.disk after.disk kept left → (before.failures ≤ after.failures)
    × CrashesFed protected old before piece after kept left
next_crashes protected old new before after out piece written result kept left f crash =
    let rises = next_rises protected old new before after out piece written result f
    in (rises, crashes_next protected old before after piece kept left rises crash)

pub next_advances : (protected : Bool) (b : Bool) (old new : TargetConnection) (before after : Store) (out piece written : List ℕ) (done : ℕ × Phase)
    → FeedNextPostIfClosed protected b (scene old before out) piece (Ok done) (scene new after written) → is_closed_phase done.1 ≡ false
    → SyncedAdvances protected old before (take done.0 piece) new after
next_advances protected true old new before after out piece written done f open_ = absurd cc
next_advances protected false old new before after out piece written done f open_ = record {
  failures = after.failures;
  few = omega arith;
  advances = feeds_advance protected old before out (take done.0 piece) done.1 new after written f.fed
      (next_is_open protected false old new before after out piece written done f open_);
}

-- ---- a piece

-- the bytes of a piece before the rest led here
pub record AdvancesUpTo (protected : Bool) (old : TargetConnection) (before : Store) (piece rest : List ℕ) (now : TargetConnection) (store : Store) : Type
    0 where
  pub front : List ℕ
  pub parts : piece ≡ front ++ rest
  pub advances : SyncedAdvances protected old before front now store

pub piece_begins : (protected : Bool) (old : TargetConnection) (before : Store) (piece : List ℕ) → AdvancesUpTo protected old before piece piece old before
piece_begins protected old before piece = record { front = []; parts = refl; advances = no_bytes_come protected old before }

pub piece_advances : (protected : Bool) (old now new : TargetConnection) (before store after : Store) (piece rest : List ℕ) (n : ℕ)
    → AdvancesUpTo protected old before piece rest now store →
    SyncedAdvances protected now store (take n rest) new after → AdvancesUpTo protected old before piece (drop n rest) new after
piece_advances protected old now new before store after piece rest n p q = record {
  front = p.front ++ take n rest;
  parts = taken_more piece p.front rest n p.parts;
  advances = comes_then protected old now new before store after p.front (take n rest) p.advances q;
}

pub piece_advanced : (protected : Bool) (old now : TargetConnection) (before store : Store) (piece rest : List ℕ)
    → AdvancesUpTo protected old before piece rest now store → length rest ≡ 0 →
    SyncedAdvances protected old before piece now store
piece_advanced protected old now before store piece [] p none = subst (λ (x : List ℕ). SyncedAdvances protected old before x now store)
    (sym (p.parts ∙ append-nil p.front)) p.advances
piece_advanced protected old now before store piece (b ∷ rest) p none = absurd (omega (arith, none))

pub piece_crashes : (protected : Bool) (old now : TargetConnection) (before store after : Store) (piece rest : List ℕ) (kept was left : ℕ → List ℕ → Type 0)
    → AdvancesUpTo protected old before piece rest now store → Crashed protected old before piece store kept was
    → Crashed protected now store rest after was left
    → Crashed protected old before piece after kept left
piece_crashes protected old now before store after piece rest kept was left p q r = (
  omega (arith, q.0, r.0),
  crashes_behind protected old now before store after piece p.front rest kept was left p.parts p.advances r.0 q.1 r.1,
)

-- ---- when the last answers left

-- some state of a store that was synced
abbrev pub SomeSynced : {S : Type 0} → (S → Bool) → (S → Store) → (S → ℕ → List ℕ → Type 0) → (Store → (ℕ → List ℕ → Type 0) → Type 0) → Type 0
SomeSynced {S} synced store kept P = (state : S) × (synced state ≡ true) × P (store state) (kept state)

-- a piece, and the bytes of it that are left
pub record Serving : Type 0 where
  pub piece : List ℕ
  pub rest : List ℕ

abbrev pub serving : List ℕ → List ℕ → Serving
serving piece rest = record { piece = piece; rest = rest }

-- the last answers left behind a front of the piece, where the store was this one, and the bytes up to the rest were served since
pub record LastUpTo (protected : Bool) (old : ServedTarget) (at : Serving) (store : Store) (kept : ℕ → List ℕ → Type 0) (now : ServedTarget)
    (was : ℕ → List ℕ → Type 0)
    : Type 0 where
  pub front : List ℕ
  pub behind : List ℕ
  pub whole : at.piece ≡ front ++ behind
  pub target : TargetConnection
  pub goes : ServiceGoesOn protected old front (service target store now.contents [])
  pub comes : SyncedAdvances protected old.target old.store front target store
  pub advances : AdvancesUpTo protected target store behind at.rest now.target now.store
  pub crash : Crashed protected target store behind now.store kept was

pub last_begins : (protected : Bool) (target : TargetConnection) (store : Store) (contents : Option (List ℕ)) (waiting piece : List ℕ)
    (kept : ℕ → List ℕ → Type 0) →
    LastUpTo protected (service target store contents []) (serving piece piece) store kept (service target store contents waiting) kept
last_begins protected target store contents waiting piece kept = record {
  front = [];
  behind = piece;
  whole = refl;
  target = target;
  goes = goes_none protected (service target store contents []);
  comes = no_bytes_come protected target store;
  advances = piece_begins protected target store piece;
  crash = (omega arith, crashes_none protected target store piece kept);
}

-- a PDU more, whose answers wait
last_waits : (protected : Bool) (old : ServedTarget) (at : Serving) (n : ℕ) (here to : ServedTarget) (then : Store)
    (kept was left : ℕ → List ℕ → Type 0)
    → LastUpTo protected old at then kept here was →
    to.contents ≡ here.contents → SyncedAdvances protected here.target here.store (take n at.rest) to.target to.store → Crashed protected here.target
    here.store at.rest to.store was left →
    LastUpTo protected old (serving at.piece (drop n at.rest)) then kept to left
last_waits protected old at n here to then kept was left l same comes crash = record {
  front = l.front;
  behind = l.behind;
  whole = l.whole;
  target = l.target;
  goes = subst (λ (x : Option (List ℕ)). ServiceGoesOn protected old l.front (service l.target then x [])) (sym same) l.goes;
  comes = l.comes;
  advances = piece_advances protected l.target here.target to.target then here.store to.store l.behind at.rest n l.advances comes;
  crash = piece_crashes protected l.target here.target then here.store to.store l.behind at.rest kept was left l.advances l.crash crash;
}

-- a PDU more, behind which the answers left
last_leaves : (protected : Bool) (old : ServedTarget) (piece rest : List ℕ) (new : TargetConnection) (after : Store) (now : Option (List ℕ)) (written : List ℕ)
    (left : ℕ → List ℕ → Type 0) → PieceUpTo protected old piece rest (service new after now written)
    → AdvancesUpTo protected old.target old.store piece rest new after →
    written ≡ [] → LastUpTo protected old (serving piece rest) after left (service new after now written) left
last_leaves protected old piece rest new after now written left p a none =
    let same : a.front ≡ p.front = append_cancel_right a.front p.front rest (sym a.parts ∙ p.parts) in
    record {
      front = p.front;
      behind = rest;
      whole = p.parts;
      target = new;
      goes = subst (λ (x : List ℕ). ServiceGoesOn protected old p.front (service new after now x)) none p.goes;
      comes = subst (λ (x : List ℕ). SyncedAdvances protected old.target old.store x new after) same a.advances;
      advances = piece_begins protected new after rest;
      crash = (omega arith, crashes_none protected new after rest left);
    }

-- a PDU more
pub last_more : {S : Type 0} (protected : Bool) (synced : S → Bool) (state : S → Store) (kept : S → ℕ → List ℕ → Type 0) (here : S) (old : ServedTarget)
    (piece rest : List ℕ) (n : ℕ)
    (target new : TargetConnection) (store : Store) (contents now : Option (List ℕ)) (waiting written : List ℕ) (was : ℕ → List ℕ → Type 0)
    → SomeSynced synced state kept (λ then k. LastUpTo protected old (serving piece rest) then k (service target store contents waiting) was)
    → PieceUpTo protected old piece (drop n rest) (service new (state here) now written)
    → AdvancesUpTo protected old.target old.store piece (drop n rest) new (state here)
    → SyncedAdvances protected target store (take n rest) new (state here) → Crashed protected target store rest (state here) was (kept here)
    → (now ≡ contents) ⊎ ((written ≡ []) × (synced here ≡ true))
    → SomeSynced synced state kept (λ then k. LastUpTo protected old (serving piece (drop n rest)) then k (service new (state here) now written) (kept here))
last_more protected synced state kept here old piece rest n target new store contents now waiting written was l p a comes crash (inl same) = (
  l.0,
  l.1,
  last_waits protected old (serving piece rest) n (service target store contents waiting) (service new (state here) now written) (state l.0) (kept l.0) was
      (kept here) l.2 same comes crash,
)
last_more protected synced state kept here old piece rest n target new store contents now waiting written was l p a comes crash (inr sent) =
    (here, sent.1, last_leaves protected old piece (drop n rest) new (state here) now written (kept here) p a sent.0)

-- the answers to the next PDU did not leave
pub last_stops : (protected : Bool) (old : ServedTarget) (at : Serving) (here to : ServedTarget) (then : Store)
    (kept was left : ℕ → List ℕ → Type 0)
    → LastUpTo protected old at then kept here was →
    to.contents ≡ here.contents → Crashed protected here.target here.store at.rest to.store was left → LeftLast protected old at.piece then kept to left
last_stops protected old at here to then kept was left l same crash = record {
  front = l.front;
  behind = l.behind;
  whole = l.whole;
  target = l.target;
  goes = subst (λ (x : Option (List ℕ)). ServiceGoesOn protected old l.front (service l.target then x [])) (sym same) l.goes;
  stands = inr l.comes;
  few = (let low = l.crash.0 in let high = crash.0 in omega (arith, low, high));
  crash = (piece_crashes protected l.target here.target then here.store to.store l.behind at.rest kept was left l.advances l.crash crash).1;
}

-- the next PDU closed the session
pub last_closed : {S : Type 0} (protected : Bool) (synced : S → Bool) (state : S → Store) (kept : S → ℕ → List ℕ → Type 0) (here : S)
    (old : ServedTarget) (piece rest : List ℕ)
    (n : ℕ) (target new : TargetConnection) (store : Store) (contents now : Option (List ℕ)) (waiting written : List ℕ) (was : ℕ → List ℕ → Type 0)
    → SomeSynced synced state kept (λ then k. LastUpTo protected old (serving piece rest) then k (service target store contents waiting) was)
    → PieceUpTo protected old piece (drop n rest) (service new (state here) now written) → is_machine_closed new.machine ≡ true
    → Crashed protected target store rest (state here) was (kept here) → (now ≡ contents) ⊎ ((written ≡ []) × (synced here ≡ true))
    → SomeSynced synced state kept (λ then k. LeftLast protected old piece then k (service new (state here) now written) (kept here))
last_closed protected synced state kept here old piece rest n target new store contents now waiting written was l p over crash (inl same) = (
  l.0,
  l.1,
  last_stops protected old (serving piece rest) (service target store contents waiting) (service new (state here) now written) (state l.0) (kept l.0) was
      (kept here) l.2 same crash,
)
last_closed protected synced state kept here old piece rest n target new store contents now waiting written was l p over crash (inr sent) = (
  here,
  sent.1,
  record {
    front = p.front;
    behind = drop n rest;
    whole = p.parts;
    target = new;
    goes = subst (λ (x : List ℕ). ServiceGoesOn protected old p.front (service new (state here) now x)) sent.0 p.goes;
    stands = inl over;
    few = omega arith;
    crash = crashes_none protected new (state here) (drop n rest) (kept here);
  },
)

-- a sync failed
pub last_synced : (protected : Bool) (old : ServedTarget) (piece : List ℕ) (here : ServedTarget) (then after : Store)
    (now : Option (List ℕ))
    (written : List ℕ) (kept was left : ℕ → List ℕ → Type 0) → LeftLast protected old piece then kept here was →
    StoreSynced here.store after → Within was left → now ≡ here.contents → LeftLast protected old piece then kept (service here.target after now written) left
last_synced protected old piece here then after now written kept was left l s within same = record {
  front = l.front;
  behind = l.behind;
  whole = l.whole;
  target = l.target;
  goes = subst (λ (x : Option (List ℕ)). ServiceGoesOn protected old l.front (service l.target then x [])) (sym same) l.goes;
  stands = l.stands;
  few = (let low = l.few in let high = s.rises in omega (arith, low, high));
  crash = crash_synced protected l.target then here.store after l.behind kept was left l.crash s within;
}

-- a sync failed behind the whole piece
pub last_done : (protected : Bool) (old : ServedTarget) (piece rest : List ℕ) (here : ServedTarget) (then after : Store)
    (now : Option (List ℕ))
    (written : List ℕ) (kept was left : ℕ → List ℕ → Type 0)
    → LastUpTo protected old (serving piece rest) then kept here was →
    StoreSynced here.store after → Within was left → now ≡ here.contents → LeftLast protected old piece then kept (service here.target after now written) left
last_done protected old piece rest here then after now written kept was left l s within same =
    last_synced protected old piece here then after now written kept was left (record {
      front = l.front;
      behind = l.behind;
      whole = l.whole;
      target = l.target;
      goes = l.goes;
      stands = inr l.comes;
      few = l.crash.0;
      crash = l.crash.1;
    }) s within same

-- ---- a session

-- what was read was served, and led here; what a crash leaves behind it
pub record SessionUpTo (protected : Bool) (settings : TargetSettings) (first : Outside) (target : TargetConnection) (now : Outside)
    (kept left : ℕ → List ℕ → Type 0) : Type 0 where
  pub read : ReadUpTo protected settings first target now
  pub advances : SyncedAdvances protected (opening_target settings 1) first.store read.stream target now.store
  pub crash : CrashesFed protected (opening_target settings 1) first.store read.stream now.store kept left

pub session_start : (protected : Bool) (settings : TargetSettings) (first : Store) (r w : Option (List ℕ)) (kept : ℕ → List ℕ → Type 0)
    → SessionUpTo protected settings (outside first r w) (opening_target settings 1) (outside first r w) kept kept
session_start protected settings first r w kept = record {
  read = record { stream = []; consumed = Consumes-nil r; served = at_start protected settings first w };
  advances = no_bytes_come protected (opening_target settings 1) first;
  crash = crashes_none protected (opening_target settings 1) first [] kept;
}

-- behind one piece more
pub session_crashes : (protected : Bool) (settings : TargetSettings) (from : Outside) (now : TargetConnection) (here : Outside) (after : Store)
    (kept was left : ℕ → List ℕ → Type 0) (piece : List ℕ)
    → (up : SessionUpTo protected settings from now here kept was) → Crashed protected now here.store piece after was left
    → CrashesFed protected (opening_target settings 1) from.store (up.read.stream ++ piece) after kept left
session_crashes protected settings from now here after kept was left piece up crash =
    crashes_behind protected (opening_target settings 1) now from.store here.store after (up.read.stream ++ piece) up.read.stream piece kept was left
    refl up.advances crash.0
    (crashes_more protected (opening_target settings 1) from.store here.store up.read.stream piece kept was up.crash) crash.1

pub session_more : (protected : Bool) (settings : TargetSettings) (from : Outside) (now new : TargetConnection) (here to : Outside)
    (kept was left : ℕ → List ℕ → Type 0) (piece : List ℕ)
    → SessionUpTo protected settings from now here kept was → Consumes here.remaining to.remaining piece →
    ServiceGoesOn protected (service now here.store here.contents []) piece (service new to.store to.contents [])
    → SyncedAdvances protected now here.store piece new to.store → Crashed protected now here.store piece to.store was left →
    SessionUpTo protected settings from new to kept left
session_more protected settings from now new here to kept was left piece up read goes advances crash = record {
  read = record {
    stream = up.read.stream ++ piece;
    consumed = Consumes-trans from.remaining here.remaining to.remaining up.read.stream piece up.read.consumed read;
    served = goes settings from.store up.read.stream from.contents up.read.served;
  };
  advances = comes_then protected (opening_target settings 1) now new from.store here.store to.store up.read.stream piece up.advances advances;
  crash = session_crashes protected settings from now here to.store kept was left piece up crash;
}

-- a store at a sync, and what a crash leaves of it then
pub record AtSync : Type 1 where
  pub store : Store
  pub kept : ℕ → List ℕ → Type 0

-- where a sync failed in the next piece, what was written before
pub session_last : (protected : Bool) (settings : TargetSettings) (range : ArePreferencesInRange settings.preferences) (from : Outside)
    (now new : TargetConnection)
    (sync : AtSync) (here to : Outside)
    (kept was left : ℕ → List ℕ → Type 0) (piece : List ℕ) → SessionUpTo protected settings from now here kept was →
    Consumes here.remaining to.remaining piece → LeftLast protected (service now here.store here.contents []) piece sync.store sync.kept
    (service new to.store to.contents []) left →
    (read : List ℕ) × (written : List ℕ) × Consumes from.remaining to.remaining read × Appends from.contents to.contents written
    × SentBefore protected (exchange settings from.store read written) sync.store sync.kept to.store left
session_last protected settings range from now new sync here to kept was left piece up read l =
    let served = l.goes settings from.store up.read.stream from.contents up.read.served in (
      up.read.stream ++ piece,
      served.sent,
      Consumes-trans from.remaining here.remaining to.remaining up.read.stream piece up.read.consumed read,
      served.appended,
      record {
        front = up.read.stream ++ l.front;
        behind = l.behind;
        whole = ap (λ (x : List ℕ). up.read.stream ++ x) l.whole ∙ sym (append_assoc up.read.stream l.front l.behind);
        target = l.target;
        stands = stands_then l.stands;
        answered = λ none. all_served protected settings from.store (up.read.stream ++ l.front) l.target sync.store from.contents to.contents served range none;
        few = l.few;
        crash = l.crash;
      },
    )
  where
    stands_then : GoesOnOrClosed protected now here.store l.front l.target sync.store
        → GoesOnOrClosed protected (opening_target settings 1) from.store (up.read.stream ++ l.front) l.target sync.store
    stands_then (inl over) = inl over
    stands_then (inr comes) = inr (comes_then protected (opening_target settings 1) now l.target from.store here.store sync.store up.read.stream l.front
        up.advances comes)
