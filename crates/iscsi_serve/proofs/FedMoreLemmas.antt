-- One more piece is fed to a target, and what was counted then.
use Rattle.std.proofs.Common.{◌≡◌, inl, inr, drop, ℕ, Bool, true, false, List, [], ◌∷◌, ◌++◌, ◌≤◌, Option, Result, Ok}
use Rattle.std.proofs.Common.{Err, refl, sym, ap, subst, ◌∙◌, arith, append-nil, append_assoc}
use Rattle.std.specs.Io.KnownBytes.{Appends, Consumes}
use Rattle.std.proofs.KnownBytes.{Appends-nil}
use Rattle.scsi_disk.specs.Disk.{Disk}
use Rattle.iscsi_pdu.specs.Meaning.{AreBytes}
use Rattle.iscsi_stream.specs.Canonical.{canon}
use Rattle.iscsi_login.specs.declared.phase.Phase.{Phase}
use Rattle.iscsi_target.specs.declared.fault.TargetFault.{TargetFault}
use Rattle.iscsi_target.specs.declared.fault.TargetFault.TheVariants as faults
use Rattle.iscsi_target_session.specs.Configured.{TargetSettings}
use Rattle.iscsi_target.specs.Machine.{is_machine_closed}
use Rattle.iscsi_stream.specs.Framing.{Framing}
use Rattle.iscsi_target.specs.State.{Machine, TargetStep}
use Rattle.iscsi_target.specs.Feed as feed
use Rattle.iscsi_target.specs.Feed.{Scene, CallLeaves, TargetConnection, Store, TargetFeedPost, FeedPostIfClosed, FeedsAllPieces, GoesWell, opening_target}
use Rattle.iscsi_target.specs.Feed.{scene, remainder}
use Rattle.iscsi_target.specs.Feed.{stream_of}
use Rattle.iscsi_target.specs.Laws.{ExecutionsLead}
use Rattle.iscsi_target.proofs.Feed.FeedInvariant.{may_rise, short_rises}
use Rattle.iscsi_target.proofs.Steps.FailingDiskLemmas.{may_leads, stop_leads, leads_append}
use Rattle.iscsi_serving.specs.Executed.{HasExecuted}
pub use Rattle.iscsi_serving.proofs.ExecutedLemmas.{nothing_executed, none_executed}
use Rattle.iscsi_serve.specs.inner.SessionSteps.{ServedUpTo, ServedTarget, service}

-- what a call has read and written
abbrev pub Leaves : Option (List ℕ) → Option (List ℕ) → Option (List ℕ) → Option (List ℕ) → (List ℕ → List ℕ → Type 0) → (List ℕ → Type 0) → Type 0
Leaves r0 r1 w0 w1 P C = (read : List ℕ) × (written : List ℕ) × Consumes r0 r1 read × Appends w0 w1 written × AreBytes written × P read written × C read

-- what is said of it where no failure was counted
abbrev pub Given : Store → Store → (List ℕ → List ℕ → Type 0) → List ℕ → List ℕ → Type 0
Given first store P read written = store.failures ≡ first.failures → P read written

pub at_start : (protected : Bool) (settings : TargetSettings) (first : Store) (contents : Option (List ℕ)) →
    ServedUpTo protected settings first [] contents (service (opening_target settings 1) first contents [])
unfolding FeedsAllPieces
at_start protected settings first contents = record {
  pieces = [];
  whole = refl;
  sent = [];
  appended = Appends-nil contents;
  bytes = λ i. omega arith;
  rises = omega arith;
  fed = λ h. (refl, refl, refl);
  executed = none_executed protected first.disk;
}

-- behind what was written
stands_behind : (front out : List ℕ) (r : TargetStep) (counted : ℕ) (after : Store) (written : List ℕ) → feed.OutputStands out r counted after written →
    feed.OutputStands (front ++ out) r counted after (front ++ written)
stands_behind front out r counted after written h = record {
  failures = h.failures;
  disk = h.disk;
  output_is = ap (λ (x : List ℕ). front ++ x) h.output_is ∙ sym (append_assoc front out (canon r.answers));
}

left_behind : (protected : Bool) (result : Result Phase TargetFault) (front out : List ℕ) (framing : Framing) (rest : List ℕ) (r : TargetStep)
    (counted : ℕ) (new : Machine)
    (after : Store) (written : List ℕ) → CallLeaves protected result out (remainder framing rest r counted) new after written
    → CallLeaves protected result (front ++ out) (remainder framing rest r counted) new after (front ++ written)
left_behind protected (Ok phase) front out framing rest r counted new after written h = stands_behind front out r counted after written h
left_behind protected (Err faults.NoMemory) front out framing rest r counted new after written h = record {
  front = h.front;
  stops = h.stops;
  shut = h.shut;
  disk = h.disk;
  output_is = ap (λ (x : List ℕ). front ++ x) h.output_is ∙ sym (append_assoc front out (canon (r.answers ++ h.front.answers)));
}
left_behind protected (Err (faults.Stream fault)) front out framing rest r counted new after written h = stands_behind front out r counted after written h
left_behind protected (Err (faults.Protocol rule)) front out framing rest r counted new after written h = stands_behind front out r counted after written h
left_behind protected (Err faults.Closed) front out framing rest r counted new after written h = stands_behind front out r counted after written h

-- what a call of feed appends, behind what was written
pub fed_behind : (protected : Bool) (b : Bool) (old new : TargetConnection) (before after : Store) (front piece out written : List ℕ)
    (result : Result Phase TargetFault)
    → FeedPostIfClosed protected b (scene old before out) piece result (scene new after written)
    → FeedPostIfClosed protected b (scene old before (front ++ out)) piece result (scene new after (front ++ written))
fed_behind protected true old new before after front piece out written result f = record {
  result_is = f.result_is;
  connection = f.connection;
  store = f.store;
  output_is = ap (λ (x : List ℕ). front ++ x) f.output_is;
}
fed_behind protected false old new before after front piece out written result f = record {
  framing = f.framing;
  count = f.count;
  some = f.some;
  messages = f.messages;
  stepped = f.stepped;
  answered = f.answered;
  leaves = left_behind protected result front out f.framing (drop f.count piece) f.stepped f.answered.failures new.machine after written f.leaves;
  ends = f.ends;
}

-- one piece more
pub fed_more : (protected : Bool) (pieces : List (List ℕ)) (from here to : Scene) (piece : List ℕ)
    (result : Result Phase TargetFault)
    → FeedsAllPieces protected from pieces here
    → TargetFeedPost protected here piece result to
    → GoesWell result here.store to.store
    → FeedsAllPieces protected from (pieces ++ piece ∷ []) to
unfolding FeedsAllPieces
fed_more protected [] from here to piece result f one well = (
  result,
  to.connection,
  to.store,
  to.output,
  subst (λ (x : TargetConnection). TargetFeedPost protected (scene x from.store from.output) piece result to) f.0
      (subst (λ (x : Store). TargetFeedPost protected (scene here.connection x from.output) piece result to) f.1
      (subst (λ (x : List ℕ). TargetFeedPost protected (scene here.connection here.store x) piece result to) f.2 one)),
  subst (λ (x : Store). GoesWell result x to.store) f.1 well,
  (refl, refl, refl),
)
fed_more protected (p ∷ pieces) from here to piece result f one well =
    (f.0, f.1, f.2, f.3, f.4, f.5, fed_more protected pieces (scene f.1 f.2 f.3) here to piece result f.6 one well)

pub stream_more : (pieces : List (List ℕ)) (piece : List ℕ) → stream_of pieces ++ piece ≡ stream_of (pieces ++ piece ∷ [])
stream_more [] piece = sym (append-nil piece)
stream_more (p ∷ pieces) piece = append_assoc p (stream_of pieces) piece ∙ ap (λ (x : List ℕ). p ++ x) (stream_more pieces piece)

-- what was executed, where a call ended so
stands_executed : (protected : Bool) (first : Disk) (out : List ℕ) (r : TargetStep) (counted : ℕ) (after : Store) (written : List ℕ)
    → ExecutionsLead protected first r.executed r.disk →
    feed.OutputStands out r counted after written → HasExecuted protected first after.disk
stands_executed protected first out r counted after written leads h =
    (r.executed, subst (λ (d : Disk). ExecutionsLead protected first r.executed d) (sym h.disk) leads)

left_executed : (protected : Bool) (result : Result Phase TargetFault) (first : Disk) (out : List ℕ) (framing : Framing) (rest : List ℕ)
    (r : TargetStep) (counted : ℕ)
    (new : Machine) (after : Store) (written : List ℕ) → ExecutionsLead protected first r.executed r.disk
    → CallLeaves protected result out (remainder framing rest r counted) new after written → HasExecuted protected first after.disk
left_executed protected (Ok phase) first out framing rest r counted new after written leads h = stands_executed protected first out r
    counted after written leads h
left_executed protected (Err faults.NoMemory) first out framing rest r counted new after written leads h = elim h.stops [
  | inl none ↦ (r.executed, subst (λ (d : Disk). ExecutionsLead protected first r.executed d) (sym (h.disk ∙ ap (λ (x : TargetStep). x.disk) none.0)) leads)
  | inr at ↦ (
    r.executed ++ h.front.executed,
    subst (λ (d : Disk). ExecutionsLead protected first (r.executed ++ h.front.executed) d) (sym h.disk)
        (leads_append protected first r.disk h.front.disk r.executed h.front.executed leads
        (stop_leads protected r.machine r.disk counted after.failures at.message h.front at.stops)),
  )
]
left_executed protected (Err (faults.Stream fault)) first out framing rest r counted new after written leads h = stands_executed protected first out r
    counted after written leads h
left_executed protected (Err (faults.Protocol rule)) first out framing rest r counted new after written leads h =
    stands_executed protected first out r counted after written leads h
left_executed protected (Err faults.Closed) first out framing rest r counted new after written leads h = stands_executed protected first out r
    counted after written leads h

-- what a call of feed executed
fed_executed : (protected : Bool) (b : Bool) (old new : TargetConnection) (before after : Store) (out piece written : List ℕ)
    (result : Result Phase TargetFault)
    → FeedPostIfClosed protected b (scene old before out) piece result (scene new after written) → HasExecuted protected before.disk after.disk
fed_executed protected true old new before after out piece written result f = (
  [],
  subst (λ (x : Store). ExecutionsLead protected before.disk [] x.disk) (sym f.store)
      (nothing_executed protected before.disk),
)
fed_executed protected false old new before after out piece written result f =
    left_executed protected result before.disk out f.framing (drop f.count piece) f.stepped f.answered.failures new.machine after written
    (may_leads protected old.machine before.disk before.failures f.answered.failures f.messages f.stepped f.answered.may) f.leaves

-- so the blocks are those that commands left, one call more
pub executed_more : (protected : Bool) (first : Disk) (old new : TargetConnection) (before after : Store) (out piece written : List ℕ)
    (result : Result Phase TargetFault)
    → HasExecuted protected first before.disk → TargetFeedPost protected (scene old before out) piece result (scene new after written)
    → HasExecuted protected first after.disk
executed_more protected first old new before after out piece written result e f =
    let more : HasExecuted protected before.disk after.disk = fed_executed protected (is_machine_closed old.machine) old new before after out piece written
    result f in
    (e.0 ++ more.0, leads_append protected first before.disk after.disk e.0 more.0 e.1 more.1)

-- ---- what was counted

-- behind what was answered
left_rises : (protected : Bool) (result : Result Phase TargetFault) (out : List ℕ) (framing : Framing) (rest : List ℕ) (r : TargetStep) (counted : ℕ)
    (new : Machine) (after : Store)
    (written : List ℕ) → CallLeaves protected result out (remainder framing rest r counted) new after written
    → counted ≤ after.failures
left_rises protected (Ok phase) out framing rest r counted new after written h = omega (arith, h.failures)
left_rises protected (Err faults.NoMemory) out framing rest r counted new after written h = short_rises protected out framing rest r counted new after written h
left_rises protected (Err (faults.Stream fault)) out framing rest r counted new after written h = omega (arith, h.failures)
left_rises protected (Err (faults.Protocol rule)) out framing rest r counted new after written h = omega (arith, h.failures)
left_rises protected (Err faults.Closed) out framing rest r counted new after written h = omega (arith, h.failures)

-- by a call
pub fed_rises : (protected : Bool) (b : Bool) (old new : TargetConnection) (before after : Store) (out piece written : List ℕ)
    (result : Result Phase TargetFault) →
    FeedPostIfClosed protected b (scene old before out) piece result (scene new after written) → before.failures ≤ after.failures
fed_rises protected true old new before after out piece written result f = omega (arith, ap (λ (x : Store). x.failures) f.store)
fed_rises protected false old new before after out piece written result f =
    let low : before.failures ≤ f.answered.failures = may_rise protected old.machine before.disk before.failures f.messages f.stepped
    f.answered.failures f.answered.may
    in
    omega (arith, low, left_rises protected result out f.framing (drop f.count piece) f.stepped f.answered.failures new.machine after written f.leaves)

-- where none was counted at last, none was before, and none by the call
pub none_counted : (first before after : ℕ) → first ≤ before → before ≤ after → after ≡ first → (before ≡ first) × (after ≡ before)
none_counted first before after low high none = (omega arith, omega arith)

-- ---- one call more

unfoldable pub served_more : (protected : Bool) (settings : TargetSettings) (first : Store) (stream : List ℕ) (served : ServedTarget) (to : Scene)
    (start : Option (List ℕ))
    (piece : List ℕ) (result : Result Phase TargetFault)
    → ServedUpTo protected settings first stream start served
    → TargetFeedPost protected (scene served.target served.store served.waiting) piece result to →
    (result ≡ Err faults.NoMemory → ⊥)
    → ServedUpTo protected settings first (stream ++ piece) start (service to.connection to.store served.contents to.output)
served_more protected settings first stream served to start piece result up one memory = record {
  pieces = up.pieces ++ piece ∷ [];
  whole = ap (λ (x : List ℕ). x ++ piece) up.whole ∙ stream_more up.pieces piece;
  sent = up.sent;
  appended = up.appended;
  bytes = up.bytes;
  rises = omega (
    arith,
    up.rises,
    fed_rises protected (is_machine_closed served.target.machine) served.target to.connection served.store to.store
        served.waiting piece to.output result one,
  );
  fed = λ none.
      let h = none_counted first.failures served.store.failures to.store.failures up.rises
      (fed_rises protected (is_machine_closed served.target.machine) served.target to.connection served.store to.store served.waiting piece to.output result
      one) none in
      fed_more protected up.pieces (scene (opening_target settings 1) first []) (scene served.target served.store (up.sent ++ served.waiting))
      (scene to.connection to.store (up.sent ++ to.output)) piece result (up.fed h.0)
      (fed_behind protected (is_machine_closed served.target.machine) served.target to.connection served.store to.store up.sent piece served.waiting
      to.output result one)
      (record { memory = memory; device = h.1 });
  executed = executed_more protected first.disk served.target to.connection served.store to.store served.waiting piece to.output result up.executed one;
}
