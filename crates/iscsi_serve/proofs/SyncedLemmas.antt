-- Answers that are written behind a sync, or held back.
use Rattle.std.proofs.Common.{◌≡◌, inl, ℕ, Bool, true, false, List, [], ◌++◌, ◌+◌, length, ◌≤◌, take, Option, Result}
use Rattle.std.proofs.Common.{Err, refl, sym, subst, arith, append-nil}
use Rattle.std.proofs.Math.Seq.{take-append-add}
use Rattle.std.specs.Io.KnownBytes.{Appends}
use Rattle.std.proofs.KnownBytes.{Appends-trans, Appends-nil}
use Rattle.scsi_disk.specs.Disk.{Disk}
use Rattle.iscsi_pdu.specs.Meaning.{AreBytes}
use Rattle.iscsi_stream.proofs.HeadLemmas.{AreBytes-take}
use Rattle.iscsi_stream.proofs.NormalisingLemmas.{AreBytes-append}
use Rattle.iscsi_stream.specs.Stream.{SplitsStream, longest_segment}
use Rattle.iscsi_stream.specs.Normalising.{WroteFront}
use Rattle.iscsi_login.specs.declared.phase.Phase.{Phase}
use Rattle.iscsi_login.specs.Negotiation.{ArePreferencesInRange}
use Rattle.iscsi_target.specs.declared.fault.TargetFault.{TargetFault}
use Rattle.iscsi_target.specs.declared.fault.TargetFault.TheVariants as faults
use Rattle.iscsi_target_session.specs.Configured.{TargetSettings}
use Rattle.iscsi_target.specs.Machine.{is_machine_closed}
use Rattle.iscsi_target.specs.Feed.{TargetConnection, Store, TargetFeedPost, FeedPostIfClosed, FeedsFirstBytes, ClosedTargetStays, FeedsAllPieces, opening_target}
use Rattle.iscsi_target.specs.Feed.{scene}
use Rattle.iscsi_target.proofs.Feed.FeedingLemmas.{fed_any}
use Rattle.iscsi_serve.specs.declared.session_fault.SessionFault.{SessionFault}
use Rattle.iscsi_serve.specs.declared.session_fault.SessionFault.TheVariants as session
use Rattle.iscsi_serving.specs.Executed.{HasExecuted}
use Rattle.iscsi_serve.specs.Session.{ServesAllPdus, ServesFront}
use Rattle.iscsi_serve.specs.inner.SessionSteps.{ServedUpTo, ServedTarget, service, BytesCloseSession, TellsSessionEnd, HoldsBack, StoreSynced}
use Rattle.iscsi_serve.proofs.SessionEndLemmas.{Stands, stands_first, stands_answered}
use Rattle.iscsi_serve.proofs.FedMoreLemmas.{fed_behind, none_counted, served_more}

-- ---- a sync

-- a store that was synced, where no failure was counted, is what it was
same_store : (store after : Store) → StoreSynced store after → after.failures ≡ store.failures → store ≡ after
same_store store after s e = λ i. record { disk = sym s.disk i; failures = sym e i }

pub synced_executed : (protected : Bool) (first : Disk) (store after : Store) → StoreSynced store after → HasExecuted protected first store.disk
    → HasExecuted protected first after.disk
synced_executed protected first store after s e = subst (λ (d : Disk). HasExecuted protected first d) (sym s.disk) e

synced_up : (protected : Bool) (settings : TargetSettings) (first : Store) (stream : List ℕ) (target : TargetConnection) (store after : Store)
    (start contents : Option (List ℕ))
    (waiting : List ℕ)
    → ServedUpTo protected settings first stream start (service target store contents waiting) → StoreSynced store after →
    ServedUpTo protected settings first stream start (service target after contents waiting)
synced_up protected settings first stream target store after start contents waiting up s = record {
  pieces = up.pieces;
  whole = up.whole;
  sent = up.sent;
  appended = up.appended;
  bytes = up.bytes;
  rises = (let low = up.rises in let high = s.rises in omega (arith, low, high));
  fed = λ none.
      let h = none_counted first.failures store.failures after.failures up.rises s.rises none in
      subst (λ (x : Store). FeedsAllPieces protected (scene (opening_target settings 1) first []) up.pieces (scene target x (up.sent ++ waiting)))
      (same_store store after s h.1) (up.fed h.0);
  executed = synced_executed protected first.disk store after s up.executed;
}

pub closes_synced : (protected : Bool) (old : ServedTarget) (bytes : List ℕ) (store after : Store) → old.store.failures ≤ store.failures
    → StoreSynced store after →
    BytesCloseSession protected old bytes store → BytesCloseSession protected old bytes after
closes_synced protected old bytes store after rises s closes = λ settings first stream start up none.
    let low = up.rises in
    let high = s.rises in
    closes settings first stream start up (omega (arith, low, rises, high, none))

pub tells_synced : (protected : Bool) (old : ServedTarget) (bytes : List ℕ) (fault : SessionFault) (store after : Store) → old.store.failures ≤ store.failures
    → StoreSynced store after →
    TellsSessionEnd protected old bytes fault store → TellsSessionEnd protected old bytes fault after
tells_synced protected old bytes fault store after rises s tells = λ settings first stream start up none.
    let low = up.rises in
    let high = s.rises in
    tells settings first stream start up (omega (arith, low, rises, high, none))

-- the store was synced, and the answers that waited were written
pub written_out : (protected : Bool) (settings : TargetSettings) (first : Store) (stream : List ℕ) (target : TargetConnection) (store after : Store)
    (start contents now : Option (List ℕ))
    (waiting : List ℕ)
    → ServedUpTo protected settings first stream start (service target store contents waiting) → StoreSynced store after → AreBytes waiting →
    Appends contents now waiting → ServedUpTo protected settings first stream start (service target after now [])
written_out protected settings first stream target store after start contents now waiting before s are more =
    let up : ServedUpTo protected settings first stream start (service target after contents waiting) =
    synced_up protected settings first stream target store after start contents waiting before s in
    record {
      pieces = up.pieces;
      whole = up.whole;
      sent = up.sent ++ waiting;
      appended = Appends-trans start contents now up.sent waiting up.appended more;
      bytes = AreBytes-append up.sent waiting up.bytes are;
      rises = up.rises;
      fed = λ h. subst (λ (x : List ℕ). FeedsAllPieces protected (scene (opening_target settings 1) first []) up.pieces (scene target after x))
          (sym (append-nil (up.sent ++ waiting)))
          (up.fed h);
      executed = up.executed;
    }

-- a front of the answers that waited was written, where the sync or a write failed
pub held_front : (fault : SessionFault) (contents now : Option (List ℕ)) (waiting : List ℕ) → HoldsBack fault contents now waiting →
    WroteFront contents now waiting
held_front session.Sync contents now waiting held = (0, subst (λ (x : Option (List ℕ)). Appends contents x []) (sym held) (Appends-nil contents))
held_front session.Write contents now waiting held = held
held_front session.Read contents now waiting held = absurd held
held_front (session.Target fault) contents now waiting held = absurd held
held_front session.NoMemory contents now waiting held = absurd held

-- none of them, where it was the sync
pub held_all : (fault : SessionFault) (contents now : Option (List ℕ)) (waiting : List ℕ) → fault ≡ session.Sync → HoldsBack fault contents now waiting →
    now ≡ contents
held_all fault contents now waiting is held = subst (λ (f : SessionFault). HoldsBack f contents now waiting) is held

-- all PDUs of what was read are answered, and some answers wait
all_due : (protected : Bool) (settings : TargetSettings) (first : Store) (stream : List ℕ) (now : TargetConnection) (store : Store)
    (w0 w1 : Option (List ℕ)) (waiting : List ℕ)
    → (up : ServedUpTo protected settings first stream w0 (service now store w1 waiting))
    → ArePreferencesInRange settings.preferences → store.failures ≡ first.failures
    → ServesAllPdus protected settings first.disk stream store.disk (up.sent ++ waiting)
all_due protected settings first stream now store w0 w1 waiting up range h ms given rest s =
    fed_any protected settings 1 first up.pieces now store (up.sent ++ waiting) ms given rest (omega (arith, range.max_recv.1)) (up.fed h)
    (subst (λ (x : List ℕ). SplitsStream longest_segment x ms given rest) up.whole s)

-- a front of what was due, behind these bytes
pub front_due : (protected : Bool) (settings : TargetSettings) (first : Store) (stream behind : List ℕ) (served : ServedTarget) (after : Store)
    (start : Option (List ℕ))
    (n : ℕ)
    → (up : ServedUpTo protected settings first stream start served) → StoreSynced served.store after
    → ArePreferencesInRange settings.preferences
    → after.failures ≡ first.failures → ServesFront protected settings first.disk (stream ++ behind) after.disk (up.sent ++ take n served.waiting)
front_due protected settings first stream behind served after start n up s range none =
    let h = none_counted first.failures served.store.failures after.failures up.rises s.rises none in
    record {
      front = stream;
      behind = behind;
      whole = refl;
      due = up.sent ++ served.waiting;
      served = inl (subst (λ (d : Disk). ServesAllPdus protected settings first.disk stream d (up.sent ++ served.waiting)) (sym s.disk)
          (all_due protected settings first stream served.target served.store start served.contents served.waiting up range h.0));
      count = length up.sent + n;
      written_is = sym (take-append-add up.sent served.waiting n);
    }

-- a part of them was, or none
pub front_out : (protected : Bool) (settings : TargetSettings) (first : Store) (stream behind : List ℕ) (target : TargetConnection) (store after : Store)
    (start contents now : Option (List ℕ))
    (waiting : List ℕ)
    → ServedUpTo protected settings first stream start (service target store contents waiting) → StoreSynced store after → AreBytes waiting →
    WroteFront contents now waiting → (sent : List ℕ) × Appends start now sent × AreBytes sent × HasExecuted protected first.disk after.disk
    × (ArePreferencesInRange settings.preferences → after.failures ≡ first.failures
    → ServesFront protected settings first.disk (stream ++ behind) after.disk sent)
front_out protected settings first stream behind target store after start contents now waiting up s are front = (
  up.sent ++ take front.0 waiting,
  Appends-trans start contents now up.sent (take front.0 waiting) up.appended front.1,
  AreBytes-append up.sent (take front.0 waiting) up.bytes (AreBytes-take front.0 waiting are),
  synced_executed protected first.disk store after s up.executed,
  λ range none. front_due protected settings first stream behind (service target store contents waiting) after start front.0 up s range none,
)

-- bytes behind the end of a session are dropped
pub rest_dropped : (protected : Bool) (settings : TargetSettings) (first : Store) (stream : List ℕ) (target : TargetConnection) (store : Store)
    (start contents : Option (List ℕ))
    (waiting rest : List ℕ)
    → is_machine_closed target.machine ≡ true → ServedUpTo protected settings first stream start (service target store contents waiting) →
    ServedUpTo protected settings first (stream ++ rest) start (service target store contents waiting)
rest_dropped protected settings first stream target store start contents waiting rest over up =
    let stays : ClosedTargetStays (scene target store waiting) (Err faults.Closed) (scene target store waiting) =
    record { result_is = refl; connection = refl; store = refl; output_is = refl } in
    served_more protected settings first stream (service target store contents waiting) (scene target store waiting) start rest (Err faults.Closed) up
    (subst (λ (b : Bool). FeedPostIfClosed protected b (scene target store waiting) rest (Err faults.Closed) (scene target store waiting)) (sym over) stays)
    (λ e. cc)

-- the target stands behind what was served
pub stands_up : (protected : Bool) (settings : TargetSettings) (first : Store) (stream : List ℕ) (target : TargetConnection) (store : Store)
    (start contents : Option (List ℕ)) (waiting : List ℕ)
    → (up : ServedUpTo protected settings first stream start (service target store contents waiting)) → store.failures ≡ first.failures →
    is_machine_closed target.machine ≡ false →
    Stands protected settings first.disk stream target store.disk (up.sent ++ waiting)
stands_up protected settings first stream target store start contents waiting up h live =
    subst (λ (x : List ℕ). Stands protected settings first.disk x target store.disk (up.sent ++ waiting)) (sym up.whole)
    (stands_answered protected settings first.disk [] up.pieces (opening_target settings 1) target first store [] (up.sent ++ waiting)
    (stands_first protected settings first.disk) (up.fed h) live)

-- a call in a session that is not closed, behind what was written
pub feeds_live : (protected : Bool) (old new : TargetConnection) (before after : Store) (front piece out written : List ℕ) (result : Result Phase TargetFault)
    → is_machine_closed old.machine
    ≡ false → TargetFeedPost protected (scene old before out) piece result (scene new after written)
    → FeedsFirstBytes protected (scene old before (front ++ out)) piece result (scene new after (front ++ written))
feeds_live protected old new before after front piece out written result live f =
    subst (λ (b : Bool). FeedPostIfClosed protected b (scene old before (front ++ out)) piece result (scene new after (front ++ written))) live
    (fed_behind protected (is_machine_closed old.machine) old new before after front piece out written result f)
