-- What one PDU more leads to, and its answers.
use Rattle.std.proofs.Common.{◌≡◌, inr, drop, take-append-drop, ℕ, Bool, true, false, List, [], ◌++◌, ◌+◌, length, ◌≤◌, take, Option, Result, Ok}
use Rattle.std.proofs.Common.{Err, sym, ap, subst, ◌∙◌, arith, append-nil, append_assoc}
use Rattle.std.proofs.Math.Seq.{take-append-add}
use Rattle.std.specs.Io.KnownBytes.{Appends}
use Rattle.std.proofs.KnownBytes.{Appends-trans}
use Rattle.scsi_disk.specs.Disk.{Disk}
use Rattle.iscsi_pdu.specs.Meaning.{AreBytes}
use Rattle.iscsi_stream.proofs.HeadLemmas.{AreBytes-take}
use Rattle.iscsi_stream.proofs.NormalisingLemmas.{AreBytes-append}
use Rattle.iscsi_stream.specs.Normalising.{WroteFront}
use Rattle.iscsi_login.specs.declared.phase.Phase.{Phase}
use Rattle.iscsi_login.specs.Negotiation.{ArePreferencesInRange}
use Rattle.iscsi_target.specs.declared.fault.TargetFault.{TargetFault}
use Rattle.iscsi_target.specs.declared.fault.TargetFault.TheVariants as faults
use Rattle.iscsi_target_session.specs.Configured.{TargetSettings}
use Rattle.iscsi_target.specs.Machine.{is_machine_closed}
use Rattle.iscsi_stream.specs.declared.fault.StreamFault.{StreamFault}
use Rattle.iscsi_stream.specs.declared.fault.StreamFault.TheVariants as stream
use Rattle.iscsi_stream.specs.Framing.{Framing, FramerFeedFails}
use Rattle.iscsi_target.specs.Feed.{Scene, TargetConnection, Store, FeedPostIfClosed, FeedNextPost, FeedNextPostIfClosed, FeedsFirstBytes}
use Rattle.iscsi_target.specs.Feed.{scene}
use Rattle.iscsi_serve.specs.declared.session_fault.SessionFault.{SessionFault}
use Rattle.iscsi_serving.specs.Executed.{HasExecuted}
use Rattle.iscsi_serve.specs.Session.{ended_by, ServesFirstPdus, ServesFront}
use Rattle.iscsi_serve.specs.inner.SessionSteps.{ServedUpTo, ServedTarget, service, ServiceGoesOn, TellsSessionEnd, SendsFrontAlone, SessionFaultLeaves, HoldsBack, StoreSynced, IsUncut}
use Rattle.iscsi_serve.proofs.SessionEndLemmas.{fault_told, first_told}
use Rattle.iscsi_serve.proofs.FedMoreLemmas.{executed_more, fed_rises, none_counted, served_more}
use Rattle.iscsi_serve.proofs.SyncedLemmas.{synced_executed, tells_synced, written_out, held_front, front_due, stands_up, feeds_live}

-- ---- one PDU

pub next_is : (protected : Bool) (b : Bool) (old new : TargetConnection) (before after : Store) (out piece written : List ℕ) (done : ℕ × Phase)
    → FeedNextPostIfClosed protected b (scene old before out) piece (Ok done) (scene new after written)
    → FeedPostIfClosed protected b (scene old before out) (take done.0 piece) (Ok done.1) (scene new after written)
next_is protected true old new before after out piece written done f = absurd cc
next_is protected false old new before after out piece written done f = f.fed

abbrev pub as_phase : Result (ℕ × Phase) TargetFault → Result Phase TargetFault
as_phase (Ok done) = Ok done.1
as_phase (Err fault) = Err fault

pub next_fails : (protected : Bool) (b : Bool) (old new : TargetConnection) (before after : Store) (out piece written : List ℕ) (fault : TargetFault)
    → FeedNextPostIfClosed protected b (scene old before out) piece (Err fault) (scene new after written)
    → FeedPostIfClosed protected b (scene old before out) piece (Err fault) (scene new after written)
next_fails protected true old new before after out piece written fault f = record
    { result_is = ap as_phase f.0; connection = f.1; store = f.2; output_is = f.3 }
next_fails protected false old new before after out piece written fault f = f

pub next_goes : (protected : Bool) (old new : TargetConnection) (before after : Store) (contents : Option (List ℕ)) (out piece written : List ℕ)
    (done : ℕ × Phase)
    → FeedNextPost protected (scene old before out) piece (Ok done) (scene new after written)
    → ServiceGoesOn protected (service old before contents out) (take done.0 piece) (service new after contents written)
next_goes protected old new before after contents out piece written done f = λ settings first stream start up.
    served_more protected settings first stream (service old before contents out) (scene new after written) start (take done.0 piece) (Ok done.1) up
    (next_is protected (is_machine_closed old.machine) old new before after out piece written done f) (λ e. cc)

executed_next : (protected : Bool) (first : Disk) (old new : TargetConnection) (before after : Store) (out piece written : List ℕ)
    (result : Result (ℕ × Phase) TargetFault)
    → HasExecuted protected first before.disk → FeedNextPost protected (scene old before out) piece result (scene new after written)
    → HasExecuted protected first after.disk
executed_next protected first old new before after out piece written (Ok done) e f =
    executed_more protected first old new before after out (take done.0 piece) written (Ok done.1) e
    (next_is protected (is_machine_closed old.machine) old new before after out piece written done f)
executed_next protected first old new before after out piece written (Err fault) e f =
    executed_more protected first old new before after out piece written (Err fault) e
    (next_fails protected (is_machine_closed old.machine) old new before after out piece written fault f)

-- a call of feed_next counts failures, and never fewer
pub next_rises : (protected : Bool) (old new : TargetConnection) (before after : Store) (out piece written : List ℕ) (result : Result (ℕ × Phase) TargetFault)
    → FeedNextPost protected (scene old before out) piece result (scene new after written) → before.failures ≤ after.failures
next_rises protected old new before after out piece written (Ok done) f =
    fed_rises protected (is_machine_closed old.machine) old new before after out (take done.0 piece) written (Ok done.1)
    (next_is protected (is_machine_closed old.machine) old new before after out piece written done f)
next_rises protected old new before after out piece written (Err fault) f =
    fed_rises protected (is_machine_closed old.machine) old new before after out piece written (Err fault)
    (next_fails protected (is_machine_closed old.machine) old new before after out piece written fault f)

-- where memory ran out, some first PDUs were answered
first_due : (protected : Bool) (settings : TargetSettings) (first : Store) (stream : List ℕ) (served : ServedTarget) (to : Scene) (after : Store)
    (start : Option (List ℕ))
    (piece : List ℕ) → (up : ServedUpTo protected settings first stream start served) → is_machine_closed served.target.machine
    ≡ false
    → FeedNextPost protected (scene served.target served.store served.waiting) piece (Err faults.NoMemory) to → StoreSynced to.store after → after.failures
    ≡ first.failures
    → ServesFirstPdus protected settings first.disk (stream ++ piece) after.disk (up.sent ++ to.output)
first_due protected settings first stream served to after start piece up live f s none =
    let g = next_fails protected (is_machine_closed served.target.machine) served.target to.connection served.store to.store served.waiting piece to.output
    faults.NoMemory f in
    let rises = next_rises protected served.target to.connection served.store to.store served.waiting piece to.output (Err faults.NoMemory) f in
    let low = up.rises in
    let high = s.rises in
    let h = none_counted first.failures served.store.failures to.store.failures up.rises rises (omega (arith, low, rises, high, none)) in
    subst (λ (d : Disk). ServesFirstPdus protected settings first.disk (stream ++ piece) d (up.sent ++ to.output)) (sym s.disk)
    (first_told protected settings first.disk stream piece served.target to.connection served.store to.store (up.sent ++ served.waiting) (up.sent ++ to.output)
    (stands_up protected settings first stream served.target served.store start served.contents served.waiting up h.0 live)
    (feeds_live protected served.target to.connection served.store to.store up.sent piece served.waiting to.output (Err faults.NoMemory) live g) h.1)

-- all PDUs were answered before another fault
other_front : (protected : Bool) (settings : TargetSettings) (first : Store) (stream : List ℕ) (served : ServedTarget) (to : Scene) (after : Store)
    (start : Option (List ℕ))
    (piece : List ℕ) (n : ℕ) (fault : TargetFault) → ((let r : Result Phase TargetFault = Err fault in r ≡ Err faults.NoMemory) → ⊥)
    → (up : ServedUpTo protected settings first stream start served)
    → FeedNextPost protected (scene served.target served.store served.waiting) piece (Err fault) to → StoreSynced to.store after
    → ArePreferencesInRange settings.preferences
    → after.failures ≡ first.failures → ServesFront protected settings first.disk (stream ++ piece) after.disk (up.sent ++ take n to.output)
unfolding served_more
other_front protected settings first stream served to after start piece n fault well up f s range none =
    let more : ServedUpTo protected settings first (stream ++ piece) start (service to.connection to.store served.contents to.output) =
    served_more protected settings first stream served to start piece (Err fault) up
    (next_fails protected (is_machine_closed served.target.machine) served.target to.connection served.store to.store served.waiting piece to.output fault
    f) well in
    subst (λ (x : List ℕ). ServesFront protected settings first.disk x after.disk (up.sent ++ take n to.output)) (append-nil (stream ++ piece))
    (front_due protected settings first (stream ++ piece) [] (service to.connection to.store served.contents to.output) after start n more s range none)

-- a front of what was due behind a call of feed_next
next_front : (protected : Bool) (settings : TargetSettings) (first : Store) (stream : List ℕ) (served : ServedTarget) (to : Scene) (after : Store)
    (start : Option (List ℕ))
    (piece : List ℕ) (n : ℕ) (result : Result (ℕ × Phase) TargetFault)
    → (up : ServedUpTo protected settings first stream start served) → is_machine_closed served.target.machine ≡ false
    → FeedNextPost protected (scene served.target served.store served.waiting) piece result to → StoreSynced to.store after
    → ArePreferencesInRange settings.preferences
    → after.failures ≡ first.failures → ServesFront protected settings first.disk (stream ++ piece) after.disk (up.sent ++ take n to.output)
unfolding served_more
next_front protected settings first stream served to after start piece n (Ok done) up live f s range none =
    let more : ServedUpTo protected settings first (stream ++ take done.0 piece) start (service to.connection to.store served.contents to.output) =
    served_more protected settings first stream served to start (take done.0 piece) (Ok done.1) up
    (next_is protected (is_machine_closed served.target.machine) served.target to.connection served.store to.store served.waiting piece to.output done f)
    (λ e. cc) in
    subst (λ (x : List ℕ). ServesFront protected settings first.disk x after.disk (up.sent ++ take n to.output))
    (append_assoc stream (take done.0 piece) (drop done.0 piece) ∙ ap (λ (x : List ℕ). stream ++ x) (take-append-drop done.0 piece))
    (front_due protected settings first (stream ++ take done.0 piece) (drop done.0 piece) (service to.connection to.store served.contents to.output) after
    start n more s range none)
next_front protected settings first stream served to after start piece n (Err faults.NoMemory) up live f s range none = record {
  front = stream ++ piece;
  behind = [];
  whole = sym (append-nil (stream ++ piece));
  due = up.sent ++ to.output;
  served = inr (first_due protected settings first stream served to after start piece up live f s none);
  count = length up.sent + n;
  written_is = sym (take-append-add up.sent to.output n);
}
next_front protected settings first stream served to after start piece n (Err (faults.Stream fault)) up live f s range none =
    other_front protected settings first stream served to after start piece n (faults.Stream fault) (λ e. cc) up f s range none
next_front protected settings first stream served to after start piece n (Err (faults.Protocol rule)) up live f s range none =
    other_front protected settings first stream served to after start piece n (faults.Protocol rule) (λ e. cc) up f s range none
next_front protected settings first stream served to after start piece n (Err faults.Closed) up live f s range none =
    other_front protected settings first stream served to after start piece n faults.Closed (λ e. cc) up f s range none

-- the answers could not be written, or a part of them alone
pub write_loses : (protected : Bool) (served : ServedTarget) (to : Scene) (after : Store) (now : Option (List ℕ))
    (piece waiting : List ℕ)
    (fault : SessionFault) (result : Result (ℕ × Phase) TargetFault) → is_machine_closed served.target.machine ≡ false
    → FeedNextPost protected (scene served.target served.store served.waiting) piece result to → StoreSynced to.store after → AreBytes to.output
    → HoldsBack fault served.contents now to.output →
    SendsFrontAlone protected served piece (service to.connection after now waiting)
write_loses protected served to after now piece waiting fault result live f s are held = λ settings first stream start up.
    let front : WroteFront served.contents now to.output = held_front fault served.contents now to.output held in (
      up.sent ++ take front.0 to.output,
      Appends-trans start served.contents now up.sent (take front.0 to.output) up.appended front.1,
      AreBytes-append up.sent (take front.0 to.output) up.bytes (AreBytes-take front.0 to.output are),
      synced_executed protected first.disk to.store after s (executed_next protected first.disk served.target to.connection served.store to.store
          served.waiting piece to.output result up.executed f),
      λ range none. next_front protected settings first stream served to after start piece front.0 result
          up live f s range none,
    )

fault_served_to : (protected : Bool) (old new : TargetConnection) (before store after : Store) (contents now : Option (List ℕ))
    (out piece written : List ℕ) (fault : TargetFault)
    → FeedNextPost protected (scene old before out) piece (Err fault) (scene new store written)
    → ((let r : Result Phase TargetFault = Err fault in r ≡ Err faults.NoMemory) → ⊥) →
    StoreSynced store after → AreBytes written → Appends contents now written
    → ServiceGoesOn protected (service old before contents out) piece (service new after now [])
fault_served_to protected old new before store after contents now out piece written fault f well s are wrote = λ settings first stream start up.
    written_out protected settings first (stream ++ piece) new store after start contents now written
    (served_more protected settings first stream (service old before contents out) (scene new store written) start piece (Err fault) up
    (next_fails protected (is_machine_closed old.machine) old new before store out piece written fault f) well) s are wrote

-- why a session ends by a fault that a call of feed_next answers
fault_tells : (protected : Bool) (old new : TargetConnection) (before after : Store) (contents : Option (List ℕ)) (out piece written : List ℕ)
    (fault : TargetFault) →
    is_machine_closed old.machine ≡ false
    → FeedNextPost protected (scene old before out) piece (Err fault) (scene new after written)
    → TellsSessionEnd protected (service old before contents out) piece (ended_by fault) after
fault_tells protected old new before after contents out piece written fault live f = λ settings first stream start up none.
    let g = next_fails protected (is_machine_closed old.machine) old new before after out piece written fault f in
    let h = none_counted first.failures before.failures after.failures up.rises
    (fed_rises protected (is_machine_closed old.machine) old new before after out piece written
    (Err fault) g) none in
    fault_told protected fault settings first.disk stream piece old new before after (up.sent ++ out) (up.sent ++ written)
    (stands_up protected settings first stream old before start contents out up h.0 live) live
    (feeds_live protected old new before after up.sent piece out written (Err fault) live g) h.1

fault_goes : (protected : Bool) (old new : TargetConnection) (before store after : Store) (contents now : Option (List ℕ)) (out piece written : List ℕ)
    (fault : TargetFault) →
    (fault ≡ faults.NoMemory → ⊥) → is_machine_closed old.machine ≡ false
    → FeedNextPost protected (scene old before out) piece (Err fault) (scene new store written) → StoreSynced store after → AreBytes written
    → Appends contents now written
    → ServiceGoesOn protected (service old before contents out) piece (service new after now [])
    × TellsSessionEnd protected (service old before contents out) piece (ended_by fault) after
fault_goes protected old new before store after contents now out piece written fault some live f s are wrote = (
  fault_served_to protected old new before store after contents now out piece written fault f (λ e. some (err_is e)) s are wrote,
  tells_synced protected (service old before contents out) piece (ended_by fault) store after
      (next_rises protected old new before store out piece written (Err fault) f) s
      (fault_tells protected old new before store contents out piece written fault live f),
)
  where
    err_is : {T : Type 0} {a b : TargetFault} → (let x : Result T TargetFault = Err a in let y : Result T TargetFault = Err b in x ≡ y) → a ≡ b
    err_is e = cc

-- a framer that is fed refuses no PDU for its end
uncut : (framing : Framing) (piece : List ℕ) (fault : StreamFault) → FramerFeedFails framing piece fault → IsUncut fault
uncut framing piece (stream.Head fault place) f = tt
uncut framing piece (stream.OverLimit place) f = tt
uncut framing piece (stream.Truncated place) f = f
uncut framing piece stream.NoMemory f = tt
uncut framing piece stream.Failed f = tt

fault_uncut : (protected : Bool) (old new : TargetConnection) (before store : Store) (out piece written : List ℕ) (fault : StreamFault)
    → is_machine_closed old.machine ≡ false
    → FeedNextPost protected (scene old before out) piece (Err (faults.Stream fault)) (scene new store written) → IsUncut fault
fault_uncut protected old new before store out piece written fault live f =
    let g : FeedsFirstBytes protected (scene old before out) piece (Err (faults.Stream fault)) (scene new store written) =
    subst (λ (b : Bool). FeedPostIfClosed protected b (scene old before out) piece (Err (faults.Stream fault)) (scene new store written)) live
    (next_fails protected (is_machine_closed old.machine) old new before store out piece written (faults.Stream fault) f) in
    uncut g.framing (drop g.count piece) fault g.ends.2

-- a fault that a call of feed_next answers, and then the answers were written
pub fault_breaks : (protected : Bool) (old new : TargetConnection) (before store after : Store) (contents now : Option (List ℕ)) (out piece written : List ℕ)
    (fault : TargetFault) →
    is_machine_closed old.machine ≡ false
    → FeedNextPost protected (scene old before out) piece (Err fault) (scene new store written) → StoreSynced store after → AreBytes written
    → Appends contents now written
    → SessionFaultLeaves protected (service old before contents out) piece (ended_by fault) (service new after now [])
fault_breaks protected old new before store after contents now out piece written faults.NoMemory live f s are wrote = λ settings first stream start up. (
  up.sent ++ written,
  Appends-trans start contents now up.sent written up.appended wrote,
  AreBytes-append up.sent written up.bytes are,
  synced_executed protected first.disk store after s (executed_next protected first.disk old new before store out piece written
      (Err faults.NoMemory) up.executed f),
  λ none. first_due protected settings first stream (service old before contents out) (scene new store written) after start piece up live f s none,
)
fault_breaks protected old new before store after contents now out piece written (faults.Stream fault) live f s are wrote =
    let g = fault_goes protected old new before store after contents now out piece written (faults.Stream fault) (λ e. cc) live f s are wrote in
    (g.0, g.1, fault_uncut protected old new before store out piece written fault live f)
fault_breaks protected old new before store after contents now out piece written (faults.Protocol rule) live f s are wrote =
    fault_goes protected old new before store after contents now out piece written (faults.Protocol rule) (λ e. cc) live f s are wrote
fault_breaks protected old new before store after contents now out piece written faults.Closed live f s are wrote =
    (subst (λ (b : Bool). FeedPostIfClosed protected b (scene old before out) piece (Err faults.Closed) (scene new store written)) live
    (next_fails protected (is_machine_closed old.machine) old new before store out piece written faults.Closed f)).ends
