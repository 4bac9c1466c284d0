-- What a session keeps from read to read, and how it ends.
use Rattle.std.proofs.Common.{◌≡◌, inl, inr, ℕ, Bool, true, false, List, [], ◌++◌, take, Option, Result, Ok}
use Rattle.std.proofs.Common.{Err, sym, ap, subst, ◌∙◌, arith, append-nil}
use Rattle.std.specs.Io.KnownBytes.{Consumes, Keeps, IsAtEnd}
use Rattle.std.proofs.KnownBytes.{Consumes-trans, Consumes-kept}
use Rattle.scsi_disk.specs.Disk.{Disk}
use Rattle.iscsi_stream.specs.Stream.{SplitsStream, longest_segment}
use Rattle.iscsi_stream.proofs.ReadyLemmas.{apart}
use Rattle.iscsi_login.specs.declared.phase.Phase.{Phase}
use Rattle.iscsi_login.specs.Negotiation.{ArePreferencesInRange}
use Rattle.iscsi_target.specs.declared.fault.TargetFault.{TargetFault}
use Rattle.iscsi_target.specs.declared.fault.TargetFault.TheVariants as faults
use Rattle.iscsi_target_session.specs.Configured.{TargetSettings}
use Rattle.iscsi_target.specs.Machine.{is_machine_closed}
use Rattle.iscsi_login.specs.Stage.{is_closed_phase}
use Rattle.iscsi_stream.specs.declared.fault.StreamFault.TheVariants as stream
use Rattle.iscsi_target.specs.Feed.{TargetConnection, Store, TargetFeedPost, FeedNextPost, FeedNextPostIfClosed, FeedsAllPieces, TargetFinishPost, opening_target}
use Rattle.iscsi_target.specs.Feed.{scene}
use Rattle.iscsi_target.proofs.Feed.FeedingLemmas.{fed_any}
use Rattle.iscsi_serve.specs.declared.session_fault.SessionFault.{SessionFault}
use Rattle.iscsi_serve.specs.declared.session_fault.SessionFault.TheVariants as session
use Rattle.iscsi_serving.specs.Executed.{HasExecuted}
use Rattle.iscsi_serve.specs.Session.{target_settings, ended_by, ServesAllPdus, SessionServed, SessionEndsBy, EndsWell, EndsCut}
use Rattle.iscsi_serve.specs.inner.SessionSteps.{ServedUpTo, ServedTarget, service, ServiceGoesOn, BytesCloseSession, TellsSessionEnd, SessionFaultLeaves}
use Rattle.iscsi_serve.specs.Serving.{session_fault, ServeOnePost}
use Rattle.iscsi_serve.proofs.SessionEndLemmas.{Stands, read_told, end_told}
use Rattle.iscsi_serve.proofs.SessionEndLemmas.{finish_told, over_told, either}
use Rattle.iscsi_serve.proofs.FedMoreLemmas.{Leaves, Given, fed_rises, none_counted}
use Rattle.iscsi_serve.proofs.SyncedLemmas.{stands_up, feeds_live}
use Rattle.iscsi_serve.proofs.NextPduLemmas.{next_is}

-- ---- how a session ends

-- what a session works on: its store, what is left to be read, and what was written, as far as these are known
pub record Outside : Type 0 where
  pub store : Store
  pub remaining : Option (List ℕ)
  pub contents : Option (List ℕ)

-- these three together
abbrev pub outside : Store → Option (List ℕ) → Option (List ℕ) → Outside
outside store remaining contents = record { store = store; remaining = remaining; contents = contents }

-- bytes were read, and served
pub record ReadUpTo (protected : Bool) (settings : TargetSettings) (first : Outside) (target : TargetConnection) (now : Outside) : Type 0 where
  pub stream : List ℕ
  pub consumed : Consumes first.remaining now.remaining stream
  pub served : ServedUpTo protected settings first.store stream first.contents (service target now.store now.contents [])

pub read_more : (protected : Bool) (settings : TargetSettings) (from : Outside) (now new : TargetConnection) (here to : Outside)
    (piece : List ℕ)
    → ReadUpTo protected settings from now here → Consumes here.remaining to.remaining piece →
    ServiceGoesOn protected (service now here.store here.contents []) piece (service new to.store to.contents []) →
    ReadUpTo protected settings from new to
read_more protected settings from now new here to piece up read goes =
    record {
      stream = up.stream ++ piece;
      consumed = Consumes-trans from.remaining here.remaining to.remaining up.stream piece up.consumed read;
      served = goes settings from.store up.stream from.contents up.served;
    }

-- all PDUs of what was read are answered
pub all_served : (protected : Bool) (settings : TargetSettings) (first : Store) (stream : List ℕ) (now : TargetConnection) (store : Store)
    (w0 w1 : Option (List ℕ)) →
    (up : ServedUpTo protected settings first stream w0 (service now store w1 []))
    → ArePreferencesInRange settings.preferences → store.failures ≡ first.failures → ServesAllPdus protected settings first.disk stream store.disk up.sent
all_served protected settings first stream now store w0 w1 up range h ms given rest s =
    fed_any protected settings 1 first up.pieces now store up.sent ms given rest (omega (arith, range.max_recv.1))
    (subst (λ (x : List ℕ). FeedsAllPieces protected (scene (opening_target settings 1) first []) up.pieces (scene now store x)) (append-nil up.sent)
    (up.fed h))
    (subst (λ (x : List ℕ). SplitsStream longest_segment x ms given rest) up.whole s)

-- what is said where a session ends so
abbrev pub Ended : Bool → TargetSettings → Store → Store → Result (Unit {0}) SessionFault → List ℕ → List ℕ → Type 0
Ended protected settings first store result = Given first store (λ read written. SessionServed protected settings first.disk result read store.disk written
    × SessionEndsBy protected settings first.disk result read)

stops : (protected : Bool) (settings : TargetSettings) (range : ArePreferencesInRange settings.preferences) (result : Result (Unit {0}) SessionFault)
    (from : Outside)
    (now : TargetConnection) (here : Outside)
    (C : List ℕ → Type 0) → (up : ReadUpTo protected settings from now here) → C up.stream
    → ((read written : List ℕ) → ServesAllPdus protected settings from.store.disk read here.store.disk written
    → SessionServed protected settings from.store.disk result read here.store.disk written) →
    (here.store.failures ≡ from.store.failures → SessionEndsBy protected settings from.store.disk result up.stream)
    → Leaves from.remaining here.remaining from.contents here.contents (Ended protected settings from.store here.store result) C
stops protected settings range result from now here C up left due why = (
  up.stream,
  up.served.sent,
  up.consumed,
  up.served.appended,
  up.served.bytes,
  λ h. (due up.stream up.served.sent (all_served protected settings from.store up.stream now here.store from.contents here.contents up.served range h), why h),
  left,
)

-- a target that stands behind what was read
read_stands : (protected : Bool) (settings : TargetSettings) (from : Outside) (now : TargetConnection) (here : Outside) →
    (up : ReadUpTo protected settings from now here) → here.store.failures ≡ from.store.failures → is_machine_closed now.machine ≡ false
    → Stands protected settings from.store.disk up.stream now here.store.disk (up.served.sent ++ [])
read_stands protected settings from now here up h live = stands_up protected settings from.store up.stream now here.store from.contents here.contents []
    up.served h live

-- a read failed
pub read_stops : (protected : Bool) (settings : TargetSettings) (range : ArePreferencesInRange settings.preferences) (from : Outside) (now : TargetConnection)
    (here : Outside)
    (r2 : Option (List ℕ)) (C : List ℕ → Type 0) →
    (up : ReadUpTo protected settings from now here) → C up.stream → is_machine_closed now.machine ≡ false → Keeps here.remaining r2
    → Leaves from.remaining r2 from.contents here.contents (Ended protected settings from.store here.store (Err session.Read)) C
read_stops protected settings range from now here r2 C up left live kept =
    stops protected settings range (Err session.Read) from now (outside here.store r2 here.contents) C (record {
      stream = up.stream;
      consumed = Consumes-kept from.remaining here.remaining r2 up.stream up.consumed kept;
      served = up.served;
    }) left (λ read written a. a)
    (λ h. read_told protected settings from.store.disk up.stream now here.store.disk (up.served.sent ++ [])
    (read_stands protected settings from now here up h live) live)

-- a session that was closed
pub over_stops : (protected : Bool) (settings : TargetSettings) (range : ArePreferencesInRange settings.preferences) (from : Outside)
    (now new : TargetConnection) (here to : Outside)
    (piece : List ℕ)
    (C : List ℕ → Type 0) → (up : ReadUpTo protected settings from now here) → C (up.stream ++ piece) → Consumes here.remaining to.remaining piece
    → ServiceGoesOn protected (service now here.store here.contents []) piece (service new to.store to.contents []) → BytesCloseSession protected
    (service now here.store here.contents []) piece to.store
    → Leaves from.remaining to.remaining from.contents to.contents (Ended protected settings from.store to.store (Ok tt)) C
over_stops protected settings range from now new here to piece C up left read goes closes =
    stops protected settings range (Ok tt) from new to C
    (record {
      stream = up.stream ++ piece;
      consumed = Consumes-trans from.remaining here.remaining to.remaining up.stream piece up.consumed read;
      served = goes settings from.store up.stream from.contents up.served;
    }) left (λ read written a. a)
    (λ h. inl (closes settings from.store up.stream from.contents up.served h))

-- nothing more came
ended_up : (protected : Bool) (settings : TargetSettings) (from : Outside) (now : TargetConnection) (here : Outside) (r2 : Option (List ℕ)) →
    (up : ReadUpTo protected settings from now here) → Consumes here.remaining r2 [] → Consumes from.remaining r2 up.stream
ended_up protected settings from now here r2 up read = subst (λ (x : List ℕ). Consumes from.remaining r2 x) (append-nil up.stream)
    (Consumes-trans from.remaining here.remaining r2 up.stream [] up.consumed read)

-- the stream ended behind a PDU
pub end_stops : (protected : Bool) (settings : TargetSettings) (range : ArePreferencesInRange settings.preferences) (from : Outside)
    (now new : TargetConnection)
    (here : Outside)
    (r2 : Option (List ℕ)) (C : List ℕ → Type 0) →
    (up : ReadUpTo protected settings from now here) → C up.stream → is_machine_closed now.machine ≡ false
    → TargetFinishPost now (Ok tt) new → Consumes here.remaining r2 [] → Leaves from.remaining r2 from.contents here.contents
    (Ended protected settings from.store here.store (Ok tt)) C
end_stops protected settings range from now new here r2 C up left live done read =
    stops protected settings range (Ok tt) from now (outside here.store r2 here.contents) C (record {
      stream = up.stream;
      consumed = ended_up protected settings from now here r2 up read;
      served = up.served;
    }) left (λ read written a. a)
    (λ h. inr (end_told protected settings from.store.disk up.stream now new here.store.disk (up.served.sent ++ [])
    (read_stands protected settings from now here up h live) live done))

any_fault : (protected : Bool) (settings : TargetSettings) (disk : Disk) (fault : TargetFault) (new now : TargetConnection) (read : List ℕ)
    (disk_now : Disk) (written : List ℕ) →
    is_machine_closed now.machine ≡ false → TargetFinishPost now (Err fault) new → ServesAllPdus protected settings disk read disk_now written
    → SessionServed protected settings disk (Err (ended_by fault)) read disk_now written
any_fault protected settings disk faults.NoMemory new now read disk_now written live f a = absurd f
any_fault protected settings disk (faults.Stream fault) new now read disk_now written live f a = a
any_fault protected settings disk (faults.Protocol rule) new now read disk_now written live f a = a
any_fault protected settings disk faults.Closed new now read disk_now written live f a = absurd (apart f.0 live)

-- the stream ended within a PDU
pub finish_stops : (protected : Bool) (settings : TargetSettings) (range : ArePreferencesInRange settings.preferences) (fault : TargetFault) (from : Outside)
    (now new : TargetConnection) (here : Outside) (r2 : Option (List ℕ))
    (C : List ℕ → Type 0) → (up : ReadUpTo protected settings from now here) → C up.stream
    → is_machine_closed now.machine ≡ false → TargetFinishPost now (Err fault) new → Consumes here.remaining r2 [] →
    Leaves from.remaining r2 from.contents here.contents (Ended protected settings from.store here.store (Err (ended_by fault))) C
finish_stops protected settings range fault from now new here r2 C up left live fails read =
    stops protected settings range (Err (ended_by fault)) from now (outside here.store r2 here.contents) C (record {
      stream = up.stream;
      consumed = ended_up protected settings from now here r2 up read;
      served = up.served;
    }) left
    (λ read written a. any_fault protected settings from.store.disk fault new now read here.store.disk written live fails a)
    (λ h. finish_told protected fault settings from.store.disk up.stream now new here.store.disk (up.served.sent ++ [])
    (read_stands protected settings from now here up h live) live fails)

-- a session that ends by a fault of the target
fault_ends : (protected : Bool) (settings : TargetSettings) (range : ArePreferencesInRange settings.preferences) (fault : SessionFault) (from : Outside)
    (now new : TargetConnection)
    (here to : Outside)
    (piece : List ℕ) (C : List ℕ → Type 0) → (up : ReadUpTo protected settings from now here) → C (up.stream ++ piece)
    → Consumes here.remaining to.remaining piece → ((read written : List ℕ) → ServesAllPdus protected settings from.store.disk read to.store.disk written →
    SessionServed protected settings from.store.disk (Err fault) read to.store.disk written)
    → ServiceGoesOn protected (service now here.store here.contents []) piece (service new to.store to.contents []) → TellsSessionEnd protected
    (service now here.store here.contents []) piece fault to.store
    →
    Leaves from.remaining to.remaining from.contents to.contents (Ended protected settings from.store to.store (Err fault)) C
fault_ends protected settings range fault from now new here to piece C up left read due goes tells =
    stops protected settings range (Err fault) from new to C
    (record {
      stream = up.stream ++ piece;
      consumed = Consumes-trans from.remaining here.remaining to.remaining up.stream piece up.consumed read;
      served = goes settings from.store up.stream from.contents up.served;
    }) left due (λ h. tells settings from.store up.stream from.contents up.served h)

pub fault_stops : (protected : Bool) (settings : TargetSettings) (range : ArePreferencesInRange settings.preferences) (fault : SessionFault) (from : Outside)
    (now new : TargetConnection) (here to : Outside)
    (piece : List ℕ) (C : List ℕ → Type 0)
    → (up : ReadUpTo protected settings from now here) → C (up.stream ++ piece) → Consumes here.remaining to.remaining piece
    → SessionFaultLeaves protected (service now here.store here.contents []) piece fault (service new to.store to.contents [])
    → Leaves from.remaining to.remaining from.contents to.contents (Ended protected settings from.store to.store (Err fault)) C
fault_stops protected settings range session.NoMemory from now new here to piece C up left read lost =
    let l = lost settings from.store up.stream from.contents up.served in (
      up.stream ++ piece,
      l.0,
      Consumes-trans from.remaining here.remaining to.remaining up.stream piece up.consumed read,
      l.1,
      l.2,
      λ h. (l.4 h, tt),
      left,
    )
fault_stops protected settings range (session.Target (faults.Stream fault)) from now new here to piece C up left read broken =
    fault_ends protected settings range (session.Target (faults.Stream fault)) from now new here to piece C up left
    read (λ read written a. a)
    broken.0 broken.1
fault_stops protected settings range (session.Target (faults.Protocol rule)) from now new here to piece C up left read broken =
    fault_ends protected settings range (session.Target (faults.Protocol rule)) from now new here to piece C up left
    read (λ read written a. a)
    broken.0 broken.1
fault_stops protected settings range (session.Target faults.NoMemory) from now new here to piece C up left read broken = absurd broken
fault_stops protected settings range (session.Target faults.Closed) from now new here to piece C up left read broken = absurd broken
fault_stops protected settings range session.Read from now new here to piece C up left read broken = absurd broken
fault_stops protected settings range session.Sync from now new here to piece C up left read lost =
    let l = lost settings from.store up.stream from.contents up.served in (
      up.stream ++ piece,
      l.0,
      Consumes-trans from.remaining here.remaining to.remaining up.stream piece up.consumed read,
      l.1,
      l.2,
      λ h. (l.4 range h, tt),
      left,
    )
fault_stops protected settings range session.Write from now new here to piece C up left read lost =
    let l = lost settings from.store up.stream from.contents up.served in (
      up.stream ++ piece,
      l.0,
      Consumes-trans from.remaining here.remaining to.remaining up.stream piece up.consumed read,
      l.1,
      l.2,
      λ h. (l.4 range h, tt),
      left,
    )

-- a PDU is called cut at the end of the stream alone
pub fault_cut : (protected : Bool) (old new : ServedTarget) (bytes : List ℕ) (fault : SessionFault) (left : Option (List ℕ))
    → SessionFaultLeaves protected old bytes fault new
    → EndsCut (Err fault) left
fault_cut protected old new bytes session.NoMemory left b = tt
fault_cut protected old new bytes (session.Target faults.NoMemory) left b = tt
fault_cut protected old new bytes (session.Target (faults.Stream (stream.Head fault place))) left b = tt
fault_cut protected old new bytes (session.Target (faults.Stream (stream.OverLimit place))) left b = tt
fault_cut protected old new bytes (session.Target (faults.Stream (stream.Truncated place))) left b = absurd b.2
fault_cut protected old new bytes (session.Target (faults.Stream stream.NoMemory)) left b = tt
fault_cut protected old new bytes (session.Target (faults.Stream stream.Failed)) left b = tt
fault_cut protected old new bytes (session.Target (faults.Protocol rule)) left b = tt
fault_cut protected old new bytes (session.Target faults.Closed) left b = tt
fault_cut protected old new bytes session.Read left b = tt
fault_cut protected old new bytes session.Sync left b = tt
fault_cut protected old new bytes session.Write left b = tt

pub end_cut : (fault : TargetFault) (left : Option (List ℕ)) → IsAtEnd left → EndsCut (Err (ended_by fault)) left
end_cut faults.NoMemory left end = tt
end_cut (faults.Stream (stream.Head fault place)) left end = tt
end_cut (faults.Stream (stream.OverLimit place)) left end = tt
end_cut (faults.Stream (stream.Truncated place)) left end = end
end_cut (faults.Stream stream.NoMemory) left end = tt
end_cut (faults.Stream stream.Failed) left end = tt
end_cut (faults.Protocol rule) left end = tt
end_cut faults.Closed left end = tt

-- the blocks are those that commands left
pub fault_executed : (protected : Bool) (settings : TargetSettings) (fault : SessionFault) (from : Outside) (now new : TargetConnection) (here : Outside)
    (after : Store)
    (w2 : Option (List ℕ)) (piece : List ℕ)
    → ReadUpTo protected settings from now here
    → SessionFaultLeaves protected (service now here.store here.contents []) piece fault (service new after w2 []) →
    HasExecuted protected from.store.disk after.disk
fault_executed protected settings session.NoMemory from now new here after w2 piece up lost = (lost settings from.store up.stream from.contents up.served).3
fault_executed protected settings (session.Target (faults.Stream fault)) from now new here after w2 piece up broken =
    (broken.0 settings from.store up.stream from.contents up.served).executed
fault_executed protected settings (session.Target (faults.Protocol rule)) from now new here after w2 piece up broken =
    (broken.0 settings from.store up.stream from.contents up.served).executed
fault_executed protected settings (session.Target faults.NoMemory) from now new here after w2 piece up broken = absurd broken
fault_executed protected settings (session.Target faults.Closed) from now new here after w2 piece up broken = absurd broken
fault_executed protected settings session.Read from now new here after w2 piece up broken = absurd broken
fault_executed protected settings session.Sync from now new here after w2 piece up lost = (lost settings from.store up.stream from.contents up.served).3
fault_executed protected settings session.Write from now new here after w2 piece up lost = (lost settings from.store up.stream from.contents up.served).3

-- ---- a session that is closed

ok_is_no_fault : (done : ℕ × Phase) → (let r : Result (ℕ × Phase) TargetFault = Ok done in r ≡ Err faults.Closed) → ⊥
ok_is_no_fault done e = absurd cc

-- where a call of feed_next answers that the session is closed
pub next_closes : (protected : Bool) (old new : TargetConnection) (before after : Store) (contents : Option (List ℕ)) (out piece written : List ℕ)
    (done : ℕ × Phase)
    → FeedNextPost protected (scene old before out) piece (Ok done) (scene new after written) → is_closed_phase done.1 ≡ true
    → BytesCloseSession protected (service old before contents out) (take done.0 piece) after
next_closes protected old new before after contents out piece written done f over = λ settings first stream start up none.
    let fed : TargetFeedPost protected (scene old before out) (take done.0 piece) (Ok done.1) (scene new after written) =
    next_is protected (is_machine_closed old.machine) old new before after out piece written done f in
    let h = none_counted first.failures before.failures after.failures up.rises
    (fed_rises protected (is_machine_closed old.machine) old new before after out (take done.0 piece)
    written (Ok done.1) fed) none in
    elim (either (is_machine_closed old.machine)) [
      | inl c ↦ absurd (ended_twice c f)
      | inr live ↦
          over_told protected done.1 settings first.disk stream (take done.0 piece) old new before after (up.sent ++ out) (up.sent ++ written)
          (stands_up protected settings first stream old before start contents out up h.0 live) live
          (feeds_live protected old new before after up.sent (take done.0 piece) out written (Ok done.1) live fed) over h.1
    ]
  where
    ended_twice : is_machine_closed old.machine ≡ true → FeedNextPost protected (scene old before out) piece (Ok done) (scene new after written) → ⊥
    ended_twice c g = ok_is_no_fault done (subst (λ (b : Bool). FeedNextPostIfClosed protected b (scene old before out) piece (Ok done)
        (scene new after written)) c g).0

pub next_is_closed : (protected : Bool) (b : Bool) (old new : TargetConnection) (before after : Store) (out piece written : List ℕ) (done : ℕ × Phase)
    → FeedNextPostIfClosed protected b (scene old before out) piece (Ok done) (scene new after written) → is_closed_phase done.1 ≡ true
    → is_machine_closed new.machine ≡ true
next_is_closed protected true old new before after out piece written done f over = absurd cc
next_is_closed protected false old new before after out piece written done f over =
    ap is_machine_closed f.fed.ends.1 ∙ sym (ap is_closed_phase f.fed.ends.2) ∙ over

pub next_is_open : (protected : Bool) (b : Bool) (old new : TargetConnection) (before after : Store) (out piece written : List ℕ) (done : ℕ × Phase)
    → FeedNextPostIfClosed protected b (scene old before out) piece (Ok done) (scene new after written) → is_closed_phase done.1 ≡ false
    → is_machine_closed new.machine ≡ false
next_is_open protected true old new before after out piece written done f open_ = absurd cc
next_is_open protected false old new before after out piece written done f open_ =
    ap is_machine_closed f.fed.ends.1 ∙ sym (ap is_closed_phase f.fed.ends.2) ∙ open_

pub over_ends : (protected : Bool) (settings : TargetSettings) (from : Outside) (now : TargetConnection) (here : Outside) (after : Store)
    (r2 : Option (List ℕ)) (piece : List ℕ)
    → ReadUpTo protected settings from now here → Consumes here.remaining r2 piece
    → BytesCloseSession protected (service now here.store here.contents []) piece after →
    after.failures ≡ from.store.failures →
    EndsWell protected settings from.store.disk from.remaining r2
over_ends protected settings from now here after r2 piece up read closes h =
    inr (
      up.stream ++ piece,
      Consumes-trans from.remaining here.remaining r2 up.stream piece up.consumed read,
      closes settings from.store up.stream
          from.contents up.served h,
    )

pub ok_is : (b : Bool) → b ≡ true → (let r : Result Bool SessionFault = Ok b in let s : Result Bool SessionFault = Ok true in r ≡ s)
ok_is b e = ap (λ (x : Bool). (let r : Result Bool SessionFault = Ok x in r)) e

pub ok_open : (b : Bool) → b ≡ false → (let r : Result Bool SessionFault = Ok b in let s : Result Bool SessionFault = Ok false in r ≡ s)
ok_open b e = ap (λ (x : Bool). (let r : Result Bool SessionFault = Ok x in r)) e

-- ---- over a socket

pub fault_served : (protected : Bool) (settings : TargetSettings) (disk : Disk) (fault : SessionFault) (read : List ℕ) (disk_now : Disk) (written : List ℕ)
    → SessionServed protected settings disk (Err fault) read disk_now written × SessionEndsBy protected settings disk (Err fault) read →
    ServeOnePost protected settings disk (Err (session_fault fault)) read disk_now written
fault_served protected settings disk session.NoMemory read disk_now written a = a.0
fault_served protected settings disk (session.Target faults.NoMemory) read disk_now written a = absurd a.0
fault_served protected settings disk (session.Target (faults.Stream fault)) read disk_now written a = a
fault_served protected settings disk (session.Target (faults.Protocol rule)) read disk_now written a = a
fault_served protected settings disk (session.Target faults.Closed) read disk_now written a = absurd a.0
fault_served protected settings disk session.Read read disk_now written a = a
fault_served protected settings disk session.Sync read disk_now written a = a.0
fault_served protected settings disk session.Write read disk_now written a = a.0

-- ---- the target of the programs

abbrev pub Told : Bool → TargetSettings → Disk → Result (Unit {0}) SessionFault → List ℕ → Disk → List ℕ → Type 0
Told protected settings disk result read disk_now written = SessionServed protected settings disk result read disk_now written
    × SessionEndsBy protected settings disk result read

-- what a session leaves, at the target of the programs
pub told_here : {Steady : Type 0} (protected : Bool) (settings : TargetSettings) (disk here : Disk) (result : Result (Unit {0}) SessionFault)
    (read : List ℕ) (disk_now : Disk)
    (written : List ℕ) → settings ≡ target_settings → disk ≡ here
    → (Steady → Told protected settings disk result read disk_now written) → Steady →
    Told protected target_settings here result read disk_now written
told_here protected settings disk here result read disk_now written is at told steady =
    subst (λ (s : TargetSettings). Told protected s here result read disk_now written) is
    (subst (λ (d : Disk). Told protected settings d result read disk_now written) at (told steady))

pub ends_here : (protected : Bool) (settings : TargetSettings) (disk here : Disk) (before after : Option (List ℕ)) → settings ≡ target_settings → disk ≡ here →
    EndsWell protected settings disk before after → EndsWell protected target_settings here before after
ends_here protected settings disk here before after is at ends =
    subst (λ (s : TargetSettings). EndsWell protected s here before after) is (subst (λ (d : Disk). EndsWell protected settings d before after) at ends)
