-- Calm runs of one pair over the same events come to one world.
use Rattle.std.specs.Result.{result_err}
use Rattle.std.proofs.Common.{◌≡◌, ℕ, Bool, true, false, List, [], ◌∷◌, length, take, drop, Option, Some, None, Result, Ok, Err, refl, sym, ap, subst, ◌∙◌}
use Rattle.std.proofs.lemmas.Bool.{or_parts}
use Rattle.scsi_disk.specs.Disk.{disk_of}
use Rattle.iscsi_stream.specs.Stream.{Message}
use Rattle.iscsi_stream.specs.Framing.{HasTaken}
use Rattle.iscsi_stream.proofs.ReadyLemmas.{apart}
use Rattle.iscsi_login.specs.declared.phase.Phase.{Phase}
use Rattle.iscsi_target.specs.declared.fault.TargetFault.{TargetFault}
use Rattle.iscsi_target.specs.declared.fault.TargetFault.TheVariants as target_faults
use Rattle.iscsi_target.specs.Machine as target_machine
use Rattle.iscsi_target.specs.Feed as target
use Rattle.iscsi_target.proofs.Feed.OneOutcomeLaw.{one_outcome}
use Rattle.iscsi_initiator.specs.declared.fault.InitiatorFault.{InitiatorFault}
use Rattle.iscsi_initiator.specs.declared.fault.InitiatorFault.TheVariants as faults
use Rattle.iscsi_initiator.specs.declared.request.Refused.{Refused}
use Rattle.iscsi_initiator.specs.declared.request.Request.{Request}
use Rattle.iscsi_initiator.specs.declared.request.SubmitFault.{SubmitFault}
use Rattle.iscsi_initiator.specs.State.{is_session_closed}
use Rattle.iscsi_initiator.specs.Machine.{outcome_handed_out}
use Rattle.iscsi_initiator.specs.Calls as initiator
use Rattle.iscsi_initiator.proofs.OneOutcomeLaw.{one_feed, one_submit}
use Rattle.iscsi_pair.specs.declared.step.EndFault.{EndFault}
use Rattle.iscsi_pair.specs.declared.step.EndFault.TheVariants as ends
use Rattle.iscsi_pair.specs.World.{World, Opening, PairEvent, ToTarget, ToInitiator, Submits, Takes, TargetReceives, InitiatorReceives, InitiatorIsAsked}
use Rattle.iscsi_pair.specs.World.{MovesToTarget, MovesToInitiator, RequestHandedIn, PairEventStep, RunsCalmly, LooksAlike, new_pair, reliable_store, feed_fault, submit_fault}
use Rattle.iscsi_pair.specs.World.{target_ran_out, initiator_ran_out, keeps_no_memory}
use Rattle.iscsi_pair.specs.Traffic.{Traffic, coming, first_traffic, traffic_after}
use Rattle.iscsi_pair.proofs.Ends.BothRuns.{Sides, happens_sides, opening_sides}
use Rattle.iscsi_target.specs.Feed.{scene}

-- what it was is what it is
same_worlds : (old same new now : World) → LooksAlike old same → new ≡ old → now ≡ same → LooksAlike new now
same_worlds old same new now l e f = subst (λ (w : World). LooksAlike w now) (sym e) (subst (λ (w : World). LooksAlike old w) (sym f) l)

-- ---- the target receives

-- messages that an open target has received
record TargetTook (stream : List ℕ) (t : target.TargetConnection) : Type 0 where
  messages : List Message
  taken : target_machine.is_machine_closed t.machine ≡ false → HasTaken stream messages t.framing

target_took : (shut : Bool) (c : Opening) (t : Traffic) (w : World) → Sides c t w → target_machine.is_machine_closed w.target.machine ≡ shut → w.target_fault
    ≡ None
    → TargetTook t.moved_to_target w.target
target_took true c t w s over none = record { messages = []; taken = λ live. absurd (apart over live) }
target_took false c t w s live none = (let h = (s.target.lives none live).has in record { messages = h.messages; taken = λ open_. h.taken })

target_memory : (result : Result Phase TargetFault) → target_ran_out (result_err result) ≡ false → result ≡ Err target_faults.NoMemory → ⊥
target_memory result calm e = (let bad : true ≡ false = ap (λ (r : Result Phase TargetFault). target_ran_out (result_err r)) (sym e) ∙ calm in absurd cc)

target_receives : (c : Opening) (t : Traffic) (old same new now : World) (moved : List ℕ) → Sides c t old → LooksAlike old same → old.target_fault ≡ None
    → TargetReceives moved old new → TargetReceives moved same now
    → target_ran_out new.target_fault ≡ false → target_ran_out now.target_fault ≡ false → LooksAlike new now
target_receives c t old same new now moved s l none a b calm calm' =
    let took : TargetTook t.moved_to_target old.target = target_took (target_machine.is_machine_closed old.target.machine) c t old s refl none in
    let x : target.CallsAlike a.result b.result (target.scene new.target (reliable_store new.blocks) new.to_initiator)
    (target.scene now.target (reliable_store now.blocks) now.to_initiator) =
    one_outcome false t.moved_to_target moved (scene old.target (reliable_store old.blocks) old.to_initiator)
    (scene new.target (reliable_store new.blocks) new.to_initiator) (scene now.target (reliable_store now.blocks) now.to_initiator) took.messages
    same.target (reliable_store same.blocks) a.result b.result took.taken l.target
    l.disk a.fed
    (record { memory = target_memory a.result (ap target_ran_out (sym a.fault) ∙ calm); device = refl })
    (subst (λ (out : List ℕ). target.TargetFeedPost false (target.scene same.target (reliable_store same.blocks) out) moved b.result
    (target.scene now.target (reliable_store now.blocks) now.to_initiator)) l.to_initiator
    b.fed)
    (record { memory = target_memory b.result (ap target_ran_out (sym b.fault) ∙ calm'); device = refl }) in
    record {
      target = x.alike;
      disk = x.disk;
      initiator = subst (λ (y : initiator.InitiatorConnection). initiator.InitiatorsAlike y now.initiator) (sym a.initiator)
          (subst (λ (y : initiator.InitiatorConnection). initiator.InitiatorsAlike old.initiator y) (sym b.initiator) l.initiator);
      to_target = b.dropped ∙ ap (drop (length moved)) l.to_target ∙ sym a.dropped;
      to_initiator = x.output;
      target_fault = b.fault ∙ ap (λ (r : Result Phase TargetFault). result_err r) x.answered ∙ sym a.fault;
      initiator_fault = b.other_fault ∙ l.initiator_fault ∙ sym a.other_fault;
    }

-- bytes that are dropped
target_drops : (old same : World) (n : ℕ) → LooksAlike old same → LooksAlike (record old { to_target = drop n old.to_target })
    (record same { to_target = drop n same.to_target })
target_drops old same n l = record {
  target = l.target;
  disk = l.disk;
  initiator = l.initiator;
  to_target = ap (drop n) l.to_target;
  to_initiator = l.to_initiator;
  target_fault = l.target_fault;
  initiator_fault = l.initiator_fault;
}

to_target : (fault : Option TargetFault) (moved : List ℕ) (c : Opening) (t : Traffic) (old same new now : World) → Sides c t old → LooksAlike old same
    → old.target_fault ≡ fault
    → MovesToTarget fault moved old new → MovesToTarget fault moved same now → target_ran_out new.target_fault ≡ false → target_ran_out now.target_fault ≡ false
    → LooksAlike new now
to_target fault [] c t old same new now s l f a b calm calm' = same_worlds old same new now l a b
to_target None (byte ∷ bytes) c t old same new now s l f a b calm calm' = target_receives c t old same new now (byte ∷ bytes) s l f a b calm calm'
to_target (Some fault) (byte ∷ bytes) c t old same new now s l f a b calm calm' =
    same_worlds (record old { to_target = drop (length (byte ∷ bytes)) old.to_target })
    (record same { to_target = drop (length (byte ∷ bytes)) same.to_target }) new now
    (target_drops old same (length (byte ∷ bytes)) l) a b

-- ---- the initiator receives

record InitiatorTook (stream : List ℕ) (i : initiator.InitiatorConnection) : Type 0 where
  messages : List Message
  taken : is_session_closed i.machine ≡ false → HasTaken stream messages i.framing

initiator_took : (shut : Bool) (c : Opening) (t : Traffic) (w : World) → Sides c t w → is_session_closed w.initiator.machine ≡ shut → w.initiator_fault ≡ None
    → InitiatorTook t.moved_to_initiator w.initiator
initiator_took true c t w s over none = record { messages = []; taken = λ live. absurd (apart over live) }
initiator_took false c t w s live none = (let h = s.initiator.lives none live in record { messages = coming h.inputs; taken = λ open_. h.taken })

feed_memory : (result : Result Phase InitiatorFault) → initiator_ran_out (feed_fault (result_err result)) ≡ false → result ≡ Err faults.NoMemory → ⊥
feed_memory result calm e = (let bad : true ≡ false = ap (λ (r : Result Phase InitiatorFault). initiator_ran_out (feed_fault (result_err r))) (sym e) ∙ calm in
    absurd cc)

initiator_receives : (c : Opening) (t : Traffic) (old same new now : World) (moved : List ℕ) → Sides c t old → LooksAlike old same → old.initiator_fault ≡ None
    → InitiatorReceives moved old new → InitiatorReceives moved same now
    → initiator_ran_out new.initiator_fault ≡ false → initiator_ran_out now.initiator_fault ≡ false → LooksAlike new now
initiator_receives c t old same new now moved s l none a b calm calm' =
    let took : InitiatorTook t.moved_to_initiator old.initiator = initiator_took (is_session_closed old.initiator.machine) c t old s refl none in
    let x : initiator.CalledAlike a.result b.result new.initiator now.initiator new.to_target now.to_target =
    one_feed t.moved_to_initiator moved old.to_target new.to_target now.to_target took.messages old.initiator same.initiator new.initiator now.initiator
    a.result b.result took.taken l.initiator a.fed
    (feed_memory a.result (ap initiator_ran_out (sym a.fault) ∙ calm))
    (subst (λ (out : List ℕ). initiator.InitiatorFeedPost b.result same.initiator moved now.initiator out now.to_target) l.to_target b.fed)
    (feed_memory b.result (ap initiator_ran_out (sym b.fault) ∙ calm')) in
    record {
      target = subst (λ (y : target.TargetConnection). target.TargetsAlike y now.target) (sym a.target)
          (subst (λ (y : target.TargetConnection). target.TargetsAlike old.target y)
          (sym b.target) l.target);
      disk = ap disk_of b.blocks ∙ l.disk ∙ ap disk_of (sym a.blocks);
      initiator = x.alike;
      to_target = x.output;
      to_initiator = b.dropped ∙ ap (drop (length moved)) l.to_initiator ∙ sym a.dropped;
      target_fault = b.other_fault ∙ l.target_fault ∙ sym a.other_fault;
      initiator_fault = b.fault ∙ ap (λ (r : Result Phase InitiatorFault). feed_fault (result_err r)) x.answered ∙ sym a.fault;
    }

initiator_drops : (old same : World) (n : ℕ) → LooksAlike old same → LooksAlike (record old { to_initiator = drop n old.to_initiator })
    (record same { to_initiator = drop n same.to_initiator })
initiator_drops old same n l = record {
  target = l.target;
  disk = l.disk;
  initiator = l.initiator;
  to_target = l.to_target;
  to_initiator = ap (drop n) l.to_initiator;
  target_fault = l.target_fault;
  initiator_fault = l.initiator_fault;
}

to_initiator : (fault : Option EndFault) (moved : List ℕ) (c : Opening) (t : Traffic) (old same new now : World) → Sides c t old → LooksAlike old same
    → old.initiator_fault ≡ fault
    → MovesToInitiator fault moved old new → MovesToInitiator fault moved same now → initiator_ran_out new.initiator_fault ≡ false
    → initiator_ran_out now.initiator_fault ≡ false → LooksAlike new now
to_initiator fault [] c t old same new now s l f a b calm calm' = same_worlds old same new now l a b
to_initiator None (byte ∷ bytes) c t old same new now s l f a b calm calm' = initiator_receives c t old same new now (byte ∷ bytes) s l f a b calm calm'
to_initiator (Some fault) (byte ∷ bytes) c t old same new now s l f a b calm calm' =
    same_worlds (record old { to_initiator = drop (length (byte ∷ bytes)) old.to_initiator })
    (record same { to_initiator = drop (length (byte ∷ bytes)) same.to_initiator }) new now
    (initiator_drops old same (length (byte ∷ bytes)) l) a b

-- ---- a request

submit_memory : (result : Result (Unit {0}) Refused) → initiator_ran_out (submit_fault (result_err result)) ≡ false → initiator.HadMemory result
submit_memory (Ok _) calm = tt
submit_memory (Err refused) calm = λ e. (let bad : true ≡ false = ap (λ (f : SubmitFault). initiator_ran_out (Some (ends.Submit f))) (sym e) ∙ calm in
    absurd cc)

is_asked : (request : Request) (old same new now : World) → LooksAlike old same → InitiatorIsAsked request old new → InitiatorIsAsked request same now
    → initiator_ran_out new.initiator_fault ≡ false → initiator_ran_out now.initiator_fault ≡ false → LooksAlike new now
is_asked request old same new now l a b calm calm' =
    let x : initiator.CalledAlike a.result b.result new.initiator now.initiator new.to_target now.to_target =
    one_submit request old.to_target new.to_target now.to_target old.initiator same.initiator new.initiator now.initiator a.result b.result l.initiator
    a.submitted
    (submit_memory a.result (ap initiator_ran_out (sym a.fault) ∙ calm))
    (subst (λ (out : List ℕ). initiator.InitiatorSubmitPost b.result same.initiator request now.initiator out now.to_target) l.to_target b.submitted)
    (submit_memory b.result (ap initiator_ran_out (sym b.fault) ∙ calm')) in
    record {
      target = subst (λ (y : target.TargetConnection). target.TargetsAlike y now.target) (sym a.target)
          (subst (λ (y : target.TargetConnection). target.TargetsAlike old.target y)
          (sym b.target) l.target);
      disk = ap disk_of b.blocks ∙ l.disk ∙ ap disk_of (sym a.blocks);
      initiator = x.alike;
      to_target = x.output;
      to_initiator = b.queue ∙ l.to_initiator ∙ sym a.queue;
      target_fault = b.other_fault ∙ l.target_fault ∙ sym a.other_fault;
      initiator_fault = b.fault ∙ ap (λ (r : Result (Unit {0}) Refused). submit_fault (result_err r)) x.answered ∙ sym a.fault;
    }

asks : (fault : Option EndFault) (request : Request) (old same new now : World) → LooksAlike old same → RequestHandedIn fault request old new
    → RequestHandedIn fault request same now
    → initiator_ran_out new.initiator_fault ≡ false → initiator_ran_out now.initiator_fault ≡ false → LooksAlike new now
asks None request old same new now l a b calm calm' = is_asked request old same new now l a b calm calm'
asks (Some fault) request old same new now l a b calm calm' = same_worlds old same new now l a b

-- ---- the outcome is taken

takes : (old same : World) → LooksAlike old same → LooksAlike (record old { initiator = initiator.after_taking old.initiator })
    (record same { initiator = initiator.after_taking same.initiator })
takes old same l = record {
  target = l.target;
  disk = l.disk;
  initiator = record { machine = ap outcome_handed_out l.initiator.machine; framing = l.initiator.framing };
  to_target = l.to_target;
  to_initiator = l.to_initiator;
  target_fault = l.target_fault;
  initiator_fault = l.initiator_fault;
}

-- ---- one event, and all

one_event : (c : Opening) (t : Traffic) (old same : World) (event : PairEvent) (new now : World) → Sides c t old → LooksAlike old same
    → PairEventStep old event new
    → PairEventStep same event now
    → keeps_no_memory new ≡ false → keeps_no_memory now ≡ false → LooksAlike new now
one_event c t old same (ToTarget k) new now s l a b calm calm' =
    to_target old.target_fault (take k old.to_target) c t old same new now s l refl a
    (subst (λ (x : List ℕ). MovesToTarget old.target_fault (take k x) same now) l.to_target
    (subst (λ (f : Option TargetFault). MovesToTarget f (take k same.to_target) same now) l.target_fault b))
    (or_parts (target_ran_out new.target_fault) (initiator_ran_out new.initiator_fault) calm).0
    (or_parts (target_ran_out now.target_fault) (initiator_ran_out now.initiator_fault) calm').0
one_event c t old same (ToInitiator k) new now s l a b calm calm' =
    to_initiator old.initiator_fault (take k old.to_initiator) c t old same new now s l refl a
    (subst (λ (x : List ℕ). MovesToInitiator old.initiator_fault (take k x) same now) l.to_initiator
    (subst (λ (f : Option EndFault). MovesToInitiator f (take k same.to_initiator) same now) l.initiator_fault b))
    (or_parts (target_ran_out new.target_fault) (initiator_ran_out new.initiator_fault) calm).1
    (or_parts (target_ran_out now.target_fault) (initiator_ran_out now.initiator_fault) calm').1
one_event c t old same (Submits request) new now s l a b calm calm' =
    asks old.initiator_fault request old same new now l a (subst (λ (f : Option EndFault). RequestHandedIn f request same now) l.initiator_fault b)
    (or_parts (target_ran_out new.target_fault) (initiator_ran_out new.initiator_fault) calm).1
    (or_parts (target_ran_out now.target_fault) (initiator_ran_out now.initiator_fault) calm').1
one_event c t old same Takes new now s l a b calm calm' =
    same_worlds (record old { initiator = initiator.after_taking old.initiator }) (record same { initiator = initiator.after_taking same.initiator }) new now
    (takes old same l) a b

all_events : (c : Opening) (t : Traffic) (old same : World) (events : List PairEvent) (v w : World) → Sides c t old → LooksAlike old same
    → RunsCalmly old events v
    → RunsCalmly same events w → LooksAlike v w
unfolding RunsCalmly
all_events c t old same [] v w s l a b = same_worlds old same v w l a b
all_events c t old same (event ∷ events) v w s l a b =
    all_events c (traffic_after t old event a.0) a.0 b.0 events v w (happens_sides [] c t old event a.0 s a.1) (one_event c t old same event a.0 b.0 s l a.1 b.1
    a.2 b.2) a.3 b.3

itself : (w : World) → LooksAlike w w
itself w = record {
  target = record { machine = refl; framing = λ live. refl };
  disk = refl;
  initiator = record { machine = refl; framing = λ live. refl };
  to_target = refl;
  to_initiator = refl;
  target_fault = refl;
  initiator_fault = refl;
}

pub one_world : (c : Opening) (events : List PairEvent) (v w : World) → RunsCalmly (new_pair c) events v → RunsCalmly (new_pair c) events w → LooksAlike v w
one_world c events v w a b = all_events c (first_traffic c) (new_pair c) (new_pair c) events v w (opening_sides c) (itself (new_pair c)) a b
