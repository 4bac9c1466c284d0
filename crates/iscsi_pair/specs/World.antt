-- Two ends of a session, and the bytes on their way between them (RFC 7143, section 4).
use Rattle.std.specs.Prelude.{◌≡◌, ◌≢◌, ◌⊎◌, ◌<◌, ◌^◌, ℕ, Bool, true, false, ◌||◌, List, [], ◌∷◌, length, take, drop, Option, Some, None, Result}
use Rattle.std.specs.Result.{result_err}
use Rattle.scsi_disk.specs.Disk.{disk_of}
use Rattle.iscsi_stream.specs.Canonical.{canon}
use Rattle.iscsi_login.specs.declared.phase.Phase.{Phase}
use Rattle.iscsi_login.specs.declared.stage.Stage.TheVariants as stages
use Rattle.iscsi_text.specs.declared.negotiated.Session.TheVariants as sessions
use Rattle.iscsi_login.specs.declared.offers.Auth.TheVariants as auths
use Rattle.iscsi_login.specs.Negotiation.{ArePreferencesInRange}
use Rattle.iscsi_target.specs.declared.fault.TargetFault.{TargetFault}
use Rattle.iscsi_target.specs.declared.fault.TargetFault.TheVariants as target_faults
use Rattle.iscsi_target_session.specs.Configured as target_settings
use Rattle.iscsi_target.specs.Feed as target
use Rattle.iscsi_initiator.specs.declared.fault.InitiatorFault.{InitiatorFault}
use Rattle.iscsi_initiator.specs.declared.fault.InitiatorFault.TheVariants as initiator_faults
use Rattle.iscsi_initiator.specs.declared.request.Request.{Request}
use Rattle.iscsi_initiator.specs.declared.request.Refused.{Refused}
use Rattle.iscsi_initiator.specs.declared.request.SubmitFault.TheVariants as refusals
use Rattle.iscsi_initiator.specs.State as initiator_state
use Rattle.iscsi_initiator.specs.Configured.{AreValid}
use Rattle.iscsi_initiator.specs.Login.{start_step}
use Rattle.iscsi_initiator.specs.Calls as initiator
use Rattle.iscsi_pair.specs.declared.step.EndFault.{EndFault}
use Rattle.iscsi_pair.specs.declared.step.EndFault.TheVariants as ends
use Rattle.iscsi_pair.specs.declared.step.Step.{Step}
use Rattle.iscsi_pair.specs.declared.step.Step.TheVariants as steps

-- Both ends, the bytes of the target's blocks, the bytes queued for each end, and the first fault
-- of each end, if it has failed.
pub record World : Type 0 where
  pub target : target.TargetConnection
  pub blocks : List ℕ
  pub initiator : initiator.InitiatorConnection
  pub to_target : List ℕ
  pub to_initiator : List ℕ
  pub target_fault : Option TargetFault
  pub initiator_fault : Option EndFault

-- What a pair is made of.
pub record Opening : Type 0 where
  pub initiator : initiator_state.InitiatorSettings
  pub target : target_settings.TargetSettings
  pub first_stat_sn : ℕ
  pub blocks : List ℕ

-- The initiator that has started its login (section 6.3).
abbrev pub started : Opening → initiator.InitiatorConnection
started c = record (initiator.opening_initiator c.initiator) {
  machine = (start_step (initiator_state.new_session c.initiator)).machine;
}

-- A new pair: the initiator's first text is on its way (section 6.3).
abbrev pub new_pair : Opening → World
new_pair c = record {
  target = target.opening_target c.target c.first_stat_sn;
  blocks = c.blocks;
  initiator = started c;
  to_target = canon (start_step (initiator_state.new_session c.initiator)).output;
  to_initiator = [];
  target_fault = None;
  initiator_fault = None;
}

-- The store of the target: it never fails.
abbrev pub reliable_store : List ℕ → target.Store
reliable_store blocks = record { disk = disk_of blocks; failures = 0 }

-- ---- faults

-- The fault of a piece that the initiator was fed.
abbrev pub feed_fault : Option InitiatorFault → Option EndFault
feed_fault None = None
feed_fault (Some fault) = Some (ends.Feed fault)

-- The fault of a request that the initiator refused.
abbrev pub submit_fault : Option Refused → Option EndFault
submit_fault None = None
submit_fault (Some refused) = Some (ends.Submit refused.fault)

-- Memory ran out at the target.
abbrev pub target_ran_out : Option TargetFault → Bool
target_ran_out (Some target_faults.NoMemory) = true
target_ran_out _ = false

-- Memory ran out at the initiator.
abbrev pub initiator_ran_out : Option EndFault → Bool
initiator_ran_out (Some (ends.Feed initiator_faults.NoMemory)) = true
initiator_ran_out (Some (ends.Submit refusals.NoMemory)) = true
initiator_ran_out _ = false

-- An end keeps that memory ran out there.
abbrev pub keeps_no_memory : World → Bool
keeps_no_memory w = target_ran_out w.target_fault || initiator_ran_out w.initiator_fault

-- ---- what can happen

-- What happens to a pair: a step, or the taking of an outcome.
pub data PairEvent : Type 0 where
  -- n bytes of a queue reach the end that they are for
  ToTarget : ℕ → PairEvent
  ToInitiator : ℕ → PairEvent
  -- a request is handed in
  Submits : Request → PairEvent
  -- the outcome is taken
  Takes : PairEvent

-- Bytes reach the target, as one piece; a fault is kept (section 4).
pub record TargetReceives (moved : List ℕ) (old new : World) : Type 0 where
  pub result : Result Phase TargetFault
  pub fed : target.TargetFeedPost false (target.scene old.target (reliable_store old.blocks)
      old.to_initiator) moved
      result (target.scene new.target (reliable_store new.blocks) new.to_initiator)
  pub dropped : new.to_target ≡ drop (length moved) old.to_target
  pub initiator : new.initiator ≡ old.initiator
  pub fault : new.target_fault ≡ result_err result
  pub other_fault : new.initiator_fault ≡ old.initiator_fault

-- Bytes reach the initiator, as one piece; a fault is kept (section 4).
pub record InitiatorReceives (moved : List ℕ) (old new : World) : Type 0 where
  pub result : Result Phase InitiatorFault
  pub fed : initiator.InitiatorFeedPost result old.initiator moved new.initiator old.to_target
      new.to_target
  pub dropped : new.to_initiator ≡ drop (length moved) old.to_initiator
  pub target : new.target ≡ old.target
  pub blocks : new.blocks ≡ old.blocks
  pub fault : new.initiator_fault ≡ feed_fault (result_err result)
  pub other_fault : new.target_fault ≡ old.target_fault

-- A request is handed to the initiator; a refusal is kept.
pub record InitiatorIsAsked (request : Request) (old new : World) : Type 0 where
  pub result : Result (Unit {0}) Refused
  pub submitted : initiator.InitiatorSubmitPost result old.initiator request new.initiator
      old.to_target new.to_target
  pub target : new.target ≡ old.target
  pub blocks : new.blocks ≡ old.blocks
  pub queue : new.to_initiator ≡ old.to_initiator
  pub fault : new.initiator_fault ≡ submit_fault (result_err result)
  pub other_fault : new.target_fault ≡ old.target_fault

-- Bytes move to the target; one that has failed drops them, and no bytes change nothing.
abbrev pub MovesToTarget : Option TargetFault → List ℕ → World → World → Type 0
MovesToTarget fault [] old new = new ≡ old
MovesToTarget None (byte ∷ bytes) old new = TargetReceives (byte ∷ bytes) old new
MovesToTarget (Some fault) (byte ∷ bytes) old new =
    new ≡ record old { to_target = drop (length (byte ∷ bytes)) old.to_target }

-- Bytes move to the initiator; one that has failed drops them, and no bytes change nothing.
abbrev pub MovesToInitiator : Option EndFault → List ℕ → World → World → Type 0
MovesToInitiator fault [] old new = new ≡ old
MovesToInitiator None (byte ∷ bytes) old new = InitiatorReceives (byte ∷ bytes) old new
MovesToInitiator (Some fault) (byte ∷ bytes) old new =
    new ≡ record old { to_initiator = drop (length (byte ∷ bytes)) old.to_initiator }

-- A request is handed in; an initiator that has failed drops it.
abbrev pub RequestHandedIn : Option EndFault → Request → World → World → Type 0
RequestHandedIn None request old new = InitiatorIsAsked request old new
RequestHandedIn (Some fault) request old new = new ≡ old

-- What an event may lead to. A growth may be refused in any of them; the end then keeps that memory
-- ran out.
abbrev pub PairEventStep : World → PairEvent → World → Type 0
PairEventStep old (ToTarget k) new = MovesToTarget old.target_fault (take k old.to_target) old new
PairEventStep old (ToInitiator k) new =
    MovesToInitiator old.initiator_fault (take k old.to_initiator) old new
PairEventStep old (Submits request) new = RequestHandedIn old.initiator_fault request old new
PairEventStep old Takes new = new ≡ record old { initiator = initiator.after_taking old.initiator }

-- Events, one after another.
unfoldable pub PairRuns : World → List PairEvent → World → Type 0
PairRuns old [] new = new ≡ old
PairRuns old (event ∷ events) new =
    (mid : World) × PairEventStep old event mid × PairRuns mid events new

-- A world that a new pair may come to.
abbrev pub Reached : Opening → List PairEvent → World → Type 0
Reached c events w = PairRuns (new_pair c) events w

-- The step that a program takes.
abbrev pub event_of : Step → PairEvent
event_of (steps.ToTarget k) = ToTarget k
event_of (steps.ToInitiator k) = ToInitiator k
event_of (steps.Submit request) = Submits request

-- ---- what a pair may be made of

-- The numbers of both ends are those of their fields, and both are configured as they may be
-- (sections 4.2.7, 11.12 and 13).
pub record IsOpening (c : Opening) : Type 0 where
  pub initiator : AreValid c.initiator
  pub isid : length c.initiator.isid ≡ 6
  pub cmd_sn : c.initiator.first_cmd_sn < 2 ^ 32
  pub preferences : ArePreferencesInRange c.target.preferences
  pub group : c.target.group < 2 ^ 16
  pub tsih : c.target.tsih < 2 ^ 16
  pub stat_sn : c.first_stat_sn < 2 ^ 32

-- The initiator's name for the target is the target's, or it asks for none; neither end demands
-- authentication; and the initiator may log in (sections 6.3, 11.13.5, 12.1 and 13.4).
pub record SuitEachOther (c : Opening) : Type 0 where
  pub name : (c.initiator.proposal.session ≡ sessions.Discovery)
      ⊎ (c.initiator.proposal.target ≡ c.target.name)
  pub auth : (c.initiator.start ≡ stages.Operational) ⊎ (c.initiator.proposal.auth ≢ auths.Chap)
  pub access : target_settings.is_allowed c.target.extras c.initiator.proposal.initiator ≡ true
  pub chap : c.target.extras.chap ≡ None

-- A request is handed in once the initiator has completed its login.
abbrev pub IsInTime : PairEvent → World → Type 0
IsInTime (Submits request) w = w.initiator.machine.stage ≡ stages.Full
IsInTime _ w = Unit {0}

-- Events, one after another, of which no request comes before its time.
unfoldable pub RunsInTime : World → List PairEvent → World → Type 0
RunsInTime old [] new = new ≡ old
RunsInTime old (event ∷ events) new =
    (mid : World) × PairEventStep old event mid × IsInTime event old × RunsInTime mid events new

-- ---- runs in which memory is there

-- Events, one after another, in which no growth is refused: none leaves an end that keeps that
-- memory ran out.
unfoldable pub RunsCalmly : World → List PairEvent → World → Type 0
RunsCalmly old [] new = new ≡ old
RunsCalmly old (event ∷ events) new =
    (mid : World) × PairEventStep old event mid × (keeps_no_memory mid ≡ false)
    × RunsCalmly mid events new

-- Two worlds of which nothing differs that matters from now on: an end whose session is over has no
-- use for the bytes that it had of a PDU.
pub record LooksAlike (v w : World) : Type 0 where
  pub target : target.TargetsAlike v.target w.target
  pub disk : disk_of w.blocks ≡ disk_of v.blocks
  pub initiator : initiator.InitiatorsAlike v.initiator w.initiator
  pub to_target : w.to_target ≡ v.to_target
  pub to_initiator : w.to_initiator ≡ v.to_initiator
  pub target_fault : w.target_fault ≡ v.target_fault
  pub initiator_fault : w.initiator_fault ≡ v.initiator_fault
