-- Between ends that have served what was asked of them, no fault blames one of them.
use Rattle.std.specs.Prelude.{◌||◌, IfErr, if◌then◌else◌}
use Rattle.std.proofs.Common.{◌≡◌, ◌<◌, ◌≤◌, inl, inr, ℕ, ◌*◌, Bool, true, false, List, [], ◌∷◌, ◌++◌, length, map, take, drop, Option, Some, None}
use Rattle.std.proofs.Common.{Result, Ok, Err, refl, sym, ap, ◌∙◌, subst, append-nil, arith}
use Rattle.std.proofs.lemmas.Bool.{le-ltb}
use Rattle.std.proofs.lemmas.List.{append_cancel_left, length-replicate, length-take-le}
use Rattle.scsi_disk.specs.Disk.{Disk, disk_of}
use Rattle.iscsi_stream.specs.declared.fault.StreamFault.{StreamFault}
use Rattle.iscsi_stream.specs.declared.fault.StreamFault.TheVariants as stream
use Rattle.iscsi_stream.specs.declared.logins.Logins.{Logins}
use Rattle.iscsi_stream.specs.Segment.{Text, no_login}
use Rattle.iscsi_stream.specs.Stream.{Message, ReadsAs, logins_after_all}
use Rattle.iscsi_stream.specs.Framing.{FinishFails, Framing, HasTaken, settled}
use Rattle.iscsi_stream.proofs.ReadyLemmas.{apart}
use Rattle.iscsi_stream.proofs.SettledBytesLemmas.{settled-short}
use Rattle.iscsi_login.specs.declared.phase.Phase.{Phase}
use Rattle.iscsi_login.specs.declared.phase.Phase.TheVariants as phases
use Rattle.iscsi_login.specs.Held.{Held}
use Rattle.iscsi_login.specs.Stage.{is_closed_phase}
use Rattle.iscsi_target_session.specs.Session as target_session
use Rattle.iscsi_target.specs.declared.fault.TargetFault.{TargetFault}
use Rattle.iscsi_target.specs.declared.fault.TargetFault.TheVariants as target_faults
use Rattle.iscsi_target.specs.State as target_state
use Rattle.iscsi_target.specs.State.{writes_joined}
use Rattle.iscsi_target.specs.Machine as target_machine
use Rattle.iscsi_target.specs.Machine.{answers}
use Rattle.iscsi_target.specs.Feed as target
use Rattle.iscsi_target.proofs.Steps.AppendLemmas.{answers_append}
use Rattle.iscsi_target.proofs.Writes.JoiningLemmas.{answers_joined}
use Rattle.iscsi_initiator.specs.declared.fault.InitiatorFault.{InitiatorFault}
use Rattle.iscsi_initiator.specs.declared.fault.InitiatorFault.TheVariants as initiator_faults
use Rattle.iscsi_initiator.specs.declared.request.Done.{Done}
use Rattle.iscsi_initiator.specs.declared.request.Refused.{Refused}
use Rattle.iscsi_initiator.specs.declared.request.Request.{Request}
use Rattle.iscsi_initiator.specs.declared.request.Request.TheVariants as kinds
use Rattle.iscsi_initiator.specs.declared.request.SubmitFault.{SubmitFault}
use Rattle.iscsi_initiator.specs.declared.request.SubmitFault.TheVariants as refusals
use Rattle.iscsi_initiator.specs.Calls as initiator
use Rattle.iscsi_initiator.specs.Laws.{listed}
use Rattle.iscsi_initiator.specs.Login.{fits_segment, login_request_message, offered, sends_cut, sends_text, start_step}
use Rattle.iscsi_initiator.specs.Machine.{outcome_handed_out}
use Rattle.iscsi_initiator.specs.State as initiator_state
use Rattle.iscsi_initiator.specs.Steps.{InitiatorStep, step_sending}
use Rattle.iscsi_initiator.specs.Submitted.{is_request_too_long, most_bytes, submitted}
use Rattle.iscsi_text.specs.Canonical.{canonical_text}
use Rattle.iscsi_pair.specs.declared.step.EndFault.TheVariants as ends
use Rattle.iscsi_pair.specs.World.{PairEvent, InitiatorReceives, MovesToInitiator, MovesToTarget, PairEventStep, Opening, PairRuns, TargetReceives, ToInitiator, ToTarget}
use Rattle.iscsi_pair.specs.World.{World, initiator_ran_out, new_pair, reliable_store, target_ran_out}
use Rattle.iscsi_pair.specs.Traffic.{TargetStands, first_traffic, target_said}
use Rattle.iscsi_pair.specs.LocalDisk.{AreInStep}
use Rattle.iscsi_pair.specs.Served.{AreAtEnd, EndsInLogout, RunsServed, disk_outcomes, requests_of}
use Rattle.iscsi_pair.proofs.Ends.BothRuns.{reached_sides, traced}
use Rattle.iscsi_pair.proofs.Ends.EndsLaw.{target_stands}
use Rattle.iscsi_pair.proofs.Lists.BlockLemmas.{HasBlocks, answers_blocks}
use Rattle.iscsi_pair.proofs.Lists.StepLemmas.{moves_here, moves_there, served_more}
use Rattle.iscsi_pair.proofs.Request.Invariant.{History}
use Rattle.iscsi_pair.proofs.Request.OneRequestLaw.{accepts, outcomes_more}
use Rattle.iscsi_pair.proofs.Run.DiskInvariant.{Serves}
use Rattle.iscsi_pair.proofs.Run.InvariantHolds.{none_waits}
use Rattle.iscsi_pair.proofs.Run.OneDiskLaw.{idle_rests, idle_whole, served}
use Rattle.iscsi_pair.proofs.Run.QueueReading.{MovesOn, Unread, moves_on}
use Rattle.iscsi_serving.specs.Faults.{initiator_serve_fault, target_serve_fault}
use Rattle.iscsi_loop.specs.declared.command.Command.{Command}
use Rattle.iscsi_loop.specs.declared.command.Command.TheVariants.{TestUnitReady, Inquiry, Capacity, Capacity16, Luns, Read, Write, Sync, Ping, Logout}
use Rattle.iscsi_loop.specs.Commands.{is_logout, command_request}
use Rattle.iscsi_serving.specs.declared.fault.ServeFault.{ServeFault}
use Rattle.iscsi_serving.specs.declared.fault.ServeFault.TheVariants as serve
use Rattle.iscsi_loop.specs.Script.{ScriptFails}
use Rattle.iscsi_loop.specs.inner.Script.{IsCommandInRange}
use Rattle.iscsi_loop.specs.Looping.{initiator_settings, up_to_logout}
use Rattle.iscsi_loop.specs.LoopSteps.{BlamesNoEnd}
use Rattle.iscsi_loop.specs.inner.LoopSteps.{refusal_fault}
use Rattle.iscsi_loop.specs.LoopPairs.{loop_opening, outcomes_on}
use Rattle.iscsi_loop.specs.inner.LoopPairs.{AreOneDisk, AreOpen, AreSomeDisk, BothEnds, HaveServed, IsBlameless, ends_of, outcome_on, world_of}
use Rattle.iscsi_loop.proofs.DeclaredLemmas.{Takes, answers_take}
use Rattle.iscsi_loop.proofs.PairStepLemmas.{is_normal, stored}

-- ---- where the target stands

-- a run that was served is a run
reached : (old : World) (events : List PairEvent) (new : World) (outcomes : List Done) → RunsServed old events new outcomes → PairRuns old events new
unfolding RunsServed PairRuns
reached old [] new outcomes r = r.0
reached old (event ∷ events) new outcomes r = (r.0, r.2, reached r.0 events new r.1 r.6)

-- some messages led the target and its disk there
record Led (blocks : ℕ) (t : target.TargetConnection) (disk : Disk) : Type 0 where
  messages : List Message
  machine : t.machine ≡ writes_joined (target_said (loop_opening blocks) messages).machine
  disk_is : disk ≡ (target_said (loop_opening blocks) messages).disk

led_there : (blocks : ℕ) (requests : List Request) (outcomes : List Done) (there : BothEnds) → HaveServed blocks requests outcomes there
    → Led blocks there.target there.disk
led_there blocks requests outcomes there h =
    let c : Opening = loop_opening blocks in
    let w : World = world_of there h.bytes in
    let t = traced (first_traffic c) (new_pair c) h.events w (reached (new_pair c) h.events w outcomes h.runs) in
    let s : TargetStands c t.0 w = target_stands c t.0 w refl (reached_sides c h.events w t.0 t.1).target in
    record { messages = s.messages; machine = s.machine; disk_is = sym h.disk_is ∙ s.disk }

-- the blocks behind more messages are those of some bytes
more_blocks : (blocks : ℕ) (old : target.TargetConnection) (before after : Disk) (more : List Message) → Led blocks old before
    → after ≡ (answers false old.machine before more).disk → HasBlocks after
more_blocks blocks old before after more l e =
    let c : Opening = loop_opening blocks in
    let first : target_state.Machine = target_state.opening_machine c.target c.first_stat_sn in
    let d : Disk = disk_of c.blocks in
    let a : target_state.TargetStep = answers false first d l.messages in
    let here : (answers false old.machine before more).disk ≡ (answers false (writes_joined a.machine) a.disk more).disk =
    ap (λ (m : target_state.Machine). (answers false m before more).disk) l.machine
    ∙ ap (λ (x : Disk). (answers false (writes_joined a.machine) x more).disk) l.disk_is in
    let same : (answers false (writes_joined a.machine) a.disk more).disk ≡ (answers false a.machine a.disk more).disk =
    ap (λ (x : target_state.TargetStep). x.disk) (answers_joined false a.machine a.disk more) in
    let whole : (answers false first d (l.messages ++ more)).disk ≡ (answers false a.machine a.disk more).disk =
    ap (λ (x : target_state.TargetStep). x.disk) (answers_append false first d l.messages more) in
    subst HasBlocks (sym (e ∙ here ∙ same ∙ sym whole)) (answers_blocks first d (l.messages ++ more) tt (record { bytes = c.blocks; is = refl }))

-- so are those that a refused piece leaves
refused_blocks : (over : Bool) (fault : TargetFault) (blocks : ℕ) (old new : target.TargetConnection) (before after : Disk) (back written piece : List ℕ)
    → Led blocks old before → HasBlocks before → (fault ≡ target_faults.NoMemory → ⊥)
    → target.FeedPostIfClosed false over (target.scene old (stored before) back) piece (Err fault) (target.scene new (stored after) written) → HasBlocks after
refused_blocks true fault blocks old new before after back written piece l b never f = subst HasBlocks (sym (ap (λ (s : target.Store). s.disk) f.store)) b
refused_blocks false target_faults.NoMemory blocks old new before after back written piece l b never f = absurd (never refl)
refused_blocks false (target_faults.Stream fault) blocks old new before after back written piece l b never f =
    more_blocks blocks old before after f.messages l (f.leaves.disk ∙ ap (λ (x : target_state.TargetStep). x.disk) (f.answered.works refl))
refused_blocks false (target_faults.Protocol rule) blocks old new before after back written piece l b never f =
    more_blocks blocks old before after f.messages l (f.leaves.disk ∙ ap (λ (x : target_state.TargetStep). x.disk) (f.answered.works refl))
refused_blocks false target_faults.Closed blocks old new before after back written piece l b never f = absurd f.ends

-- ---- pieces

-- what waits for an end, the bytes of it that it read, and how many
pub record ReadOf : Type 0 where
  pub waiting : List ℕ
  pub read : List ℕ
  pub count : ℕ

-- the target refuses none
target_refuses : (fault : TargetFault) → target_ran_out (Some fault) ≡ false → (fault ≡ target_faults.NoMemory → ⊥) → (i : initiator.InitiatorConnection)
    (old new : target.TargetConnection) (before after : Disk) (got : ReadOf) (back written : List ℕ)
    → target.TargetFeedPost false (target.scene old (stored before) back) got.read (Err fault) (target.scene new (stored after) written) → take got.count
    got.waiting ≡ got.read
    → length got.read ≡ got.count
    → 0 < got.count → (blocks : ℕ) (requests : List Request) (outcomes : List Done) → HaveServed blocks requests outcomes
    (ends_of i old before got.waiting back) → ⊥
target_refuses fault calm never i old new before after got back written fed front size some blocks requests outcomes h =
    let c : Opening = loop_opening blocks in
    let here : BothEnds = ends_of i old before got.waiting back in
    let b : HasBlocks after = refused_blocks (target_machine.is_machine_closed old.machine) fault blocks old new before after back written got.read
    (led_there blocks requests outcomes here h) (record { bytes = h.bytes; is = h.disk_is }) never fed in
    let there : World = record {
      target = new;
      blocks = b.bytes;
      initiator = i;
      to_target = drop got.count got.waiting;
      to_initiator = written;
      target_fault = Some fault;
      initiator_fault = None;
    } in
    let receives : TargetReceives got.read (world_of here h.bytes) there = record {
      result = Err fault;
      fed = subst (λ (d : Disk). target.TargetFeedPost false (target.scene old (stored d) back) got.read (Err fault)
          (target.scene new (reliable_store b.bytes) written)) (sym h.disk_is)
          (subst (λ (d : Disk). target.TargetFeedPost false (target.scene old (stored before) back) got.read (Err fault)
          (target.scene new (stored d) written)) (sym b.is) fed);
      dropped = ap (λ (k : ℕ). drop k got.waiting) (sym size);
      initiator = refl;
      fault = refl;
      other_fault = refl;
    } in
    let happens : PairEventStep (world_of here h.bytes) (ToTarget got.count) there =
    subst (λ (x : List ℕ). MovesToTarget None x (world_of here h.bytes) there) (sym front)
    (moves_there got.read (world_of here h.bytes) there (omega (arith, size, some)) receives) in
    let events : List PairEvent = h.events ++ ToTarget got.count ∷ [] in
    let runs : RunsServed (new_pair c) events there (outcomes ++ []) =
    served_more (new_pair c) h.events (world_of here h.bytes) outcomes (ToTarget got.count) there h.runs happens tt
    (ap (λ (x : Bool). x || initiator_ran_out None) calm) in
    let s = served c events there (outcomes ++ []) (is_normal blocks) runs in
    (let bad : Some fault ≡ None = s.target_well in cc)

pub target_blameless : (fault : TargetFault) (i : initiator.InitiatorConnection) (old new : target.TargetConnection) (before after : Disk)
    (rest back written read : List ℕ) (n : ℕ)
    → target.TargetFeedPost false (target.scene old (stored before) back) read (Err fault) (target.scene new (stored after) written) → read ≡ take n rest
    → n ≤ length rest
    → 0 < n → IsBlameless (ends_of i old before rest back) (target_serve_fault fault)
target_blameless target_faults.NoMemory i old new before after rest back written read n fed same within some = λ blocks requests outcomes h. tt
target_blameless (target_faults.Stream fault) i old new before after rest back written read n fed same within some =
    target_refuses (target_faults.Stream fault) refl (λ e. absurd cc) i old new before after (record { waiting = rest; read = read; count = n }) back
    written fed (sym same)
    (ap length same ∙ length-take-le n rest within) some
target_blameless (target_faults.Protocol rule) i old new before after rest back written read n fed same within some =
    target_refuses (target_faults.Protocol rule) refl (λ e. absurd cc) i old new before after (record { waiting = rest; read = read; count = n }) back
    written fed (sym same)
    (ap length same ∙ length-take-le n rest within) some
target_blameless target_faults.Closed i old new before after rest back written read n fed same within some =
    target_refuses target_faults.Closed refl (λ e. absurd cc) i old new before after (record { waiting = rest; read = read; count = n }) back written fed
    (sym same)
    (ap length same ∙ length-take-le n rest within) some

-- nor does the initiator
initiator_refuses : (fault : InitiatorFault) → initiator_ran_out (Some (ends.Feed fault)) ≡ false
    → (old new : initiator.InitiatorConnection) (t : target.TargetConnection)
    (disk : Disk) (out : List ℕ) (got : ReadOf) (written : List ℕ) → initiator.InitiatorFeedPost (Err fault) old got.read new out written → take got.count
    got.waiting ≡ got.read → length got.read
    ≡ got.count
    → 0 < got.count → (blocks : ℕ) (requests : List Request) (outcomes : List Done) → HaveServed blocks requests outcomes
    (ends_of old t disk out got.waiting) → ⊥
initiator_refuses fault calm old new t disk out got written fed front size some blocks requests outcomes h =
    let c : Opening = loop_opening blocks in
    let here : BothEnds = ends_of old t disk out got.waiting in
    let there : World = record {
      target = t;
      blocks = h.bytes;
      initiator = new;
      to_target = written;
      to_initiator = drop got.count got.waiting;
      target_fault = None;
      initiator_fault = Some (ends.Feed fault);
    } in
    let receives : InitiatorReceives got.read (world_of here h.bytes) there = record {
      result = Err fault;
      fed = fed;
      dropped = ap (λ (k : ℕ). drop k got.waiting) (sym size);
      target = refl;
      blocks = refl;
      fault = refl;
      other_fault = refl;
    } in
    let happens : PairEventStep (world_of here h.bytes) (ToInitiator got.count) there =
    subst (λ (x : List ℕ). MovesToInitiator None x (world_of here h.bytes) there) (sym front)
    (moves_here got.read (world_of here h.bytes) there (omega (arith, size, some)) receives) in
    let events : List PairEvent = h.events ++ ToInitiator got.count ∷ [] in
    let runs : RunsServed (new_pair c) events there (outcomes ++ []) =
    served_more (new_pair c) h.events (world_of here h.bytes) outcomes (ToInitiator got.count) there h.runs happens tt calm in
    let s = served c events there (outcomes ++ []) (is_normal blocks) runs in
    (let bad : Some (ends.Feed fault) ≡ None = s.initiator_well in cc)

pub initiator_blameless : (fault : InitiatorFault) (old new : initiator.InitiatorConnection) (t : target.TargetConnection) (disk : Disk)
    (out rest written read : List ℕ) (n : ℕ) → initiator.InitiatorFeedPost (Err fault) old read new out written → read ≡ take n rest → n ≤ length rest → 0 < n
    → IsBlameless (ends_of old t disk out rest) (initiator_serve_fault fault)
initiator_blameless initiator_faults.NoMemory old new t disk out rest written read n fed same within some = λ blocks requests outcomes h. tt
initiator_blameless (initiator_faults.Stream fault) old new t disk out rest written read n fed same within some =
    initiator_refuses (initiator_faults.Stream fault) refl old new t disk out (record { waiting = rest; read = read; count = n }) written fed (sym same)
    (ap length same ∙ length-take-le n rest within) some
initiator_blameless (initiator_faults.Protocol rule) old new t disk out rest written read n fed same within some =
    initiator_refuses (initiator_faults.Protocol rule) refl old new t disk out (record { waiting = rest; read = read; count = n }) written fed (sym same)
    (ap length same ∙ length-take-le n rest within) some
initiator_blameless (initiator_faults.Refused status detail) old new t disk out rest written read n fed same within some =
    initiator_refuses (initiator_faults.Refused status detail) refl old new t disk out (record { waiting = rest; read = read; count = n }) written fed
    (sym same)
    (ap length same ∙ length-take-le n rest within) some
initiator_blameless (initiator_faults.BadAnswer key) old new t disk out rest written read n fed same within some =
    initiator_refuses (initiator_faults.BadAnswer key) refl old new t disk out (record { waiting = rest; read = read; count = n }) written fed (sym same)
    (ap length same ∙ length-take-le n rest within) some
initiator_blameless initiator_faults.Closed old new t disk out rest written read n fed same within some =
    initiator_refuses initiator_faults.Closed refl old new t disk out (record { waiting = rest; read = read; count = n }) written fed (sym same)
    (ap length same ∙ length-take-le n rest within) some

-- ---- the login

none_ends_in : (past : List Request) → [] ≡ past ++ kinds.Logout ∷ [] → ⊥
none_ends_in [] e = cc
none_ends_in (request ∷ past) e = cc

pub none_end : EndsInLogout [] → ⊥
none_end e = none_ends_in e.0 e.1

none_listed : (o : Option Done) → listed o ≡ [] → o ≡ None
none_listed None e = refl
none_listed (Some d) e = absurd (cc e)

-- ends that go on are in step
pub in_step : (i : initiator.InitiatorConnection) (t : target.TargetConnection) (disk : Disk) (blocks : ℕ) (past : List Request)
    → AreOneDisk blocks past (ends_of i t disk [] []) → (EndsInLogout past → ⊥) → AreInStep i.machine t.machine
in_step i t disk blocks past h goes_on =
    let c : Opening = loop_opening blocks in
    let w : World = world_of (ends_of i t disk [] []) h.bytes in
    let rests : AreAtEnd (requests_of h.events) (outcome_handed_out i.machine) t.machine =
    idle_rests c h.events w (outcomes_on blocks past) (is_normal blocks) h.runs refl refl in
    let whole : outcomes_on blocks past ++ listed i.machine.done ≡ disk_outcomes c (requests_of h.events) =
    (idle_whole c h.events w (outcomes_on blocks past) (is_normal blocks) h.runs refl refl).0 in
    let none : i.machine.done ≡ None = none_listed i.machine.done
    (append_cancel_left (outcomes_on blocks past) (listed i.machine.done) []
    (whole ∙ ap (disk_outcomes c) h.requests_are ∙ sym (append-nil (outcomes_on blocks past)))) in
    let same : outcome_handed_out i.machine ≡ i.machine = ap (λ (d : Option Done). record i.machine { done = d }) (sym none) in
    elim rests [
      | inl on_ ↦ subst (λ (m : initiator_state.InitiatorSession). AreInStep m t.machine) same on_
      | inr over ↦ absurd (goes_on (subst EndsInLogout h.requests_are over.1))
    ]

-- behind the login the initiator is in full feature phase
pub logged_in : (i : initiator.InitiatorConnection) (t : target.TargetConnection) (disk : Disk) (blocks : ℕ) → AreOneDisk blocks [] (ends_of i t disk [] [])
    → i.machine.phase ≡ phases.Full
logged_in i t disk blocks h = (in_step i t disk blocks [] h none_end).initiator_phase

none_by : (b : Bool) (x y : InitiatorStep) → x.fault ≡ None → y.fault ≡ None → (if b then x else y).fault ≡ None
none_by true x y p q = p
none_by false x y p q = q

text_goes : (m : initiator_state.InitiatorSession) → (sends_text m).fault ≡ None
text_goes m =
    none_by (fits_segment m (canonical_text (offered m))) (step_sending (record m { unsent_text = [] }) (login_request_message m true (Text (offered m)) ∷ []))
    (sends_cut m (canonical_text (offered m)) false) refl refl

start_goes : (start_step (initiator_state.new_session initiator_settings)).fault ≡ None
start_goes = text_goes (record (initiator_state.new_session initiator_settings) { started = true })

-- a first start fails where memory runs out, and else not
starts_by : (fault : InitiatorFault) (new : initiator.InitiatorConnection) (before out : List ℕ)
    → initiator.InitiatorStartPost (Err fault) (initiator.opening_initiator initiator_settings) new before out → BlamesNoEnd (initiator_serve_fault fault)
starts_by initiator_faults.NoMemory new before out s = tt
starts_by (initiator_faults.Stream fault) new before out s = (let bad : None ≡ Some (initiator_faults.Stream fault) = sym start_goes ∙ s.2 in cc)
starts_by (initiator_faults.Protocol rule) new before out s = (let bad : None ≡ Some (initiator_faults.Protocol rule) = sym start_goes ∙ s.2 in cc)
starts_by (initiator_faults.Refused status detail) new before out s =
    (let bad : None ≡ Some (initiator_faults.Refused status detail) = sym start_goes ∙ s.2 in cc)
starts_by (initiator_faults.BadAnswer key) new before out s = (let bad : None ≡ Some (initiator_faults.BadAnswer key) = sym start_goes ∙ s.2 in cc)
starts_by initiator_faults.Closed new before out s = (let bad : false ≡ true = s.closed in cc)

pub starts_blameless : (fault : InitiatorFault) (old new : initiator.InitiatorConnection) (before out : List ℕ)
    → old ≡ initiator.opening_initiator initiator_settings → initiator.InitiatorStartPost (Err fault) old new before out
    → BlamesNoEnd (initiator_serve_fault fault)
starts_blameless fault old new before out is s =
    starts_by fault new before out (subst (λ (i : initiator.InitiatorConnection). initiator.InitiatorStartPost (Err fault) i new before out) is s)

-- ---- requests

-- it is short enough for the target of the programs
abbrev pub IsShort : Request → Type 0
IsShort (kinds.In lun cdb expected) = expected ≤ most_bytes
IsShort (kinds.Out lun cdb bytes) = length bytes ≤ most_bytes
IsShort (kinds.Ping bytes) = length bytes ≤ 8192
IsShort (kinds.Text bytes) = ⊥
IsShort kinds.Logout = Unit {0}

pub range_short : (command : Command) → IsCommandInRange command → IsShort (command_request command)
range_short (TestUnitReady unit) r = omega arith
range_short (Inquiry unit allocation_length) r = (let few = r.1 in omega (arith, few))
range_short Capacity r = omega arith
range_short Capacity16 r = omega arith
range_short Luns r = omega arith
range_short (Read first blocks) r = (let few = r.1 in omega (arith, few))
range_short (Write first blocks byte) r = (let few = r.1 in let size = length-replicate (512 * blocks) byte in omega (arith, few, size))
range_short (Sync first blocks) r = omega arith
range_short (Ping bytes) r = r.1
range_short Logout r = tt

-- the target takes at least 8,192 bytes in one segment
least_taken : (i : initiator.InitiatorConnection) (t : target.TargetConnection) (disk : Disk) (blocks : ℕ) (past : List Request)
    → AreOneDisk blocks past (ends_of i t disk [] []) → 8192 ≤ t.machine.session.held.target_max_recv
least_taken i t disk blocks past h =
    let c : Opening = loop_opening blocks in
    let l : Led blocks t disk = led_there blocks past (outcomes_on blocks past) (ends_of i t disk [] []) h in
    let takes : Takes 8192 (target_said c l.messages).machine.session =
    answers_take 8192 (target_state.opening_machine c.target c.first_stat_sn) (disk_of c.blocks) l.messages
    (record { held = omega arith; prefers = omega arith }) in
    subst (λ (m : target_state.Machine). 8192 ≤ m.session.held.target_max_recv) (sym l.machine) takes.held

short_enough : (request : Request) (m : initiator_state.InitiatorSession) → 8192 ≤ m.held.target_max_recv → IsShort request → is_request_too_long m request
    ≡ false
short_enough (kinds.In lun cdb expected) m least s = le-ltb most_bytes expected s
short_enough (kinds.Out lun cdb bytes) m least s = le-ltb most_bytes (length bytes) s
short_enough (kinds.Ping bytes) m least s = le-ltb m.held.target_max_recv (length bytes) (omega (arith, least, s))
short_enough (kinds.Text bytes) m least s = absurd s
short_enough kinds.Logout m least s = refl

refused_so : (fault : SubmitFault) (cause : Option SubmitFault) → cause ≡ None → cause ≡ initiator.refused_for fault → BlamesNoEnd (refusal_fault fault)
refused_so refusals.NoMemory cause none e = tt
refused_so refusals.Closed cause none e = (let bad : None ≡ Some refusals.Closed = sym none ∙ e in cc)
refused_so refusals.NotReady cause none e = (let bad : None ≡ Some refusals.NotReady = sym none ∙ e in cc)
refused_so refusals.Busy cause none e = (let bad : None ≡ Some refusals.Busy = sym none ∙ e in cc)
refused_so refusals.Shut cause none e = (let bad : None ≡ Some refusals.Shut = sym none ∙ e in cc)
refused_so refusals.TooLong cause none e = (let bad : None ≡ Some refusals.TooLong = sym none ∙ e in cc)

-- a short request is refused where memory runs out, and else not
pub submits_blameless : (old new : initiator.InitiatorConnection) (t : target.TargetConnection) (disk : Disk) (out : List ℕ) (request : Request)
    (refused : Refused)
    (blocks : ℕ) (past : List Request) → initiator.InitiatorSubmitPost (Err refused) old request new [] out → AreOpen blocks past (ends_of old t disk [] [])
    → IsShort request → BlamesNoEnd (refusal_fault refused.fault)
submits_blameless old new t disk out request refused blocks past s goes_on short =
    let step : AreInStep old.machine t.machine = in_step old t disk blocks past goes_on.0 goes_on.1 in
    let least : 8192 ≤ old.machine.held.target_max_recv =
    subst (λ (h : Held). 8192 ≤ h.target_max_recv) step.held (least_taken old t disk blocks past goes_on.0) in
    refused_so refused.fault (submitted old.machine request).refusal
    (accepts old.machine t.machine request step (short_enough request old.machine least short)) s.cause

-- and one that was served has its outcome
pub has_outcome : (i : initiator.InitiatorConnection) (t : target.TargetConnection) (disk : Disk) (request : Request) (blocks : ℕ) (past : List Request)
    → HaveServed blocks (past ++ request ∷ []) (outcomes_on blocks past) (ends_of i t disk [] []) → i.machine.done ≡ None → ⊥
has_outcome i t disk request blocks past h none =
    let c : Opening = loop_opening blocks in
    let whole : outcomes_on blocks past ++ listed i.machine.done ≡ disk_outcomes c (requests_of h.events) =
    (idle_whole c h.events (world_of (ends_of i t disk [] []) h.bytes) (outcomes_on blocks past) (is_normal blocks) h.runs refl refl).0 in
    let each : outcomes_on blocks (past ++ request ∷ []) ≡ outcomes_on blocks past ++ outcome_on blocks past request ∷ [] =
    outcomes_more initiator_settings.proposal.prefs.max_recv None (disk_of c.blocks) past request in
    let bad : [] ≡ outcome_on blocks past request ∷ [] = append_cancel_left (outcomes_on blocks past) [] (outcome_on blocks past request ∷ [])
    (ap (λ (o : Option Done). outcomes_on blocks past ++ listed o) (sym none) ∙ whole ∙ ap (disk_outcomes c) h.requests_are ∙ each) in
    cc

-- ---- the end

-- a framer that holds nothing, and has not failed
record IsEmpty (v : Framing) : Type 0 where
  held : v.held ≡ []
  live : v.failed ≡ false

empty_of : (limit : ℕ) (v : Framing) (waits : List Message) (logins : Logins) → Unread limit v [] waits logins → waits ≡ [] → IsEmpty v
unfolding ReadsAs
empty_of limit v waits logins u none =
    let t : HasTaken (u.stream ++ []) (u.received ++ []) v =
    subst (λ (x : List ℕ). HasTaken x (u.received ++ []) v) (sym (append-nil u.stream))
    (subst (λ (x : List Message). HasTaken u.stream x v) (sym (append-nil u.received)) u.taken) in
    let on : MovesOn limit u.received waits [] t.rest [] = moves_on limit v [] waits logins [] [] [] v u refl t u.limit_is in
    let left : on.left ≡ [] = sym on.whole ∙ none in
    let reads : t.rest ++ [] ≡ [] =
    subst (λ (x : List Message). ReadsAs limit (logins_after_all no_login (u.received ++ [])) (t.rest ++ []) x) left on.reads in
    let nothing : t.rest ≡ [] = sym (append-nil t.rest) ∙ reads in
    record { held = t.held ∙ ap settled nothing ∙ settled-short [] (omega arith); live = t.live }

abbrev history : List PairEvent → List Done → History
history events outcomes = record { requests = requests_of events; outcomes = outcomes }

-- with nothing on its way the target has no PDU that is begun
empty_there : (i : initiator.InitiatorConnection) (t : target.TargetConnection) (disk : Disk) (blocks : ℕ) (requests : List Request) (outcomes : List Done)
    → HaveServed blocks requests outcomes (ends_of i t disk [] []) → target_machine.is_machine_closed t.machine ≡ false → IsEmpty t.framing
empty_there i t disk blocks requests outcomes h live =
    let c : Opening = loop_opening blocks in
    let w : World = world_of (ends_of i t disk [] []) h.bytes in
    let s = served c h.events w outcomes (is_normal blocks) h.runs in
    let none = none_waits c (Serves c) (history h.events outcomes) w s refl refl in
    elim s.to_target [
      | inl on ↦ empty_of (target_session.target_limit c.target) t.framing s.out s.there on.1 none.0
      | inr over ↦ absurd (apart (ap target_machine.is_machine_closed s.machine ∙ over.0) live)
    ]

not_cut : (fault : StreamFault) (v : Framing) → IsEmpty v → FinishFails v fault → ⊥
not_cut stream.NoMemory v e f = f
not_cut (stream.Head fault place) v e f = f
not_cut (stream.OverLimit place) v e f = f
not_cut (stream.Truncated place) v e f = (let some = f.1 in let none = ap length e.held in omega (arith, some, none))
not_cut stream.Failed v e f = apart f e.live

over_phase : (p : Phase) → is_closed_phase p ≡ true → p ≡ phases.Closed
over_phase phases.Login e = absurd (cc e)
over_phase phases.Full e = absurd (cc e)
over_phase phases.Closed e = refl

-- so its stream ends well, unless the session is over
pub finish_blameless : (fault : TargetFault) (i : initiator.InitiatorConnection) (old new : target.TargetConnection) (disk : Disk)
    → target.TargetFinishPost old (Err fault) new → (old.machine.session.phase ≡ phases.Closed → ⊥)
    → IsBlameless (ends_of i old disk [] []) (target_serve_fault fault)
finish_blameless target_faults.NoMemory i old new disk f goes_on = λ blocks requests outcomes h. tt
finish_blameless (target_faults.Stream fault) i old new disk f goes_on = λ blocks requests outcomes h.
    not_cut fault old.framing (empty_there i old disk blocks requests outcomes h f.0) f.1
finish_blameless (target_faults.Protocol rule) i old new disk f goes_on = λ blocks requests outcomes h. f
finish_blameless target_faults.Closed i old new disk f goes_on = λ blocks requests outcomes h.
    goes_on (over_phase old.machine.session.phase f.0)

-- ---- commands before a logout

logout_is : (command : Command) → command_request command ≡ kinds.Logout → is_logout command ≡ true
logout_is (TestUnitReady unit) e = absurd (cc e)
logout_is (Inquiry unit allocation_length) e = absurd (cc e)
logout_is Capacity e = absurd (cc e)
logout_is Capacity16 e = absurd (cc e)
logout_is Luns e = absurd (cc e)
logout_is (Read first blocks) e = absurd (cc e)
logout_is (Write first blocks byte) e = absurd (cc e)
logout_is (Sync first blocks) e = absurd (cc e)
logout_is (Ping bytes) e = absurd (cc e)
logout_is Logout e = refl

not_last : (front more : List Command) (x : Command) → [] ≡ front ++ x ∷ more → ⊥
not_last [] more x e = cc
not_last (command ∷ front) more x e = cc

same_command : (a b : Command) (x y : List Command) → a ∷ x ≡ b ∷ y → a ≡ b
same_command a b x y e = cc

same_commands : (a b : Command) (x y : List Command) → a ∷ x ≡ b ∷ y → x ≡ y
same_commands a b x y e = cc

same_request : (a b : Request) (x y : List Request) → a ∷ x ≡ b ∷ y → a ≡ b
same_request a b x y e = cc

same_requests : (a b : Request) (x y : List Request) → a ∷ x ≡ b ∷ y → x ≡ y
same_requests a b x y e = cc

-- the first of them is no logout, nor is one behind it
ends_behind : (first : Command) (front : List Command) (past : List Request) → is_logout first ≡ false
    → command_request first ∷ map command_request front ≡ past ++ kinds.Logout ∷ [] → EndsInLogout (map command_request front)
ends_behind first front [] goes_on e =
    absurd (apart (logout_is first (same_request (command_request first) kinds.Logout (map command_request front) [] e)) goes_on)
ends_behind first front (request ∷ past) goes_on e =
    (past, same_requests (command_request first) request (map command_request front) (past ++ kinds.Logout ∷ []) e)

first_by : (b : Bool) (command first : Command) (all front more : List Command) (x : Command) → is_logout command ≡ b
    → (up_to_logout all ≡ front ++ x ∷ more → EndsInLogout (map command_request front) → ⊥)
    → (if b then command ∷ [] else command ∷ up_to_logout all) ≡ first ∷ (front ++ x ∷ more) → EndsInLogout (map command_request (first ∷ front)) → ⊥
first_by true command first all front more x is again e l = not_last front more x (same_commands command first [] (front ++ x ∷ more) e)
first_by false command first all front more x is again e l =
    let same : command ≡ first = same_command command first (up_to_logout all) (front ++ x ∷ more) e in
    again (same_commands command first (up_to_logout all) (front ++ x ∷ more) e)
    (ends_behind first front l.0 (sym (ap is_logout same) ∙ is) l.1)

-- commands behind which another one is done have no logout
pub open_front : (all front more : List Command) (x : Command) → up_to_logout all ≡ front ++ x ∷ more → EndsInLogout (map command_request front) → ⊥
open_front all [] more x e l = none_end l
open_front [] (first ∷ front) more x e l = (let bad : [] ≡ first ∷ (front ++ x ∷ more) = e in cc)
open_front (command ∷ all) (first ∷ front) more x e l =
    first_by (is_logout command) command first all front more x refl (open_front all front more x) e l

-- ---- faults that are no end's

pub write_blameless : (result : Result (Unit {0}) ServeFault) (P : ServeFault → Type 0) → IfErr result (λ fault. (fault ≡ serve.Write) × P fault)
    → IfErr result BlamesNoEnd
write_blameless (Ok unit) P e = tt
write_blameless (Err fault) P e = subst BlamesNoEnd (sym e.0) tt

pub script_blameless : (fault : ServeFault) (script : List ℕ) → ScriptFails fault script → BlamesNoEnd fault
script_blameless (serve.Script n) script f = tt
script_blameless serve.NoMemory script f = tt
script_blameless serve.Read script f = tt
script_blameless serve.Sync script f = tt
script_blameless serve.NoRandom script f = tt
script_blameless serve.Write script f = tt
script_blameless serve.Network script f = tt
script_blameless (serve.Target fault) script f = f
script_blameless (serve.Initiator fault) script f = f

pub blameless_at : (result : Result (Unit {0}) ServeFault) (there : BothEnds) (blocks : ℕ) → IfErr result (IsBlameless there) → AreSomeDisk blocks there
    → IfErr result BlamesNoEnd
blameless_at (Ok unit) there blocks e s = tt
blameless_at (Err fault) there blocks e s = e blocks s.0 (outcomes_on blocks s.0) s.1
