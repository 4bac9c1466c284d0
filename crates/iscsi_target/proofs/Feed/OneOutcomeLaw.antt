-- A call of feed has one outcome.
use Rattle.std.proofs.Common.{◌≡◌, inl, inr, ℕ, Bool, true, false, List, ◌++◌, take, drop, Some, None, Result, Ok, Err, refl, sym, ap, subst, ◌∙◌, arith}
use Rattle.std.proofs.Common.{append_assoc}
use Rattle.std.specs.Prelude.{Option}
use Rattle.std.proofs.lemmas.List.{drop_all, take-append-drop}
use Rattle.scsi_disk.specs.Disk.{Disk}
use Rattle.iscsi_stream.specs.Stream.{Message}
use Rattle.iscsi_stream.specs.Canonical.{canon}
use Rattle.iscsi_stream.specs.Framing.{HasTaken}
use Rattle.iscsi_stream.proofs.FrontLemmas.{Receiver, Sight, ReceivesUpTo, ReceiveAlike, IsLeft}
use Rattle.iscsi_stream.proofs.FrontLemmas.{framer_receives, framer_leaves, framer_refuses, receive_alike, sight}
use Rattle.iscsi_stream.proofs.OneEndingLaw.{Outcome, Ended, Over, GoesOn, Breaks, call, EndAlike, end_of, end_alike}
use Rattle.iscsi_stream.proofs.ReadyLemmas.{apart}
use Rattle.iscsi_login.specs.declared.phase.Phase.{Phase}
use Rattle.iscsi_target.specs.declared.fault.TargetFault.{TargetFault}
use Rattle.iscsi_target.specs.declared.fault.TargetFault.TheVariants as faults
use Rattle.iscsi_target.specs.State.{Machine, TargetStep, closed_machine}
use Rattle.iscsi_target.specs.State.{writes_joined}
use Rattle.iscsi_target.specs.Machine.{answers, is_machine_closed, then_stepped}
use Rattle.iscsi_target.specs.Feed.{Scene, TargetsAlike, TargetConnection, CallEnds, TargetFeedPost, CallsAlike, FeedPostIfClosed, FeedsFirstBytes, GoesWell, Store, scene}
use Rattle.iscsi_target.proofs.Steps.NumberLaws.{closed_answers}
use Rattle.iscsi_target.proofs.Steps.TurnLemmas.{then_nothing}
use Rattle.iscsi_target.proofs.Steps.AppendLemmas.{answers_append}
use Rattle.iscsi_target.proofs.Steps.ClosingLemmas.{answers_close}
use Rattle.iscsi_target.proofs.Feed.FedStreamLemmas.{stands}

-- ---- what messages lead to

receiver : (protected : Bool) → Machine → Disk → Receiver TargetStep
receiver protected s disk = record {
  to = answers protected s disk;
  over = λ r. is_machine_closed r.machine;
  stays = λ first more over. (let r : TargetStep = answers protected s disk first in
      answers_append protected s disk first more ∙ ap (then_stepped r) (closed_answers protected r.machine r.disk more over) ∙ then_nothing r);
}

-- ---- what ended a call

-- what is answered where the framer refuses nothing
abbrev outcome_of : Option ℕ → Phase → Result Phase TargetFault
outcome_of None phase = Ok phase
outcome_of (Some rule) phase = Err (faults.Protocol rule)

abbrev outcome : TargetStep → Result Phase TargetFault
outcome r = outcome_of r.rule r.machine.session.phase

answered_ok : (r : TargetStep) (phase : Phase) → r.rule ≡ None → phase ≡ r.machine.session.phase → Ok phase ≡ outcome r
answered_ok r phase rule e = ap Ok e ∙ ap (λ (x : Option ℕ). outcome_of x r.machine.session.phase) (sym rule)

answered_rule : (r : TargetStep) (rule : ℕ) → r.rule ≡ Some rule → Err (faults.Protocol rule) ≡ outcome r
answered_rule r rule e = ap (λ (x : Option ℕ). outcome_of x r.machine.session.phase) (sym e)

-- what a call leaves behind messages that lead to this
abbrev leaves : TargetStep → Outcome Machine (Result Phase TargetFault)
leaves r = record {
  is_over = is_machine_closed;
  session = writes_joined r.machine;
  ended = outcome r;
  going = outcome r;
  shut = closed_machine r.machine;
  broken = λ fault. Err (faults.Stream fault);
  shut_is = refl;
}

-- the end of a call, by what it answers
ended : (protected : Bool) (s : List ℕ) (ms : List Message) (from : Scene) (piece : List ℕ)
    (result : Result Phase TargetFault) (to : Scene)
    (f : FeedsFirstBytes protected from piece result to) (h : HasTaken s ms f.framing)
    → GoesWell result from.store to.store → CallEnds piece result f.framing f.count f.stepped to.connection
    → Ended (leaves f.stepped) (sight s ms f.framing h (drop f.count piece)) result to.connection.machine to.connection.framing
ended protected s ms from piece (Ok phase) to f h well e =
    elim e.3 [
      | inl over ↦ Over over (answered_ok f.stepped phase e.0 e.2) e.1
      | inr on_ ↦
          GoesOn on_.live (answered_ok f.stepped phase e.0 e.2) e.1
          (subst (IsLeft (sight s ms f.framing h (drop f.count piece))) (sym on_.framing_is)
          (framer_leaves s ms f.framing (drop f.count piece) h f.answered.ready (drop_all f.count piece (omega (arith, on_.all)))))
    ]
ended protected s ms from piece (Err faults.NoMemory) to f h well e = absurd (well.memory refl)
ended protected s ms from piece (Err (faults.Stream fault)) to f h well e =
    Breaks fault e.0.live refl e.3 (framer_refuses s ms f.framing (drop f.count piece) fault h e.1 e.2)
ended protected s ms from piece (Err (faults.Protocol rule)) to f h well e =
    let is : f.stepped ≡ answers protected from.connection.machine from.store.disk f.messages = f.answered.works well.device in
    Over (ap (λ (r : TargetStep). is_machine_closed r.machine) is ∙ answers_close protected from.connection.machine from.store.disk f.messages rule
    (ap (λ (r : TargetStep). r.rule) (sym is) ∙ e.0))
    (answered_rule f.stepped rule e.0) e.1
ended protected s ms from piece (Err faults.Closed) to f h well e = absurd e

-- ---- two calls

-- what a call answered, the target and the blocks behind it, and what was written
record CallEnd : Type 0 where
  pub result : Result Phase TargetFault
  pub connection : TargetConnection
  pub disk : Disk
  pub written : List ℕ

-- the parts of the end of a call
abbrev call_end : Result Phase TargetFault → TargetConnection → Disk → List ℕ → CallEnd
call_end result connection disk written = record { result = result; connection = connection; disk = disk; written = written }

-- a call received these PDUs of the stream, and ended so
record Run (protected : Bool) (stream : List ℕ) (ms : List Message) (old : TargetConnection) (disk : Disk) (output : List ℕ) (end_ : CallEnd) : Type 0 where
  messages : List Message
  sight : Sight
  receives : ReceivesUpTo (receiver protected old.machine disk) old.framing.limit stream ms messages sight
  disk_is : end_.disk ≡ (answers protected old.machine disk messages).disk
  output_is : end_.written ≡ output ++ canon (answers protected old.machine disk messages).answers
  ended : Ended (leaves (answers protected old.machine disk messages)) sight end_.result end_.connection.machine end_.connection.framing

run_of : (protected : Bool) (stream : List ℕ) (ms : List Message) (old : TargetConnection) (before : Store) (output piece : List ℕ)
    (result : Result Phase TargetFault)
    (new : TargetConnection) (after : Store) (written : List ℕ)
    → HasTaken stream ms old.framing → FeedsFirstBytes protected (scene old before output) piece result (scene new after written) → GoesWell result before after
    → Run protected (stream ++ piece) ms old before.disk output (call_end result new after.disk written)
unfolding receiver
run_of protected stream ms old before output piece result new after written t f well =
    let s : List ℕ = stream ++ take f.count piece in
    let h : HasTaken s (ms ++ f.messages) f.framing = f.answered.taken stream ms t in
    let is : f.stepped ≡ answers protected old.machine before.disk f.messages = f.answered.works well.device in
    let stood = stands protected output f.framing (drop f.count piece) f.stepped f.answered.failures result new.machine after written well.memory f.leaves in
    let x : Sight = sight s (ms ++ f.messages) f.framing h (drop f.count piece) in
    let e : Ended (leaves (answers protected old.machine before.disk f.messages)) x result new.machine new.framing =
    subst (λ (r : TargetStep). Ended (leaves r) x result new.machine new.framing) is
    (ended protected s (ms ++ f.messages) (scene old before output) piece result (scene new after written) f h well f.ends) in
    let whole : stream ++ piece ≡ s ++ drop f.count piece =
    ap (λ (y : List ℕ). stream ++ y) (sym (take-append-drop f.count piece)) ∙ sym (append_assoc stream (take f.count piece) (drop f.count piece)) in
    record {
      messages = f.messages;
      sight = x;
      receives = framer_receives (receiver protected old.machine before.disk) old.framing.limit (stream
          ++ piece) s (drop f.count piece) ms f.messages f.framing h f.answered.limit whole
          (end_of (leaves (answers protected old.machine before.disk f.messages)) x result new.machine new.framing e);
      disk_is = stood.disk ∙ ap (λ (r : TargetStep). r.disk) is;
      output_is = stood.output_is ∙ ap (λ (r : TargetStep). output ++ canon r.answers) is;
      ended = e;
    }

run_alike : (protected : Bool) (stream : List ℕ) (ms : List Message) (old : TargetConnection) (disk : Disk) (output : List ℕ)
    (result other : Result Phase TargetFault)
    (one two : Scene)
    → Run protected stream ms old disk output (call_end result one.connection one.store.disk one.output)
    → Run protected stream ms old disk output (call_end other two.connection two.store.disk two.output) →
    CallsAlike result other one two
unfolding receiver
run_alike protected stream ms old disk output result other one two a b =
    let h : ReceiveAlike (receiver protected old.machine disk) a.messages b.messages a.sight b.sight =
    receive_alike (receiver protected old.machine disk) old.framing.limit stream ms a.messages b.messages a.sight b.sight a.receives b.receives in
    let e : EndAlike is_machine_closed (call result one.connection.machine one.connection.framing) (call other two.connection.machine two.connection.framing) =
    end_alike (leaves (answers protected old.machine disk a.messages)) a.sight b.sight result other one.connection.machine two.connection.machine
    one.connection.framing
    two.connection.framing h.sight a.ended
    (subst (λ (r : TargetStep). Ended (leaves r) b.sight other two.connection.machine two.connection.framing) h.same b.ended) in
    record {
      answered = e.answered;
      alike = record { machine = e.session_is; framing = e.framing };
      disk = b.disk_is ∙ ap (λ (r : TargetStep). r.disk) h.same ∙ sym a.disk_is;
      output = b.output_is ∙ ap (λ (r : TargetStep). output ++ canon r.answers) h.same ∙ sym a.output_is;
    }

-- ---- the law

by_state : (protected closed_ : Bool) (stream : List ℕ) (ms : List Message) (from : Scene) (same : TargetConnection) (store : Store)
    (piece : List ℕ)
    (result other : Result Phase TargetFault) (one two : Scene)
    → is_machine_closed from.connection.machine ≡ closed_ → (is_machine_closed from.connection.machine ≡ false → HasTaken stream ms from.connection.framing)
    → TargetsAlike from.connection same → store.disk
    ≡ from.store.disk
    → FeedPostIfClosed protected closed_ from piece result one → GoesWell result from.store one.store →
    FeedPostIfClosed protected closed_ (scene same store from.output) piece other two → GoesWell other store two.store
    → CallsAlike result other one two
by_state protected true stream ms from same store piece result other one two c t like disk f well g well' =
    let machine : two.connection.machine ≡ one.connection.machine = ap (λ (x : TargetConnection). x.machine) g.connection ∙ like.machine
    ∙ ap (λ (x : TargetConnection). x.machine) (sym f.connection) in
    record {
      answered = g.result_is ∙ sym f.result_is;
      alike = record { machine = machine; framing = λ live. absurd (apart (ap (λ (x : TargetConnection). is_machine_closed x.machine) f.connection ∙ c) live) };
      disk = ap (λ (x : Store). x.disk) g.store ∙ disk ∙ ap (λ (x : Store). x.disk) (sym f.store);
      output = g.output_is ∙ sym f.output_is;
    }
by_state protected false stream ms from same store piece result other one two c t like disk f well g well' =
    let is : same ≡ from.connection = λ i. record { machine = like.machine i; framing = like.framing c i } in
    let t' : HasTaken stream ms same.framing = subst (λ (x : TargetConnection). HasTaken stream ms x.framing) (sym is) (t c) in
    let r : Run protected (stream ++ piece) ms same store.disk from.output (call_end other two.connection two.store.disk two.output) =
    run_of protected stream ms same store from.output piece other two.connection two.store two.output t' g well' in
    run_alike protected (stream ++ piece) ms from.connection from.store.disk from.output result other one two
    (run_of protected stream ms from.connection from.store from.output piece result one.connection one.store one.output (t c) f well)
    (subst (λ (d : Disk). Run protected (stream ++ piece) ms from.connection d from.output (call_end other two.connection two.store.disk two.output)) disk
    (subst (λ (x : TargetConnection). Run protected (stream ++ piece) ms x store.disk from.output (call_end other two.connection two.store.disk two.output))
    is r))

pub one_outcome : (protected : Bool) (stream piece : List ℕ) (from one two : Scene) (ms : List Message) (same : TargetConnection)
    (store : Store)
    (result other : Result Phase TargetFault)
    → (is_machine_closed from.connection.machine ≡ false → HasTaken stream ms from.connection.framing) → TargetsAlike from.connection same → store.disk ≡
    from.store.disk
    → TargetFeedPost protected from piece result one → GoesWell result from.store one.store
    → TargetFeedPost protected (scene same store from.output) piece other two →
    GoesWell other store two.store
    → CallsAlike result other one two
one_outcome protected stream piece from one two ms same store result other t like disk f well g well' =
    by_state protected (is_machine_closed from.connection.machine) stream ms from same store piece result other one two
    refl t like disk f well
    (subst (λ (x : Bool). FeedPostIfClosed protected x (scene same store from.output) piece other two) (ap is_machine_closed like.machine) g)
    well'
