-- Inputs of an initiator, one after another, and how it ends.
use Rattle.std.proofs.Common.{◌≡◌, ◌≢◌, ℕ, Bool, true, false, List, [], ◌∷◌, ◌++◌, map, Option, Some, None, refl, sym}
use Rattle.std.proofs.Common.{ap, ◌∙◌, subst, append_assoc}
use Rattle.std.specs.Prelude.{if◌then◌else◌}
use Rattle.std.proofs.lemmas.List.{append-nil}
use Rattle.iscsi_stream.specs.Segment.{no_login}
use Rattle.iscsi_stream.specs.Stream.{Message, ReadsAs}
use Rattle.iscsi_stream.specs.Canonical.{canon}
use Rattle.iscsi_stream.specs.declared.fault.StreamFault.{StreamFault}
use Rattle.iscsi_stream.specs.declared.fault.StreamFault.TheVariants as stream
use Rattle.iscsi_stream.specs.Framing.{Framing, HasTaken, FramerFeedFails, is_ready}
use Rattle.iscsi_stream.proofs.TakingLemmas.{at_opening}
use Rattle.iscsi_stream.proofs.ReadyLemmas.{not_whole-nil, apart}
use Rattle.iscsi_initiator.specs.declared.fault.InitiatorFault.TheVariants as faults
use Rattle.iscsi_initiator.specs.State.{InitiatorSession, new_session, is_session_closed}
use Rattle.iscsi_initiator.specs.Steps.{InitiatorStep, quiet}
use Rattle.iscsi_text.specs.Canonical.{canonical_text}
use Rattle.iscsi_initiator.specs.Login.{start_step, fits_segment, offered}
use Rattle.iscsi_initiator.specs.Machine.{initiator_step, steps}
use Rattle.iscsi_initiator.specs.Calls.{InitiatorConnection}
use Rattle.iscsi_initiator.specs.Calls.{after_taking, initiator_limit}
use Rattle.iscsi_initiator.proofs.OneOutcomeLaw.{closed_step}
use Rattle.iscsi_login.specs.declared.stage.Stage.TheVariants as stages
use Rattle.iscsi_pair.proofs.Ends.InitiatorClose.{IsFullStage, inputs_full, text_goes}
use Rattle.iscsi_pair.specs.declared.step.EndFault.{EndFault}
use Rattle.iscsi_pair.specs.declared.step.EndFault.TheVariants as ends
use Rattle.iscsi_pair.specs.World.{Opening, started, new_pair}
use Rattle.iscsi_pair.specs.Traffic.{sent_in, session_after_all, sent, coming, coming_in, demanded, demanded_in}
use Rattle.iscsi_initiator.specs.Laws.{SessionInput, Comes, met}

-- ---- inputs, one after another

pub after_append : (m : InitiatorSession) (a b : List SessionInput) → session_after_all m (a ++ b) ≡ session_after_all (session_after_all m a) b
after_append m [] b = refl
after_append m (x ∷ a) b = after_append (met m x) a b

pub sent_append : (m : InitiatorSession) (a b : List SessionInput) → sent m (a ++ b) ≡ sent m a ++ sent (session_after_all m a) b
sent_append m [] b = refl
sent_append m (x ∷ a) b = ap (λ (ms : List Message). sent_in m x ++ ms) (sent_append (met m x) a b)
    ∙ sym (append_assoc (sent_in m x) (sent (met m x) a) (sent (session_after_all (met m x) a) b))

pub coming_append : (a b : List SessionInput) → coming (a ++ b) ≡ coming a ++ coming b
coming_append [] b = refl
coming_append (x ∷ a) b = ap (λ (ms : List Message). coming_in x ++ ms) (coming_append a b) ∙ sym (append_assoc (coming_in x) (coming a) (coming b))

pub demanded_append : (a b : List SessionInput) → demanded (a ++ b) ≡ demanded a ++ demanded b
demanded_append [] b = refl
demanded_append (x ∷ a) b =
    ap (λ (is : List SessionInput). demanded_in x ++ is) (demanded_append a b) ∙ sym (append_assoc (demanded_in x) (demanded a) (demanded b))

pub demanded_messages : (ms : List Message) → demanded (map Comes ms) ≡ []
demanded_messages [] = refl
demanded_messages (m ∷ ms) = demanded_messages ms

pub coming_messages : (ms : List Message) → coming (map Comes ms) ≡ ms
coming_messages [] = refl
coming_messages (m ∷ ms) = ap (λ (xs : List Message). m ∷ xs) (coming_messages ms)

-- what several messages lead to
pub record AreSteps (m : InitiatorSession) (ms : List Message) : Type 0 where
  pub machine : session_after_all m (map Comes ms) ≡ (steps m ms).machine
  pub output : sent m (map Comes ms) ≡ (steps m ms).output

closed_steps : (m : InitiatorSession) (ms : List Message) → is_session_closed m ≡ true → (session_after_all m (map Comes ms) ≡ m) × (sent m (map Comes ms) ≡ [])
closed_steps m [] c = (refl, refl)
closed_steps m (x ∷ ms) c =
    let e : initiator_step m x ≡ quiet m = closed_step m x c in
    let r = closed_steps m ms c in (
      ap (λ (s : InitiatorStep). session_after_all s.machine (map Comes ms)) e ∙ r.0,
      ap (λ (s : InitiatorStep). s.output ++ sent s.machine (map Comes ms)) e ∙ r.1,
    )

steps_if : (b : Bool) (m : InitiatorSession) (x : Message) (ms : List Message) → is_session_closed (initiator_step m x).machine ≡ b
    → AreSteps (initiator_step m x).machine ms → AreSteps m (x ∷ ms)
unfolding steps
steps_if true m x ms is r =
    let q = closed_steps (initiator_step m x).machine ms is in
    record {
      machine = rw is q.0;
      output = rw is (ap (λ (o : List Message). (initiator_step m x).output ++ o) q.1 ∙ append-nil (initiator_step m x).output);
    }
steps_if false m x ms is r = record {
  machine = rw is r.machine;
  output = rw is (ap (λ (o : List Message). (initiator_step m x).output ++ o) r.output);
}

pub are_steps : (m : InitiatorSession) (ms : List Message) → AreSteps m ms
unfolding steps
are_steps m [] = record { machine = refl; output = refl }
are_steps m (x ∷ ms) = steps_if (is_session_closed (initiator_step m x).machine) m x ms refl (are_steps (initiator_step m x).machine ms)

-- ---- the end

abbrev pub begun : Opening → InitiatorSession
begun c = (started c).machine

-- all that it sends at these inputs, its first text before them
abbrev pub all_sent : Opening → List SessionInput → List Message
all_sent c inputs = (start_step (new_session c.initiator)).output ++ sent (begun c) inputs

-- the first of the bytes moved are the messages that came, and what it sent then was queued, but for what was lost where memory ran out
pub record InitiatorFront (c : Opening) (moved out : List ℕ) (i : InitiatorConnection) : Type 0 where
  pub limit : ℕ
  pub inputs : List SessionInput
  pub given : List ℕ
  pub rest : List ℕ
  pub lost : List ℕ
  pub whole : moved ≡ given ++ rest
  pub reads : ReadsAs limit no_login given (coming inputs)
  pub output : out ++ lost ≡ canon (all_sent c inputs)
  pub stage : i.machine.stage ≡ (session_after_all (begun c) inputs).stage
  pub held : i.machine.held ≡ (session_after_all (begun c) inputs).held

-- the inputs are these first ones, and others behind them
pub record Follows (past inputs : List SessionInput) : Type 0 where
  pub later : List SessionInput
  pub is : inputs ≡ past ++ later

pub follows_more : (past inputs more : List SessionInput) → Follows past inputs → Follows past (inputs ++ more)
follows_more past inputs more f =
    record { later = f.later ++ more; is = ap (λ (x : List SessionInput). x ++ more) f.is ∙ append_assoc past f.later more }

-- an end that hasn't failed has taken all bytes moved
pub record InitiatorLives (past : List SessionInput) (c : Opening) (acts : List SessionInput) (moved out : List ℕ) (i : InitiatorConnection) : Type 0 where
  pub inputs : List SessionInput
  pub taken : HasTaken moved (coming inputs) i.framing
  pub order : demanded inputs ≡ acts
  pub follows : Follows past inputs
  pub machine : i.machine ≡ session_after_all (begun c) inputs
  pub output : out ≡ canon (all_sent c inputs)
  pub unready : is_ready i.framing ≡ false
  pub limit : i.framing.limit ≡ (started c).framing.limit

-- the session ended without a fault: with the last of the messages that came
pub record InitiatorOver (past : List SessionInput) (c : Opening) (acts : List SessionInput) (moved out : List ℕ) (i : InitiatorConnection) : Type 0 where
  pub full : i.machine.stage ≡ stages.Full
  pub inputs : List SessionInput
  pub given : List ℕ
  pub rest : List ℕ
  pub whole : moved ≡ given ++ rest
  pub reads : ReadsAs (initiator_limit c.initiator) no_login given (coming inputs)
  pub order : demanded inputs ≡ acts
  pub follows : Follows past inputs
  pub machine : i.machine ≡ session_after_all (begun c) inputs
  pub output : out ≡ canon (all_sent c inputs)

-- the session is closed, by the last of the messages that came
pub record InitiatorEnded (c : Opening) (moved out : List ℕ) (i : InitiatorConnection) : Type 0 where
  pub limit : ℕ
  pub inputs : List SessionInput
  pub given : List ℕ
  pub rest : List ℕ
  pub lost : List ℕ
  pub whole : moved ≡ given ++ rest
  pub reads : ReadsAs limit no_login given (coming inputs)
  pub output : out ++ lost ≡ canon (all_sent c inputs)
  pub stage : i.machine.stage ≡ (session_after_all (begun c) inputs).stage
  pub closed : is_session_closed (session_after_all (begun c) inputs) ≡ true

-- the framer refused what came behind these messages
pub record InitiatorBroken (fault : StreamFault) (c : Opening) (moved out : List ℕ) (i : InitiatorConnection) : Type 0 where
  pub inputs : List SessionInput
  pub framing : Framing
  pub front : List ℕ
  pub taken : HasTaken front (coming inputs) framing
  pub limit : framing.limit ≡ (started c).framing.limit
  pub piece : List ℕ
  pub more : List ℕ
  pub whole : moved ≡ front ++ (piece ++ more)
  pub refused : FramerFeedFails framing piece fault
  pub some : fault ≢ stream.NoMemory
  pub output : out ≡ canon (all_sent c inputs)
  pub stage : i.machine.stage ≡ (session_after_all (begun c) inputs).stage

-- what a fault says that is kept; of a refused request it says nothing of the stream
abbrev pub InitiatorFailed : Option EndFault → Opening → List ℕ → List ℕ → InitiatorConnection → Type 0
InitiatorFailed None c moved out i = Unit {0}
InitiatorFailed (Some (ends.Submit fault)) c moved out i = Unit {0}
InitiatorFailed (Some (ends.Feed faults.NoMemory)) c moved out i = Unit {0}
InitiatorFailed (Some (ends.Feed (faults.Stream fault))) c moved out i = InitiatorBroken fault c moved out i
InitiatorFailed (Some (ends.Feed (faults.Protocol rule))) c moved out i = InitiatorEnded c moved out i
InitiatorFailed (Some (ends.Feed (faults.Refused class detail))) c moved out i = InitiatorEnded c moved out i
InitiatorFailed (Some (ends.Feed (faults.BadAnswer key))) c moved out i = InitiatorEnded c moved out i
InitiatorFailed (Some (ends.Feed faults.Closed)) c moved out i = InitiatorEnded c moved out i

-- the bytes that moved to the initiator, and those that it has sent
pub record Streams : Type 0 where
  pub moved : List ℕ
  pub out : List ℕ

-- these two together
abbrev pub streams : List ℕ → List ℕ → Streams
streams moved out = record { moved = moved; out = out }

pub record InitiatorSide (past : List SessionInput) (c : Opening) (acts : List SessionInput) (s : Streams) (i : InitiatorConnection)
    (fault : Option EndFault) : Type 0 where
  pub front : InitiatorFront c s.moved s.out i
  pub over : fault ≡ None → is_session_closed i.machine ≡ true → InitiatorOver past c acts s.moved s.out i
  pub lives : fault ≡ None → is_session_closed i.machine ≡ false → InitiatorLives past c acts s.moved s.out i
  pub failed : InitiatorFailed fault c s.moved s.out i

pub front_taken : (c : Opening) (moved more out lost : List ℕ) (inputs : List SessionInput) (v : Framing) (i : InitiatorConnection)
    → HasTaken moved (coming inputs) v
    → out ++ lost ≡ canon (all_sent c inputs)
    → i.machine.stage ≡ (session_after_all (begun c) inputs).stage → i.machine.held ≡ (session_after_all (begun c) inputs).held
    → InitiatorFront c (moved ++ more) out i
front_taken c moved more out lost inputs v i h o s e = record {
  limit = v.limit;
  inputs = inputs;
  given = h.given;
  rest = h.rest ++ more;
  lost = lost;
  whole = ap (λ (x : List ℕ). x ++ more) h.whole ∙ append_assoc h.given h.rest more;
  reads = h.reads;
  output = o;
  stage = s;
  held = e;
}

-- bytes that are dropped change nothing
pub front_drops : (c : Opening) (moved more out : List ℕ) (i : InitiatorConnection) → InitiatorFront c moved out i → InitiatorFront c (moved ++ more) out i
front_drops c moved more out i f = record {
  limit = f.limit;
  inputs = f.inputs;
  given = f.given;
  rest = f.rest ++ more;
  lost = f.lost;
  whole = ap (λ (x : List ℕ). x ++ more) f.whole ∙ append_assoc f.given f.rest more;
  reads = f.reads;
  output = f.output;
  stage = f.stage;
  held = f.held;
}

pub ended_drops : (c : Opening) (moved more out : List ℕ) (i : InitiatorConnection) → InitiatorEnded c moved out i → InitiatorEnded c (moved ++ more) out i
ended_drops c moved more out i f = record {
  limit = f.limit;
  inputs = f.inputs;
  given = f.given;
  rest = f.rest ++ more;
  lost = f.lost;
  whole = ap (λ (x : List ℕ). x ++ more) f.whole ∙ append_assoc f.given f.rest more;
  reads = f.reads;
  output = f.output;
  stage = f.stage;
  closed = f.closed;
}

-- bytes that are dropped change nothing of a fault
pub fault_drops : (fault : Option EndFault) (c : Opening) (moved more out : List ℕ) (i : InitiatorConnection) → InitiatorFailed fault c moved out i
    → InitiatorFailed fault c (moved ++ more) out i
fault_drops None c moved more out i f = tt
fault_drops (Some (ends.Submit fault)) c moved more out i f = tt
fault_drops (Some (ends.Feed faults.NoMemory)) c moved more out i f = tt
fault_drops (Some (ends.Feed (faults.Stream fault))) c moved more out i f = record {
  inputs = f.inputs;
  framing = f.framing;
  front = f.front;
  taken = f.taken;
  limit = f.limit;
  piece = f.piece;
  more = f.more ++ more;
  whole = ap (λ (x : List ℕ). x ++ more) f.whole ∙ append_assoc f.front (f.piece ++ f.more) more ∙ ap (λ (x : List ℕ). f.front ++ x)
      (append_assoc f.piece f.more more);
  refused = f.refused;
  some = f.some;
  output = f.output;
  stage = f.stage;
}
fault_drops (Some (ends.Feed (faults.Protocol rule))) c moved more out i f = ended_drops c moved more out i f
fault_drops (Some (ends.Feed (faults.Refused class detail))) c moved more out i f = ended_drops c moved more out i f
fault_drops (Some (ends.Feed (faults.BadAnswer key))) c moved more out i f = ended_drops c moved more out i f
fault_drops (Some (ends.Feed faults.Closed)) c moved more out i f = ended_drops c moved more out i f

ended_taken : (c : Opening) (moved out : List ℕ) (i : InitiatorConnection) → InitiatorEnded c moved out i → InitiatorEnded c moved out (after_taking i)
ended_taken c moved out i f = record {
  limit = f.limit;
  inputs = f.inputs;
  given = f.given;
  rest = f.rest;
  lost = f.lost;
  whole = f.whole;
  reads = f.reads;
  output = f.output;
  stage = f.stage;
  closed = f.closed;
}

-- an outcome that is taken changes nothing of a fault
pub fault_taken : (fault : Option EndFault) (c : Opening) (moved out : List ℕ) (i : InitiatorConnection) → InitiatorFailed fault c moved out i
    → InitiatorFailed fault c moved out (after_taking i)
fault_taken None c moved out i f = tt
fault_taken (Some (ends.Submit fault)) c moved out i f = tt
fault_taken (Some (ends.Feed faults.NoMemory)) c moved out i f = tt
fault_taken (Some (ends.Feed (faults.Stream fault))) c moved out i f = record {
  inputs = f.inputs;
  framing = f.framing;
  front = f.front;
  taken = f.taken;
  limit = f.limit;
  piece = f.piece;
  more = f.more;
  whole = f.whole;
  refused = f.refused;
  some = f.some;
  output = f.output;
  stage = f.stage;
}
fault_taken (Some (ends.Feed (faults.Protocol rule))) c moved out i f = ended_taken c moved out i f
fault_taken (Some (ends.Feed (faults.Refused class detail))) c moved out i f = ended_taken c moved out i f
fault_taken (Some (ends.Feed (faults.BadAnswer key))) c moved out i f = ended_taken c moved out i f
fault_taken (Some (ends.Feed faults.Closed)) c moved out i f = ended_taken c moved out i f

pub lives_front : (past : List SessionInput) (c : Opening) (acts : List SessionInput) (moved out : List ℕ) (i : InitiatorConnection)
    → InitiatorLives past c acts moved out i
    → InitiatorFront c moved out i
lives_front past c acts moved out i l =
    subst (λ (x : List ℕ). InitiatorFront c x out i) (append-nil moved)
    (front_taken c moved [] out [] l.inputs i.framing i l.taken (append-nil out ∙ l.output) (ap (λ (m : InitiatorSession). m.stage) l.machine)
    (ap (λ (m : InitiatorSession). m.held) l.machine))

-- the first text leaves the login open
open_if : (b : Bool) (x y : InitiatorStep) → is_session_closed x.machine ≡ false → is_session_closed y.machine ≡ false
    → is_session_closed (if b then x else y).machine ≡ false
open_if true x y p q = p
open_if false x y p q = q

pub begun_open : (c : Opening) → is_session_closed (begun c) ≡ false
begun_open c =
    let m : InitiatorSession = record (new_session c.initiator) { started = true } in
    open_if (fits_segment m (canonical_text (offered m))) _ _ refl refl

pub full_stage : (c : Opening) (inputs : List SessionInput) → IsFullStage (session_after_all (begun c) inputs)
full_stage c inputs = inputs_full (begun c) inputs (text_goes (record (new_session c.initiator) { started = true }) refl).full

pub opening_side : (c : Opening) → InitiatorSide [] c [] (streams [] (new_pair c).to_target) (started c) None
opening_side c =
    let l : InitiatorLives [] c [] [] (new_pair c).to_target (started c) = record {
      inputs = [];
      taken = at_opening (started c).framing.limit;
      order = refl;
      follows = record { later = []; is = refl };
      machine = refl;
      output = ap canon (sym (append-nil (start_step (new_session c.initiator)).output));
      unready = not_whole-nil;
      limit = refl;
    } in
    record {
      front = lives_front [] c [] [] (new_pair c).to_target (started c) l;
      failed = tt;
      over = λ none over. absurd (apart over (begun_open c));
      lives =
          λ none live. l;
    }
