-- What happens to an initiator, from call to call.
use Rattle.std.specs.Prelude.{if◌then◌else◌, codes}
use Rattle.std.proofs.Common.{◌≡◌, ◌⊎◌, inl, inr, ℕ, Bool, true, false, List, [], ◌∷◌, ◌++◌, ◌+◌, length, map, take, Option, Some, None, Result, Ok, Err, IfErr}
use Rattle.std.proofs.Common.{refl, sym, ap, subst, ◌∙◌, append_assoc, append-nil, arith}
use Rattle.iscsi_stream.specs.Stream.{Message}
use Rattle.iscsi_login.specs.declared.phase.Phase.{Phase}
use Rattle.iscsi_login.specs.declared.phase.Phase.TheVariants as phases
use Rattle.iscsi_initiator.specs.declared.request.Done.{Done}
use Rattle.iscsi_initiator.specs.declared.request.Request.{Request}
use Rattle.iscsi_initiator.specs.declared.request.SubmitFault.{SubmitFault}
use Rattle.iscsi_initiator.specs.State.{InitiatorSettings, InitiatorSession, new_session, is_session_closed}
use Rattle.iscsi_initiator.specs.Login.{start_step}
use Rattle.iscsi_initiator.specs.Machine.{initiator_step, steps, then_steps}
use Rattle.iscsi_initiator.specs.Submitted.{submitted, or_accepted, submit_refusal}
use Rattle.iscsi_initiator.specs.Calls.{InitiatorConnection, InitiatorStartPost, InitiatorFeedPost, InitiatorSubmitPost, ReceivesWholePiece, PieceClosesSession, after_taking}
use Rattle.iscsi_initiator.specs.Laws.{InitiatorEvent, Meets, Comes, Asks, Takes, session_after, run, accepted_requests, accepted_in, accepted_if, outcomes_given, outcome_given_in, listed, AreOutcomesOf}
use Rattle.iscsi_initiator.specs.Laws as laws
use Rattle.iscsi_initiator.proofs.OutcomeLaws.{outcomes_in_order, AllOutcomes}
use Rattle.std.specs.Io.KnownBytes.{Appends, IsAtEnd}
use Rattle.iscsi_stream.specs.Normalising.{WroteFront}
use Rattle.std.proofs.KnownBytes.{Appends-trans, Appends-nil}
use Rattle.std.proofs.lemmas.List.{length-map, length-append, map-append}
use Rattle.std.proofs.lemmas.List.Concat.{flat_map-append}
use Rattle.std.proofs.Math.Seq.{take-append-add}
use Rattle.iscsi_loop.specs.declared.command.Command.{Command}
use Rattle.iscsi_loop.specs.Commands.{command_request, is_logout}
use Rattle.iscsi_loop.specs.Looping.{HaveOutcomes, FirstHaveOutcomes, LoopPost, ReadsScriptFirst, StopsWithin, transcript, initiator_settings, up_to_logout, reports}
use Rattle.iscsi_loop.specs.inner.LoopSteps.{InitiatorContinues, CommandFails, IsSessionFault, ScriptStops, ScriptRuns}
use Rattle.iscsi_loop.specs.Reports.{report}
use Rattle.iscsi_loop.specs.Script.{IsScript, ScriptFails}
use Rattle.iscsi_serving.specs.declared.fault.ServeFault.{ServeFault}
use Rattle.iscsi_serving.specs.declared.fault.ServeFault.TheVariants as serve
use Rattle.iscsi_target.specs.declared.fault.TargetFault.TheVariants as target
use Rattle.iscsi_initiator.specs.declared.fault.InitiatorFault.TheVariants as initiator

-- ---- runs in two parts

run_parts : (m : InitiatorSession) (front back : List InitiatorEvent) → run m (front ++ back) ≡ run (run m front) back
run_parts m [] back = refl
run_parts m (e ∷ front) back = run_parts (session_after m e) front back

accepted_parts : (m : InitiatorSession) (front back : List InitiatorEvent) → accepted_requests m (front ++ back) ≡ accepted_requests m front ++
    accepted_requests (run m front) back
accepted_parts m [] back = refl
accepted_parts m (e ∷ front) back =
    ap (λ (rs : List Request). accepted_in m e ++ rs) (accepted_parts (session_after m e) front back)
    ∙ sym (append_assoc (accepted_in m e) (accepted_requests (session_after m e) front) (accepted_requests (run (session_after m e) front) back))

given_parts : (m : InitiatorSession) (front back : List InitiatorEvent) → outcomes_given m (front ++ back) ≡ outcomes_given m front
    ++ outcomes_given (run m front) back
given_parts m [] back = refl
given_parts m (e ∷ front) back =
    ap (λ (ds : List Done). outcome_given_in m e ++ ds) (given_parts (session_after m e) front back)
    ∙ sym (append_assoc (outcome_given_in m e) (outcomes_given (session_after m e) front) (outcomes_given (run (session_after m e) front) back))

pub stays : (m : InitiatorSession) → InitiatorContinues m [] [] m
stays m = record { events = []; reached = refl; requests = refl; outcomes = refl }

-- one after the other
pub then_continues : (a b c : InitiatorSession) (rs ss : List Request) (ds es : List Done) → InitiatorContinues a rs ds b → InitiatorContinues b ss es c →
    InitiatorContinues a (rs ++ ss) (ds ++ es) c
then_continues a b c rs ss ds es x y =
    let at : run a x.events ≡ b = sym x.reached in
    record {
      events = x.events ++ y.events;
      reached = y.reached ∙ ap (λ (m : InitiatorSession). run m y.events) x.reached ∙ sym (run_parts a x.events y.events);
      requests = accepted_parts a x.events y.events ∙ ap (λ (m : InitiatorSession). accepted_requests a x.events ++ accepted_requests m y.events) at
          ∙ ap (λ (l : List Request). l ++ accepted_requests b y.events) x.requests ∙ ap (λ (l : List Request). rs ++ l) y.requests;
      outcomes = given_parts a x.events y.events ∙ ap (λ (m : InitiatorSession). outcomes_given a x.events ++ outcomes_given m y.events) at
          ∙ ap (λ (l : List Done). l ++ outcomes_given b y.events) x.outcomes ∙ ap (λ (l : List Done). ds ++ l) y.outcomes;
    }

-- ---- calls

pub started : (old new : InitiatorConnection) (before output : List ℕ) → InitiatorStartPost (Ok tt) old new before output
    → InitiatorContinues old.machine [] [] new.machine
started old new before output s = record {
  events = laws.Starts ∷ [];
  reached = s.1.machine ∙ sym (ap (λ (b : Bool). if b then old.machine else (start_step old.machine).machine) s.0);
  requests = refl;
  outcomes = refl;
}

quiet_step : (m : InitiatorSession) (message : Message) → InitiatorContinues m [] [] (initiator_step m message).machine
quiet_step m message = record { events = Meets (Comes message) ∷ []; reached = refl; requests = refl; outcomes = refl }

received : (m : InitiatorSession) (messages : List Message) → InitiatorContinues m [] [] (steps m messages).machine
unfolding steps
received m [] = stays m
received m (message ∷ messages) = go (is_session_closed (initiator_step m message).machine) (received (initiator_step m message).machine messages)
  where
    go : (b : Bool) → InitiatorContinues (initiator_step m message).machine [] [] (steps (initiator_step m message).machine messages).machine
        → InitiatorContinues m [] [] (if b then initiator_step m message else then_steps (initiator_step m message)
        (steps (initiator_step m message).machine messages)).machine
    go true x = quiet_step m message
    go false x = then_continues m _ _ [] [] [] [] (quiet_step m message) x

pub fed : (phase : Phase) (old new : InitiatorConnection) (piece before output : List ℕ) → InitiatorFeedPost (Ok phase) old piece new before output →
    InitiatorContinues old.machine [] [] new.machine
fed phase old new piece before output f = go f.1.1
  where
    go : ReceivesWholePiece f.1.0 new before output phase ⊎ (PieceClosesSession f.1.0 new before output None × (phase ≡ phases.Closed)) →
        InitiatorContinues old.machine [] [] new.machine
    go (inl all) = subst (λ (c : InitiatorConnection). InitiatorContinues old.machine [] [] c.machine) (sym all.connection)
        (received old.machine f.1.0.messages)
    go (inr ends) = subst (λ (m : InitiatorSession). InitiatorContinues old.machine [] [] m) (sym ends.0.machine) (received old.machine f.1.0.messages)

pub submits : (old new : InitiatorConnection) (request : Request) (before output : List ℕ) → InitiatorSubmitPost (Ok tt) old request new before output →
    InitiatorContinues old.machine (request ∷ []) [] new.machine
unfolding submitted
submits old new request before output s = record {
  events = Meets (Asks request) ∷ [];
  reached = ap (λ (c : InitiatorConnection). c.machine) s.connection;
  requests = taken_in (submit_refusal old.machine request) s.none;
  outcomes = refl;
}
  where
    taken_in : (o : Option SubmitFault) → (or_accepted o old.machine request).refusal ≡ None → accepted_if o request ++ [] ≡ request ∷ []
    taken_in None e = refl
    taken_in (Some fault) e = absurd cc

pub takes : (old : InitiatorConnection) (outcome : Done) → old.machine.done ≡ Some outcome
    → InitiatorContinues old.machine [] (outcome ∷ []) (after_taking old).machine
takes old outcome is = record { events = Meets Takes ∷ []; reached = refl; requests = refl; outcomes = ap (λ (o : Option Done). listed o ++ []) is }

-- ---- outcomes

all_of : (requests : List Request) (outcomes more : List Done) → length outcomes ≡ length requests → AreOutcomesOf requests (outcomes ++ more) →
    AllOutcomes requests outcomes
all_of [] [] more same are = tt
all_of [] (outcome ∷ outcomes) more same are = absurd are
all_of (request ∷ requests) [] more same are = absurd (omega arith)
all_of (request ∷ requests) (outcome ∷ outcomes) more same are = (are.0, all_of requests outcomes more (omega arith) are.1)

-- as many outcomes as requests are theirs
pub each_outcome : (settings : InitiatorSettings) (m : InitiatorSession) (requests : List Request) (outcomes : List Done)
    → InitiatorContinues (new_session settings) requests outcomes m →
    length outcomes ≡ length requests → AllOutcomes requests outcomes
each_outcome settings m requests outcomes c same =
    let law = outcomes_in_order settings c.events in
    let asked : AreOutcomesOf requests (outcomes_given (new_session settings) c.events ++ listed (run (new_session settings) c.events).done) =
    subst (λ (rs : List Request). AreOutcomesOf rs (outcomes_given (new_session settings) c.events ++ listed (run (new_session settings) c.events).done))
    c.requests law in
    let taken_too : AreOutcomesOf requests (outcomes ++ listed (run (new_session settings) c.events).done) =
    subst (λ (ds : List Done). AreOutcomesOf requests (ds ++ listed (run (new_session settings) c.events).done)) c.outcomes asked in
    all_of requests outcomes (listed (run (new_session settings) c.events).done) same taken_too

-- ---- commands

pub record DoneSoFar (all rest : List Command) (m : InitiatorSession) (contents_old contents_new : Option (List ℕ)) : Type 0 where
  pub front : List Command
  pub outcomes : List Done
  pub continues : InitiatorContinues (new_session initiator_settings) (map command_request front) outcomes m
  pub same : length outcomes ≡ length front
  pub runs : up_to_logout all ≡ front ++ up_to_logout rest
  pub written : Appends contents_old contents_new (reports outcomes)

pub done_none : (all : List Command) (m : InitiatorSession) (contents : Option (List ℕ)) → InitiatorContinues (new_session initiator_settings) [] [] m →
    DoneSoFar all all m contents contents
done_none all m contents continues = record { front = []; outcomes = []; continues = continues; same = refl; runs = refl; written = Appends-nil contents }

have_outcomes : (commands : List Command) (outcomes : List Done) → AllOutcomes (map command_request commands) outcomes → HaveOutcomes commands outcomes
have_outcomes [] [] all = tt
have_outcomes [] (outcome ∷ outcomes) all = absurd all
have_outcomes (command ∷ commands) [] all = absurd all
have_outcomes (command ∷ commands) (outcome ∷ outcomes) all = (all.0, have_outcomes commands outcomes all.1)

-- no command is left to be run
pub done_all : (all rest : List Command) (m : InitiatorSession) (contents_old contents_new : Option (List ℕ)) → DoneSoFar all rest m contents_old contents_new →
    up_to_logout rest ≡ [] → ScriptRuns all contents_old contents_new
done_all all rest m contents_old contents_new d none =
    let runs : up_to_logout all ≡ d.front = d.runs ∙ ap (λ (cs : List Command). d.front ++ cs) none ∙ append-nil d.front in
    let same : length d.outcomes ≡ length (map command_request d.front) = d.same ∙ sym (length-map d.front command_request) in
    let each = each_outcome initiator_settings m (map command_request d.front) d.outcomes d.continues same in
    (d.outcomes, subst (λ (cs : List Command). HaveOutcomes cs d.outcomes) (sym runs) (have_outcomes d.front d.outcomes each), d.written)

-- a command and its line
pub done_more : (all rest more : List Command) (command : Command) (m n : InitiatorSession) (done : Done)
    (contents_old contents_now contents_new : Option (List ℕ)) →
    DoneSoFar all rest m contents_old contents_now
    → rest ≡ command ∷ more → InitiatorContinues m (command_request command ∷ []) (done ∷ []) n → Appends contents_now contents_new (report done)
    → (left : List Command) → up_to_logout (command ∷ more) ≡ command ∷ up_to_logout left → DoneSoFar all left n contents_old contents_new
done_more all rest more command m n done contents_old contents_now contents_new d is c line left first = record {
  front = d.front ++ command ∷ [];
  outcomes = d.outcomes ++ done ∷ [];
  continues = subst (λ (rs : List Request). InitiatorContinues (new_session initiator_settings) rs (d.outcomes ++ done ∷ []) n)
      (sym (map-append command_request d.front (command ∷ [])))
      (then_continues (new_session initiator_settings) m n (map command_request d.front) (command_request command ∷ []) d.outcomes (done ∷ []) d.continues c);
  same = omega (arith, d.same, length-append d.outcomes (done ∷ []), length-append d.front (command ∷ []));
  runs = d.runs ∙ ap (λ (cs : List Command). d.front ++ up_to_logout cs) is ∙ ap (λ (cs : List Command). d.front ++ cs) first
      ∙ sym (append_assoc d.front (command ∷ []) (up_to_logout left));
  written = subst (λ (w : List ℕ). Appends contents_old contents_new w) (sym (flat_map-append report d.outcomes (done ∷ [])
      ∙ ap (λ (w : List ℕ). reports d.outcomes ++ w) (append-nil (report done))))
      (Appends-trans contents_old contents_now contents_new (reports d.outcomes) (report done) d.written line);
}

-- a command that is no logout
pub goes_on : (command : Command) (more : List Command) → is_logout command ≡ false → up_to_logout (command ∷ more) ≡ command ∷ up_to_logout more
goes_on command more is = ap (λ (b : Bool). if b then command ∷ [] else command ∷ up_to_logout more) is

-- a logout
pub ends_at : (command : Command) (more : List Command) → is_logout command ≡ true → up_to_logout (command ∷ more) ≡ command ∷ up_to_logout []
ends_at command more is = ap (λ (b : Bool). if b then command ∷ [] else command ∷ up_to_logout more) is

first_have : (commands more : List Command) (outcomes : List Done) → HaveOutcomes commands outcomes → FirstHaveOutcomes (commands ++ more) outcomes
first_have [] more [] have = tt
first_have [] more (outcome ∷ outcomes) have = absurd have
first_have (command ∷ commands) more [] have = absurd have
first_have (command ∷ commands) more (outcome ∷ outcomes) have = (have.0, first_have commands more outcomes have.1)

-- what is done is what the first commands led to
done_first : (all rest : List Command) (m : InitiatorSession) (contents_old contents_new : Option (List ℕ))
    → (d : DoneSoFar all rest m contents_old contents_new) →
    FirstHaveOutcomes (up_to_logout all) d.outcomes
done_first all rest m contents_old contents_new d =
    let same : length d.outcomes ≡ length (map command_request d.front) = d.same ∙ sym (length-map d.front command_request) in
    let each = each_outcome initiator_settings m (map command_request d.front) d.outcomes d.continues same in
    subst (λ (cs : List Command). FirstHaveOutcomes cs d.outcomes) (sym d.runs) (first_have d.front (up_to_logout rest) d.outcomes
    (have_outcomes d.front d.outcomes each))

abbrev AfterFirst : ServeFault → List Command → Option (List ℕ) → Option (List ℕ) → Type 0
AfterFirst fault commands contents_old contents_new = IsSessionFault fault × ((outcomes : List Done) × FirstHaveOutcomes (up_to_logout commands) outcomes
    × Appends contents_old contents_new (reports outcomes))

stops_at : (fault : ServeFault) → IsSessionFault fault → (all rest : List Command) (m : InitiatorSession)
    (contents_old contents_now contents_new : Option (List ℕ)) →
    DoneSoFar all rest m contents_old contents_now → Appends contents_now contents_new [] → AfterFirst fault all contents_old contents_new
stops_at fault is all rest m contents_old contents_now contents_new d w = (
  is,
  (
    d.outcomes,
    done_first all rest m contents_old contents_now d,
    subst (λ (x : List ℕ). Appends contents_old contents_new x)
        (append-nil (reports d.outcomes)) (Appends-trans contents_old contents_now contents_new (reports d.outcomes) [] d.written w),
  ),
)

-- a front of what follows some bytes
pub front_then : (a b c : Option (List ℕ)) (xs ys : List ℕ) → Appends a b xs → WroteFront b c ys → WroteFront a c (xs ++ ys)
front_then a b c xs ys first w = (
  length xs + w.0,
  subst (λ (x : List ℕ). Appends a c x) (sym (take-append-add xs ys w.0))
      (Appends-trans a b c xs (take w.0 ys) first w.1),
)

-- what a command leaves to be done
abbrev pub left_by : Bool → List Command → List Command
left_by true more = []
left_by false more = more

pub left_at : (b : Bool) (command : Command) (more : List Command) → is_logout command ≡ b → up_to_logout (command ∷ more)
    ≡ command ∷ up_to_logout (left_by b more)
left_at true command more is = ends_at command more is
left_at false command more is = goes_on command more is

-- the line of a command's outcome was written in part
write_stops : (all rest more : List Command) (command : Command) (m n : InitiatorSession) (contents_old contents_now contents_new : Option (List ℕ)) →
    DoneSoFar all rest m contents_old contents_now
    → rest ≡ command ∷ more → CommandFails serve.Write m command n contents_now contents_new → ScriptStops serve.Write all contents_old contents_new
unfolding done_more
write_stops all rest more command m n contents_old contents_now contents_new d is w =
    let unseen : DoneSoFar all rest m None None = record {
      front = d.front;
      outcomes = d.outcomes;
      continues = d.continues;
      same = d.same;
      runs = d.runs;
      written = tt;
    } in
    let left : List Command = left_by (is_logout command) more in
    let next : DoneSoFar all left n None None = done_more all rest more command m n w.0 None None None unseen is w.1 tt left
    (left_at (is_logout command) command more refl) in (
      d.outcomes ++ w.0 ∷ [],
      done_first all left n None None next,
      subst (λ (x : List ℕ). WroteFront contents_old contents_new x) (sym (flat_map-append report d.outcomes (w.0 ∷ [])
          ∙ ap (λ (x : List ℕ). reports d.outcomes ++ x) (append-nil (report w.0))))
          (front_then contents_old contents_now contents_new (reports d.outcomes) (report w.0) d.written w.2),
    )

-- a fault of the next command
pub done_stops : (fault : ServeFault) (all rest more : List Command) (command : Command) (m n : InitiatorSession)
    (contents_old contents_now contents_new : Option (List ℕ)) → DoneSoFar all rest m contents_old contents_now
    → rest ≡ command ∷ more → CommandFails fault m command n contents_now contents_new → ScriptStops fault all contents_old contents_new
done_stops serve.Write all rest more command m n contents_old contents_now contents_new d is w =
    write_stops all rest more command m n contents_old contents_now contents_new d is w
done_stops (serve.Script line) all rest more command m n contents_old contents_now contents_new d is w = absurd w.0
done_stops serve.Read all rest more command m n contents_old contents_now contents_new d is w = absurd w.0
done_stops serve.Sync all rest more command m n contents_old contents_now contents_new d is w = absurd w.0
done_stops serve.NoRandom all rest more command m n contents_old contents_now contents_new d is w = absurd w.0
done_stops serve.NoMemory all rest more command m n contents_old contents_now contents_new d is w =
    stops_at serve.NoMemory tt all rest m contents_old contents_now contents_new d w.1
done_stops serve.Network all rest more command m n contents_old contents_now contents_new d is w =
    stops_at serve.Network tt all rest m contents_old contents_now contents_new d w.1
done_stops (serve.Target fault) all rest more command m n contents_old contents_now contents_new d is w =
    stops_at (serve.Target fault) w.0 all rest m contents_old contents_now contents_new d w.1
done_stops (serve.Initiator fault) all rest more command m n contents_old contents_now contents_new d is w =
    stops_at (serve.Initiator fault) w.0 all rest m contents_old contents_now contents_new d w.1

-- ---- the ends of a loop

pub script_stops : (fault : ServeFault) (script : List ℕ) → ScriptFails fault script → LoopPost (Err fault) script []
script_stops (serve.Script n) script f = (f, refl)
script_stops serve.NoMemory script f = inl refl
script_stops serve.Read script f = refl
script_stops serve.Sync script f = absurd f
script_stops serve.NoRandom script f = absurd f
script_stops serve.Write script f = absurd f
script_stops serve.Network script f = inl refl
script_stops (serve.Target fault) script f = absurd f
script_stops (serve.Initiator fault) script f = absurd f

pub session_stops : (fault : ServeFault) (script written : List ℕ) → IsSessionFault fault → StopsWithin script written → LoopPost (Err fault) script written
session_stops (serve.Script n) script written is s = absurd is
session_stops serve.NoMemory script written is s = s
session_stops serve.Read script written is s = absurd is
session_stops serve.Sync script written is s = absurd is
session_stops serve.NoRandom script written is s = absurd is
session_stops serve.Write script written is s = absurd is
session_stops serve.Network script written is s = s
session_stops (serve.Target target.NoMemory) script written is s = absurd is
session_stops (serve.Target (target.Stream fault)) script written is s = s
session_stops (serve.Target (target.Protocol rule)) script written is s = s
session_stops (serve.Target target.Closed) script written is s = s
session_stops (serve.Initiator initiator.NoMemory) script written is s = absurd is
session_stops (serve.Initiator (initiator.Stream fault)) script written is s = s
session_stops (serve.Initiator (initiator.Protocol rule)) script written is s = s
session_stops (serve.Initiator (initiator.Refused status detail)) script written is s = s
session_stops (serve.Initiator (initiator.BadAnswer key)) script written is s = s
session_stops (serve.Initiator initiator.Closed) script written is s = s

-- ---- what a loop has read

pub script_read : (fault : ServeFault) (script : List ℕ) (left : Option (List ℕ)) → ScriptFails fault script → ReadsScriptFirst (Err fault) [] left
script_read (serve.Script n) script left f = tt
script_read serve.Read script left f = tt
script_read serve.NoMemory script left f = inl refl
script_read serve.Sync script left f = absurd f
script_read serve.NoRandom script left f = absurd f
script_read serve.Write script left f = absurd f
script_read serve.Network script left f = absurd f
script_read (serve.Target fault) script left f = absurd f
script_read (serve.Initiator fault) script left f = absurd f

session_read : (fault : ServeFault) (written : List ℕ) (left : Option (List ℕ)) → IsSessionFault fault → IsAtEnd left
    → ReadsScriptFirst (Err fault) written left
session_read (serve.Script n) written left is end = absurd is
session_read serve.Read written left is end = absurd is
session_read serve.Sync written left is end = absurd is
session_read serve.NoRandom written left is end = absurd is
session_read serve.Write written left is end = absurd is
session_read serve.NoMemory written left is end = inr end
session_read serve.Network written left is end = end
session_read (serve.Target fault) written left is end = end
session_read (serve.Initiator fault) written left is end = end

-- a session failed, and nothing was written
pub session_ends : (fault : ServeFault) (script : List ℕ) (left : Option (List ℕ)) → IsSessionFault fault → IsAtEnd left → LoopPost (Err fault) script []
    × ReadsScriptFirst (Err fault) [] left
session_ends fault script left is end = (session_stops fault script [] is (inl refl), session_read fault [] left is end)

-- what a loop has written and read, and how it ends
abbrev pub Leaves : Result (Unit {0}) ServeFault → List ℕ → Option (List ℕ) → Option (List ℕ) → Option (List ℕ) → Type 0
Leaves result script contents_old contents_new left =
    (written : List ℕ) × Appends contents_old contents_new written × LoopPost result script written × ReadsScriptFirst result written left

abbrev pub login_line : List ℕ
login_line = codes "login" ++ 0x0a ∷ []

-- the line of the login was written in part
pub login_stops : (fault : ServeFault) (script : List ℕ) (commands : List Command) (contents_old contents_new left : Option (List ℕ)) → IsScript script commands
    → IsAtEnd left → (fault ≡ serve.Write) × WroteFront contents_old contents_new login_line → Leaves (Err fault) script contents_old contents_new left
login_stops fault script commands contents_old contents_new left is end w =
    subst (λ (f : ServeFault). Leaves (Err f) script contents_old contents_new left) (sym w.0)
    (take w.1.0 login_line, w.1.1, (commands, [], is, tt, (w.1.0, refl)), end)

within : (script : List ℕ) (commands : List Command) (outcomes : List Done) → IsScript script commands → FirstHaveOutcomes (up_to_logout commands) outcomes →
    StopsWithin script (transcript outcomes)
within script commands outcomes is first = inr (commands, outcomes, is, first, refl)

after_some : (fault : ServeFault) (script : List ℕ) (commands : List Command) (contents_old contents_now contents_new left : Option (List ℕ)) →
    IsScript script commands → IsAtEnd left → Appends contents_old contents_now login_line → AfterFirst fault commands contents_now contents_new →
    Leaves (Err fault) script contents_old contents_new left
after_some fault script commands contents_old contents_now contents_new left is end line s = (
  transcript s.1.0,
  Appends-trans contents_old contents_now contents_new login_line (reports s.1.0) line s.1.2,
  session_stops fault script (transcript s.1.0) s.0 (within script commands s.1.0 is s.1.1),
  session_read fault (transcript s.1.0) left s.0 end,
)

-- a command failed
pub commands_stop : (fault : ServeFault) (script : List ℕ) (commands : List Command) (contents_old contents_now contents_new left : Option (List ℕ)) →
    IsScript script commands → IsAtEnd left → Appends contents_old contents_now login_line → ScriptStops fault commands contents_now contents_new →
    Leaves (Err fault) script contents_old contents_new left
commands_stop serve.Write script commands contents_old contents_now contents_new left is end line s =
    let w : WroteFront contents_old contents_new (transcript s.0) = front_then contents_old contents_now contents_new login_line (reports s.0) line s.2 in
    (take w.0 (transcript s.0), w.1, (commands, s.0, is, s.1, (w.0, refl)), end)
commands_stop (serve.Script n) script commands contents_old contents_now contents_new left is end line s =
    after_some (serve.Script n) script commands contents_old contents_now contents_new left is end line s
commands_stop serve.NoMemory script commands contents_old contents_now contents_new left is end line s =
    after_some serve.NoMemory script commands contents_old contents_now contents_new left is end line s
commands_stop serve.Read script commands contents_old contents_now contents_new left is end line s =
    after_some serve.Read script commands contents_old contents_now contents_new left is end line s
commands_stop serve.Sync script commands contents_old contents_now contents_new left is end line s =
    after_some serve.Sync script commands contents_old contents_now contents_new left is end line s
commands_stop serve.NoRandom script commands contents_old contents_now contents_new left is end line s =
    after_some serve.NoRandom script commands contents_old contents_now contents_new left is end line s
commands_stop serve.Network script commands contents_old contents_now contents_new left is end line s =
    after_some serve.Network script commands contents_old contents_now contents_new left is end line s
commands_stop (serve.Target fault) script commands contents_old contents_now contents_new left is end line s =
    after_some (serve.Target fault) script commands contents_old contents_now contents_new left is end line s
commands_stop (serve.Initiator fault) script commands contents_old contents_now contents_new left is end line s =
    after_some (serve.Initiator fault) script commands contents_old contents_now contents_new left is end line s

-- all commands are done, and the connection is closed
pub commands_end : (result : Result (Unit {0}) ServeFault) (script : List ℕ) (commands : List Command)
    (contents_old contents_now contents_new left : Option (List ℕ)) → IfErr result IsSessionFault → IsScript script commands → IsAtEnd left →
    Appends contents_old contents_now login_line → ScriptRuns commands contents_now contents_new
    → Leaves result script contents_old contents_new left
commands_end (Ok done) script commands contents_old contents_now contents_new left err is end line r =
    (transcript r.0, Appends-trans contents_old contents_now contents_new login_line (reports r.0) line r.2, (commands, r.0, is, r.1, refl), end)
commands_end (Err fault) script commands contents_old contents_now contents_new left err is end line r =
    let first : FirstHaveOutcomes (up_to_logout commands) r.0 = subst (λ (cs : List Command). FirstHaveOutcomes cs r.0) (append-nil (up_to_logout commands))
    (first_have (up_to_logout commands) [] r.0 r.1) in
    after_some fault script commands contents_old contents_now contents_new left is end line (err, (r.0, first, r.2))
