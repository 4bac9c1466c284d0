-- What a PDU leads to within a call, and what bytes that complete none do.
use Rattle.std.proofs.Common.{◌≡◌, ◌≤◌, Bool, inl, inr, ◌∙◌, ℕ, ◌+◌, List, [], ◌∷◌, ◌++◌, true, false, length, take, drop, Option, Some, None}
use Rattle.std.proofs.Common.{refl, sym, ap, subst, arith, append-nil, append_assoc}
use Rattle.std.proofs.lemmas.List.{length-append}
use Rattle.std.proofs.lemmas.List.Concat.{flat_map-append}
use Rattle.scsi_disk.specs.Disk.{Disk}
use Rattle.iscsi_stream.specs.Stream.{Message}
use Rattle.iscsi_stream.specs.Canonical.{canon, canonical_bytes}
use Rattle.iscsi_stream.specs.Framing.{Framing, FramerTakes, FramerMoves, is_ready, pdu_given_up, message_of}
use Rattle.iscsi_stream.proofs.ReadyLemmas.{apart}
use Rattle.iscsi_stream.proofs.TakingLemmas.{moves_none, moves_gave, moves_then, taken_more, moves_taken}
use Rattle.iscsi_stream.proofs.PassingLemmas.{unready_after}
use Rattle.iscsi_target_session.specs.Session.{target_limit}
use Rattle.iscsi_target.specs.State.{Machine, TargetStep, unchanged}
use Rattle.iscsi_target.specs.State.{writes_joined}
use Rattle.iscsi_target.specs.Execution.{Device, reliable}
use Rattle.iscsi_target.specs.Machine.{step_on, answers, then_stepped, first_rule, MayAnswer}
use Rattle.iscsi_target.specs.Machine.{ExecutionsRun, is_machine_closed}
use Rattle.iscsi_target.specs.Laws.{joined_stepped}
use Rattle.iscsi_target.specs.Feed.{Scene, scene, call_progress, TargetConnection, Store, AnswersPdus}
use Rattle.iscsi_target.specs.inner.Inside.{target_connection}
use Rattle.iscsi_target.specs.inner.Inside.{IsAnswered, AnswersReady, TakesOnePdu}
use Rattle.iscsi_target.proofs.Writes.JoiningLemmas.{step_joined}
use Rattle.iscsi_target.proofs.Steps.AppendLemmas.{answers_append, may_append}
use Rattle.iscsi_target.proofs.Turns.ServingLemmas.{runs_as}
use Rattle.iscsi_target.proofs.Steps.KeepingLemmas.{step_settings}

-- the bytes of the piece before the rest were taken, and their PDUs answered
pub record FedUpTo (protected : Bool) (old : Scene) (piece rest : List ℕ) (new : Scene) : Type 0 where
  pub front : List ℕ
  pub parts : piece ≡ front ++ rest
  pub messages : List Message
  pub stepped : TargetStep
  pub answered : AnswersPdus protected old.connection old.store front (call_progress new.connection.framing messages stepped) new.store
  pub counted : new.store.failures ≡ answered.failures
  pub disk : new.store.disk ≡ stepped.disk
  pub output_is : new.output ≡ old.output ++ canon stepped.answers
  pub rises : old.store.failures ≤ new.store.failures
  pub machine_is : writes_joined new.connection.machine ≡ writes_joined stepped.machine
  pub settings_is : new.connection.machine.session.settings ≡ old.connection.machine.session.settings

-- and the session goes on
pub record GoesUpTo (protected : Bool) (old : Scene) (piece rest : List ℕ) (new : Scene) : Type 0 where
  pub fed : FedUpTo protected old piece rest new
  pub rule : fed.stepped.rule ≡ None
  pub live : is_machine_closed new.connection.machine ≡ false

-- the last PDU broke this rule, or none; n were answered at most, and n if one was ready
pub record FedAs (protected : Bool) (old : Scene) (piece rest : List ℕ) (new : Scene) (broken : Option ℕ) (most : ℕ) (ready : Bool) : Type 0 where
  pub fed : FedUpTo protected old piece rest new
  pub rule : fed.stepped.rule ≡ broken
  pub few : length fed.messages ≤ most
  pub full : ready ≡ true → length fed.messages ≡ most

unfoldable pub fed_none : (protected : Bool) (old : TargetConnection) (before : Store) (output piece : List ℕ) → is_ready old.framing ≡ false →
    is_machine_closed old.machine ≡ false →
    GoesUpTo protected (scene old before output) piece piece (scene old before output)
unfolding MayAnswer answers
fed_none protected old before output piece unready live = record {
  fed = record {
    front = [];
    parts = refl;
    messages = [];
    stepped = unchanged old.machine before.disk;
    answered = record { taken = moves_none old.framing; ready = unready; failures = before.failures; may = (refl, refl); works = λ _. refl; limit = refl };
    counted = refl;
    disk = refl;
    output_is = sym (append-nil output);
    rises = omega arith;
    machine_is = refl;
    settings_is = refl;
  };
  rule = refl;
  live = live;
}

-- ---- bytes that complete no PDU

unfoldable pub fed_bytes : (protected : Bool) (old : TargetConnection) (before : Store) (output piece rest after_rest : List ℕ) (now : TargetConnection)
    (after : Store)
    (written : List ℕ) (n : ℕ)
    (framing : Framing)
    → (g : GoesUpTo protected (scene old before output) piece rest (scene now after written)) → FramerTakes now.framing rest n framing → is_ready framing
    ≡ false
    → after_rest ≡ drop n rest
    → FedAs protected (scene old before output) piece after_rest (scene (target_connection now.machine framing) after written) None
    (length g.fed.messages + 1) (is_ready framing)
fed_bytes protected old before output piece rest after_rest now after written n framing g t unready is = let f = g.fed in record {
  rule = g.rule;
  few = omega arith;
  full = λ e. absurd (apart e unready);
  fed = record {
    front = f.front ++ take n rest;
    parts = taken_more piece f.front rest n f.parts ∙ ap (λ (x : List ℕ). (f.front ++ take n rest) ++ x) (sym is);
    messages = f.messages;
    stepped = f.stepped;
    answered = record {
      taken = moves_taken old.framing now.framing framing f.front n rest f.messages f.answered.taken t;
      ready = unready;
      failures = f.answered.failures;
      may = f.answered.may;
      works = f.answered.works;
      limit = ap (λ (x : Framing). x.limit) t.gathered ∙ f.answered.limit;
    };
    counted = f.counted;
    disk = f.disk;
    output_is = f.output_is;
    rises = f.rises;
    machine_is = f.machine_is;
    settings_is = f.settings_is;
  };
}

-- ---- a PDU

pub same_step : (d : Device) (a b : Machine) (disk : Disk) (m : Message) → writes_joined a ≡ writes_joined b → joined_stepped (step_on d a disk m)
    ≡ joined_stepped (step_on d b disk m)
same_step d a b disk m e = sym (step_joined d a disk m) ∙ ap (λ (s : Machine). joined_stepped (step_on d s disk m)) e ∙ step_joined d b disk m

abbrev pub last_of : Device → Machine → Disk → Message → TargetStep
last_of d s disk m = then_stepped (step_on d s disk m) (unchanged (step_on d s disk m).machine (step_on d s disk m).disk)

pub may_last : (protected : Bool) (d : Device) (s : Machine) (disk : Disk) (m : Message) (before after : ℕ)
    → ExecutionsRun protected d before (step_on d s disk m).executed after
    → MayAnswer protected s disk before (m ∷ []) (last_of d s disk m) after
unfolding MayAnswer
may_last protected d s disk m before after runs = (
  step_on d s disk m,
  unchanged (step_on d s disk m).machine (step_on d s disk m).disk,
  after,
  record { device = d; is = refl; runs = runs },
  (refl, refl),
  refl,
)

pub answers_last : (protected : Bool) (s : Machine) (disk : Disk) (m : Message) → answers protected s disk (m ∷ []) ≡ last_of (reliable protected) s disk m
unfolding answers
answers_last protected s disk m = refl

pub rule_last : (a b : Option ℕ) → a ≡ None → first_rule a (first_rule b None) ≡ b
rule_last a None e = rw e refl
rule_last a (Some rule) e = rw e refl

pub settings_as : (a b : Machine) → writes_joined a ≡ writes_joined b → a.session.settings ≡ b.session.settings
settings_as a b e = ap (λ (s : Machine). s.session.settings) e

unfoldable pub fed_pdu : (protected : Bool) (old : TargetConnection) (before : Store) (output piece rest after_rest : List ℕ) (now : TargetConnection)
    (mid : Store)
    (written : List ℕ) (n : ℕ)
    (framing : Framing) (broken : Option ℕ) (new : TargetConnection) (after : Store) (more : List ℕ)
    → (g : GoesUpTo protected (scene old before output) piece rest (scene now mid written)) → FramerTakes now.framing rest n framing →
    IsAnswered protected (scene (target_connection now.machine framing) mid written) broken (scene new after more) → after_rest ≡ drop n rest
    → FedAs protected (scene old before output) piece after_rest (scene new after more) broken (length g.fed.messages + 1) (is_ready framing)
fed_pdu protected old before output piece rest after_rest now mid written n framing broken new after more g t a is =
    let f = g.fed in
    let m : Message = message_of framing a.head a.segment in
    let d : Device = a.serves.device in
    let s : Machine = f.stepped.machine in
    let same : joined_stepped (step_on d now.machine mid.disk m) ≡ joined_stepped (step_on d s f.stepped.disk m) =
    same_step d now.machine s mid.disk m f.machine_is ∙ ap (λ (x : Disk). joined_stepped (step_on d s x m)) f.disk in
    let one : TargetStep = step_on d s f.stepped.disk m in
    let last : TargetStep = last_of d s f.stepped.disk m in
    let moves : FramerMoves old.framing new.framing (f.front ++ take n rest) (f.messages ++ m ∷ []) =
    subst (λ (x : Framing). FramerMoves old.framing x (f.front ++ take n rest) (f.messages ++ m ∷ [])) (sym a.framing_is)
    (subst (λ (x : List ℕ). FramerMoves old.framing (pdu_given_up framing a.head) x (f.messages ++ m ∷ [])) (append-nil (f.front ++ take n rest))
    (moves_then old.framing framing (pdu_given_up framing a.head) (f.front ++ take n rest) [] f.messages (m ∷ [])
    (moves_taken old.framing now.framing framing f.front n rest f.messages f.answered.taken t) (moves_gave framing a.head a.segment a.means))) in
    let wrote : more ≡ output ++ canon (f.stepped.answers ++ last.answers) =
    a.serves.output ∙ ap (λ (x : TargetStep). written ++ canon x.answers) same ∙ ap (λ (x : List ℕ). x ++ canon one.answers) f.output_is
    ∙ append_assoc output (canon f.stepped.answers) (canon one.answers)
    ∙ ap (λ (x : List ℕ). output ++ x) (sym (flat_map-append canonical_bytes f.stepped.answers one.answers))
    ∙ ap (λ (x : List Message). output ++ canon (f.stepped.answers ++ x)) (sym (append-nil one.answers)) in
    record {
      fed = record {
        front = f.front ++ take n rest;
        parts = taken_more piece f.front rest n f.parts ∙ ap (λ (x : List ℕ). (f.front ++ take n rest) ++ x) (sym is);
        messages = f.messages ++ m ∷ [];
        stepped = then_stepped f.stepped last;
        answered = record {
          taken = moves;
          ready = ap is_ready a.framing_is ∙ unready_after framing a.head;
          failures = after.failures;
          may = may_append protected old.machine before.disk before.failures mid.failures after.failures f.messages (m ∷ []) f.stepped last
              (subst (λ (n : ℕ). MayAnswer protected old.machine before.disk before.failures f.messages f.stepped n) (sym f.counted) f.answered.may)
              (may_last protected d s f.stepped.disk m mid.failures after.failures
              (runs_as protected d mid.failures after.failures (step_on d now.machine mid.disk m) one same
              a.serves.runs));
          works = λ e. (
              let low = a.serves.rises in
              let high = f.rises in
              let first : mid.failures ≡ before.failures = omega (arith, e, low, high) in
              let then : after.failures ≡ mid.failures = omega (arith, e, first) in
              let was : f.stepped ≡ answers protected old.machine before.disk f.messages = f.answered.works first in
              let is_effect : last ≡ answers protected s f.stepped.disk (m ∷ []) = ap (λ (x : Device). last_of x s f.stepped.disk m) (a.serves.works then)
              ∙ sym (answers_last protected s f.stepped.disk m) in
              ap (then_stepped f.stepped) is_effect
              ∙ ap (λ (x : TargetStep). then_stepped x (answers protected x.machine x.disk (m ∷ []))) was
              ∙ sym (answers_append protected old.machine before.disk f.messages (m ∷ [])));
          limit = ap (λ (x : Framing). x.limit) a.framing_is ∙ ap (λ (x : Framing). x.limit) t.gathered ∙ f.answered.limit;
        };
        counted = refl;
        disk = a.serves.disk_is ∙ ap (λ (x : TargetStep). x.disk) same;
        output_is = wrote;
        rises = (let low = a.serves.rises in let high = f.rises in omega (arith, low, high));
        machine_is = a.serves.machine ∙ ap (λ (x : TargetStep). x.machine) same;
        settings_is = settings_as new.machine (step_on d now.machine mid.disk m).machine a.serves.machine ∙ step_settings d now.machine mid.disk m
            ∙ f.settings_is;
      };
      few = omega (arith, length-append f.messages (m ∷ []));
      full = λ e. length-append f.messages (m ∷ []);
      rule = rule_last f.stepped.rule one.rule g.rule ∙ sym (a.serves.rule_is ∙ ap (λ (x : TargetStep). x.rule) same);
    }

fed_ready : (protected : Bool) (from : Scene) (piece rest after_rest : List ℕ) (here : Scene)
    (n : ℕ)
    (framing : Framing) (broken : Option ℕ) (to : Scene)
    → (g : GoesUpTo protected from piece rest here) → FramerTakes here.connection.framing rest n framing →
    AnswersReady protected (scene (target_connection here.connection.machine framing) here.store here.output) broken to → after_rest ≡ drop n rest
    → FedAs protected from piece after_rest to broken (length g.fed.messages + 1) (is_ready framing)
fed_ready protected from piece rest after_rest here n framing broken to g t (inl u) is =
    let most : ℕ = length g.fed.messages + 1 in
    let ready : Bool = is_ready framing in
    subst (λ (b : Option ℕ). FedAs protected from piece after_rest to b most ready) (sym u.rule_is)
    (subst (λ (c : TargetConnection). FedAs protected from piece after_rest (scene c to.store to.output) None most ready) (sym u.connection_is)
    (subst (λ (s : Store). FedAs protected from piece after_rest (scene (target_connection here.connection.machine framing) s to.output) None most
    ready) (sym u.store_is)
    (subst (λ (x : List ℕ). FedAs protected from piece after_rest (scene (target_connection here.connection.machine framing) here.store x) None most
    ready) (sym u.output_is)
    (fed_bytes protected from.connection from.store from.output piece rest after_rest here.connection here.store here.output n framing g t u.unready is))))
fed_ready protected from piece rest after_rest here n framing broken to g t (inr a) is =
    fed_pdu protected from.connection from.store from.output piece rest after_rest here.connection here.store here.output n framing broken to.connection
    to.store to.output g t a is

pub fed_one : (protected : Bool) (from : Scene) (piece rest after_rest : List ℕ) (here : Scene)
    (n : ℕ)
    (broken : Option ℕ) (to : Scene)
    → (g : GoesUpTo protected from piece rest here)
    → (t : TakesOnePdu protected here rest n broken to) → after_rest ≡ drop n rest
    → FedAs protected from piece after_rest to broken (length g.fed.messages + 1) (is_ready t.framing)
fed_one protected from piece rest after_rest here n broken to g t is =
    fed_ready protected from piece rest after_rest here n t.framing broken to g t.takes t.answers is

pub stays_within : (protected : Bool) (old : TargetConnection) (before : Store) (output piece rest : List ℕ) (now : TargetConnection) (after : Store)
    (written : List ℕ) →
    FedUpTo protected (scene old before output) piece rest (scene now after written)
    → old.framing.limit ≡ target_limit old.machine.session.settings → now.framing.limit ≡ target_limit now.machine.session.settings
stays_within protected old before output piece rest now after written f e = f.answered.limit ∙ e ∙ ap target_limit (sym f.settings_is)
