-- What a crash leaves behind any PDUs, one after another.
use Rattle.std.proofs.Common.{Bool, ◌≡◌, ◌≤◌, inl, inr, ◌∙◌, ℕ, false, List, [], ◌∷◌, ◌++◌, length, take, drop, Option, refl, sym, ap, subst}
use Rattle.std.proofs.Common.{arith, append_assoc}
use Rattle.std.specs.Prelude.{Ok}
use Rattle.std.proofs.lemmas.List.{take-append-drop, take_all, take_at}
use Rattle.scsi_disk.specs.Disk.{Disk}
use Rattle.scsi_disk.specs.Runs.{Supplied}
use Rattle.iscsi_stream.specs.Stream.{Message}
use Rattle.iscsi_stream.specs.Framing.{Framing, FramerMoves, message_of}
use Rattle.iscsi_stream.proofs.TakingLemmas.{moves_none, moves_then, taken_more}
use Rattle.iscsi_stream.proofs.ReadyLemmas.{apart}
use Rattle.iscsi_login.specs.declared.phase.Phase.{Phase}
use Rattle.iscsi_login.specs.declared.phase.Phase.TheVariants as phases
use Rattle.iscsi_target.specs.declared.fault.TargetFault.{TargetFault}
use Rattle.iscsi_target.specs.declared.tasks.Task.{Task}
use Rattle.iscsi_target.specs.State.{Machine, TargetStep, unchanged, writes_joined}
use Rattle.iscsi_target.specs.Execution.{Device}
use Rattle.iscsi_target.specs.Machine.{Next, Dropped, Answered, Queued, full_met, step_on, done_first, then_stepped, MayAnswer, is_machine_closed}
use Rattle.iscsi_target.specs.Laws.{joined_stepped}
use Rattle.iscsi_target.specs.Feed.{Scene, scene, TargetConnection, Store, FeedsFirstBytes}
use Rattle.iscsi_target.specs.Advances.{TargetAdvances}
use Rattle.iscsi_target.specs.inner.Inside.{Moment, moment, target_connection, AnswersReady, NextRanOut, MessageRanOut, TakesOnePdu, FeedOneFails}
use Rattle.iscsi_target.specs.Crash.{IsBehindCommand, CrashesNext, CrashesFed, IsMidCommandBlock, commands_by, commands_in, commands_at}
use Rattle.iscsi_target.proofs.Steps.AppendLemmas.{may_append}
use Rattle.iscsi_target.proofs.Turns.ServingLemmas.{runs_as, runs_rise}
use Rattle.iscsi_target.proofs.Writes.JoiningLemmas.{SameNext, joined_then, joined_twice}
use Rattle.iscsi_target.proofs.Feed.FeedStepLemmas.{FedUpTo, GoesUpTo, same_step}
use Rattle.iscsi_target.proofs.Feed.FeedInvariant.{same_next}
use Rattle.iscsi_target.proofs.Feed.CrashLemmas.{commands_same}

-- ---- the commands of a PDU, with the pieces of each write joined

next_commands : (x y : Next) → SameNext x y → commands_by x ≡ commands_by y
next_commands Dropped Dropped h = refl
next_commands (Answered r) (Answered q) h = refl
next_commands (Queued s ts) (Queued t us) h = commands_same ts us h.1
next_commands Dropped (Answered q) h = absurd h
next_commands Dropped (Queued t us) h = absurd h
next_commands (Answered r) Dropped h = absurd h
next_commands (Answered r) (Queued t us) h = absurd h
next_commands (Queued s ts) Dropped h = absurd h
next_commands (Queued s ts) (Answered q) h = absurd h

phase_commands : (phase : Phase) (a b : Machine) (count : ℕ) (m : Message) → writes_joined a ≡ writes_joined b → commands_in phase a count m
    ≡ commands_in phase b count m
phase_commands phases.Login a b count m e = refl
phase_commands phases.Full a b count m e = next_commands (full_met a count m).next (full_met b count m).next (same_next a b count m e)
phase_commands phases.Closed a b count m e = refl

same_commands : (a b : Machine) (count : ℕ) (m : Message) → writes_joined a ≡ writes_joined b → commands_at a count m ≡ commands_at b count m
same_commands a b count m e = phase_commands a.session.phase a b count m e
    ∙ ap (λ (p : Phase). commands_in p b count m) (ap (λ (s : Machine). s.session.phase) e)

same_behind : (protected : Bool) (a b : TargetStep) (m : Message) (n : ℕ) (c : List ℕ) → joined_stepped a ≡ joined_stepped b →
    IsBehindCommand protected a.disk (commands_at a.machine a.disk.count m) n c → IsBehindCommand protected b.disk (commands_at b.machine b.disk.count m) n c
same_behind protected a b m n c e h =
    let machine : writes_joined a.machine ≡ writes_joined b.machine = ap (λ (r : TargetStep). r.machine) e in
    let disk : a.disk ≡ b.disk = ap (λ (r : TargetStep). r.disk) e in
    subst (λ (d : Disk). IsBehindCommand protected d (commands_at b.machine d.count m) n c) disk
    (subst (λ (orders : List Supplied). IsBehindCommand protected a.disk orders n c) (same_commands a.machine b.machine a.disk.count m machine) h)

-- ---- PDUs that led from here to there

-- what the same messages lead to from a session that is the same with the pieces of each write joined
record LedAlike (protected : Bool) (t : Machine) (disk : Disk) (before : ℕ) (ms : List Message) (r : TargetStep) (after : ℕ) : Type 0 where
  led : TargetStep
  may : MayAnswer protected t disk before ms led after
  same : joined_stepped r ≡ joined_stepped led

led_alike : (protected : Bool) (s t : Machine) (disk : Disk) (before after : ℕ) (ms : List Message) (r : TargetStep) → writes_joined s ≡ writes_joined t
    → MayAnswer protected s disk before ms r after →
    LedAlike protected t disk before ms r after
unfolding MayAnswer
led_alike protected s t disk before after [] r e h = record {
  led = unchanged t disk;
  may = (refl, h.1);
  same = ap joined_stepped h.0 ∙ ap (λ (x : Machine). unchanged x disk) e;
}
led_alike protected s t disk before after (m ∷ ms) r e h =
    let d : Device = h.3.device in
    let first : TargetStep = step_on d t disk m in
    let same : joined_stepped h.0 ≡ joined_stepped first = ap joined_stepped h.3.is ∙ same_step d s t disk m e in
    let later : LedAlike protected first.machine first.disk h.2 ms h.1 after =
    led_alike protected h.0.machine first.machine first.disk h.2 after ms h.1 (ap (λ (x : TargetStep). x.machine) same)
    (subst (λ (x : Disk). MayAnswer protected h.0.machine x h.2 ms h.1 after) (ap (λ (x : TargetStep). x.disk) same) h.4) in
    record {
      led = then_stepped first later.led;
      may = (first, later.led, h.2, record { device = d; is = refl; runs = runs_as protected d before h.2 h.0 first same h.3.runs }, later.may, refl);
      same = ap joined_stepped h.5 ∙ joined_then h.0 h.1 ∙ ap (λ (x : TargetStep). then_stepped x (joined_stepped h.1)) same
          ∙ ap (λ (x : TargetStep). then_stepped (joined_stepped first) x) later.same ∙ sym (joined_then first later.led);
    }

pub no_advance : (protected : Bool) (old : TargetConnection) (before : Store) → TargetAdvances protected old before [] old before
unfolding MayAnswer
no_advance protected old before = record {
  messages = [];
  taken = moves_none old.framing;
  led = unchanged old.machine before.disk;
  may = (refl, refl);
  machine = refl;
  disk_is = refl;
}

-- what the messages of later bytes lead to, behind those of the bytes before
later_led : (protected : Bool) (old mid : TargetConnection) (before store : Store) (front : List ℕ) (ms : List Message) (r : TargetStep) (after : ℕ) →
    (a : TargetAdvances protected old before front mid store) → MayAnswer protected mid.machine store.disk store.failures ms r after
    → LedAlike protected a.led.machine a.led.disk store.failures ms r after
later_led protected old mid before store front ms r after a may =
    led_alike protected mid.machine a.led.machine a.led.disk store.failures after ms r a.machine
    (subst (λ (d : Disk). MayAnswer protected mid.machine d store.failures ms r after) a.disk_is may)

pub advances_then : (protected : Bool) (old mid new : TargetConnection) (before store after : Store) (x y : List ℕ)
    → TargetAdvances protected old before x mid store
    → TargetAdvances protected mid store y new after →
    TargetAdvances protected old before (x ++ y) new after
advances_then protected old mid new before store after x y a b =
    let later : LedAlike protected a.led.machine a.led.disk store.failures b.messages b.led after.failures =
    later_led protected old mid before store x b.messages b.led after.failures a b.may in
    record {
      messages = a.messages ++ b.messages;
      taken = moves_then old.framing mid.framing new.framing x y a.messages b.messages a.taken b.taken;
      led = then_stepped a.led later.led;
      may = may_append protected old.machine before.disk before.failures store.failures after.failures a.messages b.messages a.led later.led a.may later.may;
      machine = b.machine ∙ ap (λ (r : TargetStep). r.machine) later.same;
      disk_is = b.disk_is ∙ ap (λ (r : TargetStep). r.disk) later.same;
    }

-- ---- what a block has passed

taken_front : (x y : List ℕ) (k : ℕ) → take (length (x ++ take k y)) (x ++ y) ≡ x ++ take k y
taken_front x y k = ap (take (length (x ++ take k y))) (taken_more (x ++ y) x y k refl) ∙ take_at (x ++ take k y) (drop k y) (length (x ++ take k y)) refl

-- of more bytes, with more failures counted
pub passed_more : (protected : Bool) (old : TargetConnection) (before : Store) (piece more : List ℕ) (most last n : ℕ) (c : List ℕ) → most ≤ last →
    IsMidCommandBlock protected old before piece most n c → IsMidCommandBlock protected old before (piece ++ more) last n c
passed_more protected old before piece more most last n c rises p =
    let k : ℕ = length (take p.count piece) in
    let parts : piece ++ more ≡ take p.count piece ++ (drop p.count piece ++ more) =
    ap (λ (x : List ℕ). x ++ more) (sym (take-append-drop p.count piece)) ∙ append_assoc (take p.count piece) (drop p.count piece) more in
    let front : take k (piece ++ more) ≡ take p.count piece =
    ap (take k) parts ∙ take_at (take p.count piece) (drop p.count piece ++ more) k refl in
    record {
      messages = p.messages;
      message = p.message;
      framing = p.framing;
      count = k;
      taken = subst (λ (x : List ℕ). FramerMoves old.framing p.framing x (p.messages ++ p.message ∷ [])) (sym front) p.taken;
      led = p.led;
      failures = p.failures;
      may = p.may;
      few = (let low = p.few in omega (arith, low, rises));
      behind = p.behind;
    }

passed_later : (protected : Bool) (old : TargetConnection) (before : Store) (piece : List ℕ) (most last n : ℕ) (c : List ℕ) → most ≤ last →
    IsMidCommandBlock protected old before piece most n c → IsMidCommandBlock protected old before piece last n c
passed_later protected old before piece most last n c rises p = record {
  messages = p.messages;
  message = p.message;
  framing = p.framing;
  count = p.count;
  taken = p.taken;
  led = p.led;
  failures = p.failures;
  may = p.may;
  few = (let low = p.few in omega (arith, low, rises));
  behind = p.behind;
}

-- of bytes behind others
passed_behind : (protected : Bool) (old mid : TargetConnection) (before store : Store) (front rest : List ℕ) (most n : ℕ) (c : List ℕ)
    → TargetAdvances protected old before front mid store →
    IsMidCommandBlock protected mid store rest most n c → IsMidCommandBlock protected old before (front ++ rest) most n c
passed_behind protected old mid before store front rest most n c a p =
    let later : LedAlike protected a.led.machine a.led.disk store.failures p.messages p.led p.failures =
    later_led protected old mid before store front p.messages p.led p.failures a p.may in
    let k : ℕ = length (front ++ take p.count rest) in
    let last : List Message = p.message ∷ [] in
    let moves : FramerMoves old.framing p.framing (front ++ take p.count rest) (a.messages ++ (p.messages ++ last)) =
    moves_then old.framing mid.framing p.framing front (take p.count rest) a.messages (p.messages ++ last) a.taken p.taken in
    record {
      messages = a.messages ++ p.messages;
      message = p.message;
      framing = p.framing;
      count = k;
      taken = subst (λ (ms : List Message). FramerMoves old.framing p.framing (take k (front ++ rest)) ms) (sym (append_assoc a.messages p.messages last))
          (subst (λ (x : List ℕ). FramerMoves old.framing p.framing x (a.messages ++ (p.messages ++ last))) (sym (taken_front front rest p.count)) moves);
      led = then_stepped a.led later.led;
      failures = p.failures;
      may = may_append protected old.machine before.disk before.failures store.failures p.failures a.messages p.messages a.led later.led a.may later.may;
      few = p.few;
      behind = same_behind protected p.led later.led p.message n c later.same p.behind;
    }

-- ---- what a crash leaves

pub crashes_none : (protected : Bool) (old : TargetConnection) (before : Store) (piece : List ℕ) (kept : ℕ → List ℕ → Type 0)
    → CrashesFed protected old before piece before kept kept
crashes_none protected old before piece kept = record { count = refl; adds = λ n c h. inl h }

-- behind one PDU at most
pub crashes_next : (protected : Bool) (old : TargetConnection) (before after : Store) (piece : List ℕ) (kept new : ℕ → List ℕ → Type 0)
    → before.failures ≤ after.failures →
    CrashesNext protected old piece before.disk after.disk kept new → CrashesFed protected old before piece after kept new
unfolding MayAnswer
crashes_next protected old before after piece kept new rises (inl h) = record {
  count = h.count;
  adds = λ n c k. elim (h.adds n c k) [ inl was ↦ inl was | inr none ↦ absurd none ];
}
crashes_next protected old before after piece kept new rises (inr h) = record {
  count = h.2.count;
  adds = λ n c k. elim (h.2.adds n c k) [
    | inl was ↦ inl was
    | inr is ↦ inr (record {
      messages = [];
      message = h.0;
      framing = h.1.framing;
      count = h.1.count;
      taken = h.1.taken;
      led = unchanged old.machine before.disk;
      failures = before.failures;
      may = (refl, refl);
      few = rises;
      behind = is;
    })
  ];
}

-- behind more bytes
pub crashes_more : (protected : Bool) (old : TargetConnection) (before after : Store) (piece more : List ℕ) (kept new : ℕ → List ℕ → Type 0) →
    CrashesFed protected old before piece after kept new → CrashesFed protected old before (piece ++ more) after kept new
crashes_more protected old before after piece more kept new h = record {
  count = h.count;
  adds = λ n c k. elim (h.adds n c k) [
    | inl was ↦ inl was
    | inr is ↦ inr (passed_more protected old before piece more after.failures after.failures n c (omega arith) is)
  ];
}

-- behind the rest of the bytes
pub crashes_then : (protected : Bool) (old mid : TargetConnection) (before store after : Store) (piece front rest : List ℕ) (kept now new : ℕ → List ℕ → Type 0)
    →
    piece ≡ front ++ rest → TargetAdvances protected old before front mid store
    → store.failures ≤ after.failures → CrashesFed protected old before piece store kept now → CrashesFed protected mid store rest after now new →
    CrashesFed protected old before piece after kept new
crashes_then protected old mid before store after piece front rest kept now new parts a rises p q = record {
  count = q.count ∙ p.count;
  adds = λ n c k. elim (q.adds n c k) [
    | inl was ↦ elim (p.adds n c was) [
      | inl first ↦ inl first
      | inr is ↦ inr (passed_later protected old before piece store.failures after.failures n c rises is)
    ]
    | inr is ↦ inr (subst (λ (x : List ℕ). IsMidCommandBlock protected old before x after.failures n c) (sym parts)
        (passed_behind protected old mid before store front rest after.failures n c a is))
  ];
}

-- ---- a call

fed_advances : (protected : Bool) (old : TargetConnection) (before : Store) (output piece rest : List ℕ) (now : TargetConnection) (after : Store)
    (written : List ℕ) →
    (f : FedUpTo protected (scene old before output) piece rest (scene now after written)) → TargetAdvances protected old before f.front now after
fed_advances protected old before output piece rest now after written f = record {
  messages = f.messages;
  taken = f.answered.taken;
  led = f.stepped;
  may = subst (λ (k : ℕ). MayAnswer protected old.machine before.disk before.failures f.messages f.stepped k) (sym f.counted) f.answered.may;
  machine = f.machine_is;
  disk_is = f.disk;
}

ready_rises : (protected : Bool) (old : TargetConnection) (before : Store) (output : List ℕ) (broken : Option ℕ) (new : TargetConnection)
    (after : Store) (written : List ℕ) →
    AnswersReady protected (scene old before output) broken (scene new after written) → before.failures ≤ after.failures
ready_rises protected old before output broken new after written (inl u) = omega (arith, ap (λ (s : Store). s.failures) u.store_is)
ready_rises protected old before output broken new after written (inr a) = a.serves.rises

halt_rises : (protected : Bool) (x : Next) (old new : Moment) → NextRanOut protected x old new → old.store.failures ≤ new.store.failures
halt_rises protected Dropped old new h = h.rises
halt_rises protected (Answered r) old new h = h.rises
halt_rises protected (Queued session tasks) old new h =
    let low = runs_rise protected h.device old.store.failures (done_first h.done h.device session old.store.disk tasks).executed h.failures h.runs in
    let high = h.rises in
    omega (arith, low, high)

halts_rise : (protected : Bool) (m : Message) (old new : Moment) → MessageRanOut protected m old new → old.store.failures ≤ new.store.failures
halts_rise protected m old new (inl h) = h.rises
halts_rise protected m old new (inr h) = halt_rises protected (full_met old.machine old.store.disk.count m).next old new h.1

-- the PDU that the next bytes complete was answered
pub crashes_on : (protected : Bool) (from : Scene) (piece rest : List ℕ) (here : Scene)
    (n : ℕ)
    (broken : Option ℕ) (to : Scene) (kept was left : ℕ → List ℕ → Type 0)
    → GoesUpTo protected from piece rest here
    → TakesOnePdu protected here rest n broken to →
    CrashesFed protected from.connection from.store piece here.store kept was → CrashesNext protected here.connection rest here.store.disk to.store.disk was
    left
    → CrashesFed protected from.connection from.store piece to.store kept left
crashes_on protected from piece rest here n broken to kept was left g t up one =
    let rises : here.store.failures ≤ to.store.failures =
    ready_rises protected (target_connection here.connection.machine t.framing) here.store here.output broken to.connection to.store to.output t.answers in
    crashes_then protected from.connection here.connection from.store here.store to.store piece g.fed.front rest kept was left g.fed.parts
    (fed_advances protected from.connection from.store from.output piece rest here.connection here.store here.output g.fed)
    rises up (crashes_next protected here.connection here.store to.store rest was left rises one)

-- it could not be taken, or not be answered
pub crashes_failed : (protected : Bool) (from : Scene) (piece rest : List ℕ) (here : Scene)
    (fault : TargetFault) (to : Scene) (kept was left : ℕ → List ℕ → Type 0)
    → GoesUpTo protected from piece rest here
    → FeedOneFails protected here rest fault to →
    CrashesFed protected from.connection from.store piece here.store kept was → CrashesNext protected here.connection rest here.store.disk to.store.disk was
    left
    → CrashesFed protected from.connection from.store piece to.store kept left
crashes_failed protected from piece rest here fault to kept was left g fails up one =
    let rises : here.store.failures ≤ to.store.failures = elim fails [
      | inl r ↦ omega (arith, ap (λ (s : Store). s.failures) r.store_is)
      | inr r ↦ halts_rise protected (message_of r.framing r.shuts.head r.shuts.segment) (moment here.connection.machine here.store here.output)
          (moment to.connection.machine to.store to.output) r.shuts.halts
    ] in
    crashes_then protected from.connection here.connection from.store here.store to.store piece g.fed.front rest kept was left g.fed.parts
    (fed_advances protected from.connection from.store from.output piece rest here.connection here.store here.output g.fed)
    rises up (crashes_next protected here.connection here.store to.store rest was left rises one)

-- ---- a call that goes on

joined_once : (s : Machine) → writes_joined (writes_joined s) ≡ writes_joined s
joined_once s = ap (λ (ts : List Task). (let m : Machine = record { session = s.session; tasks = ts } in m)) (joined_twice s.tasks)

-- the session goes on behind a call of feed, which took the whole piece
pub feeds_advance : (protected : Bool) (old : TargetConnection) (before : Store) (output piece : List ℕ) (phase : Phase) (new : TargetConnection)
    (after : Store) (written : List ℕ) →
    FeedsFirstBytes protected (scene old before output) piece (Ok phase) (scene new after written)
    → is_machine_closed new.machine ≡ false → TargetAdvances protected old before piece new after
feeds_advance protected old before output piece phase new after written f live = elim f.ends.3 [
  | inl over ↦ absurd (apart (ap is_machine_closed f.ends.1 ∙ over) live)
  | inr g ↦ record {
    messages = f.messages;
    taken = subst (λ (v : Framing). FramerMoves old.framing v piece f.messages) (sym g.framing_is)
        (subst (λ (x : List ℕ). FramerMoves old.framing f.framing x f.messages) (take_all f.count piece (let all = g.all in omega (arith, all)))
        f.answered.taken);
    led = f.stepped;
    may = subst (λ (k : ℕ). MayAnswer protected old.machine before.disk before.failures f.messages f.stepped k) (sym f.leaves.failures) f.answered.may;
    machine = ap writes_joined f.ends.1 ∙ joined_once f.stepped.machine;
    disk_is = f.leaves.disk;
  }
]
