-- The data of a read, and how the initiator receives them.
use Rattle.std.specs.List.{flat_map}
use Rattle.std.proofs.Common.{◌≡◌, ◌<◌, ◌≤◌, ℕ, zero, suc, ◌+◌, ◌^◌, Bool, List, [], ◌∷◌, ◌++◌, length, drop, Option, Some, None, refl}
use Rattle.std.proofs.Common.{sym, ap, ◌∙◌, subst, arith, append_assoc}
use Rattle.std.proofs.Math.Nat.{mod-eq_of_lt}
use Rattle.std.proofs.lemmas.Bool.{eq-eqb, le-leb, le-ltb}
use Rattle.std.proofs.lemmas.List.{append-nil, length-append, length-drop}
use Rattle.scsi_cdb.specs.declared.residual.Residual.{Residual}
use Rattle.scsi_cdb.specs.declared.residual.Residual.TheVariants.{Exact, Under, Over}
use Rattle.scsi_cdb.specs.declared.sense.Sense.{Sense}
use Rattle.scsi_disk.specs.declared.order.Outcome.{Outcome}
use Rattle.scsi_disk.specs.Disk.{Disk}
use Rattle.iscsi_pdu.specs.declared.serial.Window.{Window}
use Rattle.iscsi_pdu.specs.Serial.{moved, next_sn}
use Rattle.iscsi_pdu.specs.declared.head.scsi_response.ScsiResponse.{ScsiResponse}
use Rattle.iscsi_stream.specs.Segment.{segment_bytes}
use Rattle.iscsi_stream.specs.Stream.{Message}
use Rattle.iscsi_login.specs.declared.phase.Phase.TheVariants as phases
use Rattle.iscsi_login.specs.Held.{Held, IsHeld, max_burst}
use Rattle.iscsi_target.specs.State as target
use Rattle.iscsi_target.specs.State.{max_cmd_sn}
use Rattle.iscsi_target_session.specs.Session.{Session, answer_message, data_in_length}
use Rattle.iscsi_target.specs.Execution.{command_answers, data_ins, data_in_head, marked_parts, data_in_parts, response_head, sequence_parts, sense_segment}
use Rattle.iscsi_stream.specs.Pieces.{chunks_within, chunks}
use Rattle.iscsi_target.proofs.Steps.SendingLemmas.{CanGive, can_give}
use Rattle.iscsi_target.proofs.Answers.DataInLengthLemmas.{AreShort, given_short, shortened_within}
use Rattle.iscsi_target.proofs.Answers.DataInTilingLaw.{Parts, all_given, bytes_of}
use Rattle.iscsi_stream.proofs.ChunkLemmas.{joined, joined_chunks}
use Rattle.iscsi_initiator.specs.declared.request.Done.TheVariants as done
use Rattle.iscsi_initiator.specs.declared.outstanding.Outstanding.{Outstanding}
use Rattle.iscsi_initiator.specs.declared.outstanding.Outstanding.TheVariants as opens
use Rattle.iscsi_initiator.proofs.StepLemmas.{response_answer}
use Rattle.iscsi_initiator.specs.Full.{Response, due_to}
use Rattle.iscsi_initiator.specs.State as initiator
use Rattle.iscsi_initiator.specs.State.{serial}
use Rattle.iscsi_initiator.specs.Progress.{ReadProgress}
use Rattle.iscsi_initiator.specs.Steps.{quiet}
use Rattle.iscsi_initiator.specs.Machine.{initiator_step}
use Rattle.iscsi_pair.specs.LocalDisk.{DiskExchange, reported_sense}
use Rattle.iscsi_pair.proofs.Wire.WindowLemmas.{IsNear}
use Rattle.iscsi_pair.proofs.Request.AnswersInOrder.{LeadsWithin, leads_less, receives_quiet}
use Rattle.iscsi_pair.proofs.Request.Invariant.{between}

-- ---- the initiator receives the data

-- an initiator that has an outstanding read, and was told this window
abbrev pub reading : initiator.InitiatorSession → ReadProgress → Window → initiator.InitiatorSession
reading m r window = record m { phase = phases.Full; outstanding = Some (opens.In r); window = window }

-- the window that the target tells
abbrev pub told_window : Window → target.Machine → Window
told_window window t = moved window (serial t.session.exp_cmd_sn) (serial (max_cmd_sn t))

-- one part that is due
part_received : (m : initiator.InitiatorSession) (t : target.Machine) (r : ReadProgress) (window : Window) (part : List ℕ × Bool)
    → length part.0 ≤ m.held.initiator_max_recv → length r.received + length part.0 ≤ r.expected
    → initiator_step (reading m r window) (answer_message (data_in_head t.session (target.waiting_tasks t.tasks) m.initiator_task_tag r.next_data_sn
    (length r.received) part.1)
    part.0)
    ≡ quiet (reading m (record r { received = r.received ++ part.0; next_data_sn = next_sn r.next_data_sn }) (told_window window t))
unfolding initiator_step segment_bytes
part_received m t r window part short room =
    rw (
      eq-eqb m.initiator_task_tag m.initiator_task_tag refl,
      le-ltb m.held.initiator_max_recv (length part.0) short,
      eq-eqb r.next_data_sn r.next_data_sn refl,
      eq-eqb (length r.received) (length r.received) refl,
      le-leb (length r.received + length part.0) r.expected room,
    ) refl

-- counting below the end of the circle
pub next_small : (n : ℕ) → n + 1 < 2 ^ 32 → next_sn n ≡ n + 1
next_small n lt = mod-eq_of_lt lt

-- parts that are due, one behind the other
pub record PartsReceived (m : initiator.InitiatorSession) (t : target.Machine) (r : ReadProgress) (window : Window) (given : Parts) (more : List Message) : Type
    0 where
  pub told : Window
  -- what each told window keeps is kept
  pub kept : (n : ℕ) → ((w : Window) → IsNear n w → IsNear n (told_window w t)) → IsNear n window → IsNear n told
  pub leads : (low most : ℕ) → low + length given ≤ most → (held : Held) (s : target.Machine) (disk : Disk) (x : DiskExchange)
      → LeadsWithin low held (between (reading m (record r { received = r.received ++ bytes_of given; next_data_sn = r.next_data_sn + length given }) told)
      s disk more)
      x
      → LeadsWithin most held (between (reading m r window) s disk (data_ins t.session (target.waiting_tasks t.tasks) m.initiator_task_tag r.next_data_sn
      (length r.received)
      given ++ more)) x

parts_received : (m : initiator.InitiatorSession) (t : target.Machine) (r : ReadProgress) (window : Window) (given : Parts) (more : List Message)
    → m.done ≡ None → AreShort m.held.initiator_max_recv given → length r.received + length (bytes_of given) ≤ r.expected
    → r.next_data_sn + length given < 2 ^ 32
    → PartsReceived m t r window given more
parts_received m t r window [] more none short room few =
    let same : r ≡ record { expected = r.expected; received = r.received ++ []; next_data_sn = r.next_data_sn + 0 } =
    λ i. record {
      expected = r.expected;
      received = sym (append-nil r.received) i;
      next_data_sn = (let e : r.next_data_sn ≡ r.next_data_sn + 0 = omega arith in
          e) i;
    } in
    record {
      told = window;
      kept = λ n keeps near. near;
      leads = λ low most le held s disk x l. leads_less low most held (between (reading m r window) s disk more) x (omega (arith, le))
          (subst (λ (y : ReadProgress). LeadsWithin low held (between (reading m y window) s disk more) x) (sym same) l);
    }
parts_received m t r window (part ∷ given) more none short room few =
    let r' : ReadProgress = record { expected = r.expected; received = r.received ++ part.0; next_data_sn = r.next_data_sn + 1 } in
    let room' : length r.received + length part.0 ≤ r.expected = omega (arith, room, length-append part.0 (bytes_of given)) in
    let sn : next_sn r.next_data_sn ≡ r.next_data_sn + 1 = next_small r.next_data_sn (omega (arith, few)) in
    let h : PartsReceived m t r' (told_window window t) given more =
    parts_received m t r' (told_window window t) given more none short.1 (omega (
      arith,
      room,
      length-append part.0 (bytes_of given),
      length-append r.received part.0,
    )) (omega (arith, few)) in
    let one : initiator_step (reading m r window) (answer_message (data_in_head t.session (target.waiting_tasks t.tasks) m.initiator_task_tag r.next_data_sn
    (length r.received)
    part.1) part.0) ≡ quiet (reading m r' (told_window window t)) =
    part_received m t r window part short.0 room'
    ∙ ap (λ (n : ℕ). quiet (reading m (record r { received = r.received ++ part.0; next_data_sn = n }) (told_window window t))) sn in
    let same : record r' { received = r'.received ++ bytes_of given; next_data_sn = r'.next_data_sn + length given } ≡ record r {
      received =
          r.received ++ bytes_of (part ∷ given);
      next_data_sn = r.next_data_sn + length (part ∷ given);
    } =
    λ i. record {
      expected = r.expected;
      received = append_assoc r.received part.0 (bytes_of given) i;
      next_data_sn = (let e : r.next_data_sn + 1 + length given ≡ r.next_data_sn + length (part ∷ given) = omega arith in e) i;
    } in
    record {
      told = h.told;
      kept = λ n keeps near. h.kept n keeps (keeps window near);
      leads = λ low most le held s disk x l. receives_quiet (low + length given) most (omega (arith, le)) held (reading m r window)
          (reading m r' (told_window window t)) s disk
          (answer_message (data_in_head t.session (target.waiting_tasks t.tasks) m.initiator_task_tag r.next_data_sn (length r.received) part.1) part.0)
          (data_ins t.session (target.waiting_tasks t.tasks) m.initiator_task_tag (r.next_data_sn + 1) (length r.received + length part.0) given ++ more) x one
          refl
          refl none
          (subst (λ (n : ℕ). LeadsWithin (low + length given) held (between (reading m r' (told_window window t)) s disk
          (data_ins t.session (target.waiting_tasks t.tasks) m.initiator_task_tag (r.next_data_sn + 1) n given ++ more)) x) (length-append r.received part.0)
          (h.leads low (low + length given) (omega arith) held s disk x
          (subst (λ (y : ReadProgress). LeadsWithin low held (between (reading m y h.told) s disk more) x) (sym same) l)));
    }

-- ---- the data of a command, in parts

parts_few : (fuel size : ℕ) (bytes : List ℕ) → 0 < size → length (chunks_within fuel size bytes) ≤ length bytes
parts_few zero size bytes lt = omega arith
parts_few (suc more) size [] lt = omega arith
parts_few (suc more) size (b ∷ bytes) lt = omega (arith, parts_few more size (drop size (b ∷ bytes)) lt, length-drop size (b ∷ bytes), lt)

marked_few : (xs : List (List ℕ)) → length (marked_parts xs) ≡ length xs
marked_few [] = refl
marked_few (x ∷ []) = refl
marked_few (x ∷ y ∷ xs) = ap suc (marked_few (y ∷ xs))

runs_few : (s : Session) (runs : List (List ℕ)) → 0 < data_in_length s → length (flat_map (sequence_parts s) runs) ≤ length (joined runs)
runs_few s [] lt = omega arith
runs_few s (run ∷ runs) lt =
    omega (
      arith,
      length-append (sequence_parts s run) (flat_map (sequence_parts s) runs),
      length-append run (joined runs),
      marked_few (chunks (data_in_length s) run),
      parts_few (length run) (data_in_length s) run lt,
      runs_few s runs lt,
    )

-- no more parts than bytes
given_few : (s : Session) (bytes : List ℕ) → 0 < max_burst s.held → 0 < data_in_length s → length (data_in_parts s bytes) ≤ length bytes
given_few s bytes burst most =
    omega (arith, runs_few s (chunks (max_burst s.held) bytes) most, ap (λ (x : List ℕ). length x) (joined_chunks (max_burst s.held) bytes burst))

-- ---- the initiator receives the response

-- an initiator whose command has this outcome
abbrev pub finished : initiator.InitiatorSession → target.Machine → Window → Outcome → List ℕ → initiator.InitiatorSession
finished m t window outcome received = record m {
  phase = phases.Full;
  exp_stat_sn = Some (next_sn t.session.stat_sn);
  window = told_window window t;
  outstanding = None;
  done = Some (done.Command 0 outcome.status (reported_sense outcome.sense) received outcome.residual);
}

-- an initiator with this request open
abbrev pub waiting : initiator.InitiatorSession → Outstanding → Window → initiator.InitiatorSession
waiting m open_ window = record m { phase = phases.Full; outstanding = Some open_; window = window }

-- a command that is open takes its response, and has received these bytes
abbrev pub Awaits : Outstanding → List ℕ → Type 0
Awaits open_ received = (h : ScsiResponse) → due_to (Some open_) (response_answer h) ≡ Some (Response received h)

pub outcome_received : (m : initiator.InitiatorSession) (t : target.Machine) (open_ : Outstanding) (received : List ℕ) (window : Window) (status : ℕ)
    (sense : Option
    Sense)
    (bytes : List ℕ) (residual : Residual) (count : ℕ)
    → Awaits open_ received → m.exp_stat_sn ≡ Some t.session.stat_sn → 20 ≤ m.held.initiator_max_recv
    → (let outcome : Outcome = record { status = status; sense = sense; bytes = bytes; residual = residual } in
    initiator_step (waiting m open_ window) (answer_message (response_head t.session (target.waiting_tasks t.tasks) m.initiator_task_tag outcome count)
    (sense_segment sense))
    ≡ quiet (finished m t window outcome received))
unfolding initiator_step segment_bytes
outcome_received m t open_ received window status None bytes Exact count d e le =
    rw (
      eq-eqb m.initiator_task_tag m.initiator_task_tag refl,
      d _,
      le-ltb m.held.initiator_max_recv 0 (omega arith),
      e,
      eq-eqb t.session.stat_sn t.session.stat_sn refl,
    ) refl
outcome_received m t open_ received window status None bytes (Under n) count d e le =
    rw (
      eq-eqb m.initiator_task_tag m.initiator_task_tag refl,
      d _,
      le-ltb m.held.initiator_max_recv 0 (omega arith),
      e,
      eq-eqb t.session.stat_sn t.session.stat_sn refl,
    ) refl
outcome_received m t open_ received window status None bytes (Over n) count d e le =
    rw (
      eq-eqb m.initiator_task_tag m.initiator_task_tag refl,
      d _,
      le-ltb m.held.initiator_max_recv 0 (omega arith),
      e,
      eq-eqb t.session.stat_sn t.session.stat_sn refl,
    ) refl
outcome_received m t open_ received window status (Some sense) bytes Exact count d e le =
    rw (eq-eqb m.initiator_task_tag m.initiator_task_tag refl, d _, le-ltb m.held.initiator_max_recv 20 le, e, eq-eqb t.session.stat_sn t.session.stat_sn refl)
    refl
outcome_received m t open_ received window status (Some sense) bytes (Under n) count d e le =
    rw (eq-eqb m.initiator_task_tag m.initiator_task_tag refl, d _, le-ltb m.held.initiator_max_recv 20 le, e, eq-eqb t.session.stat_sn t.session.stat_sn refl)
    refl
outcome_received m t open_ received window status (Some sense) bytes (Over n) count d e le =
    rw (eq-eqb m.initiator_task_tag m.initiator_task_tag refl, d _, le-ltb m.held.initiator_max_recv 20 le, e, eq-eqb t.session.stat_sn t.session.stat_sn refl)
    refl

-- what the target answers to a read
pub record ReadReceived (m : initiator.InitiatorSession) (t : target.Machine) (r : ReadProgress) (window : Window) (outcome : Outcome) : Type 0 where
  pub told : Window
  pub kept : (n : ℕ) → ((w : Window) → IsNear n w → IsNear n (told_window w t)) → IsNear n window → IsNear n told
  pub leads : (low most : ℕ) → low + length outcome.bytes + 1 ≤ most → (held : Held) (s : target.Machine) (disk : Disk) (x : DiskExchange)
      → LeadsWithin low held (between (finished m t told outcome outcome.bytes) s disk []) x
      → LeadsWithin most held (between (reading m r window) s disk (command_answers t.session (target.waiting_tasks t.tasks) m.initiator_task_tag outcome
      (data_in_parts t.session outcome.bytes))) x

-- the parts of what is given, each of which the initiator takes
pub record AreGiven (s : Session) (bytes : List ℕ) : Type 0 where
  pub all : bytes_of (data_in_parts s bytes) ≡ bytes
  pub short : AreShort s.held.initiator_max_recv (data_in_parts s bytes)
  pub few : length (data_in_parts s bytes) ≤ length bytes

pub are_given : (s : Session) (bytes : List ℕ) → IsHeld s.held → AreGiven s bytes
are_given s bytes is =
    let c : CanGive s = can_give s is in
    record {
      all = all_given s bytes c.burst c.most;
      short = given_short s s.held.initiator_max_recv bytes (shortened_within s.settings.extras.longest_data_in s.held.initiator_max_recv);
      few = given_few s bytes c.burst c.most;
    }

pub read_received : (m : initiator.InitiatorSession) (t : target.Machine) (window : Window) (outcome : Outcome) (expected : ℕ) → t.session.held ≡ m.held
    → IsHeld m.held
    → m.exp_stat_sn ≡ Some t.session.stat_sn → m.done ≡ None
    → length outcome.bytes ≤ expected → expected < 2 ^ 32 → ReadReceived m t (record { expected = expected; received = []; next_data_sn = 0 }) window outcome
read_received m t window outcome expected held is_held stat_sn none room small =
    let r : ReadProgress = record { expected = expected; received = []; next_data_sn = 0 } in
    let g : AreGiven t.session outcome.bytes = are_given t.session outcome.bytes (subst IsHeld (sym held) is_held) in
    let given : Parts = data_in_parts t.session outcome.bytes in
    let last : Message = answer_message (response_head t.session (target.waiting_tasks t.tasks) m.initiator_task_tag outcome (length given))
    (sense_segment outcome.sense) in
    let h : PartsReceived m t r window given (last ∷ []) =
    parts_received m t r window given (last ∷ []) none (subst (λ (k : Held). AreShort k.initiator_max_recv given) held g.short)
    (omega (arith, room, ap (λ (x : List ℕ). length x) g.all)) (omega (arith, g.few, room, small)) in
    let r' : ReadProgress = record { expected = expected; received = bytes_of given; next_data_sn = 0 + length given } in
    let one = outcome_received m t (opens.In r') r'.received h.told outcome.status outcome.sense outcome.bytes outcome.residual (length given) (λ h. refl)
    stat_sn
    (omega (arith, is_held.initiator_max_recv.0)) in
    record {
      told = h.told;
      kept = h.kept;
      leads = λ low most le k s disk x l. h.leads (low + 1) most (let few = g.few in omega (arith, few, le)) k s disk x
          (receives_quiet low (low + 1) (omega arith) k (reading m r' h.told) (finished m t h.told outcome (bytes_of given)) s disk last [] x one refl refl none
          (subst (λ (y : List ℕ). LeadsWithin low k (between (finished m t h.told outcome y) s disk []) x) (sym g.all) l));
    }
