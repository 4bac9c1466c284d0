-- What each step tells: numbers, tags, and what is held.
use Rattle.std.proofs.Common.{◌≡◌, ◌<◌, ◌≤◌, ℕ, ◌+◌, ◌^◌, List, [], ◌∷◌, ◌++◌, Bool}
use Rattle.std.proofs.Common.{true, false, length, Option, refl, sym, ap, ◌∙◌, subst, arith, map, append_assoc}
use Rattle.std.specs.List.{AllByRecursion}
use Rattle.std.proofs.lemmas.List.{append-nil, map-append}
use Rattle.std.proofs.lemmas.Grind.{flat_map-append}
use Rattle.scsi_disk.specs.Disk.{Disk}
use Rattle.scsi_disk.specs.Effect.{Effect}
use Rattle.scsi_disk.specs.declared.order.Order.{Order}
use Rattle.iscsi_pdu.specs.declared.head.Head.{Head}
use Rattle.iscsi_pdu.specs.declared.head.Head.TheVariants.{DataIn}
use Rattle.iscsi_stream.specs.Segment.{segment_bytes}
use Rattle.iscsi_stream.specs.Stream.{Message}
use Rattle.iscsi_text.specs.declared.negotiated.NegKey.TheVariants as keys
use Rattle.iscsi_text.specs.declared.negotiated.Answered.{Answered}
use Rattle.iscsi_text.specs.declared.negotiated.Answered.TheVariants as answered
use Rattle.iscsi_text.specs.Negotiated.{rule_of}
use Rattle.iscsi_login.specs.Negotiation.{AllowsValue, ArePreferencesInRange}
use Rattle.iscsi_login.specs.Held.{Held, IsHeld, held_value, number_of, max_burst}
use Rattle.iscsi_target_session.specs.Configured.{TargetSettings, shortened}
use Rattle.iscsi_target_session.specs.Session.{Session, Reply, target_limit, answer_message, data_in_length}
use Rattle.iscsi_target.specs.declared.tasks.Task.{Task}
use Rattle.iscsi_target.specs.State.{Machine, Execution, TargetStep, on, unchanged, shut_down, waiting_tasks, unit_of}
use Rattle.iscsi_stream.specs.Pieces.{Pieces, piece_data, data_piece, data_pieces}
use Rattle.iscsi_pdu.specs.Serial.{next_sn}
use Rattle.iscsi_target.specs.inner.State.{breaks}
use Rattle.iscsi_target_session.specs.Login.{target_login_step}
use Rattle.iscsi_target.specs.Execution.{Device, device_next, device_after, execute, data_in_parts, data_ins, response_head, sense_segment, as_told}
use Rattle.iscsi_target.specs.Machine.{is_machine_closed, step_on, task_begun, done_in_turn, having_accepted, then_stepped}
use Rattle.iscsi_target.specs.Tiles.{TileBytes, GivesTiles, AreShortDataIn, data_in_tag, data_in_tags}
use Rattle.iscsi_target.specs.Laws.{stat_sns, stat_sn_of, response_tag, response_tags, cmd_sns, given_number, HasCmdSn}
use Rattle.iscsi_target.proofs.Steps.TurnLemmas.{Begins, begins, Turns, turns}
use Rattle.iscsi_target.proofs.Steps.StepPartLemmas.{Accepts, Immediately, InTurn, Parts, step_parts}
use Rattle.iscsi_target.proofs.Answers.ReplyLemmas.{Count, IsReply, Logs, login_logs, reject_and_close_reply, request_answered_reply}
use Rattle.iscsi_target.proofs.Answers.DataInTilingLaw.{execute_tiled}
use Rattle.iscsi_target.proofs.Answers.DataInLengthLemmas.{all_append, given_short, ins_short, shortened_some}

-- ---- numbers one after another

pub count_append : (n : ℕ) (a b : List ℕ) (mid after : ℕ) → Count n a mid → Count mid b after → Count n (a ++ b) after
count_append n [] b mid after e c = subst (λ (x : ℕ). Count x b after) e c
count_append n (k ∷ a) b mid after e c = (e.0, count_append (next_sn n) a b mid after e.1 c)

-- These count on from the first, and the one behind them is due while the session goes on.
pub record CountsTo (n : ℕ) (numbers : List ℕ) (s : Machine) : Type 0 where
  pub next : ℕ
  pub count : Count n numbers next
  pub fits : next < 2 ^ 32
  pub live : is_machine_closed s ≡ false → (s.session.begun ≡ true) × (s.session.exp_cmd_sn ≡ next)

pub counts_on : (n : ℕ) (a b : List ℕ) (mid last : Machine) → is_machine_closed mid ≡ false → (c : CountsTo n a mid) →
    CountsTo mid.session.exp_cmd_sn b last → CountsTo n (a ++ b) last
counts_on n a b mid last live c d = record {
  next = d.next;
  count = count_append n a b c.next d.next c.count (subst (λ (k : ℕ). Count k b d.next) (c.live live).1 d.count);
  fits = d.fits;
  live = d.live;
}

-- in a closed session no more come
pub counts_out : (n : ℕ) (a b : List ℕ) (mid last : Machine) → is_machine_closed last ≡ true → b ≡ [] → CountsTo n a mid → CountsTo n (a ++ b) last
counts_out n a b mid last over none c = record {
  next = c.next;
  count = subst (λ (ks : List ℕ). Count n ks c.next) (sym (ap (λ (ks : List ℕ). a ++ ks) none ∙ append-nil a)) c.count;
  fits = c.fits;
  live = λ e. absurd (let apart : true ≡ false = sym over ∙ e in cc);
}

-- ---- data that commands give

pub record CanGive (s : Session) : Type 0 where
  pub burst : 0 < max_burst s.held
  pub most : 0 < data_in_length s

burst_some : (value : Answered) → AllowsValue (rule_of keys.MaxBurstLength) value → 0 < number_of value
burst_some (answered.Number n) a = omega (arith, a.0)
burst_some (answered.Flag b) a = absurd a
burst_some answered.NoneItem a = absurd a
burst_some answered.Reject a = absurd a

pub held_burst : (held : Held) → IsHeld held → 0 < max_burst held
held_burst held h = burst_some (held_value held keys.MaxBurstLength) (h.values keys.MaxBurstLength)

pub can_give : (s : Session) → IsHeld s.held → CanGive s
can_give s h = record {
  burst = held_burst s.held h;
  most = omega (arith, shortened_some s.settings.extras.longest_data_in s.held.initiator_max_recv (omega (arith, h.initiator_max_recv.0)));
}

abbrev pub tags_done : List Execution → List ℕ
tags_done es = map (λ e. e.initiator_task_tag) es

-- the answers have what a store gave for each execution, one after another
abbrev pub Gives : Device → List Message → List Execution → Type 0
Gives device answers [] = data_pieces answers ≡ []
Gives device answers (e ∷ es) =
    (own : List Message) × (more : List Message) × (answers ≡ own ++ more)
    × GivesTiles e (as_told e.unit e.disk.count e.order (device 0 e.disk e.order (piece_data e.pieces))).outcome.bytes own × Gives (device_next device) more es

none_left : {A : Type 0} (a b : List A) → a ++ b ≡ [] → a ≡ []
none_left [] b e = refl
none_left (x ∷ a) b e = absurd cc

none_right : {A : Type 0} (a b : List A) → a ++ b ≡ [] → b ≡ []
none_right [] b e = e
none_right (x ∷ a) b e = absurd cc

no_tag : (head : Head) (bytes : List ℕ) → data_piece head bytes ≡ [] → data_in_tag head ≡ []
no_tag (DataIn h) bytes e = absurd cc
no_tag _ bytes e = refl

-- answers with no piece of data have no Data-In
no_tags : (ms : List Message) → data_pieces ms ≡ [] → data_in_tags ms ≡ []
no_tags [] e = refl
no_tags (m ∷ ms) e =
    ap (λ (ts : List ℕ). ts ++ data_in_tags ms) (no_tag m.head (segment_bytes m.segment)
    (none_left (data_piece m.head (segment_bytes m.segment)) (data_pieces ms) e))
    ∙ no_tags ms (none_right (data_piece m.head (segment_bytes m.segment)) (data_pieces ms) e)

pieces_append : (a b : List Message) → data_pieces (a ++ b) ≡ data_pieces a ++ data_pieces b
pieces_append a b = flat_map-append (λ (m : Message). data_piece m.head (segment_bytes m.segment)) a b

-- answers without data before those of an execution
gives_behind : (e : Execution) (bytes : List ℕ) (x own : List Message) → data_pieces x ≡ [] → GivesTiles e bytes own → GivesTiles e bytes (x ++ own)
gives_behind e bytes x own none g = record {
  tags = subst (AllByRecursion (λ tag. tag ≡ e.initiator_task_tag)) (sym (flat_map-append (λ (m : Message). data_in_tag m.head) x own
      ∙ ap (λ (ts : List ℕ). ts ++ data_in_tags own) (no_tags x none))) g.tags;
  tiled = subst (λ (ps : Pieces). TileBytes ps bytes) (sym (pieces_append x own ∙ ap (λ (ps : Pieces). ps ++ data_pieces own) none)) g.tiled;
}

gives_after : (device : Device) (x answers : List Message) (es : List Execution) → data_pieces x ≡ [] → Gives device answers es → Gives device (x ++ answers) es
gives_after device x answers [] none g = pieces_append x answers ∙ ap (λ (ps : Pieces). ps ++ data_pieces answers) none ∙ g
gives_after device x answers (e ∷ es) none g = (
  x ++ g.0,
  g.1,
  ap (λ (ms : List Message). x ++ ms) g.2 ∙ sym (append_assoc x g.0 g.1),
  gives_behind e (as_told e.unit e.disk.count e.order (device 0 e.disk e.order (piece_data e.pieces))).outcome.bytes x g.0 none g.3,
  g.4,
)

-- what two parts give, one after the other
gives_append : (device : Device) (a b : List Message) (es fs : List Execution) → Gives device a es → Gives (device_after es device) b fs →
    Gives device (a ++ b) (es ++ fs)
gives_append device a b [] fs g h = gives_after device a b fs g h
gives_append device a b (e ∷ es) fs g h =
    (g.0, g.1 ++ b, ap (λ (ms : List Message). ms ++ b) g.2 ∙ append_assoc g.0 g.1 b, g.3, gives_append (device_next device) g.1 b es fs g.4 h)

-- ---- short Data-In

-- these settings let no Data-In be longer
abbrev pub IsLimit : TargetSettings → ℕ → Type 0
IsLimit settings most = (bytes : ℕ) → shortened settings.extras.longest_data_in bytes ≤ most

pub short_append : (most : ℕ) (a b : List Message) → AreShortDataIn most a → AreShortDataIn most b → AreShortDataIn most (a ++ b)
short_append most a b p q = subst (AllByRecursion (λ piece. length piece.1 ≤ most)) (sym (pieces_append a b))
    (all_append (λ piece. length piece.1 ≤ most) (data_pieces a) (data_pieces b) p q)

none_short : (most : ℕ) (a : List Message) → data_pieces a ≡ [] → AreShortDataIn most a
none_short most a none = subst (AllByRecursion (λ piece. length piece.1 ≤ most)) (sym none) tt

-- ---- what is told

pub record Tells (device : Device) (s : Session) (r : TargetStep) : Type 0 where
  pub stat_sn : Count s.stat_sn (stat_sns r.answers) r.machine.session.stat_sn
  pub tags : response_tags r.answers ≡ tags_done r.executed
  pub gives : ArePreferencesInRange s.settings.preferences → IsHeld s.held → Gives device r.answers r.executed
  pub settings : r.machine.session.settings ≡ s.settings
  -- while the session goes on
  pub live : is_machine_closed r.machine ≡ false → (r.machine.session.begun ≡ s.begun) × (r.machine.session.exp_cmd_sn ≡ s.exp_cmd_sn)
  pub held : ArePreferencesInRange s.settings.preferences → IsHeld s.held → IsHeld r.machine.session.held
  pub limit : s.held.target_max_recv ≤ target_limit s.settings → r.machine.session.held.target_max_recv ≤ target_limit s.settings
  pub short : (most : ℕ) → IsLimit s.settings most → AreShortDataIn most r.answers

of_reply : (device : Device) (s : Session) (tasks : List Task) (disk : Disk) (r : Reply) → IsReply s r → Tells device s (on disk tasks r)
of_reply device s tasks disk r c = record {
  stat_sn = c.stat_sn;
  tags = c.tags;
  gives = λ p h. c.data_ins;
  settings = c.settings;
  live = c.live;
  held = c.held;
  limit = c.limit;
  short = λ most l. none_short most r.answers c.data_ins;
}

stays_tells : (device : Device) (s : Machine) (disk : Disk) → Tells device s.session (unchanged s disk)
stays_tells device s disk = record {
  stat_sn = refl;
  tags = refl;
  gives = λ p h. refl;
  settings = refl;
  live = λ e. (refl, refl);
  held = λ p h. h;
  limit = λ l. l;
  short = λ most l. tt;
}

shut_tells : (device : Device) (s : Machine) (disk : Disk) → Tells device s.session (shut_down s disk)
shut_tells device s disk = record {
  stat_sn = refl;
  tags = refl;
  gives = λ p h. refl;
  settings = refl;
  live = λ e. absurd cc;
  held = λ p h. h;
  limit = λ l. l;
  short = λ most l. tt;
}

-- one part and then another
then_tells : (device : Device) (s : Session) (a b : TargetStep) → is_machine_closed a.machine ≡ false → Tells device s a →
    Tells (device_after a.executed device) a.machine.session b → Tells device s (then_stepped a b)
then_tells device s a b live t u =
    let range : ArePreferencesInRange s.settings.preferences → ArePreferencesInRange a.machine.session.settings.preferences =
    λ p. subst (λ (x : TargetSettings). ArePreferencesInRange x.preferences) (sym t.settings) p in
    record {
      stat_sn = subst (λ (ns : List ℕ). Count s.stat_sn ns b.machine.session.stat_sn)
          (sym (flat_map-append (λ (x : Message). given_number (stat_sn_of x.head)) a.answers b.answers))
          (count_append s.stat_sn (stat_sns a.answers) (stat_sns b.answers) a.machine.session.stat_sn b.machine.session.stat_sn t.stat_sn u.stat_sn);
      tags = flat_map-append (λ (x : Message). response_tag x.head) a.answers b.answers
          ∙ ap (λ (ts : List ℕ). ts ++ response_tags b.answers) t.tags
          ∙ ap (λ (ts : List ℕ). tags_done a.executed ++ ts) u.tags
          ∙ sym (map-append (λ (e : Execution). e.initiator_task_tag) a.executed b.executed);
      gives = λ p h. gives_append device a.answers b.answers a.executed b.executed (t.gives p h) (u.gives (range p) (t.held p h));
      settings = u.settings ∙ t.settings;
      live = λ e. ((u.live e).0 ∙ (t.live live).0, (u.live e).1 ∙ (t.live live).1);
      held = λ p h. u.held (range p) (t.held p h);
      limit = λ l. subst (λ (x : TargetSettings). b.machine.session.held.target_max_recv ≤ target_limit x) t.settings
          (u.limit (subst (λ (x : TargetSettings). a.machine.session.held.target_max_recv ≤ target_limit x) (sym t.settings) (t.limit l)));
      short = λ most l. short_append most a.answers b.answers (t.short most l)
          (u.short most (subst (λ (x : TargetSettings). IsLimit x most) (sym t.settings) l));
    }

ins_stat_sns : (s : Session) (waits tag data_sn at : ℕ) (given : List (List ℕ × Bool)) (more : List Message) →
    stat_sns (data_ins s waits tag data_sn at given ++ more) ≡ stat_sns more
ins_stat_sns s waits tag data_sn at [] more = refl
ins_stat_sns s waits tag data_sn at (part ∷ given) more = ins_stat_sns s waits tag (data_sn + 1) (at + length part.0) given more

ins_tags : (s : Session) (waits tag data_sn at : ℕ) (given : List (List ℕ × Bool)) (more : List Message) →
    response_tags (data_ins s waits tag data_sn at given ++ more) ≡ response_tags more
ins_tags s waits tag data_sn at [] more = refl
ins_tags s waits tag data_sn at (part ∷ given) more = ins_tags s waits tag (data_sn + 1) (at + length part.0) given more

ins_own_tags : (s : Session) (waits tag data_sn at : ℕ) (given : List (List ℕ × Bool)) (more : List Message) → AllByRecursion (λ t. t ≡ tag) (data_in_tags more)
    → AllByRecursion (λ t. t ≡ tag) (data_in_tags (data_ins s waits tag data_sn at given ++ more))
ins_own_tags s waits tag data_sn at [] more a = a
ins_own_tags s waits tag data_sn at (part ∷ given) more a = (refl, ins_own_tags s waits tag (data_sn + 1) (at + length part.0) given more a)

execute_tells : (device : Device) (s : Machine) (disk : Disk) (tag : ℕ) (order : Order) (pieces : Pieces) →
    Tells device s.session (execute device s disk tag order pieces)
execute_tells device s disk tag order pieces =
    let e : Effect = as_told (unit_of s.session) disk.count order (device 0 disk order (piece_data pieces)) in
    let given : List (List ℕ × Bool) = data_in_parts s.session e.outcome.bytes in
    let last : Message = answer_message (response_head s.session (waiting_tasks s.tasks) tag e.outcome (length given)) (sense_segment e.outcome.sense) in
    let all : List Message = (execute device s disk tag order pieces).answers in
    record {
      stat_sn = subst (λ (ns : List ℕ). Count s.session.stat_sn ns (next_sn s.session.stat_sn))
          (sym (ins_stat_sns s.session (waiting_tasks s.tasks) tag 0 0 given (last ∷ []))) (refl, refl);
      tags = ins_tags s.session (waiting_tasks s.tasks) tag 0 0 given (last ∷ []);
      gives = λ p h. let c = can_give s.session h in (
        all,
        [],
        sym (append-nil all),
        record {
          tags = ins_own_tags s.session (waiting_tasks s.tasks) tag 0 0 given (last ∷ []) tt;
          tiled = execute_tiled device s disk tag order pieces c.burst c.most;
        },
        refl,
      );
      settings = refl;
      live = λ e. (refl, refl);
      held = λ p h. h;
      limit = λ l. l;
      short = λ most l. ins_short s.session most (waiting_tasks s.tasks) tag 0 0 given last refl
          (given_short s.session most e.outcome.bytes (l s.session.held.initiator_max_recv));
    }

-- ---- tasks

begins_tell : Begins (λ device s disk task r. Tells device s.session r)
begins_tell = record {
  request_ = λ device s disk k. of_reply device s.session s.tasks disk _ (request_answered_reply s.session (waiting_tasks s.tasks) k.message k.request);
  command_ = λ device s disk tag order. execute_tells device s disk tag order [];
  write_ = λ device s disk w h. execute_tells device s disk w.initiator_task_tag w.order w.pieces;
  send_r2t_ = λ device s disk w h g. record {
    stat_sn = refl;
    tags = refl;
    gives = λ p h. refl;
    settings = refl;
    live = λ e. (refl, refl);
    held = λ p h. h;
    limit = λ l. l;
    short = λ most l. tt;
  };
  wait_ = λ device s disk w h g. record {
    stat_sn = refl;
    tags = refl;
    gives = λ p h. refl;
    settings = refl;
    live = λ e. (refl, refl);
    held = λ p h. h;
    limit = λ l. l;
    short = λ most l. tt;
  };
}

begun_tells : (device : Device) (s : Session) (disk : Disk) (task : Task) (more : List Task) →
    Tells device s (task_begun device (record { session = s; tasks = more }) disk task)
begun_tells device s disk task more = begins (λ device s disk task r. Tells device s.session r) begins_tell device (record { session = s; tasks = more }) disk
    task

turns_tell : Turns (λ device s disk tasks r. Tells device s r)
turns_tell = record {
  none_ = λ device s disk. stays_tells device (record { session = s; tasks = [] }) disk;
  stop_ = λ device s disk task more why. begun_tells device s disk task more;
  then_ = λ device s disk task more b stays live u. then_tells device s (task_begun device (record { session = s; tasks = more }) disk task) b live
      (begun_tells device s disk task more) u;
}

pub done_tells : (device : Device) (s : Session) (disk : Disk) (tasks : List Task) → Tells device s (done_in_turn device s disk tasks)
done_tells device s disk tasks = turns (λ device s disk tasks r. Tells device s r) turns_tell device s disk tasks

-- ---- what a whole step tells

pub record StepTells (device : Device) (s : Machine) (m : Message) (r : TargetStep) : Type 0 where
  pub stat_sn : Count s.session.stat_sn (stat_sns r.answers) r.machine.session.stat_sn
  pub tags : response_tags r.answers ≡ tags_done r.executed
  pub gives : ArePreferencesInRange s.session.settings.preferences → IsHeld s.session.held → Gives device r.answers r.executed
  pub settings : r.machine.session.settings ≡ s.session.settings
  pub held : ArePreferencesInRange s.session.settings.preferences → IsHeld s.session.held → IsHeld r.machine.session.held
  pub limit : s.session.held.target_max_recv ≤ target_limit s.session.settings → r.machine.session.held.target_max_recv ≤ target_limit s.session.settings
  pub short : (most : ℕ) → IsLimit s.session.settings most → AreShortDataIn most r.answers
  pub cmd_sns : s.session.begun ≡ true → s.session.exp_cmd_sn < 2 ^ 32 → HasCmdSn m →
      CountsTo s.session.exp_cmd_sn (cmd_sns r.accepted) r.machine

-- nothing was accepted
none_accepted : (device : Device) (s : Machine) (m : Message) (r : TargetStep) → Tells device s.session r → StepTells device s m (having_accepted [] r)
none_accepted device s m r c = record {
  stat_sn = c.stat_sn;
  tags = c.tags;
  gives = c.gives;
  settings = c.settings;
  held = c.held;
  limit = c.limit;
  short = c.short;
  cmd_sns = λ b f g. record { next = s.session.exp_cmd_sn; count = refl; fits = f; live = λ e. ((c.live e).0 ∙ b, (c.live e).1) };
}

plain_tells : (device : Device) (s : Machine) (m : Message) (disk : Disk) (r : Reply) → IsReply s.session r → StepTells device s m (on disk s.tasks r)
plain_tells device s m disk r c = none_accepted device s m (on disk s.tasks r) (of_reply device s.session s.tasks disk r c)

login_tells : (device : Device) (s : Machine) (m : Message) (disk : Disk) (r : Reply) → Logs s.session m r → StepTells device s m (on disk s.tasks r)
login_tells device s m disk r l = record {
  stat_sn = subst (λ (n : ℕ). Count n (stat_sns r.answers) r.session.stat_sn) l.stat_sn l.is.stat_sn;
  tags = l.is.tags;
  gives = λ p h. l.is.data_ins;
  settings = l.is.settings ∙ l.settings;
  held = λ p h. l.is.held (subst (λ (x : TargetSettings). ArePreferencesInRange x.preferences) (sym l.settings) p) (subst IsHeld (sym l.held) h);
  limit = λ e. subst (λ (x : TargetSettings). r.session.held.target_max_recv ≤ target_limit x) l.settings
      (l.is.limit (subst (λ (x : Held). x.target_max_recv ≤ target_limit l.from.settings) (sym l.held)
      (subst (λ (x : TargetSettings). s.session.held.target_max_recv ≤ target_limit x) (sym l.settings) e)));
  short = λ most e. none_short most r.answers l.is.data_ins;
  cmd_sns = λ b f g. record {
    next = s.session.exp_cmd_sn;
    count = refl;
    fits = f;
    live = λ e. ((l.is.live e).0 ∙ (l.begun b).0, (l.is.live e).1 ∙ (l.begun b).1);
  };
}

-- a request was accepted
accepted_tells : (device : Device) (s t : Machine) (m : Message) (r : TargetStep) → Accepts s m t → Tells device t.session r →
    StepTells device s m (having_accepted (m ∷ []) r)
accepted_tells device s _ m r (Immediately c none) h = record {
  stat_sn = h.stat_sn;
  tags = h.tags;
  gives = h.gives;
  settings = h.settings;
  held = h.held;
  limit = h.limit;
  short = h.short;
  cmd_sns = λ b f g. record {
    next = s.session.exp_cmd_sn;
    count = subst (λ (x : Option ℕ). Count s.session.exp_cmd_sn (given_number x ++ []) s.session.exp_cmd_sn) (sym c) refl;
    fits = f;
    live = λ e. ((h.live e).0 ∙ b, (h.live e).1);
  };
}
accepted_tells device s _ m r (InTurn n c w is) h = record {
  stat_sn = h.stat_sn;
  tags = h.tags;
  gives = h.gives;
  settings = h.settings;
  held = h.held;
  limit = h.limit;
  short = h.short;
  cmd_sns = λ b f g. record {
    next = next_sn s.session.exp_cmd_sn;
    count = subst (λ (x : Option ℕ). Count s.session.exp_cmd_sn (given_number x ++ []) (next_sn s.session.exp_cmd_sn)) (sym c) (is, refl);
    fits = omega arith;
    live = λ e. ((h.live e).0 ∙ b, (h.live e).1);
  };
}

parts_tell : (device : Device) (disk : Disk) → Parts device disk (StepTells device)
parts_tell device disk = record {
  nothing_ = λ s m c. none_accepted device s m (unchanged s disk) (stays_tells device s disk);
  shut_ = λ s m. none_accepted device s m (shut_down s disk) (shut_tells device s disk);
  beside_ = λ s m r a is. plain_tells device s m disk r is.reply;
  reject_and_close_ = λ s rule m. plain_tells device s m disk _ (reject_and_close_reply s.session (waiting_tasks s.tasks) rule m);
  login_ = λ s m k. login_tells device s m disk (target_login_step s.session m) (login_logs s.session m);
  taken_ = λ s m h w v k e f. none_accepted device s m (done_in_turn device s.session disk _) (done_tells device s.session disk _);
  refused_ = λ s t m rule a x. accepted_tells device s t m (breaks t disk rule m) x
      (of_reply device t.session t.tasks disk _ (reject_and_close_reply t.session (waiting_tasks t.tasks) rule m));
  admitted_ = λ s t m a x r is f. accepted_tells device s t m (done_in_turn device t.session disk _) x (done_tells device t.session disk _);
}

pub step_tells : (device : Device) (disk : Disk) (s : Machine) (m : Message) → StepTells device s m (step_on device s disk m)
step_tells device disk s m = step_parts device disk (StepTells device) (parts_tell device disk) s m
