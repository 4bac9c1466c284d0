-- Writes that take the segments of Data-Outs as they come.
use Rattle.std.proofs.Common.{◌≡◌, ◌≤◌, ◌<◌, inl, inr, ◌⊎◌, ℕ, zero, suc, ◌+◌, List, [], ◌∷◌, ◌++◌, Bool, true, false, length, take, Option, Some, None, refl, sym, ap, ◌∙◌, subst, arith}
use Rattle.std.specs.Prelude.{◌==◌, nat_lt, not, ◌&&◌, ◌||◌, if◌then◌else◌, insert, replicate, Result, Ok, Err, IfOk, IfSome, OnSome, IsTrue}
use Rattle.std.specs.List.{list_any}
use Rattle.std.proofs.Math.Seq.{take-append_seam}
use Rattle.std.proofs.lemmas.Bool.{eqb-true, or_cases, cases_lt}
use Rattle.std.proofs.lemmas.List.{length-take, length-append, append-nil}
use Rattle.scsi_disk.specs.Disk.{Disk}
use Rattle.scsi_disk.specs.Runs.{Supplied}
use Rattle.scsi_disk.specs.declared.found.Found.{Found}
use Rattle.scsi_disk.specs.declared.order.Order.{Order}
use Rattle.iscsi_pdu.specs.declared.head.data_out.DataOut.{DataOut as DataPdu}
use Rattle.iscsi_pdu.specs.declared.head.Head.TheVariants as heads
use Rattle.iscsi_pdu.specs.Meaning.{IsHeader, HeadFits, Means, padding}
use Rattle.iscsi_pdu.proofs.HeaderLemmas.{Means-unique}
use Rattle.iscsi_stream.specs.declared.fault.StreamFault.{StreamFault}
use Rattle.iscsi_stream.specs.declared.fault.StreamFault.TheVariants as stream
use Rattle.iscsi_stream.specs.Segment.{continues}
use Rattle.iscsi_stream.specs.Stream.{Message, message}
use Rattle.iscsi_stream.specs.Framing.{Framing, FramerTakes, FinishFails, is_ready, is_whole_pdu, pdu_given_up, message_of}
use Rattle.iscsi_stream.specs.Pieces.{Pieces, piece_data}
use Rattle.iscsi_stream.specs.inner.Gathering.{filling, FillsBody}
use Rattle.iscsi_stream.specs.Headers.{skipped}
use Rattle.iscsi_stream.proofs.HeadLemmas.{header-length}
use Rattle.iscsi_stream.proofs.ReadyLemmas.{apart, and_left, and_right, is_whole-is, unready_of, whole_of}
use Rattle.iscsi_stream.proofs.PassingLemmas.{unready_after}
use Rattle.iscsi_stream.proofs.SkippingLemmas.{fills, body_ready, body_unready, body_stands, given_up-skipped}
use Rattle.iscsi_login.specs.declared.phase.Phase.{Phase}
use Rattle.iscsi_login.specs.Held.{first_burst}
use Rattle.iscsi_login.specs.Stage.{is_closed_phase}
use Rattle.iscsi_target_session.specs.Session.{Session, target_limit}
use Rattle.iscsi_target_session.specs.LoginText.{is_normal}
use Rattle.iscsi_target_session.proofs.CaseLemmas.{by_cases}
use Rattle.iscsi_target_session.proofs.KindLemmas.{plain}
use Rattle.iscsi_target.specs.Write.{Write}
use Rattle.iscsi_target.specs.declared.due.Due.{Due}
use Rattle.iscsi_target.specs.declared.due.Due.TheVariants.{Nothing, Unsolicited, Solicited}
use Rattle.iscsi_target.specs.inner.Staged.{CountsR2ts, IsStaged}
use Rattle.iscsi_target.specs.Transfer.{bytes_received, is_in_sequence, is_next_data_out, is_solicited_piece, continued, with_data, with_piece, joined_write}
use Rattle.iscsi_target.specs.declared.tasks.Task.{Task}
use Rattle.iscsi_target.specs.declared.tasks.Task.TheVariants.{Data}
use Rattle.iscsi_target.specs.State.{Machine, closed_machine, writes_joined}
use Rattle.iscsi_target.specs.Asking.{SomeReadyAsks, machine_asks, asks_task}
use Rattle.iscsi_target.specs.inner.Asking.{NoneReadyAsks}
use Rattle.iscsi_target.specs.Machine.{Met, Queued, on_data_out, full_met, is_machine_closed, is_over_limit, write_of, with_write}
use Rattle.iscsi_target.specs.Crash.{CrashLeavesBlocks, commands_at, commands_by, commands_in, commands_of}
use Rattle.iscsi_target.specs.inner.Crash.{CrashesReady}
use Rattle.iscsi_target.specs.Feed.{TargetConnection, Store, scene}
use Rattle.iscsi_target.specs.inner.Inside.{AreInPlace, MessagePost, AnswersReady, MessageRanOut, IsAnswered, Moment, TargetShutsReady, TasksPost, target_connection, moment}
use Rattle.iscsi_target.specs.inner.Arrival.{Arrival, ArrivesForWrite, IsDataOutDue, IsTaken, IsSegmentThere, MayArrive, TakesData, connected}
use Rattle.iscsi_target.proofs.Steps.TurnLemmas.{with_tasks}
use Rattle.iscsi_target.proofs.Queue.TaskPlaceLemmas.{tag_found, with_same}
use Rattle.iscsi_target.proofs.Writes.JoiningLemmas.{idem}
use Rattle.iscsi_target.proofs.Writes.OpenWriteLemmas.{data_of_one, DueFits, sequence_bound}
use Rattle.iscsi_target.proofs.Turns.TaskRunLemmas.{works_same, ones_written}
use Rattle.iscsi_target.proofs.Feed.CrashLemmas.{commands_same}
use Rattle.iscsi_target.proofs.Turns.ServingLemmas.{works_follow}
use Rattle.iscsi_target.proofs.Turns.OutOfMemoryLemmas.{halts_closed, halts_settings}
use Rattle.iscsi_target_session.specs.declared.inbound.Inbound.TheVariants as inbounds
use Rattle.iscsi_target.proofs.Turns.DispatchLemmas.{came, data_taken_by, due_served, full_answers, over_none}

-- ---- the write behind its Data-Out

-- the last of an asked sequence ends it
ends : (reached end : ℕ) (last : Bool) → is_solicited_piece reached end last ≡ true → last ≡ true → reached ≡ end
ends reached end last e f =
    elim (or_cases (nat_lt reached end && not last) ((reached == end) && last) e) [
      | inl a ↦ absurd (let g : not last ≡ true = and_right (nat_lt reached end) (not last) a in let h : not last ≡ false = ap (λ (b : Bool). not b) f in cc)
      | inr b ↦ eqb-true reached end (and_left (reached == end) last b)
    ]

counted_after : (first : ℕ) (w : Write) (h : DataPdu) (total before reached r2t_count : ℕ) (due : Due) → is_in_sequence first w h reached due ≡ true →
    before ≤ reached → CountsR2ts total before r2t_count due → CountsR2ts total reached r2t_count (if h.is_final then Nothing else continued due)
counted_after first w h total before reached r2t_count Nothing e le counts = absurd cc
counted_after first w h total before reached r2t_count (Unsolicited data_sn) e le counts =
    by_cases h.is_final (λ f. rw f (omega (arith, le, counts))) (λ f. rw f (omega (arith, le, counts)))
counted_after first w h total before reached r2t_count (Solicited tag data_sn end) e le counts =
    by_cases h.is_final
    (λ f.
    let a = and_right (is_next_data_out w h data_sn) ((h.target_transfer_tag == tag) && is_solicited_piece reached end h.is_final) e in
    let b : is_solicited_piece reached end h.is_final ≡ true = and_right (h.target_transfer_tag == tag) (is_solicited_piece reached end h.is_final) a in
    rw f (omega (arith, ends reached end h.is_final b f, counts.1)))
    (λ f. rw f counts)

pub staged_after : (first : ℕ) (w : Write) (h : DataPdu) (order : Order) (found : Found) (total : ℕ) (bytes : List ℕ) (start len r2t_count : ℕ)
    (due_new : Due) →
    due_new ≡ (if h.is_final then Nothing else continued w.due) → IsStaged order found total (take start bytes) w.due r2t_count → start ≤ length bytes
    → start + len ≡ length bytes → length bytes ≤ total → bytes_received w ≡ start → is_in_sequence first w h (bytes_received w + len) w.due ≡ true →
    IsStaged order found total bytes due_new r2t_count
staged_after first w h order found total bytes start len r2t_count due_new is staged begun all fits size e = record {
  is_write = staged.is_write;
  found_is = staged.found_is;
  total_is = staged.total_is;
  fits = fits;
  counted_r2ts = subst (λ (d : Due). CountsR2ts total (length bytes) r2t_count d) (sym is)
      (counted_after first w h total (length (take start bytes)) (length bytes) r2t_count w.due
      (subst (λ (n : ℕ). is_in_sequence first w h n w.due ≡ true) (ap (λ (n : ℕ). n + len) size ∙ all) e) (omega (arith, length-take start bytes))
      staged.counted_r2ts);
}

due_fits : (total n r2t_count : ℕ) (due : Due) → CountsR2ts total n r2t_count due → DueFits total due
due_fits total n r2t_count Nothing counts = tt
due_fits total n r2t_count (Unsolicited data_sn) counts = tt
due_fits total n r2t_count (Solicited tag data_sn end) counts = counts.0

-- the same with the bytes behind those that came before
pub staged_behind : (first : ℕ) (w : Write) (h : DataPdu) (order : Order) (found : Found) (total : ℕ) (old bytes new : List ℕ) (r2t_count : ℕ)
    (due due_new : Due) →
    due_new ≡ (if h.is_final then Nothing else continued due) → due ≡ w.due → total ≡ w.total → IsStaged order found total old due r2t_count → new ≡ old ++
    bytes
    → bytes_received w ≡ length old → is_in_sequence first w h (bytes_received w + length bytes) w.due ≡ true → IsStaged order found total new due_new r2t_count
staged_behind first w h order found total old bytes new r2t_count due due_new is same same_total staged with_ size e =
    let staged' : IsStaged order found total (take (length old) new) w.due r2t_count =
    subst (λ (d : Due). IsStaged order found total (take (length old) new) d r2t_count) same
    (subst (λ (bs : List ℕ). IsStaged order found total bs due r2t_count) (sym (ap (take (length old)) with_ ∙ take-append_seam old bytes)) staged) in
    let all : length old + length bytes ≡ length new = sym (ap length with_ ∙ length-append old bytes) in
    let within : bytes_received w + length bytes ≤ w.total =
    sequence_bound first w h (bytes_received w + length bytes) w.due (subst (λ (n : ℕ). DueFits n w.due) same_total
    (due_fits total (length (take (length old) new)) r2t_count w.due staged'.counted_r2ts)) e in
    staged_after first w h order found total new (length old) (length bytes) r2t_count due_new
    (is ∙ ap (λ (d : Due). if h.is_final then Nothing else continued d) same)
    staged' (omega (arith, all)) all (omega (arith, all, size, within, same_total)) size e

-- ---- bytes that come

-- with so much of the segment and of the padding
abbrev arrived : Arrival → List ℕ → ℕ → Arrival
arrived a segment padded = record a { segment = segment; padded = padded }

arrives_more : (s : Machine) (v : Framing) (a : Arrival) (segment : List ℕ) (padded : ℕ) (piece : List ℕ) (n : ℕ) → ArrivesForWrite s v a →
    FillsBody a.len (filling a.segment a.padded) piece n (filling segment padded) →
    FramerTakes (connected s v (Some a)).framing piece n (connected s v (Some (arrived a segment padded))).framing
    × ArrivesForWrite s v (arrived a segment padded)
arrives_more s v a segment padded piece n h f =
    let both = fills v a.segment a.padded (heads.DataOut a.head) a.len piece n segment padded h.live h.body f in (
      both.0,
      record {
        live = h.live;
        body = both.1;
        some = h.some;
        takes = h.takes;
        due = h.due;
        taken = record {
          found = h.taken.found;
          within = h.taken.within;
          room = h.taken.room;
          back = h.taken.back;
          in_place = h.taken.in_place;
        };
      },
    )

arrival_is : (place place' : ℕ) (write write' : Write) (head head' : DataPdu) (len len' : ℕ) (segment : List ℕ) (padded : ℕ) → place' ≡ place → write' ≡ write →
    head' ≡ head → len' ≡ len
    → (let a : Arrival = record { place = place; write = write; head = head; len = len; segment = segment; padded = padded } in
    let b : Arrival = record { place = place'; write = write'; head = head'; len = len'; segment = segment; padded = padded } in a ≡ b)
arrival_is place place' write write' head head' len len' segment padded p q r e = rw (p, q, r, e) refl

pub filled : (s : Machine) (v : Framing) (a b : Arrival) (piece : List ℕ) (n : ℕ) → ArrivesForWrite s v a → b.place ≡ a.place → b.write ≡ a.write → b.head
    ≡ a.head →
    b.len ≡ a.len → FillsBody a.len (filling a.segment a.padded) piece n (filling b.segment b.padded) →
    FramerTakes (connected s v (Some a)).framing piece n (connected s v (Some b)).framing × ArrivesForWrite s v b
filled s v a b piece n h place write head len f =
    subst (λ (x : Arrival). FramerTakes (connected s v (Some a)).framing piece n (connected s v (Some x)).framing × ArrivesForWrite s v x)
    (arrival_is a.place b.place a.write b.write a.head b.head a.len b.len b.segment b.padded place write head len)
    (arrives_more s v a b.segment b.padded piece n h f)

connected_is : (session session' : Session) (tasks tasks' : List Task) (v : Framing) (held held' : List ℕ) → session ≡ session' → tasks ≡ tasks' → held ≡
    held' →
    target_connection (with_tasks session tasks) (record v { held = held }) ≡ target_connection (with_tasks session' tasks') (record v { held = held' })
connected_is session session' tasks tasks' v held held' p q r = rw (p, q, r) refl

-- a write that is taken from its place for a Data-Out
pub expects : (s t : Machine) (v : Framing) (h : DataPdu) (len : ℕ) (a : Arrival) → v.failed ≡ false → IsHeader v.held (heads.DataOut h) len →
    HeadFits (heads.DataOut h) → len ≤ v.limit → len ≤ v.room → 0 < len → t.session ≡ s.session → TakesData s.session len →
    IsDataOutDue (first_burst s.session.held) a → IsTaken s.tasks t.tasks a → a.head ≡ h → a.len ≡ len → a.segment ≡ [] → a.padded ≡ 0 →
    ArrivesForWrite t v a × (connected t v (Some a) ≡ target_connection s v)
expects s t v h len a live header fits within room some session takes due taken is_head is_len is_segment is_padded =
    let tag = tag_found a.head.initiator_task_tag s.tasks a.write taken.found in
    let tasks : insert t.tasks a.place (Data a.write) ≡ s.tasks = taken.back a.write tag ∙ with_same a.head.initiator_task_tag s.tasks a.write taken.found
    tag in (
      record {
        live = live;
        body = record {
          says = rw (is_head, is_len) header;
          fits = rw is_head fits;
          within = omega (arith, is_len, within);
          has_room = omega (arith, is_len, room);
          no_more = omega (arith, ap length is_segment);
          no_more_padding = omega (arith, is_padded);
          order = λ lt. absurd (omega (arith, is_padded, lt));
        };
        some = omega (arith, is_len, some);
        takes = record {
          full = ap (λ (x : Session). x.phase) session ∙ takes.full;
          normal = ap (λ (x : Session). is_normal x.session_type) session ∙ takes.normal;
          short = ap (λ (x : Session). nat_lt x.held.target_max_recv a.len) session ∙ ap (nat_lt s.session.held.target_max_recv) is_len ∙ takes.short;
        };
        due = subst (λ (x : Session). IsDataOutDue (first_burst x.held) a) (sym session) due;
        taken = subst (λ (ts : List Task). IsTaken ts t.tasks a) (sym tasks) taken;
      },
      connected_is t.session s.session (insert t.tasks a.place (Data a.write)) s.tasks v (v.held ++ (a.segment ++ replicate a.padded 0)) v.held session tasks
          (ap (λ (x : List ℕ). v.held ++ (x ++ replicate a.padded 0)) is_segment ∙ ap (λ (k : ℕ). v.held ++ ([] ++ replicate k 0)) is_padded ∙ append-nil
          v.held),
    )

pub expects_if : (s t : Machine) (v : Framing) (h : DataPdu) (len : ℕ) (r : Option Arrival) → v.failed ≡ false → IsHeader v.held (heads.DataOut h) len →
    HeadFits (heads.DataOut h) → len ≤ v.limit → len ≤ v.room → 0 < len → t.session ≡ s.session → OnSome r (TakesData s.session len) →
    IfSome r (IsDataOutDue (first_burst s.session.held)) → IfSome r (IsTaken s.tasks t.tasks) → IfSome r (λ a. a.head ≡ h) → IfSome r (λ a. a.len ≡ len) →
    IfSome r (λ a. a.segment ≡ []) → IfSome r (λ a. a.padded ≡ 0) →
    IfSome r (ArrivesForWrite t v) × IfSome r (λ a. connected t v (Some a) ≡ target_connection s v)
expects_if s t v h len None live header fits within room some session takes due taken is_head is_len is_segment is_padded = (tt, tt)
expects_if s t v h len (Some a) live header fits within room some session takes due taken is_head is_len is_segment is_padded =
    expects s t v h len a live header fits within room some session takes due taken is_head is_len is_segment is_padded

-- ---- a Data-Out that is there

-- what comes of it
data_met : (s : Machine) (count : ℕ) (c : Bool) (h : DataPdu) (bytes : List ℕ) → is_normal s.session.session_type ≡ true →
    nat_lt s.session.held.target_max_recv (length bytes) ≡ false → on_data_out s (message c (heads.DataOut h) bytes) h bytes
    ≡ (full_met s count (message c (heads.DataOut h) bytes)).next
data_met s count c h bytes normal short =
    let m : Message = message c (heads.DataOut h) bytes in
    ap (λ (b : List ℕ). on_data_out s m h b) (sym (plain c (heads.DataOut h) bytes m refl refl))
    ∙ ap (λ (x : Met). x.next) (sym (due_served s count c (heads.DataOut h) bytes m refl (inbounds.Data h)
    (came c (heads.DataOut h) bytes m refl (Some (inbounds.Data h)) refl) normal short))

-- the write is taken by the machine as by the program
data_queued : (s : Machine) (m : Message) (a : Arrival) (bytes : List ℕ) → write_of s.tasks a.head.initiator_task_tag ≡ Some a.write →
    IsDataOutDue (first_burst s.session.held) a → length bytes ≡ a.len
    → on_data_out s m a.head bytes ≡ Queued s.session (with_write (with_data a.write a.head bytes) s.tasks)
data_queued s m a bytes found due size = data_taken_by s m a.head bytes a.write found
    (subst (λ (n : ℕ). is_in_sequence (first_burst s.session.held) a.write a.head (bytes_received a.write + n) a.write.due ≡ true) (sym size) due)

-- the session and the tasks with the write that a Data-Out came for
abbrev pub arrived_tasks : Machine → Arrival → List Task
arrived_tasks s a = insert s.tasks a.place (Data (joined_write (with_data a.write a.head a.segment)))

-- the message of the Data-Out
abbrev pub arrived_message : Machine → Framing → Arrival → Message
arrived_message s v a = message_of (connected s v (Some a)).framing (heads.DataOut a.head) a.segment

there_size : (s : Machine) (v : Framing) (a : Arrival) → ArrivesForWrite s v a → IsSegmentThere a → length a.segment ≡ a.len
there_size s v a h there = omega (arith, h.body.no_more, there.segment)

back_is : (s : Machine) (v : Framing) (a : Arrival) → ArrivesForWrite s v a → arrived_tasks s a
    ≡ with_write (joined_write (with_data a.write a.head a.segment)) (connected s v (Some a)).machine.tasks
back_is s v a h = h.taken.back (joined_write (with_data a.write a.head a.segment))
    (tag_found a.head.initiator_task_tag (connected s v (Some a)).machine.tasks a.write h.taken.found)

-- it may stand in its place again
pub back_in_place : (s : Machine) (v : Framing) (a : Arrival) → ArrivesForWrite s v a → AreInPlace (arrived_tasks s a)
back_in_place s v a h = h.taken.in_place (joined_write (with_data a.write a.head a.segment)) refl (idem (with_data a.write a.head a.segment))

next_is : (s : Machine) (v : Framing) (a : Arrival) (count : ℕ) → ArrivesForWrite s v a → IsSegmentThere a →
    (full_met (connected s v (Some a)).machine count (arrived_message s v a)).next
    ≡ Queued s.session (with_write (with_data a.write a.head a.segment) (connected s v (Some a)).machine.tasks)
next_is s v a count h there =
    let c = continues v.logins (heads.DataOut a.head) in
    sym (data_met (connected s v (Some a)).machine count c a.head a.segment h.takes.normal
    (ap (nat_lt s.session.held.target_max_recv) (there_size s v a h there) ∙ h.takes.short))
    ∙ data_queued (connected s v (Some a)).machine (arrived_message s v a) a a.segment h.taken.found h.due (there_size s v a h there)

pub arrived_live : (s : Machine) (v : Framing) (a : Arrival) → ArrivesForWrite s v a → is_machine_closed (connected s v (Some a)).machine ≡ false
arrived_live s v a h = ap is_closed_phase h.takes.full

pub arrived_within : (s : Machine) (v : Framing) (a : Arrival) → ArrivesForWrite s v a → v.limit ≡ target_limit s.session.settings →
    is_over_limit (connected s v (Some a)).machine (arrived_message s v a).segment ≡ false
arrived_within s v a h is =
    over_none (connected s v (Some a)).machine (continues v.logins (heads.DataOut a.head)) (heads.DataOut a.head) a.segment
    (omega (arith, is, h.body.no_more, h.body.within))

pub arrived_answers : {E : Type 0} (protected : Bool) (result : Result (Option ℕ) E) (s : Machine) (v : Framing) (a : Arrival) (before : Store)
    (output : List ℕ)
    (new : Machine) (after : Store) (written : List ℕ) → ArrivesForWrite s v a → IsSegmentThere a → v.limit ≡ target_limit s.session.settings →
    TasksPost protected result (moment (with_tasks s.session (arrived_tasks s a)) before output) (moment new after written) →
    MessagePost protected (arrived_message s v a) result (moment (connected s v (Some a)).machine before output) (moment new after written)
arrived_answers protected result s v a before output new after written h there is works =
    let old : Machine = (connected s v (Some a)).machine in
    let w : Write = with_data a.write a.head a.segment in
    full_answers protected result old (arrived_message s v a) before output new after written (arrived_live s v a h) (arrived_within s v a h is) h.takes.full
    (works_follow protected result (full_met old before.disk.count (arrived_message s v a)).next s.session (with_write w old.tasks) old before output new after
    written (next_is s v a before.disk.count h there)
    (works_same protected result s.session (with_write (joined_write w) old.tasks) (with_write w old.tasks) before output new after written
    (ones_written w old.tasks)
    (subst (λ (ts : List Task). TasksPost protected result (moment (with_tasks s.session ts) before output) (moment new after written)) (back_is s v a h)
    works)))

pub arrived_commands : (s : Machine) (v : Framing) (a : Arrival) (count : ℕ) → ArrivesForWrite s v a → IsSegmentThere a → commands_of (arrived_tasks s a)
    ≡ commands_at (connected s v (Some a)).machine count (arrived_message s v a)
arrived_commands s v a count h there =
    let old : Machine = (connected s v (Some a)).machine in
    let w : Write = with_data a.write a.head a.segment in
    ap commands_of (back_is s v a h)
    ∙ commands_same (with_write (joined_write w) old.tasks) (with_write w old.tasks) (ones_written w old.tasks)
    ∙ sym (ap commands_by (next_is s v a count h there))
    ∙ ap (λ (p : Phase). commands_in p old count (arrived_message s v a)) (sym h.takes.full)

pub arrived_ready : (s : Machine) (v : Framing) (a : Arrival) → ArrivesForWrite s v a → IsSegmentThere a → is_ready (connected s v (Some a)).framing ≡ true
arrived_ready s v a h there = body_ready v a.segment a.padded (heads.DataOut a.head) a.len h.live h.body there.segment there.padding

pub arrived_means : (s : Machine) (v : Framing) (a : Arrival) → ArrivesForWrite s v a → IsSegmentThere a →
    Means (connected s v (Some a)).framing.held (heads.DataOut a.head) a.segment
arrived_means s v a h there = body_stands v a.segment a.padded (heads.DataOut a.head) a.len h.body there.segment there.padding

pub arrived_skipped : (s : Machine) (v : Framing) (a : Arrival) → ArrivesForWrite s v a → IsSegmentThere a → skipped v (heads.DataOut a.head) a.len
    ≡ pdu_given_up (connected s v (Some a)).framing (heads.DataOut a.head)
arrived_skipped s v a h there = given_up-skipped v a.segment a.padded (heads.DataOut a.head) a.len h.body there.segment there.padding

-- before it is there, no PDU is ready
pub arriving_unready : (s : Machine) (v : Framing) (a : Arrival) → ArrivesForWrite s v a → (IsSegmentThere a → ⊥) → is_ready (connected s v (Some a)).framing
    ≡ false
arriving_unready s v a h part = elim (cases_lt (length a.segment + a.padded) (a.len + padding a.len)) [
  | inl lt ↦ (let few = body_unready v a.segment a.padded (heads.DataOut a.head) a.len h.body lt in rw few (and_no (not v.failed)))
  | inr ge ↦ absurd (part (record { segment = omega (arith, ge, h.body.no_more_padding); padding = omega (arith, ge, h.body.no_more) }))
]
  where
    and_no : (b : Bool) → (b && false) ≡ false
    and_no true = refl
    and_no false = refl

-- nor is one at its header
pub header_unready : (s : Machine) (v : Framing) (a : Arrival) → ArrivesForWrite s v a → is_whole_pdu v.held ≡ true → ⊥
header_unready s v a h whole =
    omega (arith, (is_whole-is v.held whole).1, h.body.says.size, header-length v.held (heads.DataOut a.head) a.len h.body.says, h.some)

-- ---- what it leads to

-- the store and the tasks behind it, or its crash
pub arrived_done : {E : Type 0} (protected : Bool) (rule : Option ℕ) (s : Machine) (v w : Framing) (a : Arrival) (place : ℕ) (write : Write) (before : Store)
    (output : List ℕ) (new : Machine) (after : Store) (written : List ℕ) → ArrivesForWrite s v a → IsSegmentThere a → v.limit ≡ target_limit s.session.settings
    → place ≡ a.place →
    write ≡ joined_write (with_data a.write a.head a.segment) → w ≡ skipped v (heads.DataOut a.head) a.len →
    (let result : Result (Option ℕ) E = Ok rule in
    TasksPost protected result (moment (with_tasks s.session (insert s.tasks place (Data write))) before output) (moment new after written))
    → IsAnswered protected (scene (connected s v (Some a)) before output) rule (scene (target_connection new w) after written)
arrived_done {E = E} protected rule s v w a place write before output new after written h there is at with skip works =
    let result : Result (Option ℕ) E = Ok rule in
    let done : TasksPost protected result (moment (with_tasks s.session (arrived_tasks s a)) before output) (moment new after written) =
    subst (λ (x : Write). TasksPost protected result (moment (with_tasks s.session (insert s.tasks a.place (Data x))) before output)
    (moment new after written)) with
    (subst (λ (p : ℕ). TasksPost protected result (moment (with_tasks s.session (insert s.tasks p (Data write))) before output) (moment new after written))
    at works) in
    record {
      head = heads.DataOut a.head;
      segment = a.segment;
      ready = arrived_ready s v a h there;
      means = arrived_means s v a h there;
      framing_is = skip ∙ arrived_skipped s v a h there;
      serves = (arrived_answers protected result s v a before output new after written h there is done).ok;
    }

pub arrived_short : {E : Type 0} (e : E) (protected : Bool) (s : Machine) (v w : Framing) (a : Arrival) (place : ℕ) (write : Write) (before : Store)
    (output : List ℕ) (new shut : Machine) (after : Store) (written : List ℕ) → ArrivesForWrite s v a → IsSegmentThere a → v.limit ≡ target_limit
    s.session.settings → place ≡ a.place →
    write ≡ joined_write (with_data a.write a.head a.segment) → w ≡ skipped v (heads.DataOut a.head) a.len → shut ≡ closed_machine new →
    (let result : Result (Option ℕ) E = Err e in
    TasksPost protected result (moment (with_tasks s.session (insert s.tasks place (Data write))) before output) (moment new after written))
    → TargetShutsReady protected (scene (connected s v (Some a)) before output) (scene (target_connection shut w) after written)
arrived_short {E = E} e protected s v w a place write before output new shut after written h there is at with skip close works =
    let result : Result (Option ℕ) E = Err e in
    let done : TasksPost protected result (moment (with_tasks s.session (arrived_tasks s a)) before output) (moment new after written) =
    subst (λ (x : Write). TasksPost protected result (moment (with_tasks s.session (insert s.tasks a.place (Data x))) before output)
    (moment new after written)) with
    (subst (λ (p : ℕ). TasksPost protected result (moment (with_tasks s.session (insert s.tasks p (Data write))) before output) (moment new after written))
    at works) in
    let m : Message = arrived_message s v a in
    let old : Moment = moment (connected s v (Some a)).machine before output in
    let halts : MessageRanOut protected m old (moment new after written) = (arrived_answers protected result s v a before output new after written h there
    is done).err in
    record {
      head = heads.DataOut a.head;
      segment = a.segment;
      means = arrived_means s v a h there;
      unready = ap is_ready (skip ∙ arrived_skipped s v a h there) ∙ unready_after (connected s v (Some a)).framing (heads.DataOut a.head);
      limit = ap (λ (x : Framing). x.limit) skip;
      settings = ap (λ (x : Machine). x.session.settings) close
          ∙ halts_settings protected m old (moment new after written) (arrived_live s v a h) (arrived_within s v a h is) halts;
      closed_ = close ∙ ap closed_machine (sym close);
      halts = subst (λ (x : Machine). MessageRanOut protected m old (moment x after written)) (sym close)
          (halts_closed protected m old (moment new after written) halts);
    }

pub arrived_crash : (protected : Bool) (s : Machine) (v : Framing) (a : Arrival) (place : ℕ) (write : Write) (before after : Disk)
    (kept new : ℕ → List ℕ → Type 0) → ArrivesForWrite s v a → IsSegmentThere a → place ≡ a.place → write ≡ joined_write (with_data a.write a.head a.segment) →
    CrashLeavesBlocks protected (commands_of (insert s.tasks place (Data write))) before after kept new
    → CrashesReady protected (connected s v (Some a)) before after kept new
arrived_crash protected s v a place write before after kept new h there at with crash = inr (
  heads.DataOut a.head,
  a.segment,
  arrived_means s v a h there,
  subst (λ (orders : List Supplied). CrashLeavesBlocks protected orders before after kept new)
      (ap (λ (p : ℕ). commands_of (insert s.tasks p (Data write))) at
      ∙ ap (λ (x : Write). commands_of (insert s.tasks a.place (Data x))) with ∙ arrived_commands s v a before.count h there) crash,
)

-- the same, where the write and the bytes stood with the session
pub ready_done : {E : Type 0} (protected : Bool) (r : Result (Option ℕ) E) (old old' new new' : TargetConnection) (before after : Store)
    (output written : List ℕ) →
    old ≡ old' → new ≡ new' → IfOk r (λ rule. IsAnswered protected (scene old before output) rule (scene new after written))
    → IfOk r (λ rule. AnswersReady protected (scene old' before output) rule (scene new' after written))
ready_done protected (Ok rule) old old' new new' before after output written p q h =
    inr (subst (λ (x : TargetConnection). IsAnswered protected (scene old' before output) rule (scene x after written)) q
    (subst (λ (x : TargetConnection). IsAnswered protected (scene x before output) rule (scene new after written)) p h))
ready_done protected (Err e) old old' new new' before after output written p q h = tt

pub ready_same : {E : Type 0} (protected : Bool) (r : Result (Option ℕ) E) (old old' new new' : TargetConnection) (before after : Store)
    (output written : List ℕ) →
    old ≡ old' → new ≡ new' → IfOk r (λ rule. AnswersReady protected (scene old before output) rule (scene new after written))
    → IfOk r (λ rule. AnswersReady protected (scene old' before output) rule (scene new' after written))
ready_same protected r old old' new new' before after output written p q h =
    subst (λ (x : TargetConnection). IfOk r (λ rule. AnswersReady protected (scene old' before output) rule (scene x after written))) q
    (subst (λ (x : TargetConnection). IfOk r (λ rule. AnswersReady protected (scene x before output) rule (scene new after written))) p h)

-- ---- whether a command asks

or_swap : (a b : Bool) → (a || b) ≡ (b || a)
or_swap true true = refl
or_swap true false = refl
or_swap false true = refl
or_swap false false = refl

or_or : (a b c : Bool) → (a || (b || c)) ≡ ((a || b) || c)
or_or true b c = refl
or_or false b c = refl

any_insert : (f : Task → Bool) (ts : List Task) (n : ℕ) (x : Task) → list_any f (insert ts n x) ≡ (list_any f ts || f x)
any_insert f ts zero x = or_swap (f x) (list_any f ts)
any_insert f [] (suc n) x = or_swap (f x) false
any_insert f (t ∷ ts) (suc n) x = ap (λ (b : Bool). f t || b) (any_insert f ts n x) ∙ or_or (f t) (list_any f ts) (f x)

no_head : (a b : Bool) → ((a || b) || false) ≡ ((a || false) || b)
no_head true true = refl
no_head true false = refl
no_head false true = refl
no_head false false = refl

pub arrived_asks : (s : Machine) (v : Framing) (a : Arrival) →
    machine_asks (connected s v (Some a)).machine (heads.DataOut a.head) ≡ (machine_asks s (heads.DataOut a.head) || asks_task (Data a.write))
arrived_asks s v a = ap (λ (b : Bool). b || false) (any_insert asks_task s.tasks a.place (Data a.write))
    ∙ no_head (list_any asks_task s.tasks) (asks_task (Data a.write))

pub none_arriving : (s : Machine) (v : Framing) (a : Arrival) → ArrivesForWrite s v a → (IsSegmentThere a → ⊥) →
    NoneReadyAsks (connected s v (Some a)).machine (connected s v (Some a)).framing
none_arriving s v a h part head segment ready means = absurd (apart ready (arriving_unready s v a h part))

pub none_arrived : (s : Machine) (v : Framing) (a : Arrival) → ArrivesForWrite s v a → IsSegmentThere a →
    (machine_asks s (heads.DataOut a.head) || asks_task (Data a.write)) ≡ false →
    NoneReadyAsks (connected s v (Some a)).machine (connected s v (Some a)).framing
none_arrived s v a h there quiet head segment ready means =
    let same = Means-unique (connected s v (Some a)).framing.held (heads.DataOut a.head) head a.segment segment (arrived_means s v a h there) means in
    ap (machine_asks (connected s v (Some a)).machine) (sym same.0) ∙ arrived_asks s v a ∙ quiet

pub some_arrived : (s : Machine) (v : Framing) (a : Arrival) → ArrivesForWrite s v a → IsSegmentThere a →
    (machine_asks s (heads.DataOut a.head) || asks_task (Data a.write)) ≡ true →
    SomeReadyAsks (connected s v (Some a)).machine (connected s v (Some a)).framing
some_arrived s v a h there asks = record {
  head = heads.DataOut a.head;
  segment = a.segment;
  means = arrived_means s v a h there;
  asks = arrived_asks s v a ∙ asks;
}

-- ---- the end of the stream

pub ends_within : (s : Machine) (v : Framing) (a : Arrival) (e : StreamFault) → ArrivesForWrite s v a → is_ready (connected s v (Some a)).framing ≡ false →
    FinishFails v e → FinishFails (connected s v (Some a)).framing e
ends_within s v a stream.NoMemory h unready f = f
ends_within s v a (stream.Head fault place) h unready f = f
ends_within s v a (stream.OverLimit place) h unready f = f
ends_within s v a (stream.Truncated place) h unready f = (
  f.0,
  omega (arith, f.1, length-append v.held (a.segment ++ replicate a.padded 0)),
  unready_of v.failed (connected s v (Some a)).framing.held h.live unready,
  f.3,
)
ends_within s v a stream.Failed h unready f = f

pub not_ended : (s : Machine) (v : Framing) (a : Arrival) → ArrivesForWrite s v a → (v.held ≡ []) ⊎ IsTrue (is_ready v) → ⊥
not_ended s v a h (inl none) = omega (arith, ap length none, h.body.says.size)
not_ended s v a h (inr ready) = header_unready s v a h (whole_of v.failed v.held ready)

pub ended : (s : Machine) (v : Framing) (r : Option Arrival) → MayArrive s v r → is_ready (connected s v r).framing ≡ false →
    (v.held ≡ []) ⊎ IsTrue (is_ready v) → (connected s v r).framing.held ≡ []
ended s v None may unready (inl none) = none
ended s v None may unready (inr ready) = absurd (apart ready unready)
ended s v (Some a) may unready e = absurd (not_ended s v a may e)

pub ends_at : (s : Machine) (v : Framing) (r : Option Arrival) (e : StreamFault) → MayArrive s v r → is_ready (connected s v r).framing ≡ false →
    FinishFails v e → FinishFails (connected s v r).framing e
ends_at s v None e may unready f = f
ends_at s v (Some a) e may unready f = ends_within s v a e may unready f

-- ---- the bytes of each write as one piece

pub one_piece : (w : Write) (bytes : List ℕ) → with_piece [] 0 bytes ≡ w.pieces → joined_write w ≡ w
one_piece w bytes is = pieces_are w (with_piece [] 0 (piece_data w.pieces))
    (ap (λ (p : Pieces). with_piece [] 0 (piece_data p)) (sym is) ∙ ap (λ (b : List ℕ). with_piece [] 0 b) (data_of_one bytes) ∙ is)
  where
    pieces_are : (w : Write) (pieces : Pieces) → pieces ≡ w.pieces → (let x : Write = record w { pieces = pieces } in x ≡ w)
    pieces_are w pieces e = rw e refl

pub joined_with : (s : Machine) (v : Framing) (a : Arrival) → ArrivesForWrite s v a → joined_write a.write ≡ a.write →
    writes_joined (connected s v (Some a)).machine ≡ (connected s v (Some a)).machine
joined_with s v a h one = ap (with_tasks s.session) (h.taken.in_place a.write refl one).joined

pub either_left : (a b : Bool) → a ≡ true → (a || b) ≡ true
either_left a b e = rw e refl

pub either_right : (a b : Bool) → b ≡ true → (a || b) ≡ true
either_right true b e = refl
either_right false b e = e
