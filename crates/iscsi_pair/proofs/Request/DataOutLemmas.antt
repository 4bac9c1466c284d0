-- A Data-Out and a sequence of them: written, read and taken (RFC 7143, section 11.7).
use Rattle.std.specs.Prelude.{IfSome, min, if◌then◌else◌, is_some}
use Rattle.std.specs.Bool.{then_some}
use Rattle.std.specs.List.{AllByRecursion}
use Rattle.std.proofs.Common.{◌≡◌, ◌⊎◌, inl, inr, ◌<◌, ◌≤◌, ℕ, zero, suc, ◌+◌, ◌^◌, Bool, true, false, List, [], ◌∷◌, ◌++◌, length, take, drop, Option}
use Rattle.std.proofs.Common.{refl, sym, ap, ◌∙◌, subst, arith, append_assoc, ne_eqb}
use Rattle.std.proofs.Math.Nat.{mod-lt}
use Rattle.std.proofs.lemmas.Bool.{eq-eqb, le-ltb, lt-ltb}
use Rattle.std.proofs.lemmas.List.{append-nil, length-append, length-take}
use Rattle.std.proofs.lemmas.Grind.{flat_map-append}
use Rattle.scsi_disk.specs.Disk.{Disk}
use Rattle.iscsi_pdu.specs.declared.head.Head.TheVariants as heads
use Rattle.iscsi_pdu.specs.declared.head.data_out.DataOut.{DataOut}
use Rattle.iscsi_pdu.specs.Fields.{is_tag, reserved_tag}
use Rattle.iscsi_stream.specs.Segment.{Bytes, segment_bytes}
use Rattle.iscsi_stream.specs.Stream.{Message}
use Rattle.iscsi_login.specs.declared.phase.Phase.TheVariants as phases
use Rattle.iscsi_text.specs.declared.negotiated.Session.TheVariants as sessions
use Rattle.iscsi_login.specs.Held.{IsHeld, first_burst}
use Rattle.iscsi_target.specs.declared.due.Due.{Due}
use Rattle.iscsi_target.specs.declared.due.Due.TheVariants.{Nothing, Unsolicited, Solicited}
use Rattle.iscsi_target_session.specs.Session as target_session
use Rattle.iscsi_target.specs.State as target
use Rattle.iscsi_target.specs.Write.{Write}
use Rattle.iscsi_target.specs.declared.tasks.Task.TheVariants.{Data}
use Rattle.iscsi_target.specs.State.{TargetStep, unchanged}
use Rattle.iscsi_stream.specs.Pieces.{Pieces, piece_data, chunks_within, chunks}
use Rattle.iscsi_pdu.specs.Serial.{next_sn}
use Rattle.iscsi_target.specs.Transfer.{continued, is_nothing_due, is_in_sequence, is_whole_write, bytes_received, with_data, with_piece}
use Rattle.iscsi_target.specs.Execution.{reliable}
use Rattle.iscsi_target.specs.Command.{proceed}
use Rattle.iscsi_target.specs.Machine.{answers, step_on, then_stepped}
use Rattle.iscsi_target.proofs.Turns.SingleTaskLemmas.{data_alone}
use Rattle.iscsi_target.proofs.Steps.TurnLemmas.{then_nothing}
use Rattle.iscsi_initiator.specs.State as initiator
use Rattle.iscsi_initiator.specs.State.{sent_exp_stat_sn}
use Rattle.iscsi_initiator.specs.Full.{data_outs, is_last_piece, sequence}
use Rattle.iscsi_stream.proofs.ChunkLemmas.{joined, joined_chunks}
use Rattle.iscsi_pair.proofs.Wire.WrittenPdus.{data_out_readable}
use Rattle.iscsi_pair.proofs.Request.AnswersInOrder.{ArePlain}
use Rattle.iscsi_pair.proofs.Request.AnswersInOrder.{plain_more}
use Rattle.iscsi_pair.proofs.Request.AnswersInOrder.{short_message}
use Rattle.iscsi_pair.proofs.Request.ReadLemmas.{ready}

-- ---- a Data-Out

-- a target in full feature phase whose one task is this write
abbrev pub writer : target.Machine → ℕ → Write → target.Machine
writer t cmd_sn w = record {
  session = record t.session { phase = phases.Full; session_type = sessions.Normal; exp_cmd_sn = cmd_sn };
  tasks = Data w ∷ [];
}

abbrev pub data_message : DataOut → List ℕ → Message
data_message h piece = record { head = heads.DataOut h; segment = Bytes piece }

data_taken : (t : target.Machine) (cmd_sn : ℕ) (w : Write) (disk : Disk) (h : DataOut) (piece : List ℕ) → length piece ≤ t.session.held.target_max_recv
    → t.session.held.target_max_recv ≤ target_session.target_limit t.session.settings
    → h.initiator_task_tag ≡ w.initiator_task_tag → is_in_sequence (first_burst t.session.held) w h (bytes_received w + length piece) w.due ≡ true
    → step_on (reliable false) (writer t cmd_sn w) disk (data_message h piece) ≡ proceed (reliable false) (ready t cmd_sn) disk (with_data w h piece)
unfolding segment_bytes
data_taken t cmd_sn w disk h piece short limit tag due =
    data_alone (reliable false) (writer t cmd_sn w).session disk w (data_message h piece) h
    (record {
      phase = refl;
      within = le-ltb (target_session.target_limit t.session.settings) (length piece) (omega (arith, short, limit));
      came = refl;
      may = refl;
      short = le-ltb t.session.held.target_max_recv (length piece) short;
    }) (eq-eqb w.initiator_task_tag h.initiator_task_tag (sym tag)) due

-- ---- a sequence

-- Data-Outs of one sequence are due, up to this byte: their tag, and what is due for each DataSN
pub record IsSequence (most total tag end : ℕ) (due : ℕ → Due) : Type 0 where
  pub goes_on : (data_sn : ℕ) → continued (due data_sn) ≡ due (next_sn data_sn)
  pub busy : (data_sn : ℕ) → is_nothing_due (due data_sn) ≡ false
  pub takes : (w : Write) (h : DataOut) (reached : ℕ) → w.total ≡ total → h.buffer_offset ≡ bytes_received w → h.target_transfer_tag ≡ tag
      → ((h.is_final ≡ false) × (reached < end)) ⊎ ((h.is_final ≡ true) × (reached ≡ end))
      → is_in_sequence most w h reached (due h.data_sn) ≡ true

unsolicited_takes : (most total data_sn : ℕ) (w : Write) (h : DataOut) (reached : ℕ) → w.total ≡ total → h.buffer_offset ≡ bytes_received w
    → h.target_transfer_tag ≡ reserved_tag
    → ((h.is_final ≡ false) × (reached < min total most)) ⊎ ((h.is_final ≡ true) × (reached ≡ min total most))
    → is_in_sequence most w h reached (Unsolicited h.data_sn) ≡ true
unsolicited_takes most total data_sn w h reached all at tag (inl c) =
    rw (
      eq-eqb h.data_sn h.data_sn refl,
      eq-eqb h.buffer_offset (bytes_received w) at,
      eq-eqb h.target_transfer_tag reserved_tag tag,
      all,
      lt-ltb reached (min total most) c.1,
    ) refl
unsolicited_takes most total data_sn w h reached all at tag (inr c) =
    rw (
      eq-eqb h.data_sn h.data_sn refl,
      eq-eqb h.buffer_offset (bytes_received w) at,
      eq-eqb h.target_transfer_tag reserved_tag tag,
      all,
      le-ltb reached (min total most) (omega (arith, c.1)),
      eq-eqb reached (min total most) c.1,
      c.0,
    ) refl

pub unsolicited : (most total : ℕ) → IsSequence most total reserved_tag (min total most) Unsolicited
unsolicited most total = record {
  goes_on = λ data_sn. refl;
  busy = λ data_sn. refl;
  takes = λ w h reached. unsolicited_takes most total h.data_sn w h reached;
}

solicited_takes : (most total tag end : ℕ) (w : Write) (h : DataOut) (reached : ℕ) → h.buffer_offset ≡ bytes_received w → h.target_transfer_tag ≡ tag
    → ((h.is_final ≡ false) × (reached < end)) ⊎ ((h.is_final ≡ true) × (reached ≡ end))
    → is_in_sequence most w h reached (Solicited tag h.data_sn end) ≡ true
solicited_takes most total tag end w h reached at e (inl c) =
    rw (eq-eqb h.data_sn h.data_sn refl, eq-eqb h.buffer_offset (bytes_received w) at, eq-eqb h.target_transfer_tag tag e, lt-ltb reached end c.1, c.0) refl
solicited_takes most total tag end w h reached at e (inr c) =
    rw (
      eq-eqb h.data_sn h.data_sn refl,
      eq-eqb h.buffer_offset (bytes_received w) at,
      eq-eqb h.target_transfer_tag tag e,
      le-ltb reached end (omega (arith, c.1)),
      eq-eqb reached end c.1,
      c.0,
    ) refl

pub solicited : (most total tag end : ℕ) → IsSequence most total tag end (λ data_sn. Solicited tag data_sn end)
solicited most total tag end = record {
  goes_on = λ data_sn. refl;
  busy = λ data_sn. refl;
  takes = λ w h reached all. solicited_takes most total tag end w h reached;
}

-- each piece has bytes, and is one that the target takes
abbrev pub ArePieces : ℕ → List (List ℕ) → Type 0
ArePieces most ps = AllByRecursion (λ piece. (0 < length piece) × (length piece ≤ most)) ps

received_more : (w : Write) (offset : ℕ) (piece : List ℕ) → 0 < length piece → piece_data (with_piece w.pieces offset piece) ≡ piece_data w.pieces ++ piece
received_more w offset [] some = absurd (omega (arith, some))
received_more w offset (b ∷ bytes) some =
    flat_map-append (λ piece. piece.1) w.pieces ((offset, b ∷ bytes) ∷ []) ∙ ap (λ (x : List ℕ). piece_data w.pieces ++ x) (append-nil (b ∷ bytes))

-- a Data-Out that isn't the last of its sequence
piece_taken : (t : target.Machine) (cmd_sn : ℕ) (w : Write) (disk : Disk) (h : DataOut) (piece : List ℕ) (end : ℕ) (due : ℕ → Due)
    → IsSequence (first_burst t.session.held) w.total h.target_transfer_tag end due
    → w.due ≡ due h.data_sn → h.is_final ≡ false → h.buffer_offset ≡ bytes_received w → h.initiator_task_tag ≡ w.initiator_task_tag → 0 < length piece
    → length piece ≤ t.session.held.target_max_recv
    → t.session.held.target_max_recv ≤ target_session.target_limit t.session.settings → bytes_received w + length piece < end → end ≤ w.total
    → step_on (reliable false) (writer t cmd_sn w) disk (data_message h piece)
    ≡ unchanged (writer t cmd_sn (record w { pieces = with_piece w.pieces h.buffer_offset piece; due = due (next_sn h.data_sn) })) disk
piece_taken t cmd_sn w disk h piece end due s is_due final at tag some short limit before_ room =
    let v : Write = record w { pieces = with_piece w.pieces h.buffer_offset piece; due = due (next_sn h.data_sn) } in
    let here : is_in_sequence (first_burst t.session.held) w h (bytes_received w + length piece) w.due ≡ true =
    ap (is_in_sequence (first_burst t.session.held) w h (bytes_received w + length piece)) is_due ∙ s.takes w h (bytes_received w + length piece) refl at refl
    (inl (final, before_)) in
    let is : with_data w h piece ≡ v =
    ap (λ (b : Bool). record w { pieces = with_piece w.pieces h.buffer_offset piece; due = if b then Nothing else continued w.due }) final
    ∙ ap (λ (d : Due). record w { pieces = with_piece w.pieces h.buffer_offset piece; due = d }) (ap continued is_due ∙ s.goes_on h.data_sn) in
    let part : is_whole_write v ≡ false =
    ne_eqb w.total (bytes_received v) (λ e. omega (
      arith,
      e,
      ap (λ (x : List ℕ). length x) (received_more w h.buffer_offset piece some),
      length-append (piece_data w.pieces) piece,
      before_,
      room,
    )) in
    data_taken t cmd_sn w disk h piece short limit tag here
    ∙ ap (proceed (reliable false) (ready t cmd_sn) disk) is
    ∙ rw (part, s.busy (next_sn h.data_sn)) refl

-- what a whole sequence leads to
pub record SequenceTaken (t : target.Machine) (cmd_sn : ℕ) (w : Write) (disk : Disk) (ms : List Message) (bytes : List ℕ) : Type 0 where
  pub came : Pieces
  pub whole : piece_data came ≡ piece_data w.pieces ++ bytes
  pub is : answers false (writer t cmd_sn w) disk ms ≡ proceed (reliable false) (ready t cmd_sn) disk (record w { pieces = came; due = Nothing })

sequence_taken : (t : target.Machine) (cmd_sn : ℕ) (w : Write) (disk : Disk) (h : DataOut) (piece : List ℕ) (more : List (List ℕ)) (end : ℕ) (due : ℕ → Due)
    → IsSequence (first_burst t.session.held) w.total h.target_transfer_tag end due
    → w.due ≡ due h.data_sn → h.buffer_offset ≡ bytes_received w → h.initiator_task_tag ≡ w.initiator_task_tag
    → ArePieces t.session.held.target_max_recv (piece ∷ more)
    → t.session.held.target_max_recv ≤ target_session.target_limit t.session.settings → bytes_received w + length (joined (piece ∷ more)) ≡ end → end ≤ w.total
    → SequenceTaken t cmd_sn w disk (data_outs h (piece ∷ more)) (joined (piece ∷ more))
unfolding answers
sequence_taken t cmd_sn w disk h piece [] end due s is_due at tag all limit up room =
    let h' : DataOut = record h { is_final = true } in
    let here : is_in_sequence (first_burst t.session.held) w h' (bytes_received w + length piece) w.due ≡ true =
    ap (is_in_sequence (first_burst t.session.held) w h' (bytes_received w + length piece)) is_due
    ∙ s.takes w h' (bytes_received w + length piece) refl at refl (inr (refl, (let e = length-append piece [] in omega (arith, e, up)))) in
    record {
      came = with_piece w.pieces h.buffer_offset piece;
      whole = received_more w h.buffer_offset piece all.0.0 ∙ ap (λ (x : List ℕ). piece_data w.pieces ++ x) (sym (append-nil piece));
      is = then_nothing (step_on (reliable false) (writer t cmd_sn w) disk (data_message h' piece))
          ∙ data_taken t cmd_sn w disk h' piece all.0.1 limit tag here;
    }
sequence_taken t cmd_sn w disk h piece (second ∷ more) end due s is_due at tag all limit up room =
    let h' : DataOut = record h { is_final = false } in
    let v : Write = record w { pieces = with_piece w.pieces h.buffer_offset piece; due = due (next_sn h.data_sn) } in
    let h2 : DataOut = record h { data_sn = next_sn h.data_sn; buffer_offset = h.buffer_offset + length piece } in
    let len = length-append piece (joined (second ∷ more)) in
    let len2 = length-append second (joined more) in
    let now = ap (λ (x : List ℕ). length x) (received_more w h.buffer_offset piece all.0.0) ∙ length-append (piece_data w.pieces) piece in
    let one : step_on (reliable false) (writer t cmd_sn w) disk (data_message h' piece) ≡ unchanged (writer t cmd_sn v) disk =
    piece_taken t cmd_sn w disk h' piece end due s is_due refl at tag all.0.0 all.0.1 limit (omega (arith, up, len, len2, all.1.0.0)) room in
    let r : SequenceTaken t cmd_sn v disk (data_outs h2 (second ∷ more)) (joined (second ∷ more)) =
    sequence_taken t cmd_sn v disk h2 second more end due s refl (omega (arith, at, now)) tag all.1 limit (omega (arith, up, len, now)) room in
    record {
      came = r.came;
      whole = r.whole ∙ ap (λ (x : List ℕ). x ++ joined (second ∷ more)) (received_more w h.buffer_offset piece all.0.0)
          ∙ append_assoc (piece_data w.pieces) piece
          (joined (second ∷ more));
      is = ap (λ (x : TargetStep). then_stepped x (answers false x.machine x.disk (data_outs h2 (second ∷ more)))) one ∙ r.is;
    }

-- ---- the pieces of a sequence

pub pieces_are : (fuel size : ℕ) (bytes : List ℕ) → 0 < size → ArePieces size (chunks_within fuel size bytes)
pieces_are zero size bytes lt = tt
pieces_are (suc more) size [] lt = tt
pieces_are (suc more) size (b ∷ bytes) lt =
    let len = length-take size (b ∷ bytes) in ((omega (arith, len, lt), omega (arith, len)), pieces_are more size (drop size (b ∷ bytes)) lt)

-- ---- a sequence is read as it was written

-- the numbers of a Data-Out have room
pub record AreSmall (h : DataOut) : Type 0 where
  pub has_lun : is_some h.lun ≡ is_tag h.target_transfer_tag
  pub lun : IfSome h.lun (λ n. n < 2 ^ 64)
  pub tag : h.initiator_task_tag < 2 ^ 32
  pub transfer : h.target_transfer_tag < 2 ^ 32
  pub stat_sn : h.exp_stat_sn < 2 ^ 32
  pub data_sn : h.data_sn < 2 ^ 32

data_outs_written : (most : ℕ) (h : DataOut) (ps : List (List ℕ)) → most < 2 ^ 24 → AreSmall h → h.buffer_offset + length (joined ps) < 2 ^ 32
    → ArePieces most ps → ArePlain most (data_outs h ps)
data_outs_written most h [] size a room all = λ logins. tt
data_outs_written most h (piece ∷ more) size a room all =
    let h' : DataOut = record h { is_final = is_last_piece more } in
    let h2 : DataOut = record h { data_sn = next_sn h.data_sn; buffer_offset = h.buffer_offset + length piece } in
    let len = length-append piece (joined more) in
    let a2 : AreSmall h2 = record {
      has_lun = a.has_lun;
      lun = a.lun;
      tag = a.tag;
      transfer = a.transfer;
      stat_sn = a.stat_sn;
      data_sn = mod-lt (h.data_sn + 1) (omega arith);
    } in
    plain_more most (data_message h' piece) (data_outs h2 more)
    (λ logins. data_out_readable logins h' piece a.has_lun a.lun a.tag a.transfer a.stat_sn a.data_sn (omega (arith, room)) (omega (arith, all.0.1, size)))
    (short_message (heads.DataOut h') piece most all.0.1)
    (data_outs_written most h2 more size a2 (omega (arith, room, len)) all.1)

-- what an initiator sends in one sequence
pub sequence_written : (m : initiator.InitiatorSession) (lun : Option ℕ) (transfer offset : ℕ) (bytes : List ℕ) → IsHeld m.held → m.initiator_task_tag ≤ 0xffff_fffe
    → sent_exp_stat_sn m < 2 ^ 32
    → is_some lun ≡ is_tag transfer → IfSome lun (λ n. n < 2 ^ 64) → transfer < 2 ^ 32 → offset + length bytes < 2 ^ 32
    → ArePlain m.held.target_max_recv (sequence m lun transfer offset bytes)
sequence_written m lun transfer offset bytes is tag stat_sn has_lun on_ transfer_fits room =
    let most : ℕ = m.held.target_max_recv in
    let lt : 0 < most = omega (arith, is.target_max_recv.0) in
    let h : DataOut = record {
      is_final = false;
      lun = lun;
      initiator_task_tag = m.initiator_task_tag;
      target_transfer_tag = transfer;
      exp_stat_sn = sent_exp_stat_sn m;
      data_sn = 0;
      buffer_offset = offset;
    } in
    let small : AreSmall h = record {
      has_lun = has_lun;
      lun = on_;
      tag = omega (arith, tag);
      transfer = transfer_fits;
      stat_sn = stat_sn;
      data_sn = omega arith;
    } in
    data_outs_written most h (chunks most bytes) (omega (arith, is.target_max_recv.1)) small
    (omega (arith, ap (λ (x : List ℕ). length x) (joined_chunks most bytes lt), room)) (pieces_are (length bytes) most bytes lt)

-- the LUN that goes along where the transfer tag is one has room
pub lun_fits : (b : Bool) (lun : ℕ) → lun < 2 ^ 64 → IfSome (then_some b lun) (λ n. n < 2 ^ 64)
lun_fits true lun lt = lt
lun_fits false lun lt = tt

-- ---- a sequence is taken

-- a sequence with these bytes, if it has any
pub batch_taken : (t : target.Machine) (cmd_sn : ℕ) (w : Write) (disk : Disk) (h : DataOut) (bytes : List ℕ) (end : ℕ) (due : ℕ → Due)
    → IsSequence (first_burst t.session.held) w.total h.target_transfer_tag end due
    → w.due ≡ due h.data_sn → h.buffer_offset ≡ bytes_received w → h.initiator_task_tag ≡ w.initiator_task_tag → 0 < t.session.held.target_max_recv
    → t.session.held.target_max_recv ≤ target_session.target_limit t.session.settings
    → 0 < length bytes → bytes_received w + length bytes ≡ end → end ≤ w.total
    → SequenceTaken t cmd_sn w disk (data_outs h (chunks t.session.held.target_max_recv bytes)) bytes
batch_taken t cmd_sn w disk h [] end due s is_due at tag lt limit some up room = absurd (omega (arith, some))
batch_taken t cmd_sn w disk h (b ∷ bytes) end due s is_due at tag lt limit some up room =
    let most : ℕ = t.session.held.target_max_recv in
    let whole : joined (chunks most (b ∷ bytes)) ≡ b ∷ bytes = joined_chunks most (b ∷ bytes) lt in
    subst (SequenceTaken t cmd_sn w disk (data_outs h (chunks most (b ∷ bytes)))) whole
    (sequence_taken t cmd_sn w disk h (take most (b ∷ bytes)) (chunks_within (length bytes) most (drop most (b ∷ bytes))) end due s is_due at tag
    (pieces_are (length (b ∷ bytes)) most (b ∷ bytes) lt) limit
    (ap (λ (x : List ℕ). bytes_received w + length x) whole ∙ up) room)
