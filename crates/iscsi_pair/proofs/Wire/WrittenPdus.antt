-- What goes in full feature phase is read as it was written.
use Rattle.std.specs.Prelude.{IfSome, is_some, ◌||◌}
use Rattle.std.proofs.Common.{◌≡◌, ◌<◌, ◌≤◌, ℕ, ◌^◌, Bool, false, List, [], length, Option, Some, None, refl, sym, subst, arith}
use Rattle.std.proofs.Math.Nat.{mod-lt}
use Rattle.std.specs.Bool.{OnTrue}
use Rattle.scsi_cdb.specs.declared.residual.Residual.{Residual}
use Rattle.scsi_cdb.specs.declared.residual.Residual.TheVariants.{Exact, Under, Over}
use Rattle.scsi_cdb.specs.declared.sense.Sense.{Sense}
use Rattle.scsi_cdb.specs.Layout.{HaveRoom}
use Rattle.scsi_cdb.proofs.LayoutLemmas.{HaveRoom-filled}
use Rattle.scsi_cdb.proofs.RecordLemmas.{IsRecord-room, IsRecord-fits, record_is}
use Rattle.scsi_cdb.specs.Blocks.{record_of}
use Rattle.scsi_disk.specs.declared.order.Outcome.{Outcome}
use Rattle.iscsi_pdu.specs.declared.head.Head.{Head}
use Rattle.iscsi_pdu.specs.declared.head.Head.TheVariants as heads
use Rattle.iscsi_pdu.specs.declared.head.data_out.DataOut.{DataOut}
use Rattle.iscsi_pdu.specs.declared.head.nop_out.NopOut.{NopOut}
use Rattle.iscsi_pdu.specs.declared.head.logout_request.LogoutRequest.{LogoutRequest}
use Rattle.iscsi_pdu.specs.Fields.{is_tag}
use Rattle.iscsi_pdu.specs.Meaning.{rows, opcode, is_login, AreBytes, FitsBlock, HasBlockRoom, IsWritable}
use Rattle.iscsi_pdu.proofs.HeaderLemmas.{writable-means}
use Rattle.iscsi_stream.specs.declared.logins.Logins.{Logins}
use Rattle.iscsi_stream.specs.Segment.{Bytes, continues, is_last_login_pdu, segment_bytes}
use Rattle.iscsi_stream.proofs.SegmentLemmas.{segment_plain, none_whole}
use Rattle.iscsi_target.specs.State as target
use Rattle.iscsi_target_session.specs.Session.{answer_message}
use Rattle.iscsi_target.specs.Write.{Write}
use Rattle.iscsi_target.specs.State.{max_cmd_sn, waiting_tasks}
use Rattle.iscsi_target.specs.Transfer.{bytes_received, desired}
use Rattle.iscsi_target.specs.Execution.{data_in_head, response_head, residual_count, sense_segment, is_over, is_under}
use Rattle.iscsi_target.specs.Command.{r2t_head}
use Rattle.iscsi_target_session.specs.Requests.{nop_in_head, logout_head}
use Rattle.iscsi_initiator.specs.State as initiator
use Rattle.iscsi_initiator.specs.State.{sent_exp_stat_sn}
use Rattle.iscsi_initiator.specs.Submitted.{command_head, ping_head, logout_request_head}
use Rattle.iscsi_pair.proofs.Wire.PrefixLemmas.{Readable}
use Rattle.iscsi_pair.proofs.Wire.WindowLemmas.{tag_after}

-- ---- any message with bytes

-- a head that is no login's has no text behind it
no_text : (h : Head) → is_login (opcode h) ≡ false → is_last_login_pdu h ≡ false
no_text (heads.LoginRequest h) e = absurd (cc e)
no_text (heads.LoginResponse h) e = absurd (cc e)
no_text _ e = refl

-- a head that is no login's, whose fields have room, can be written before n bytes
plain_writable : (h : Head) (n : ℕ) → is_login (opcode h) ≡ false → HaveRoom (rows h) → FitsBlock h → HasBlockRoom h → n < 2 ^ 24 → IsWritable h n
plain_writable h n e room fits block lt = record {
  fits = record { filled = HaveRoom-filled (rows h) room; block = fits };
  room = room;
  block_room = block;
  short = lt;
  login = subst (λ (b : Bool). OnTrue b (n ≤ 8192)) (sym e) tt;
}

-- A head that is no login's, whose fields have room, is read as it was written, with its bytes.
pub plain_readable : (logins : Logins) (h : Head) (bytes : List ℕ) → is_login (opcode h) ≡ false → HaveRoom (rows h) → FitsBlock h → HasBlockRoom h
    → length bytes < 2 ^ 24
    → Readable logins (answer_message h bytes)
unfolding segment_bytes
plain_readable logins h bytes e room fits block lt = record {
  means = writable-means h bytes (plain_writable h (length bytes) e room fits block lt);
  meaning = segment_plain (continues logins h) h bytes (none_whole.1 (continues logins h) (is_last_login_pdu h) (no_text h e));
}

-- ---- what the initiator sends

-- a tag that names a task has room
tag_room : (tag : ℕ) → tag ≤ 0xffff_fffe → initiator.next_tag tag < 2 ^ 32
tag_room tag le = omega (arith, tag_after tag le)

-- A command is read as it was written.
pub command_readable : (logins : Logins) (m : initiator.InitiatorSession) (is_final read write : Bool) (lun : ℕ) (cdb bytes : List ℕ) (expected : ℕ)
    → lun < 2 ^ 64 → length cdb ≡ 16 → AreBytes cdb → m.initiator_task_tag ≤ 0xffff_fffe → expected < 2 ^ 32 → m.cmd_sn < 2 ^ 32
    → sent_exp_stat_sn m < 2 ^ 32 → length bytes < 2 ^ 24
    → Readable logins (record {
      head = heads.ScsiCommand (record (command_head m is_final lun cdb) { read = read; write = write; expected_data_transfer_length = expected });
      segment = Bytes bytes;
    })
command_readable logins m is_final read write lun cdb bytes expected on size are tag fits cmd_sn stat_sn lt =
    plain_readable logins (heads.ScsiCommand (record (command_head m is_final lun cdb)
    { read = read; write = write; expected_data_transfer_length = expected }))
    bytes refl (
      refl,
      (
        refl,
        (
          refl,
          (
            refl,
            (
              (refl, omega arith),
              (
                (refl, on),
                (
                  (refl, tag_room m.initiator_task_tag tag),
                  ((refl, fits), ((refl, cmd_sn), ((refl, stat_sn), tt))),
                ),
              ),
            ),
          ),
        ),
      ),
    )
    (IsRecord-fits cdb (record_of cdb) are (record_is cdb size)) (IsRecord-room cdb (record_of cdb) are (record_is cdb size)) lt

-- Data that an initiator sends are read as they were written.
pub data_out_readable : (logins : Logins) (h : DataOut) (bytes : List ℕ)
    → is_some h.lun ≡ is_tag h.target_transfer_tag → IfSome h.lun (λ n. n < 2 ^ 64) → h.initiator_task_tag < 2 ^ 32 → h.target_transfer_tag < 2 ^ 32
    → h.exp_stat_sn < 2 ^ 32 → h.data_sn < 2 ^ 32 → h.buffer_offset < 2 ^ 32 → length bytes < 2 ^ 24
    → Readable logins (record { head = heads.DataOut h; segment = Bytes bytes })
data_out_readable logins h bytes has_lun lun tag transfer stat_sn data_sn offset lt =
    plain_readable logins (heads.DataOut h) bytes refl
    (refl, ((has_lun, lun), ((refl, tag), ((refl, transfer), ((refl, stat_sn), ((refl, data_sn), ((refl, offset), tt)))))))
    tt tt lt

-- A ping is read as it was written.
pub ping_readable : (logins : Logins) (m : initiator.InitiatorSession) (bytes : List ℕ)
    → m.initiator_task_tag ≤ 0xffff_fffe → m.cmd_sn < 2 ^ 32 → sent_exp_stat_sn m < 2 ^ 32 → length bytes < 2 ^ 24
    → Readable logins (record { head = heads.NopOut (ping_head m); segment = Bytes bytes })
ping_readable logins m bytes tag cmd_sn stat_sn lt =
    plain_readable logins (heads.NopOut (ping_head m)) bytes refl
    (refl, ((refl, tt), ((refl, tag_room m.initiator_task_tag tag), ((refl, omega arith), ((refl, cmd_sn), ((refl, stat_sn), tt))))))
    tt tt lt

-- A logout is read as it was written.
pub logout_readable : (logins : Logins) (m : initiator.InitiatorSession)
    → m.initiator_task_tag ≤ 0xffff_fffe → m.cmd_sn < 2 ^ 32 → sent_exp_stat_sn m < 2 ^ 32
    → Readable logins (record { head = heads.LogoutRequest (logout_request_head m); segment = Bytes [] })
logout_readable logins m tag cmd_sn stat_sn =
    plain_readable logins (heads.LogoutRequest (logout_request_head m)) [] refl
    (refl, ((refl, omega arith), ((refl, tag_room m.initiator_task_tag tag), ((refl, tt), ((refl, cmd_sn), ((refl, stat_sn), tt))))))
    tt tt (omega arith)

-- ---- what the target answers

-- MaxCmdSN always has room
max_room : (s : target.Machine) → max_cmd_sn s < 2 ^ 32
max_room s = mod-lt _ (omega arith)

-- Data that a target sends are read as they were written.
pub data_in_readable : (logins : Logins) (s : target.Machine) (tag data_sn offset : ℕ) (is_final : Bool) (bytes : List ℕ)
    → tag < 2 ^ 32 → data_sn < 2 ^ 32 → offset < 2 ^ 32 → s.session.exp_cmd_sn < 2 ^ 32 → length bytes < 2 ^ 24
    → Readable logins (answer_message (data_in_head s.session (waiting_tasks s.tasks) tag data_sn offset is_final) bytes)
data_in_readable logins s tag data_sn offset is_final bytes tag_fits data_sn_fits offset_fits cmd_sn lt =
    plain_readable logins (data_in_head s.session (waiting_tasks s.tasks) tag data_sn offset is_final) bytes refl (
      refl,
      (
        refl,
        (
          refl,
          (
            refl,
            (
              refl,
              (
                (refl, tt),
                (
                  (refl, tt),
                  (
                    (refl, tag_fits),
                    (
                      (refl, omega arith),
                      ((refl, tt), ((refl, cmd_sn), ((refl, max_room s), ((refl, data_sn_fits), ((refl, offset_fits), ((refl, tt), tt)))))),
                    ),
                  ),
                ),
              ),
            ),
          ),
        ),
      ),
    )
    tt tt lt

-- a residual has a count exactly where there is one
has_count : (r : Residual) → is_some (residual_count r) ≡ (is_over r || is_under r)
has_count Exact = refl
has_count (Under n) = refl
has_count (Over n) = refl

-- sense data are short
sense_short : (sense : Option Sense) → length (sense_segment sense) < 2 ^ 24
sense_short None = omega arith
sense_short (Some sense) = omega arith

-- The outcome of a command is read as it was written.
pub outcome_readable : (logins : Logins) (s : target.Machine) (tag : ℕ) (outcome : Outcome) (count : ℕ)
    → outcome.status < 256 → IfSome (residual_count outcome.residual) (λ n. n < 2 ^ 32) → tag < 2 ^ 32 → count < 2 ^ 32 → s.session.stat_sn < 2 ^ 32
    → s.session.exp_cmd_sn < 2 ^ 32
    → Readable logins (answer_message (response_head s.session (waiting_tasks s.tasks) tag outcome count) (sense_segment outcome.sense))
outcome_readable logins s tag outcome count status residual tag_fits count_fits stat_sn cmd_sn =
    plain_readable logins (response_head s.session (waiting_tasks s.tasks) tag outcome count) (sense_segment outcome.sense) refl (
      refl,
      (
        refl,
        (
          refl,
          (
            refl,
            (
              (refl, omega arith),
              (
                (refl, status),
                (
                  (refl, tag_fits),
                  ((refl, stat_sn), ((refl, cmd_sn), ((refl, max_room s), ((refl, count_fits), ((refl, tt), ((has_count outcome.residual, residual), tt)))))),
                ),
              ),
            ),
          ),
        ),
      ),
    )
    tt tt (sense_short outcome.sense)

-- A request for data is read as it was written.
pub ready_readable : (logins : Logins) (s : target.Machine) (w : Write)
    → w.order.lun < 2 ^ 64 → w.initiator_task_tag < 2 ^ 32 → w.r2t_count < 2 ^ 32 → bytes_received w < 2 ^ 32 → desired s.session.held w < 2 ^ 32
    → s.session.stat_sn < 2 ^ 32 → s.session.exp_cmd_sn < 2 ^ 32
    → Readable logins (answer_message (r2t_head s.session (waiting_tasks s.tasks) w) [])
ready_readable logins s w lun tag r2t_count offset size stat_sn cmd_sn =
    plain_readable logins (r2t_head s.session (waiting_tasks s.tasks) w) [] refl (
      (refl, lun),
      (
        (refl, tag),
        (
          (refl, r2t_count),
          (
            (refl, stat_sn),
            (
              (refl, cmd_sn),
              ((refl, max_room s), ((refl, r2t_count), ((refl, offset), ((refl, size), tt)))),
            ),
          ),
        ),
      ),
    )
    tt tt (omega arith)

-- The answer to a ping is read as it was written.
pub pong_readable : (logins : Logins) (s : target.Machine) (h : NopOut) (bytes : List ℕ)
    → h.initiator_task_tag < 2 ^ 32 → s.session.stat_sn < 2 ^ 32 → s.session.exp_cmd_sn < 2 ^ 32 → length bytes < 2 ^ 24
    → Readable logins (answer_message (nop_in_head s.session (waiting_tasks s.tasks) h) bytes)
pong_readable logins s h bytes tag stat_sn cmd_sn lt =
    plain_readable logins (nop_in_head s.session (waiting_tasks s.tasks) h) bytes refl
    ((refl, tt), ((refl, tag), ((refl, omega arith), ((refl, stat_sn), ((refl, cmd_sn), ((refl, max_room s), tt))))))
    tt tt lt

-- The answer to a logout is read as it was written.
pub left_readable : (logins : Logins) (s : target.Machine) (h : LogoutRequest)
    → h.initiator_task_tag < 2 ^ 32 → s.session.stat_sn < 2 ^ 32 → s.session.exp_cmd_sn < 2 ^ 32
    → Readable logins (answer_message (logout_head s.session (waiting_tasks s.tasks) h) [])
left_readable logins s h tag stat_sn cmd_sn =
    plain_readable logins (logout_head s.session (waiting_tasks s.tasks) h) [] refl
    ((refl, omega arith), ((refl, tag), ((refl, stat_sn), ((refl, cmd_sn), ((refl, max_room s), ((refl, omega arith), ((refl, omega arith), tt)))))))
    tt tt (omega arith)
