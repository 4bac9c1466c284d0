-- Rejected PDUs (RFC 7143, section 11.17). The first number is how many commands wait.
use Rattle.std.specs.Prelude.{ℕ, List, Some}
use Rattle.iscsi_pdu.specs.declared.head.Head.{Head}
use Rattle.iscsi_pdu.specs.declared.head.Head.TheVariants as heads
use Rattle.iscsi_stream.specs.Stream.{Message}
use Rattle.iscsi_stream.specs.Canonical.{canonical_header}
use Rattle.iscsi_target_session.specs.Session.{Session, Reply, send_response, stat_sn_advanced, ended_session, max_cmd_sn_with}
use Rattle.iscsi_pdu.specs.Rules.{protocol_error}

-- The head of a Reject (section 11.17).
abbrev pub reject_head : Session → ℕ → ℕ → Head
reject_head s waiting reason = heads.Reject (record {
  reason = reason;
  stat_sn = s.stat_sn;
  exp_cmd_sn = s.exp_cmd_sn;
  max_cmd_sn = max_cmd_sn_with s waiting;
})

-- A Reject of a PDU with this header; the session goes on (section 11.17).
abbrev pub header_rejected : Session → ℕ → ℕ → List ℕ → Reply
header_rejected s waiting reason header = send_response s (reject_head s waiting reason) header

-- A Reject carries the header of the PDU's canonical form (section 11.17; that form is own rule).
abbrev pub message_rejected : Session → ℕ → ℕ → Message → Reply
message_rejected s waiting reason m = header_rejected s waiting reason (canonical_header m)

-- A PDU with this header broke the rule: it is rejected, and the session is closed (own rule).
abbrev pub rejected_and_closed : Session → ℕ → ℕ → List ℕ → Reply
rejected_and_closed s waiting rule header = record {
  session = ended_session (stat_sn_advanced s);
  answers = (header_rejected s waiting protocol_error header).answers;
  rule = Some rule;
}

-- A PDU broke the rule.
abbrev pub reject_and_close : Session → ℕ → ℕ → Message → Reply
reject_and_close s waiting rule m = rejected_and_closed s waiting rule (canonical_header m)
