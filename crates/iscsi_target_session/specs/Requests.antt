-- Requests with one answer: pings, task management and logouts (RFC 7143, sections 11.5, 11.6,
-- 11.14, 11.15, 11.18 and 11.19). Their answers depend on how many commands wait.
use Rattle.std.specs.Prelude.{ℕ, Bool, true, false, not, ◌==◌, ◌||◌, ◌&&◌, nat_le, if◌then◌else◌, List, [], take, None, is_some}
use Rattle.iscsi_pdu.specs.declared.head.nop_out.NopOut.{NopOut}
use Rattle.iscsi_pdu.specs.declared.head.task_request.TaskRequest.{TaskRequest}
use Rattle.iscsi_pdu.specs.declared.head.logout_request.LogoutRequest.{LogoutRequest}
use Rattle.iscsi_pdu.specs.declared.head.Head.{Head}
use Rattle.iscsi_pdu.specs.declared.head.Head.TheVariants as heads
use Rattle.iscsi_stream.specs.Stream.{Message}
use Rattle.iscsi_stream.specs.Canonical.{canonical_header}
use Rattle.iscsi_target_session.specs.Session.{Session, Reply, nothing, send_response, ended_session, max_cmd_sn_with}
use Rattle.iscsi_pdu.specs.Fields.{reserved_tag}
use Rattle.iscsi_target_session.specs.Rejecting.{rejected_and_closed}
use Rattle.iscsi_target_session.specs.TextRequests.{on_text_request}
use Rattle.iscsi_target_session.specs.declared.inbound.SessionRequest.{SessionRequest}
use Rattle.iscsi_target_session.specs.declared.inbound.SessionRequest.TheVariants as requests
use Rattle.iscsi_pdu.specs.Rules.{logout_reason}
use Rattle.iscsi_stream.specs.Segment.{segment_bytes}

-- The head of the answer to a ping (section 11.19).
abbrev pub nop_in_head : Session → ℕ → NopOut → Head
nop_in_head s waiting h = heads.NopIn (record {
  lun = None;
  initiator_task_tag = h.initiator_task_tag;
  target_transfer_tag = reserved_tag;
  stat_sn = s.stat_sn;
  exp_cmd_sn = s.exp_cmd_sn;
  max_cmd_sn = max_cmd_sn_with s waiting;
})

-- A ping is answered with as many of its bytes as the initiator takes; without a tag it asks for no
-- answer (section 11.18).
abbrev pub on_nop_out : Session → ℕ → NopOut → List ℕ → Reply
on_nop_out s waiting h bytes =
    if h.initiator_task_tag == reserved_tag then nothing s
    else send_response s (nop_in_head s waiting h) (take s.held.initiator_max_recv bytes)

-- A function that ends every task of a task set, of a unit or of the target (section 11.5.1).
abbrev pub ends_all : ℕ → Bool
ends_all function = function == 2 || (function == 4 || (function == 5 || function == 6))

-- A function that means a unit which isn't there (section 11.5.1): this target has unit 0 alone.
abbrev pub is_elsewhere : TaskRequest → Bool
is_elsewhere h = not (h.lun == 0) && (nat_le 1 h.function && nat_le h.function 5)

-- The response to a function, while a task that it means is open or none is (section 11.6.1). Where
-- the disk tells what the profile has, no function is supported. Else one is done where nothing is
-- left to end, as a target that executes each command at once and in order never takes one away (own
-- rule).
abbrev pub task_response_code : Bool → Bool → TaskRequest → ℕ
task_response_code false is_open h = 5
task_response_code true is_open h =
    if is_elsewhere h then 2
    else if is_open then 5
    else if h.function == 1 then 1
    else if ends_all h.function then 0
    else 5

-- The head of the answer to a task management request (section 11.6).
abbrev pub task_response_head : Session → ℕ → Bool → TaskRequest → Head
task_response_head s waiting is_open h = heads.TaskResponse (record {
  response = task_response_code (is_some s.settings.extras.unit) is_open h;
  initiator_task_tag = h.initiator_task_tag;
  stat_sn = s.stat_sn;
  exp_cmd_sn = s.exp_cmd_sn;
  max_cmd_sn = max_cmd_sn_with s waiting;
})

-- A task management request, while a task that it means is open or none is (section 11.5).
abbrev pub on_task_request : Session → ℕ → Bool → TaskRequest → Reply
on_task_request s waiting is_open h =
    send_response s (task_response_head s waiting is_open h) []

-- The head of the answer that session or connection is closed (section 11.15).
abbrev pub logout_head : Session → ℕ → LogoutRequest → Head
logout_head s waiting h = heads.LogoutResponse (record {
  response = 0;
  initiator_task_tag = h.initiator_task_tag;
  stat_sn = s.stat_sn;
  exp_cmd_sn = s.exp_cmd_sn;
  max_cmd_sn = max_cmd_sn_with s waiting;
  time2wait = 0;
  time2retain = 0;
})

-- A Logout Response is sent, and the session is closed (section 11.15).
abbrev pub logged_out : Session → ℕ → LogoutRequest → Reply
logged_out s waiting h = record {
  session = ended_session (send_response s (logout_head s waiting h) []).session;
  answers = (send_response s (logout_head s waiting h) []).answers;
  rule = None;
}

-- The session or its connection may be closed, and nothing else be asked for (section 11.14.1; own
-- rule).
abbrev pub logout_answered : Session → ℕ → LogoutRequest → List ℕ → Reply
logout_answered s waiting h header =
    if nat_le h.reason 1 then logged_out s waiting h else rejected_and_closed s waiting logout_reason header

-- A Logout Request (section 11.14).
abbrev pub on_logout_request : Session → ℕ → Message → LogoutRequest → Reply
on_logout_request s waiting m h = logout_answered s waiting h (canonical_header m)

-- ---- any of them

-- The answer to a request that is no command, while n commands wait (section 4.2.4). What came before
-- it was done.
abbrev pub request_answered : Session → ℕ → Message → SessionRequest → Reply
request_answered s waiting m (requests.Ping h) = on_nop_out s waiting h (segment_bytes m.segment)
request_answered s waiting m (requests.Task h) = on_task_request s waiting false h
request_answered s waiting m (requests.Text h) =
    on_text_request s waiting m h (segment_bytes m.segment)
request_answered s waiting m (requests.Logout h) = on_logout_request s waiting m h
