-- What replies keep: those of a login, and those to requests that aren't commands.
use Rattle.std.proofs.Common.{◌≡◌, not, ◌≤◌, ◌⊎◌, inl, inr, ℕ, ◌+◌, List, [], ◌∷◌, Bool, true, false, length, Option, Some, None, refl, arith}
use Rattle.std.proofs.Common.{unwrap_or}
use Rattle.std.specs.Prelude.{◌==◌, nat_lt, nat_le, ◌||◌, ◌&&◌, if◌then◌else◌}
use Rattle.std.specs.Option.{IfSome}
use Rattle.iscsi_text.specs.Text.{Pairs}
use Rattle.iscsi_text.specs.Reading.{text_in}
use Rattle.iscsi_pdu.specs.declared.head.Head.{Head}
use Rattle.iscsi_pdu.specs.declared.head.Head.TheVariants.{LoginRequest}
use Rattle.iscsi_pdu.specs.declared.head.login_request.LoginRequest.{LoginRequest as LoginPdu}
use Rattle.iscsi_pdu.specs.declared.head.nop_out.NopOut.{NopOut as Ping}
use Rattle.iscsi_pdu.specs.declared.head.task_request.TaskRequest.{TaskRequest as TaskPdu}
use Rattle.iscsi_pdu.specs.declared.head.text_request.TextRequest.{TextRequest as TextPdu}
use Rattle.iscsi_pdu.specs.declared.head.logout_request.LogoutRequest.{LogoutRequest as Logout}
use Rattle.iscsi_stream.specs.Segment.{Segment, segment_bytes}
use Rattle.iscsi_stream.specs.Stream.{Message}
use Rattle.iscsi_login.specs.declared.stage.Stage.{Stage}
use Rattle.iscsi_text.specs.Negotiated.{IsWithin}
use Rattle.iscsi_login.specs.Negotiation.{ArePreferencesInRange, max_recv_range}
use Rattle.iscsi_login.specs.Held.{IsHeld}
use Rattle.iscsi_login.specs.Answer.{max_recv_key}
use Rattle.iscsi_target_session.specs.declared.inbound.SessionRequest.{SessionRequest}
use Rattle.iscsi_target_session.specs.declared.inbound.SessionRequest.TheVariants as requests
use Rattle.iscsi_target_session.specs.Session.{Session, Reply, target_limit, nothing, shut}
use Rattle.scsi_disk.specs.Plan.{first_reason}
use Rattle.iscsi_pdu.specs.Serial.{next_sn}
use Rattle.iscsi_pdu.specs.Fields.{reserved_tag}
use Rattle.iscsi_target_session.specs.Rejecting.{message_rejected, reject_and_close}
use Rattle.iscsi_pdu.specs.Rules.{kind_not_due}
use Rattle.iscsi_target_session.specs.declared.status.Status.{Status}
use Rattle.iscsi_target_session.specs.LoginText.{text_refusals, answer_pairs, declared_length, is_operational, is_bad_length, login_value, negotiated_as}
use Rattle.iscsi_target_session.specs.Login.{target_login_step, login_in, on_login_request, refuse_or, refuse, numbers_settled, entered, segment_taken, whole_text}
use Rattle.iscsi_target_session.specs.Login.{text_answered_by, allowed_move, rest_of, exchange_pairs, text_ending, request_refusals, gather}
use Rattle.iscsi_access.specs.declared.verdict.Progress.{Progress}
use Rattle.iscsi_target_session.specs.TextRequests.{on_text_request, text_reply_to, reply_text}
use Rattle.iscsi_target_session.specs.Requests.{on_nop_out, on_task_request, on_logout_request}
use Rattle.iscsi_login.specs.Stage.{is_closed_phase}
use Rattle.scsi_disk.specs.Disk.{Disk}
use Rattle.iscsi_target.specs.declared.tasks.Task.{Task}
use Rattle.iscsi_target.specs.State.{Machine, on}
use Rattle.iscsi_target.specs.Machine.{is_machine_closed}
use Rattle.iscsi_target_session.specs.Requests.{request_answered}
use Rattle.iscsi_target.specs.Tiles.{r2t_ranges}
use Rattle.iscsi_stream.specs.Pieces.{data_pieces}
use Rattle.iscsi_target.specs.Laws.{stat_sns, response_tags}
use Rattle.iscsi_target_session.proofs.CaseLemmas.{by_cases}
use Rattle.iscsi_target_session.proofs.ExchangeLemmas.{text_cases}
use Rattle.iscsi_target_session.proofs.DeclaredLengthLemmas.{declares_well, holds}
use Rattle.iscsi_target_session.proofs.RefusalLemmas.{text_accepted}

-- each is the one after the one before, from the first on; the last argument is what comes then
abbrev pub Count : ℕ → List ℕ → ℕ → Type 0
Count n [] after = after ≡ n
Count n (k ∷ ks) after = (k ≡ n) × Count (next_sn n) ks after

pub record IsReply (s : Session) (r : Reply) : Type 0 where
  pub stat_sn : Count s.stat_sn (stat_sns r.answers) r.session.stat_sn
  pub ranges : r2t_ranges r.answers ≡ []
  pub rule : (k : ℕ) → r.rule ≡ Some k → is_closed_phase r.session.phase ≡ true
  pub tags : response_tags r.answers ≡ []
  pub data_ins : data_pieces r.answers ≡ []
  pub settings : r.session.settings ≡ s.settings
  -- while it goes on
  pub live : is_closed_phase r.session.phase ≡ false → (r.session.begun ≡ s.begun) × (r.session.exp_cmd_sn ≡ s.exp_cmd_sn)
  pub held : ArePreferencesInRange s.settings.preferences → IsHeld s.held → IsHeld r.session.held
  pub limit : s.held.target_max_recv ≤ target_limit s.settings → r.session.held.target_max_recv ≤ target_limit s.settings

-- ---- replies of one kind

pub nothing_reply : (s : Session) → IsReply s (nothing s)
nothing_reply s = record {
  stat_sn = refl;
  ranges = refl;
  rule = λ k e. absurd cc;
  tags = refl;
  data_ins = refl;
  settings = refl;
  live = λ e. (refl, refl);
  held = λ p h. h;
  limit = λ l. l;
}

pub shut_reply : (s : Session) (rule : Option ℕ) → IsReply s (shut s rule)
shut_reply s rule = record {
  stat_sn = refl;
  ranges = refl;
  rule = λ k e. refl;
  tags = refl;
  data_ins = refl;
  settings = refl;
  live = λ e. absurd cc;
  held = λ p h. h;
  limit = λ l. l;
}

pub reject_reply : (s : Session) (waiting reason : ℕ) (m : Message) → IsReply s (message_rejected s waiting reason m)
reject_reply s waiting reason m = record {
  stat_sn = (refl, refl);
  ranges = refl;
  rule = λ k e. absurd cc;
  tags = refl;
  data_ins = refl;
  settings = refl;
  live = λ e. (refl, refl);
  held = λ p h. h;
  limit = λ l. l;
}

pub reject_and_close_reply : (s : Session) (waiting rule : ℕ) (m : Message) → IsReply s (reject_and_close s waiting rule m)
reject_and_close_reply s waiting rule m = record {
  stat_sn = (refl, refl);
  ranges = refl;
  rule = λ k e. refl;
  tags = refl;
  data_ins = refl;
  settings = refl;
  live = λ e. absurd cc;
  held = λ p h. h;
  limit = λ l. l;
}

pub nop_reply : (s : Session) (waiting : ℕ) (h : Ping) (bytes : List ℕ) → IsReply s (on_nop_out s waiting h bytes)
nop_reply s waiting h bytes = by_cases (h.initiator_task_tag == reserved_tag) (λ e. rw e (nothing_reply s))
    (λ e. rw e (record {
      stat_sn = (refl, refl);
      ranges = refl;
      rule = λ k e. absurd cc;
      tags = refl;
      data_ins = refl;
      settings = refl;
      live = λ e. (refl, refl);
      held = λ p h. h;
      limit = λ l. l;
    }))

pub task_reply : (s : Session) (waiting : ℕ) (is_open : Bool) (h : TaskPdu) → IsReply s (on_task_request s waiting is_open h)
task_reply s waiting is_open h = record {
  stat_sn = (refl, refl);
  ranges = refl;
  rule = λ k e. absurd cc;
  tags = refl;
  data_ins = refl;
  settings = refl;
  live = λ e. (refl, refl);
  held = λ p h. h;
  limit = λ l. l;
}

pub logout_reply : (s : Session) (waiting : ℕ) (m : Message) (h : Logout) → IsReply s (on_logout_request s waiting m h)
logout_reply s waiting m h = by_cases (nat_le h.reason 1)
    (λ e. rw e (record {
      stat_sn = (refl, refl);
      ranges = refl;
      rule = λ k e. refl;
      tags = refl;
      data_ins = refl;
      settings = refl;
      live = λ e. absurd cc;
      held = λ p h. h;
      limit = λ l. l;
    }))
    (λ e. rw e (record {
      stat_sn = (refl, refl);
      ranges = refl;
      rule = λ k e. refl;
      tags = refl;
      data_ins = refl;
      settings = refl;
      live = λ e. absurd cc;
      held = λ p h. h;
      limit = λ l. l;
    }))

text_reply_in : (s : Session) (waiting : ℕ) (m : Message) (h : TextPdu) (pairs : Option Pairs) → IsReply s (text_reply_to s waiting m h pairs)
text_reply_in s waiting m h None = reject_and_close_reply s waiting _ m
text_reply_in s waiting m h (Some pairs) =
    by_cases (nat_lt s.held.initiator_max_recv (length (reply_text s.settings pairs))) (λ e. rw e (reject_and_close_reply s waiting _ m))
    (λ e. rw e (record {
      stat_sn = (refl, refl);
      ranges = refl;
      rule = λ k e. absurd cc;
      tags = refl;
      data_ins = refl;
      settings = refl;
      live = λ e. (refl, refl);
      held = λ p h. h;
      limit = λ l. l;
    }))

pub text_reply_is : (s : Session) (waiting : ℕ) (m : Message) (h : TextPdu) (bytes : List ℕ) → IsReply s (on_text_request s waiting m h bytes)
text_reply_is s waiting m h bytes =
    by_cases (not h.is_final || (h.continues || not (h.target_transfer_tag == reserved_tag))) (λ e. rw e (reject_and_close_reply s waiting _ m))
    (λ e. rw e (text_reply_in s waiting m h (text_in bytes)))

-- ---- the login

refuse_reply : (s : Session) (r : LoginPdu) (why : Status) → IsReply s (refuse s r why)
refuse_reply s r why = record {
  stat_sn = refl;
  ranges = refl;
  rule = λ k e. refl;
  tags = refl;
  data_ins = refl;
  settings = refl;
  live = λ e. absurd cc;
  held = λ p h. h;
  limit = λ l. l;
}

-- a reply that is given where no reason is found to refuse
refused_reply : (A : Type 0) (s : Session) (r : LoginPdu) (why : Option Status) (reply : Reply) → (why ≡ None → IsReply s reply) →
    IsReply s (refuse_or why s r reply)
refused_reply A s r None reply c = c refl
refused_reply A s r (Some why) reply c = refuse_reply s r why

-- the length that a text declares may be, where no reason holds
no_bad_length : (s : Session) (pairs : Pairs) → first_reason (text_refusals s pairs) ≡ None → is_bad_length (login_value max_recv_key pairs) ≡ false
no_bad_length s pairs e = (text_accepted s pairs e).declares_well

declared_in : (s : Session) → ArePreferencesInRange s.settings.preferences → IfSome (declared_length s) (IsWithin max_recv_range)
declared_in s p = by_cases (is_operational s.stage && not s.has_operational_text) (λ e. rw e p.max_recv) (λ e. rw e tt)

limit_after : (s : Session) → s.held.target_max_recv ≤ target_limit s.settings → unwrap_or (declared_length s) s.held.target_max_recv ≤ target_limit s.settings
limit_after s l = by_cases (is_operational s.stage && not s.has_operational_text) (λ e. rw e (omega arith)) (λ e. rw e l)

-- whatever pairs answer it, and however far CHAP has come by it
answered_reply : (s : Session) (p : Progress) (r : LoginPdu) (pairs answer : Pairs) → is_bad_length (login_value max_recv_key pairs) ≡ false
    → IsReply s (text_answered_by (record s { progress = p }) r pairs answer)
answered_reply s p r pairs answer e = record {
  stat_sn = (refl, refl);
  ranges = refl;
  rule = λ k e. absurd cc;
  tags = refl;
  data_ins = refl;
  settings = refl;
  live = λ e. (refl, refl);
  held = λ q h. holds (negotiated_as s pairs) s.settings.preferences (declared_length s) pairs s.held q (declares_well pairs e) (declared_in s q) h;
  limit = limit_after s;
}

whole_reply : (s : Session) (r : LoginPdu) (pairs : Option Pairs) → IsReply s (whole_text s r pairs)
whole_reply s r text = text_cases (IsReply s) s r text (record {
  refused = λ why reason. refuse_reply s r why;
  plain = λ pairs is open_ none. answered_reply s s.progress r pairs (answer_pairs s pairs) (no_bad_length s pairs none);
  exchange = λ c p said pairs is demanded none verdict short.
      answered_reply s p (allowed_move p r) (rest_of pairs) (exchange_pairs c said s (rest_of pairs)) (no_bad_length s (rest_of pairs) none);
})

-- gathered bytes are none of what is kept
ungathered : (s : Session) (r : Reply) → IsReply (record s { gathered = [] }) r → IsReply s r
ungathered s r c = record {
  stat_sn = c.stat_sn;
  ranges = c.ranges;
  rule = c.rule;
  tags = c.tags;
  data_ins = c.data_ins;
  settings = c.settings;
  live = c.live;
  held = c.held;
  limit = c.limit;
}

segment_reply_by : (s : Session) (r : LoginPdu) (segment : Segment) (more : Bool)
    → IsReply s (if more then gather s r (segment_bytes segment) else whole_text (record s { gathered = [] }) r (text_ending s.gathered segment))
segment_reply_by s r segment true = record {
  stat_sn = (refl, refl);
  ranges = refl;
  rule = λ k e. absurd cc;
  tags = refl;
  data_ins = refl;
  settings = refl;
  live = λ e. (refl, refl);
  held = λ p h. h;
  limit = λ l. l;
}
segment_reply_by s r segment false = ungathered s _ (whole_reply (record s { gathered = [] }) r (text_ending s.gathered segment))

segment_reply : (s : Session) (r : LoginPdu) (segment : Segment) → IsReply s (segment_taken s r segment)
segment_reply s r segment =
    by_cases (nat_lt 16384 (length s.gathered + length (segment_bytes segment))) (λ e. rw e (refuse_reply s r _))
    (λ e. rw e (segment_reply_by s r segment r.continues))

-- neither is the stage
staged : (s : Session) (stage : Stage) (r : Reply) → IsReply (record s { stage = stage }) r → IsReply s r
staged s stage r c = record {
  stat_sn = c.stat_sn;
  ranges = c.ranges;
  rule = c.rule;
  tags = c.tags;
  data_ins = c.data_ins;
  settings = c.settings;
  live = c.live;
  held = c.held;
  limit = c.limit;
}

pub request_reply : (s : Session) (r : LoginPdu) (segment : Segment) → IsReply (numbers_settled s r) (on_login_request s r segment)
request_reply s r segment =
    refused_reply Segment (numbers_settled s r) r (first_reason (request_refusals s r)) (segment_taken (entered s r) r segment)
    (λ e. staged (numbers_settled s r) (entered s r).stage _ (segment_reply (entered s r) r segment))

-- A login replies as from a state that has at most its number settled.
pub record Logs (s : Session) (m : Message) (r : Reply) : Type 0 where
  pub from : Session
  pub is : IsReply from r
  pub stat_sn : from.stat_sn ≡ s.stat_sn
  pub settings : from.settings ≡ s.settings
  pub held : from.held ≡ s.held
  pub begun : s.begun ≡ true → (from.begun ≡ true) × (from.exp_cmd_sn ≡ s.exp_cmd_sn)

numbered_logs : (s : Session) (m : Message) (h : LoginPdu) (r : Reply) → m.head ≡ LoginRequest h → IsReply (numbers_settled s h) r → Logs s m r
numbered_logs s m h r k c = record {
  from = numbers_settled s h;
  is = c;
  stat_sn = by_cases s.begun (λ e. rw e refl) (λ e. rw e refl);
  settings = by_cases s.begun (λ e. rw e refl) (λ e. rw e refl);
  held = by_cases s.begun (λ e. rw e refl) (λ e. rw e refl);
  begun = λ e. (rw e refl, rw e refl);
}

same_logs : (s : Session) (m : Message) (r : Reply) → IsReply s r → Logs s m r
same_logs s m r c = record { from = s; is = c; stat_sn = refl; settings = refl; held = refl; begun = λ e. (e, refl) }

login_logs_in : (s : Session) (m : Message) (head : Head) → m.head ≡ head → Logs s m (login_in s head m.segment)
login_logs_in s m (LoginRequest h) k = numbered_logs s m h (on_login_request s h m.segment) k (request_reply s h m.segment)
login_logs_in s m _ k = same_logs s m (shut s (Some kind_not_due)) (shut_reply s (Some kind_not_due))

pub login_logs : (s : Session) (m : Message) → Logs s m (target_login_step s m)
login_logs s m = login_logs_in s m m.head refl

-- ---- a request that is no command

pub request_answered_reply : (s : Session) (waiting : ℕ) (m : Message) (request : SessionRequest) → IsReply s (request_answered s waiting m request)
request_answered_reply s waiting m (requests.Ping h) = nop_reply s waiting h (segment_bytes m.segment)
request_answered_reply s waiting m (requests.Task h) = task_reply s waiting false h
request_answered_reply s waiting m (requests.Text h) = text_reply_is s waiting m h (segment_bytes m.segment)
request_answered_reply s waiting m (requests.Logout h) = logout_reply s waiting m h

-- ---- beside the tasks

pub record IsOver (s : Machine) : Type 0 where
  pub closed : is_machine_closed s ≡ true
  pub tasks : s.tasks ≡ []

-- the session is over, or the tasks stay
pub on_ends : (disk : Disk) (tasks : List Task) (r : Reply) → IsOver (on disk tasks r).machine ⊎ ((on disk tasks r).machine.tasks ≡ tasks)
on_ends disk tasks r = by_cases (is_closed_phase r.session.phase) (λ e. inl (record { closed = e; tasks = rw e refl })) (λ e. inr (rw e refl))
