-- The reasons to refuse a login request and its text, each by its name.
use Rattle.std.proofs.Common.{◌≡◌, refl}
use Rattle.std.specs.Prelude.{Bool, false, not, ◌==◌, ◌&&◌, nat_lt, List, [], ◌∷◌, length, None, is_none, codes}
use Rattle.std.specs.List.{AllByRecursion}
use Rattle.iscsi_text.specs.Key.{known_keys}
use Rattle.iscsi_text.specs.Text.{Pairs}
use Rattle.iscsi_text.specs.Canonical.{canonical_text}
use Rattle.iscsi_login.specs.Answer.{max_recv_key}
use Rattle.scsi_disk.specs.Plan.{first_reason}
use Rattle.scsi_disk.proofs.PlanLemmas.{all_false}
use Rattle.iscsi_pdu.specs.declared.head.login_request.LoginRequest.{LoginRequest}
use Rattle.iscsi_target_session.specs.Configured.{is_allowed}
use Rattle.iscsi_target_session.specs.Session.{Session}
use Rattle.iscsi_target_session.specs.LoginText.{answer_pairs, demands_authentication, is_bad_length, is_given_name, is_normal, login_value, name_in, names_target, repeats_key, session_for, session_in, text_refusals}
use Rattle.iscsi_target_session.specs.Login.{is_due_stage, is_move, request_refusals, stage_asked, stage_named}

-- where each test is false, nothing is refused
none_of : {A : Type 0} (rows : List (Bool × A)) → AllByRecursion (λ row. row.0 ≡ false) rows → first_reason rows ≡ None
none_of [] a = refl
none_of (row ∷ rows) a = rw a.0 (none_of rows a.1)

-- ---- a request

-- no reason to refuse a request holds
pub record RequestAccepted (s : Session) (r : LoginRequest) : Type 0 where
  pub version : nat_lt 0 r.version_min ≡ false
  pub new_session : not (r.tsih == 0) ≡ false
  pub due_stage : not (is_due_stage s r) ≡ false
  pub whole : (r.transits && r.continues) ≡ false
  pub may_move : (r.transits && not (is_move (stage_named r.current_stage) (stage_asked r))) ≡ false

pub request_accepted : (s : Session) (r : LoginRequest) → first_reason (request_refusals s r) ≡ None → RequestAccepted s r
request_accepted s r none =
    let t = all_false (request_refusals s r) none in
    record { version = t.0; new_session = t.1.0; due_stage = t.1.1.0; whole = t.1.1.1.0; may_move = t.1.1.1.1.0 }

pub request_unrefused : (s : Session) (r : LoginRequest) → RequestAccepted s r → first_reason (request_refusals s r) ≡ None
request_unrefused s r a = none_of (request_refusals s r) (a.version, (a.new_session, (a.due_stage, (a.whole, (a.may_move, tt)))))

-- ---- a text

-- no reason to refuse a text holds
pub record TextAccepted (s : Session) (pairs : Pairs) : Type 0 where
  pub keys_once : repeats_key known_keys s.seen_keys pairs ≡ false
  pub says_initiator : (not s.has_text && not (is_given_name (login_value (codes "InitiatorName") pairs))) ≡ false
  pub says_session : (not s.has_text && is_none (session_in pairs)) ≡ false
  pub says_target : ((not s.has_text && is_normal (session_for s pairs)) && is_none (login_value (codes "TargetName") pairs)) ≡ false
  pub finds_target : ((not s.has_text && is_normal (session_for s pairs))
      && not (names_target s.settings.name (login_value (codes "TargetName") pairs))) ≡ false
  pub authentication : demands_authentication s.settings.preferences (login_value (codes "AuthMethod") pairs) ≡ false
  pub declares_well : is_bad_length (login_value max_recv_key pairs) ≡ false
  pub is_short : nat_lt 8192 (length (canonical_text (answer_pairs s pairs))) ≡ false
  pub is_let_in : (not s.has_text && not (is_allowed s.settings.extras (name_in (login_value (codes "InitiatorName") pairs)))) ≡ false

pub text_accepted : (s : Session) (pairs : Pairs) → first_reason (text_refusals s pairs) ≡ None → TextAccepted s pairs
text_accepted s pairs none =
    let t = all_false (text_refusals s pairs) none in
    let later = t.1.1.1.1.1 in
    record {
      keys_once = t.0;
      says_initiator = t.1.0;
      says_session = t.1.1.0;
      says_target = t.1.1.1.0;
      finds_target = t.1.1.1.1.0;
      authentication = later.0;
      declares_well = later.1.0;
      is_short = later.1.1.0;
      is_let_in = later.1.1.1.0;
    }

pub text_unrefused : (s : Session) (pairs : Pairs) → TextAccepted s pairs → first_reason (text_refusals s pairs) ≡ None
text_unrefused s pairs a = none_of (text_refusals s pairs) (
  a.keys_once,
  (
    a.says_initiator,
    (a.says_session, (a.says_target, (a.finds_target, (a.authentication, (a.declares_well, (a.is_short, (a.is_let_in, tt))))))),
  ),
)
