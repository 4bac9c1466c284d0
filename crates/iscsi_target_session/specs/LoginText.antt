-- What a login text declares, why it is refused, and what answers it (RFC 7143, sections 6.3,
-- 11.13.5 and 13).
use Rattle.std.specs.Prelude.{ℕ, Bool, true, false, not, ◌&&◌, ◌||◌, nat_lt, if◌then◌else◌, List, [], ◌∷◌, length, Option, Some, None, is_none, is_some, unwrap_or, codes}
use Rattle.std.specs.Str.{bytes_eq}
use Rattle.iscsi_text.specs.Key.{known_keys, target_address}
use Rattle.iscsi_text.specs.Value.{Typed}
use Rattle.iscsi_text.specs.Value as values
use Rattle.iscsi_text.specs.Text.{Pairs, values_of}
use Rattle.iscsi_text.specs.Canonical.{canonical_text}
use Rattle.iscsi_text.specs.Reading.{has_key, is_empty}
use Rattle.iscsi_text.specs.declared.negotiated.Session.{Session as SessionType}
use Rattle.iscsi_text.specs.declared.negotiated.Session.TheVariants as sessions
use Rattle.iscsi_login.specs.declared.stage.Stage.{Stage}
use Rattle.iscsi_login.specs.declared.stage.Stage.TheVariants as stages
use Rattle.iscsi_text.specs.declared.negotiated.NegKey.TheVariants as keys
use Rattle.iscsi_text.specs.declared.negotiated.Answered.{Answered}
use Rattle.iscsi_text.specs.declared.negotiated.Answered.TheVariants as answers
use Rattle.iscsi_login.specs.declared.preferences.Preferences.{Preferences}
use Rattle.iscsi_login.specs.Negotiation.{result_of, in_range, max_recv_range}
use Rattle.iscsi_login.specs.Held.{Held}
use Rattle.iscsi_login.specs.Answer.{answer, target_holds, max_recv_key}
use Rattle.iscsi_target_session.specs.Configured.{is_allowed}
use Rattle.iscsi_target_session.specs.Session.{Session}
use Rattle.iscsi_target_session.specs.declared.status.Status.{Status}

-- ---- statuses (section 11.13.5)

-- A status by its two bytes (section 11.13.5).
abbrev pub status : ℕ → ℕ → Status
status class detail = record { class = class; detail = detail }

-- The initiator's request or text is at fault (section 11.13.5).
abbrev pub initiator_error : Status
initiator_error = status 0x02 0x00

-- It demands authentication (section 11.13.5).
abbrev pub authentication_failure : Status
authentication_failure = status 0x02 0x01

-- It may not log in (section 11.13.5).
abbrev pub authorization_failure : Status
authorization_failure = status 0x02 0x02

-- It names another target (section 11.13.5).
abbrev pub target_not_found : Status
target_not_found = status 0x02 0x03

-- It has no version that the target speaks (section 11.13.5).
abbrev pub unsupported_version : Status
unsupported_version = status 0x02 0x05

-- A name is missing (section 11.13.5).
abbrev pub missing_parameter : Status
missing_parameter = status 0x02 0x07

-- The session is of neither type (section 11.13.5).
abbrev pub unsupported_session_type : Status
unsupported_session_type = status 0x02 0x09

-- It names a session to join (section 11.13.5).
abbrev pub session_does_not_exist : Status
session_does_not_exist = status 0x02 0x0a

-- A text or its answer is too long (section 11.13.5).
abbrev pub out_of_resources : Status
out_of_resources = status 0x03 0x02

-- ---- keys

-- The value of a key that stands once (section 6.1).
abbrev pub first_value : List Typed → Option Typed
first_value [] = None
first_value (value ∷ vs) = Some value

-- The value that a text has of a key, if it has one (section 6.1).
abbrev pub login_value : List ℕ → Pairs → Option Typed
login_value key pairs = first_value (values_of key pairs)

-- A known key that may stand once was seen before, and stands again (section 6.2).
abbrev pub repeats_key : List (List ℕ) → List Bool → Pairs → Bool
repeats_key (key ∷ more) (was ∷ seen) pairs =
    (was && (not (bytes_eq key target_address) && has_key key pairs))
    || repeats_key more seen pairs
repeats_key _ _ pairs = false

-- Of each known key, whether it was seen before or stands in this text (section 6.2).
abbrev pub seen_with : List (List ℕ) → List Bool → Pairs → List Bool
seen_with (key ∷ more) (was ∷ seen) pairs =
    (was || has_key key pairs) ∷ seen_with more seen pairs
seen_with _ _ pairs = []

-- ---- what the first whole text declares

-- There is a name, and it isn't empty (section 13.5).
abbrev pub is_given_name : Option Typed → Bool
is_given_name (Some (values.Plain name)) = not (is_empty name)
is_given_name _ = false

-- The name, if there is one (section 13.5).
abbrev pub name_in : Option Typed → List ℕ
name_in (Some (values.Plain name)) = name
name_in _ = []

-- The initiator's name once this text is whole: the first text settles it (section 13.5).
abbrev pub initiator_for : Session → Pairs → List ℕ
initiator_for s pairs =
    if s.has_text then s.initiator_name else name_in (login_value (codes "InitiatorName") pairs)

-- The type of session; one that isn't named is normal (section 13.21).
abbrev pub session_named : Option Typed → Option SessionType
session_named None = Some sessions.Normal
session_named (Some (values.Plain name)) =
    if bytes_eq name (codes "Normal") then Some sessions.Normal
    else if bytes_eq name (codes "Discovery") then Some sessions.Discovery
    else None
session_named (Some _) = None

-- The type of session that a text names (section 13.21).
abbrev pub session_in : Pairs → Option SessionType
session_in pairs = session_named (login_value (codes "SessionType") pairs)

-- The type of session once this text is whole: the first text settles it (section 13.21).
abbrev pub session_for : Session → Pairs → SessionType
session_for s pairs = if s.has_text then s.session_type else unwrap_or (session_in pairs) sessions.Normal

-- The type of session whose keys are negotiated. Where a portal is told, each key has a value in a
-- discovery session too, since initiators refuse `Irrelevant` there (section 6.2; own rule).
abbrev pub negotiated_as : Session → Pairs → SessionType
negotiated_as s pairs =
    if is_some s.settings.extras.portal then sessions.Normal else session_for s pairs

-- The session is for all that an initiator asks of a target (section 13.21).
abbrev pub is_normal : SessionType → Bool
is_normal sessions.Normal = true
is_normal sessions.Discovery = false

-- The value is this target's name; names are compared by bytes (section 13.4; own rule).
abbrev pub names_target : List ℕ → Option Typed → Bool
names_target name (Some (values.Plain other)) = bytes_eq name other
names_target name _ = false

-- ---- what any whole text says

-- There is no value.
abbrev pub is_reject : Answered → Bool
is_reject answers.Reject = true
is_reject _ = false

-- AuthMethod is offered, and without `None` (section 12.1).
abbrev pub demands_authentication : Preferences → Option Typed → Bool
demands_authentication preferences None = false
demands_authentication preferences (Some value) =
    is_reject (result_of keys.AuthMethod value preferences)

-- A length is declared that may not be (section 13.12).
abbrev pub is_bad_length : Option Typed → Bool
is_bad_length None = false
is_bad_length (Some (values.Number n)) = is_reject (in_range max_recv_range n)
is_bad_length (Some _) = true

-- ---- the answer to a whole text

-- The session is in operational negotiation (section 6.3.3).
abbrev pub is_operational : Stage → Bool
is_operational stages.Security = false
is_operational stages.Operational = true
is_operational stages.Full = false

-- The tag of the portal group goes with the first text of a normal session (section 13.9).
abbrev pub declared_tag : Session → Pairs → Option ℕ
declared_tag s pairs =
    if not s.has_text && is_normal (session_for s pairs) then Some s.settings.group else None

-- What the target takes in one segment goes with the first text of the operational stage (section
-- 13.12; own rule).
abbrev pub declared_length : Session → Option ℕ
declared_length s =
    if is_operational s.stage && not s.has_operational_text
    then Some s.settings.preferences.max_recv
    else None

-- The answer to a text (section 6.2).
abbrev pub answer_pairs : Session → Pairs → Pairs
answer_pairs s pairs =
    answer (negotiated_as s pairs) s.settings.preferences (declared_tag s pairs) (declared_length s)
    pairs

-- What the target holds after a text and its answer (section 6.2).
abbrev pub held_after : Session → Pairs → Held
held_after s pairs =
    target_holds (negotiated_as s pairs) s.settings.preferences (declared_length s) pairs s.held

-- The reasons to refuse a text, in their order (section 11.13.5; the order is own rule). First, a
-- key is repeated. Next, the first text has no initiator's name, or has another type of session.
-- Next, in a normal session, the first text has no target's name or another target's. Then
-- authentication is demanded, the declared length may not be, or the answer is too long. Last, the
-- first text is that of an initiator that may not log in.
abbrev pub text_refusals : Session → Pairs → List (Bool × Status)
text_refusals s pairs =
    let is_first = not s.has_text in
    let wants_target = is_first && is_normal (session_for s pairs) in
    (repeats_key known_keys s.seen_keys pairs, initiator_error)
    ∷ (is_first && not (is_given_name (login_value (codes "InitiatorName") pairs)), missing_parameter)
    ∷ (is_first && is_none (session_in pairs), unsupported_session_type)
    ∷ (wants_target && is_none (login_value (codes "TargetName") pairs), missing_parameter)
    ∷ (
      wants_target && not (names_target s.settings.name (login_value (codes "TargetName") pairs)),
      target_not_found,
    )
    ∷ (
      demands_authentication s.settings.preferences (login_value (codes "AuthMethod") pairs),
      authentication_failure,
    )
    ∷ (is_bad_length (login_value max_recv_key pairs), initiator_error)
    ∷ (nat_lt 8192 (length (canonical_text (answer_pairs s pairs))), out_of_resources)
    ∷ (
      is_first
          && not (is_allowed s.settings.extras (name_in (login_value (codes "InitiatorName") pairs))),
      authorization_failure,
    )
    ∷ []
