-- What the parts of a session do. No reader of its contracts needs these.
use Rattle.std.specs.Prelude.{Option, Some, None, Bool, true, false, not, ◌&&◌, if◌then◌else◌, ℕ, List, [], ◌∷◌, ◌++◌, codes}
use Rattle.std.specs.Str.{bytes_eq}
use Rattle.iscsi_text.specs.Text.{Pairs}
use Rattle.iscsi_text.specs.Canonical.{canonical_text}
use Rattle.iscsi_text.specs.Reading.{in_order}
use Rattle.iscsi_text.specs.declared.pair.Pair.{Pair}
use Rattle.iscsi_text.specs.Shown.{shown}
use Rattle.iscsi_pdu.specs.declared.head.login_response.LoginResponse.{LoginResponse}
use Rattle.iscsi_target_session.specs.Session.{Session, Reply, stat_sn_advanced}
use Rattle.iscsi_target_session.specs.Login.{good_login_answer}
use Rattle.iscsi_target_session.specs.TextRequests.{address_if, is_asked, name_if, replies, reply_pairs}

-- ---- the login

-- What a request changes in the session before it is answered, and a closed one shows, is rolled
-- back.
abbrev pub session_rolled_back : Session → Session → Session
session_rolled_back old new = record new { isid = old.isid; stage = old.stage }

-- An answer of class 0 with this text.
abbrev pub login_answer : Session → LoginResponse → Pairs → Reply
login_answer s h pairs =
    record { session = stat_sn_advanced s; answers = good_login_answer s h pairs; rule = None }

-- ---- text requests

-- The first pair has this key.
abbrev pub has_first : List ℕ → Pairs → Bool
has_first key [] = false
has_first key (p ∷ pairs) = bytes_eq p.0 key

-- The key has an answer of its own.
abbrev pub has_reply : Bool → List ℕ → Bool
has_reply asked key =
    not (bytes_eq key (codes "SendTargets")) && not (asked && bytes_eq key (codes "TargetName"))

-- What is told of a target with this portal, and the answers behind it.
abbrev pub announced_text : List ℕ → List ℕ → ℕ → Pairs → List ℕ
announced_text name portal group pairs =
    canonical_text (name_if true name) ++ canonical_text (address_if (Some portal) group)
    ++ canonical_text (in_order (replies true pairs))

-- The text that answers a text, of a target with this portal.
abbrev pub told_text : List ℕ → List ℕ → ℕ → Pairs → List ℕ
told_text name portal group pairs =
    if is_asked name pairs then announced_text name portal group pairs
    else canonical_text (reply_pairs name pairs)

-- A pair, if there is one.
abbrev pub shown_option : Option Pair → Pairs
shown_option None = []
shown_option (Some p) = shown p ∷ []
