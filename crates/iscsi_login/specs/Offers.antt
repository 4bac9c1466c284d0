-- What an initiator offers (RFC 7143, sections 6.3, 12.1 and 13).
use Rattle.std.specs.Prelude.{ℕ, List, [], ◌∷◌, ◌++◌, map, codes}
use Rattle.iscsi_text.specs.Value.{Typed}
use Rattle.iscsi_text.specs.Value as values
use Rattle.iscsi_text.specs.Text.{Pairs}
use Rattle.iscsi_text.specs.Canonical.{canonical_text}
use Rattle.iscsi_text.specs.declared.negotiated.NegKey.{NegKey}
use Rattle.iscsi_login.specs.declared.stage.Stage.{Stage}
use Rattle.iscsi_login.specs.declared.stage.Stage.TheVariants.{Security, Operational}
use Rattle.iscsi_text.specs.declared.negotiated.Session.{Session}
use Rattle.iscsi_text.specs.declared.negotiated.Session.TheVariants.{Normal, Discovery}
use Rattle.iscsi_login.specs.declared.preferences.Preferences.{Preferences}
use Rattle.iscsi_login.specs.declared.offers.Auth.{Auth}
use Rattle.iscsi_login.specs.declared.offers.Auth.TheVariants as auths
use Rattle.iscsi_login.specs.declared.offers.Offers.{Offers}
use Rattle.iscsi_text.specs.Negotiated.{name_of, rule_of, operational_keys}
use Rattle.iscsi_login.specs.Negotiation.{preference, answered_value}
use Rattle.iscsi_login.specs.Answer.{max_recv_key}
use Rattle.iscsi_text.specs.Reading.{in_order}

-- What an initiator brings to a login (section 6.3).
pub record Proposal : Type 0 where
  pub initiator : List ℕ
  pub target : List ℕ
  pub session : Session
  pub auth : Auth
  pub prefs : Preferences

-- What the code's offers are, wherever their names lie in memory (section 6.3).
abbrev pub proposed : Offers → Proposal
proposed o = record {
  initiator = o.initiator.now;
  target = o.target.now;
  session = o.session;
  auth = o.auth;
  prefs = o.prefs;
}

-- The offered ways of authentication, the preferred one first (section 12.1).
abbrev pub auth_items : Auth → List ℕ
auth_items auths.None = codes "None"
auth_items auths.ChapOrNone = codes "CHAP,None"
auth_items auths.Chap = codes "CHAP"

-- The values of `SessionType` (section 13.21).
abbrev pub session_name : Session → List ℕ
session_name Normal = codes "Normal"
session_name Discovery = codes "Discovery"

-- The name of the target; a discovery session has none (section 13.4).
abbrev pub target_pair : Session → List ℕ → Pairs
target_pair Normal name = (codes "TargetName", values.Plain name) ∷ []
target_pair Discovery name = []

-- Who speaks to whom, and for what (sections 13.4, 13.5 and 13.21).
abbrev pub names : Proposal → Pairs
names o = (codes "InitiatorName", values.Plain o.initiator)
    ∷ (codes "SessionType", values.Plain (session_name o.session)) ∷ target_pair o.session o.target

-- What is said in the security stage (section 6.3.2).
abbrev pub security_offers : Proposal → Pairs
security_offers o = (codes "AuthMethod", values.Items (auth_items o.auth)) ∷ names o

-- A key with the preference for it (section 13).
abbrev pub preferred_pair : Preferences → NegKey → List ℕ × Typed
preferred_pair p key = (name_of key, answered_value (rule_of key) (preference p key))

-- The most bytes that the initiator takes in one segment (section 13.12).
abbrev pub max_recv_pair : Preferences → List ℕ × Typed
max_recv_pair p = (max_recv_key, values.Number p.max_recv)

-- What is said in the operational stage (section 6.3.3).
abbrev pub operational_offers : Proposal → Pairs
operational_offers o = max_recv_pair o.prefs ∷ map (preferred_pair o.prefs) operational_keys

-- Both, without the authentication, where a login starts in the operational stage (section 6.3; own
-- rule).
abbrev pub single_offers : Proposal → Pairs
single_offers o = names o ++ operational_offers o

-- What is offered at a stage, by the stage where the login started (section 6.3).
abbrev pub offers_at : Proposal → Stage → Stage → Pairs
offers_at proposal start Security = security_offers proposal
offers_at proposal Operational stage = single_offers proposal
offers_at proposal start stage = operational_offers proposal

-- The canonical text of these pairs (section 6.1).
abbrev pub text_of : Pairs → List ℕ
text_of pairs = canonical_text (in_order pairs)
