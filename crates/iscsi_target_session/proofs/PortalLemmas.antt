-- What a portal changes, and what stays without one.
use Rattle.std.proofs.Common.{◌≡◌, ℕ, List, ◌++◌, true, Option, Some, None, sym, ap}
use Rattle.std.specs.Prelude.{is_some, ◌&&◌, if◌then◌else◌}
use Rattle.iscsi_text.specs.Text.{Pairs, IsInOrder}
use Rattle.iscsi_text.specs.Canonical.{canonical_text}
use Rattle.iscsi_text.specs.Reading.{in_order}
use Rattle.iscsi_text.specs.declared.negotiated.Session.TheVariants as sessions
use Rattle.iscsi_target_session.specs.Configured.{TargetSettings}
use Rattle.iscsi_target_session.specs.Session.{Session}
use Rattle.iscsi_target_session.specs.LoginText.{session_for, negotiated_as}
use Rattle.iscsi_target_session.specs.TextRequests.{address_if, is_asked, name_if, replies, reply_pairs, reply_text}
use Rattle.iscsi_target_session.specs.inner.Inside.{told_text}
use Rattle.iscsi_target_session.proofs.TextReplyLemmas.{in_order_same, order_replies}

-- the text that answers, by the portal that is told
abbrev reply_by : Option (List ℕ) → TargetSettings → Pairs → List ℕ
reply_by portal settings pairs =
    if is_some portal && is_asked settings.name pairs
    then canonical_text (name_if true settings.name) ++ canonical_text (address_if portal settings.group)
    ++ canonical_text (in_order (replies true pairs))
    else canonical_text (reply_pairs settings.name pairs)

pub without_portal : (settings : TargetSettings) (pairs : Pairs) → settings.extras.portal ≡ None
    → reply_text settings pairs ≡ canonical_text (reply_pairs settings.name pairs)
unfolding reply_text
without_portal settings pairs none = ap (λ (o : Option (List ℕ)). reply_by o settings pairs) none

pub with_portal : (settings : TargetSettings) (pairs : Pairs) (portal : List ℕ) → settings.extras.portal ≡ Some portal
    → reply_text settings pairs ≡ told_text settings.name portal settings.group pairs
unfolding reply_text
with_portal settings pairs portal some = ap (λ (o : Option (List ℕ)). reply_by o settings pairs) some

pub negotiates_its_own : (s : Session) (pairs : Pairs) → s.settings.extras.portal ≡ None → negotiated_as s pairs ≡ session_for s pairs
negotiates_its_own s pairs none = ap (λ (o : Option (List ℕ)). if is_some o then sessions.Normal else session_for s pairs) none

-- the answers that stand behind what is told
pub behind : (ps : Pairs) → IsInOrder ps → canonical_text (replies true ps) ≡ canonical_text (in_order (replies true ps))
behind ps order = ap canonical_text (sym (in_order_same (replies true ps) (order_replies true ps order)))
