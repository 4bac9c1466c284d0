-- What an initiator offers is a text, and what it declares there.
use Rattle.std.proofs.Common.{◌≡◌, ℕ, List, Some, refl, ap, ◌∙◌, arith}
use Rattle.iscsi_text.specs.Text.{Pairs, HasNo, IsMeaning}
use Rattle.iscsi_text.specs.Canonical.{canonical_text}
use Rattle.iscsi_text.specs.Reading.{text_in, in_order}
use Rattle.iscsi_text.proofs.TextLaws as texts
use Rattle.iscsi_login.specs.declared.stage.Stage.{Stage}
use Rattle.iscsi_login.specs.declared.stage.Stage.TheVariants.{Security, Operational, Full}
use Rattle.iscsi_text.specs.declared.negotiated.Session.{Session}
use Rattle.iscsi_text.specs.declared.negotiated.Session.TheVariants.{Normal, Discovery}
use Rattle.iscsi_login.specs.Name.{IsName}
use Rattle.iscsi_login.specs.Negotiation.{ArePreferencesInRange}
use Rattle.iscsi_login.specs.Answer.{declared_max_recv}
use Rattle.iscsi_login.specs.Offers.{Proposal, offers_at, single_offers}
use Rattle.iscsi_login.proofs.OfferTextLemmas.{security_text_is, operational_text_is, single_text_is}
use Rattle.iscsi_initiator.specs.State.{InitiatorSettings}
use Rattle.iscsi_initiator.specs.Configured.{AreValid, IsStart}

no_zero : (name : List ℕ) → IsName name → HasNo 0 name
no_zero name is k d lt zero = omega (arith, (is.each k d lt).0, zero)

-- what is offered at a stage is what a text means
pub offers_mean : (start stage : Stage) (o : Proposal) → IsName o.initiator → IsName o.target → ArePreferencesInRange o.prefs → IsStart stage
    → IsMeaning (in_order (offers_at o start stage))
offers_mean start Security o initiator target range is = security_text_is o (no_zero o.initiator initiator) (no_zero o.target target)
offers_mean Security Operational o initiator target range is = operational_text_is o range
offers_mean Operational Operational o initiator target range is = single_text_is o (no_zero o.initiator initiator) (no_zero o.target target) range
offers_mean Full Operational o initiator target range is = operational_text_is o range
offers_mean start Full o initiator target range is = absurd is

-- the text of what is offered is read as it was written
pub offers_read : (settings : InitiatorSettings) (stage : Stage) → AreValid settings → IsStart stage
    → let pairs : Pairs = in_order (offers_at settings.proposal settings.start stage) in text_in (canonical_text pairs) ≡ Some pairs
offers_read settings stage valid is =
    let pairs : Pairs = in_order (offers_at settings.proposal settings.start stage) in
    (texts.reading_some (canonical_text pairs) pairs).1
    (texts.canonical_means pairs (offers_mean settings.start stage settings.proposal valid.names.initiator valid.names.target valid.in_range.preferences is))

-- in the operational stage it declares what the initiator takes
declared_in : (session : Session) (o : Proposal) → o.session ≡ session → declared_max_recv (in_order (single_offers o)) ≡ Some o.prefs.max_recv
declared_in Normal o e = ap (λ (x : Session). declared_max_recv (in_order (single_offers (record o { session = x })))) e ∙ refl
declared_in Discovery o e = ap (λ (x : Session). declared_max_recv (in_order (single_offers (record o { session = x })))) e ∙ refl

pub declares : (o : Proposal) (start : Stage) → IsStart start → declared_max_recv (in_order (offers_at o start Operational)) ≡ Some o.prefs.max_recv
declares o Security is = refl
declares o Operational is = declared_in o.session o refl
declares o Full is = absurd is
