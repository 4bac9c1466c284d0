-- Two ends that suit each other: the target refuses nothing, and the initiator finds no fault in an answer.
use Rattle.std.proofs.Common.{◌≡◌, ◌≢◌, ◌≤◌, ◌⊎◌, inl, inr, ℕ, Bool, true, false, List, [], ◌∷◌, length, Option, Some, None, refl, sym, ap, ◌∙◌, subst, arith}
use Rattle.std.specs.Prelude.{not, ◌&&◌, nat_lt, is_none, if◌then◌else◌, unwrap_or, codes}
use Rattle.std.specs.List.{AllByRecursion}
use Rattle.std.proofs.lemmas.Bool.{le-leb}
use Rattle.iscsi_text.specs.Value.{Typed}
use Rattle.iscsi_text.specs.Value as values
use Rattle.iscsi_text.specs.Text.{Pairs}
use Rattle.iscsi_text.specs.Reading.{is_empty, in_order}
use Rattle.iscsi_text.specs.Canonical.{canonical_text}
use Rattle.iscsi_text.specs.declared.negotiated.Session.{Session}
use Rattle.iscsi_text.specs.declared.negotiated.Session.TheVariants as sessions
use Rattle.iscsi_login.specs.declared.stage.Stage.{Stage}
use Rattle.iscsi_login.specs.declared.stage.Stage.TheVariants as stages
use Rattle.iscsi_login.specs.declared.offers.Auth.{Auth}
use Rattle.iscsi_login.specs.declared.offers.Auth.TheVariants as auths
use Rattle.iscsi_login.specs.declared.preferences.Preferences.{Preferences}
use Rattle.iscsi_login.specs.Name.{IsName}
use Rattle.iscsi_login.specs.Negotiation.{ArePreferencesInRange}
use Rattle.iscsi_login.specs.Answer.{max_recv_key}
use Rattle.iscsi_login.specs.Offers.{Proposal, names, target_pair, offers_at, security_offers, operational_offers, single_offers}
use Rattle.iscsi_initiator.specs.Configured.{IsStart}
use Rattle.std.proofs.lemmas.List.{length-append}
use Rattle.iscsi_text.proofs.KeyLemmas.{bytes_eq_same}
use Rattle.iscsi_text.proofs.OrderLemmas.{all_in_order}
use Rattle.iscsi_pair.proofs.Wire.TextSizes.{IsShort, text_short, length-in_order, security_short, operational_short, single_short}
use Rattle.iscsi_target_session.specs.Configured.{is_allowed}
use Rattle.iscsi_target_session.specs.Session.{Session as TargetSession}
use Rattle.scsi_disk.specs.Plan.{first_reason}
use Rattle.iscsi_text.specs.Key.{known_keys}
use Rattle.iscsi_target_session.specs.Session.{none_seen}
use Rattle.iscsi_target_session.proofs.RefusalLemmas.{text_unrefused}
use Rattle.iscsi_target_session.specs.LoginText.{answer_pairs, is_normal, session_for, text_refusals, repeats_key, seen_with, login_value, is_given_name}
use Rattle.iscsi_target_session.specs.LoginText.{session_in, names_target, demands_authentication, is_bad_length, name_in}

-- ---- what a target reads in an offer

-- the first text of a login says who speaks to whom
pub record SaysWho (o : Proposal) (pairs : Pairs) : Type 0 where
  pub initiator : login_value (codes "InitiatorName") pairs ≡ Some (values.Plain o.initiator)
  pub session : session_in pairs ≡ Some o.session
  pub target : o.session ≡ sessions.Normal → login_value (codes "TargetName") pairs ≡ Some (values.Plain o.target)

pub says_security : (session : Session) (o : Proposal) → o.session ≡ session → SaysWho o (in_order (security_offers o))
says_security sessions.Normal o e =
    let p : Proposal = record o { session = sessions.Normal } in
    let is : SaysWho p (in_order (security_offers p)) = record { initiator = refl; session = refl; target = λ n. refl } in
    subst (λ (s : Session). SaysWho (record o { session = s }) (in_order (security_offers (record o { session = s })))) (sym e) is
says_security sessions.Discovery o e =
    let p : Proposal = record o { session = sessions.Discovery } in
    let is : SaysWho p (in_order (security_offers p)) = record { initiator = refl; session = refl; target = λ n. absurd (cc n) } in
    subst (λ (s : Session). SaysWho (record o { session = s }) (in_order (security_offers (record o { session = s })))) (sym e) is

pub says_single : (session : Session) (o : Proposal) → o.session ≡ session → SaysWho o (in_order (single_offers o))
says_single sessions.Normal o e =
    let p : Proposal = record o { session = sessions.Normal } in
    let is : SaysWho p (in_order (single_offers p)) = record { initiator = refl; session = refl; target = λ n. refl } in
    subst (λ (s : Session). SaysWho (record o { session = s }) (in_order (single_offers (record o { session = s })))) (sym e) is
says_single sessions.Discovery o e =
    let p : Proposal = record o { session = sessions.Discovery } in
    let is : SaysWho p (in_order (single_offers p)) = record { initiator = refl; session = refl; target = λ n. absurd (cc n) } in
    subst (λ (s : Session). SaysWho (record o { session = s }) (in_order (single_offers (record o { session = s })))) (sym e) is

-- the keys of the second text are not those of the first
pub second_gives : (session : Session) (o : Proposal) → o.session ≡ session
    → repeats_key known_keys (seen_with known_keys none_seen (in_order (security_offers o))) (in_order (operational_offers o)) ≡ false
second_gives sessions.Normal o e = ap (λ (s : Session). repeats_key known_keys
    (seen_with known_keys none_seen (in_order (security_offers (record o { session = s })))) (in_order (operational_offers o))) e ∙ refl
second_gives sessions.Discovery o e = ap (λ (s : Session). repeats_key known_keys
    (seen_with known_keys none_seen (in_order (security_offers (record o { session = s })))) (in_order (operational_offers o))) e ∙ refl

first_gives : (pairs : Pairs) → repeats_key known_keys none_seen pairs ≡ false
first_gives pairs = refl

-- authentication isn't demanded
pub security_auth : (session : Session) (auth : Auth) (o : Proposal) (p : Preferences) → o.session ≡ session → o.auth ≡ auth → auth ≢ auths.Chap
    → demands_authentication p (login_value (codes "AuthMethod") (in_order (security_offers o))) ≡ false
security_auth sessions.Normal auths.None o p e a n = ap (λ (s : Session). demands_authentication p
    (login_value (codes "AuthMethod") (in_order (security_offers (record o { session = s }))))) e
    ∙ ap (λ (x : Auth). demands_authentication p (login_value (codes "AuthMethod")
    (in_order (security_offers (record o { session = sessions.Normal; auth = x }))))) a ∙ refl
security_auth sessions.Normal auths.ChapOrNone o p e a n = ap (λ (s : Session). demands_authentication p
    (login_value (codes "AuthMethod") (in_order (security_offers (record o { session = s }))))) e
    ∙ ap (λ (x : Auth). demands_authentication p (login_value (codes "AuthMethod")
    (in_order (security_offers (record o { session = sessions.Normal; auth = x }))))) a ∙ refl
security_auth sessions.Discovery auths.None o p e a n = ap (λ (s : Session). demands_authentication p
    (login_value (codes "AuthMethod") (in_order (security_offers (record o { session = s }))))) e
    ∙ ap (λ (x : Auth). demands_authentication p (login_value (codes "AuthMethod")
    (in_order (security_offers (record o { session = sessions.Discovery; auth = x }))))) a ∙ refl
security_auth sessions.Discovery auths.ChapOrNone o p e a n = ap (λ (s : Session). demands_authentication p
    (login_value (codes "AuthMethod") (in_order (security_offers (record o { session = s }))))) e
    ∙ ap (λ (x : Auth). demands_authentication p (login_value (codes "AuthMethod")
    (in_order (security_offers (record o { session = sessions.Discovery; auth = x }))))) a ∙ refl
security_auth session auths.Chap o p e a n = absurd (n refl)

pub operational_auth : (o : Proposal) (p : Preferences) → demands_authentication p (login_value (codes "AuthMethod") (in_order (operational_offers o))) ≡ false
operational_auth o p = refl

pub single_auth : (session : Session) (o : Proposal) (p : Preferences) → o.session ≡ session
    → demands_authentication p (login_value (codes "AuthMethod") (in_order (single_offers o))) ≡ false
single_auth sessions.Normal o p e = ap (λ (s : Session). demands_authentication p
    (login_value (codes "AuthMethod") (in_order (single_offers (record o { session = s }))))) e ∙ refl
single_auth sessions.Discovery o p e = ap (λ (s : Session). demands_authentication p
    (login_value (codes "AuthMethod") (in_order (single_offers (record o { session = s }))))) e ∙ refl

-- the length that is declared may be
length_good : (o : Proposal) → ArePreferencesInRange o.prefs → is_bad_length (Some (values.Number o.prefs.max_recv)) ≡ false
length_good o r = rw (le-leb 512 o.prefs.max_recv r.max_recv.0, le-leb o.prefs.max_recv 16777215 r.max_recv.1) refl

pub security_length : (session : Session) (o : Proposal) → o.session ≡ session → is_bad_length (login_value max_recv_key (in_order (security_offers o))) ≡ false
security_length sessions.Normal o e = ap (λ (s : Session). is_bad_length (login_value max_recv_key (in_order (security_offers (record o { session = s }))))) e
    ∙ refl
security_length sessions.Discovery o e =
    ap (λ (s : Session). is_bad_length (login_value max_recv_key (in_order (security_offers (record o { session = s }))))) e
    ∙ refl

pub operational_length : (o : Proposal) → ArePreferencesInRange o.prefs → is_bad_length (login_value max_recv_key (in_order (operational_offers o))) ≡ false
operational_length o r = length_good o r

pub single_length : (session : Session) (o : Proposal) → ArePreferencesInRange o.prefs → o.session ≡ session
    → is_bad_length (login_value max_recv_key (in_order (single_offers o))) ≡ false
single_length sessions.Normal o r e = ap (λ (s : Session). is_bad_length (login_value max_recv_key (in_order (single_offers (record o { session = s }))))) e
    ∙ length_good o r
single_length sessions.Discovery o r e = ap (λ (s : Session). is_bad_length (login_value max_recv_key (in_order (single_offers (record o { session = s }))))) e
    ∙ length_good o r

-- ---- the texts are short

pub record IsFew (pairs : Pairs) : Type 0 where
  pub short : AllByRecursion IsShort pairs
  pub few : length pairs ≤ 20

target_count : (session : Session) (name : List ℕ) → length (target_pair session name) ≤ 1
target_count sessions.Normal name = omega arith
target_count sessions.Discovery name = omega arith

ordered_few : (pairs : Pairs) → AllByRecursion IsShort pairs → length pairs ≤ 20 → IsFew (in_order pairs)
ordered_few pairs a le = record { short = all_in_order IsShort pairs a; few = (let n = length-in_order pairs in omega (arith, n, le)) }

pub offers_few : (start stage : Stage) (o : Proposal) → IsName o.initiator → IsName o.target → ArePreferencesInRange o.prefs → IsStart stage
    → IsFew (in_order (offers_at o start stage))
offers_few start stages.Security o a b r is = ordered_few (security_offers o) (security_short o a.few b.few) (let n = target_count o.session o.target in
    omega (arith, n))
offers_few stages.Security stages.Operational o a b r is = ordered_few (operational_offers o) (operational_short o r) (omega arith)
offers_few stages.Operational stages.Operational o a b r is =
    ordered_few (single_offers o) (single_short o a.few b.few r)
    (let n = target_count o.session o.target in let m : length (operational_offers o) ≤ 14 = omega arith in let k =
    length-append (names o) (operational_offers o) in omega (arith, n, m, k))
offers_few stages.Full stages.Operational o a b r is = ordered_few (operational_offers o) (operational_short o r) (omega arith)
offers_few start stages.Full o a b r is = absurd is

pub few_fits : (pairs : Pairs) → IsFew pairs → length (canonical_text pairs) ≤ 8192
few_fits pairs f = (let a = text_short pairs f.short in let b = f.few in omega (arith, a, b))

-- ---- no reason to refuse a text

off : (t b : Bool) → t ≡ true → (not t && b) ≡ false
off true b e = refl
off false b e = absurd (cc e)

on : (t b : Bool) → b ≡ false → (not t && b) ≡ false
on true b e = refl
on false b e = e

off_both : (t n b : Bool) → t ≡ true → ((not t && n) && b) ≡ false
off_both true n b e = refl
off_both false n b e = absurd (cc e)

on_both : (t n b : Bool) → (n ≡ false) ⊎ (b ≡ false) → ((not t && n) && b) ≡ false
on_both true n b e = refl
on_both false true b (inl e) = absurd (cc e)
on_both false false b (inl e) = refl
on_both false true b (inr e) = e
on_both false false b (inr e) = refl

not_empty : (name : List ℕ) → IsName name → not (not (is_empty name)) ≡ false
not_empty [] n = absurd (let z = n.some in omega (arith, z))
not_empty (byte ∷ bytes) n = refl

-- the session that the first text is for
pub session_is : (e : TargetSession) (pairs : Pairs) (session : Session) → e.has_text ≡ false → session_in pairs ≡ Some session → session_for e pairs ≡ session
session_is e pairs session t s = by e.has_text t
  where
    by : (b : Bool) → b ≡ false → (if b then e.session_type else unwrap_or (session_in pairs) sessions.Normal) ≡ session
    by true t = absurd (cc t)
    by false t = ap (λ (x : Option Session). unwrap_or x sessions.Normal) s

-- a session that asks for a target asks for this one
asks_for : (session : Session) (e : TargetSession) (o : Proposal) (pairs : Pairs) → o.session ≡ session → e.has_text ≡ false → SaysWho o pairs
    → (o.session ≡ sessions.Discovery) ⊎ (o.target ≡ e.settings.name)
    → ((is_normal (session_for e pairs) ≡ false) ⊎ (is_none (login_value (codes "TargetName") pairs) ≡ false))
    × ((is_normal (session_for e pairs) ≡ false) ⊎ (not (names_target e.settings.name (login_value (codes "TargetName") pairs)) ≡ false))
asks_for sessions.Normal e o pairs is t s name =
    let v = s.target is in (
      inr (ap is_none v),
      elim name [
        | inl d ↦ absurd (let bad : sessions.Normal ≡ sessions.Discovery = sym is ∙ d in cc)
        | inr n ↦ inr (ap (λ (x : Option Typed). not (names_target e.settings.name x)) v ∙ ap not (bytes_eq_same e.settings.name o.target (sym n)))
      ],
    )
asks_for sessions.Discovery e o pairs is t s name =
    let n : is_normal (session_for e pairs) ≡ false = ap is_normal (session_is e pairs o.session t s.session ∙ is) in
    (inl n, inl n)

pub first_text : (e : TargetSession) (o : Proposal) (pairs : Pairs) → e.has_text ≡ false → e.seen_keys ≡ none_seen → IsName o.initiator →
    SaysWho o pairs
    → (o.session ≡ sessions.Discovery) ⊎ (o.target ≡ e.settings.name) → demands_authentication e.settings.preferences (login_value (codes "AuthMethod") pairs)
    ≡ false
    → is_bad_length (login_value max_recv_key pairs) ≡ false → nat_lt 8192 (length (canonical_text (answer_pairs e pairs))) ≡ false
    → is_allowed e.settings.extras o.initiator ≡ true
    → first_reason (text_refusals e pairs) ≡ None
first_text e o pairs t g i s name auth len size allowed =
    let a = asks_for o.session e o pairs refl t s name in
    text_unrefused e pairs (record {
      keys_once = ap (λ (x : List Bool). repeats_key known_keys x pairs) g ∙ first_gives pairs;
      says_initiator = on e.has_text _ (ap (λ (x : Option Typed). not (is_given_name x)) s.initiator ∙ not_empty o.initiator i);
      says_session = on e.has_text _ (ap is_none s.session);
      says_target = on_both e.has_text _ _ a.0;
      finds_target = on_both e.has_text _ _ a.1;
      authentication = auth;
      declares_well = len;
      is_short = size;
      is_let_in = on e.has_text _ (ap (λ (x : Option Typed). not (is_allowed e.settings.extras (name_in x))) s.initiator ∙ ap not allowed);
    })

pub second_text : (e : TargetSession) (pairs : Pairs) → e.has_text ≡ true → repeats_key known_keys e.seen_keys pairs ≡ false
    → demands_authentication e.settings.preferences (login_value (codes "AuthMethod") pairs) ≡ false
    → is_bad_length (login_value max_recv_key pairs) ≡ false → nat_lt 8192 (length (canonical_text (answer_pairs e pairs))) ≡ false
    → first_reason (text_refusals e pairs) ≡ None
second_text e pairs t g auth len size =
    text_unrefused e pairs (record {
      keys_once = g;
      says_initiator = off e.has_text _ t;
      says_session = off e.has_text _ t;
      says_target = off_both e.has_text _ _ t;
      finds_target = off_both e.has_text _ _ t;
      authentication = auth;
      declares_well = len;
      is_short = size;
      is_let_in = off e.has_text _ t;
    })
