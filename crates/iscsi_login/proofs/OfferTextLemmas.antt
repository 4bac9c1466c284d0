-- The offers are what some text means.
use Rattle.std.proofs.Common.{◌≡◌, ℕ, ◌<◌, List, [], ◌∷◌, map, length, Some, refl, sym, subst, arith, codes}
use Rattle.std.specs.List.{AllByRecursion}
use Rattle.std.proofs.lemmas.List.Elements.{All-from_recursion}
use Rattle.iscsi_text.specs.declared.key.KeyKind.TheVariants as kinds
use Rattle.iscsi_text.specs.Key.{kind_of, IsKey}
use Rattle.iscsi_text.specs.Value as values
use Rattle.iscsi_text.specs.Text.{HasNo, IsMeaning, IsPair}
use Rattle.iscsi_text.specs.declared.negotiated.NegKey.{NegKey}
use Rattle.iscsi_text.specs.declared.negotiated.NegKey.TheVariants as keys
use Rattle.iscsi_login.specs.declared.preferences.Preferences.{Preferences}
use Rattle.iscsi_text.specs.declared.negotiated.Session.{Session}
use Rattle.iscsi_text.specs.declared.negotiated.Session.TheVariants.{Normal, Discovery}
use Rattle.iscsi_login.specs.declared.offers.Auth.{Auth}
use Rattle.iscsi_login.specs.declared.offers.Auth.TheVariants as auths
use Rattle.iscsi_text.specs.Negotiated.{name_of, rule_of, operational_keys}
use Rattle.iscsi_login.specs.Negotiation.{ArePreferencesInRange, preference, answered_value}
use Rattle.iscsi_login.specs.Answer.{max_recv_key}
use Rattle.iscsi_text.specs.Reading.{in_order}
use Rattle.iscsi_login.specs.Offers.{Proposal, auth_items, session_name, target_pair, names, security_offers, preferred_pair, operational_offers, single_offers}
use Rattle.iscsi_login.proofs.AgreementLaw.{preference_allowed}
use Rattle.iscsi_login.proofs.AnswerMeaningLaw.{Writable, kind_of_name, writable_value, highest_small, writable_number, pair_of, all_append, kind_max_recv}
use Rattle.iscsi_login.proofs.KeyTestLemmas.{key_from, no_zero_from}
use Rattle.iscsi_text.proofs.OrderLemmas.{in_order_is, all_in_order}
use Rattle.iscsi_login.proofs.OfferMeaningLaw.{security_is_offer, operational_is_offer, single_is_offer}

name_is_key : (key : NegKey) → IsKey (name_of key)
name_is_key keys.MaxConnections = key_from (codes "MaxConnections") refl refl refl
name_is_key keys.InitialR2T = key_from (codes "InitialR2T") refl refl refl
name_is_key keys.ImmediateData = key_from (codes "ImmediateData") refl refl refl
name_is_key keys.MaxBurstLength = key_from (codes "MaxBurstLength") refl refl refl
name_is_key keys.FirstBurstLength = key_from (codes "FirstBurstLength") refl refl refl
name_is_key keys.DefaultTime2Wait = key_from (codes "DefaultTime2Wait") refl refl refl
name_is_key keys.DefaultTime2Retain = key_from (codes "DefaultTime2Retain") refl refl refl
name_is_key keys.MaxOutstandingR2T = key_from (codes "MaxOutstandingR2T") refl refl refl
name_is_key keys.DataPDUInOrder = key_from (codes "DataPDUInOrder") refl refl refl
name_is_key keys.DataSequenceInOrder = key_from (codes "DataSequenceInOrder") refl refl refl
name_is_key keys.ErrorRecoveryLevel = key_from (codes "ErrorRecoveryLevel") refl refl refl
name_is_key keys.HeaderDigest = key_from (codes "HeaderDigest") refl refl refl
name_is_key keys.DataDigest = key_from (codes "DataDigest") refl refl refl
name_is_key keys.AuthMethod = key_from (codes "AuthMethod") refl refl refl

-- a preference is an offer that can be written
preferred_is : (p : Preferences) → ArePreferencesInRange p → (key : NegKey) → IsPair (preferred_pair p key)
preferred_is p range key =
    pair_of (name_of key) (answered_value (rule_of key) (preference p key)) (name_is_key key)
    (subst (λ kind. Writable kind (answered_value (rule_of key) (preference p key))) (sym (kind_of_name key))
    (writable_value (rule_of key) (preference p key) (highest_small key) (preference_allowed p range key)))

all_preferred : (p : Preferences) → ArePreferencesInRange p → (ks : List NegKey) → AllByRecursion IsPair (map (preferred_pair p) ks)
all_preferred p range [] = tt
all_preferred p range (k ∷ ks) = (preferred_is p range k, all_preferred p range ks)

operational_pairs : (o : Proposal) → ArePreferencesInRange o.prefs → AllByRecursion IsPair (operational_offers o)
operational_pairs o range = (
  pair_of max_recv_key (values.Number o.prefs.max_recv) (key_from max_recv_key refl refl refl)
      (subst (λ kind. Writable kind (values.Number o.prefs.max_recv)) (sym kind_max_recv)
      (writable_number o.prefs.max_recv (omega (arith, range.max_recv.1)))),
  all_preferred o.prefs range operational_keys,
)

kind_name : kind_of (codes "InitiatorName") ≡ Some kinds.Plain
unfolding kind_of
kind_name = refl

kind_type : kind_of (codes "SessionType") ≡ Some kinds.Plain
unfolding kind_of
kind_type = refl

kind_target : kind_of (codes "TargetName") ≡ Some kinds.Plain
unfolding kind_of
kind_target = refl

plain_is : (key bytes : List ℕ) → IsKey key → kind_of key ≡ Some kinds.Plain → HasNo 0 bytes → IsPair (key, values.Plain bytes)
plain_is key bytes is kind none = pair_of key (values.Plain bytes) is (subst (λ k. Writable k (values.Plain bytes)) (sym kind)
    (record { bytes = bytes; ends = none; means = refl }))

session_no_zero : (s : Session) → HasNo 0 (session_name s)
session_no_zero Normal = no_zero_from (codes "Normal") refl
session_no_zero Discovery = no_zero_from (codes "Discovery") refl

target_is : (s : Session) (name : List ℕ) → HasNo 0 name → AllByRecursion IsPair (target_pair s name)
target_is Normal name none = (plain_is (codes "TargetName") name (key_from (codes "TargetName") refl refl refl) kind_target none, tt)
target_is Discovery name none = tt

names_are : (o : Proposal) → HasNo 0 o.initiator → HasNo 0 o.target → AllByRecursion IsPair (names o)
names_are o initiator target = (
  plain_is (codes "InitiatorName") o.initiator (key_from (codes "InitiatorName") refl refl refl) kind_name initiator,
  (
    plain_is (codes "SessionType") (session_name o.session) (key_from (codes "SessionType") refl refl refl) kind_type (session_no_zero o.session),
    target_is o.session o.target target,
  ),
)

auth_is : (a : Auth) → Writable (Some kinds.Items) (values.Items (auth_items a))
auth_is auths.None = record {
  bytes = codes "None";
  ends = no_zero_from (codes "None") refl;
  means = (refl, All-from_recursion (λ item. 0 < length item) (codes "None" ∷ []) (omega arith, tt));
}
auth_is auths.ChapOrNone = record {
  bytes = codes "CHAP,None";
  ends = no_zero_from (codes "CHAP,None") refl;
  means = (refl, All-from_recursion (λ item. 0 < length item) (codes "CHAP" ∷ codes "None" ∷ []) (omega arith, (omega arith, tt)));
}
auth_is auths.Chap = record {
  bytes = codes "CHAP";
  ends = no_zero_from (codes "CHAP") refl;
  means = (refl, All-from_recursion (λ item. 0 < length item) (codes "CHAP" ∷ []) (omega arith, tt));
}

security_pairs : (o : Proposal) → HasNo 0 o.initiator → HasNo 0 o.target → AllByRecursion IsPair (security_offers o)
security_pairs o initiator target = (
  pair_of (codes "AuthMethod") (values.Items (auth_items o.auth)) (name_is_key keys.AuthMethod)
      (subst (λ k. Writable k (values.Items (auth_items o.auth))) (sym (kind_of_name keys.AuthMethod)) (auth_is o.auth)),
  names_are o initiator target,
)

pub security_text_is : (o : Proposal) → HasNo 0 o.initiator → HasNo 0 o.target → IsMeaning (in_order (security_offers o))
security_text_is o initiator target = record {
  in_order = in_order_is (security_offers o);
  single = (security_is_offer o).single;
  each = all_in_order IsPair (security_offers o) (security_pairs o initiator target);
}

pub operational_text_is : (o : Proposal) → ArePreferencesInRange o.prefs → IsMeaning (in_order (operational_offers o))
operational_text_is o range = record {
  in_order = in_order_is (operational_offers o);
  single = (operational_is_offer o).single;
  each = all_in_order IsPair (operational_offers o) (operational_pairs o range);
}

pub single_text_is : (o : Proposal) → HasNo 0 o.initiator → HasNo 0 o.target → ArePreferencesInRange o.prefs → IsMeaning (in_order (single_offers o))
single_text_is o initiator target range = record {
  in_order = in_order_is (single_offers o);
  single = (single_is_offer o).single;
  each = all_in_order IsPair (single_offers o) (all_append IsPair (names o) (operational_offers o) (names_are o initiator target) (operational_pairs o range));
}
