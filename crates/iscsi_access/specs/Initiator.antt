-- The exchange of CHAP at the initiator: what it says, and whether the target has proved who it is
-- (RFC 7143, section 12.1.3).
use Rattle.std.specs.Prelude.{◌≡◌, ◌≢◌, ◌⊎◌, ℕ, ◌<◌, ◌≤◌, Bool, true, false, not, ◌&&◌, ◌||◌, nat_lt, if◌then◌else◌, List, [], ◌∷◌, ◌++◌, length, find, Option, Some, None, codes}
use Rattle.std.specs.List.{list_any}
use Rattle.std.specs.Str.{bytes_eq}
use Rattle.hex.specs.Hex.{IsBytes}
use Rattle.iscsi_text.specs.Value as values
use Rattle.iscsi_text.specs.Text.{Pairs}
use Rattle.iscsi_text.specs.Numeral.{canonical_number}
use Rattle.iscsi_text.specs.Reading.{number_in}
use Rattle.iscsi_chap.specs.declared.algorithm.Algorithm.{Algorithm}
use Rattle.iscsi_chap.specs.declared.algorithm.Algorithm.TheVariants.{Md5, Sha256}
use Rattle.iscsi_chap.specs.Response.{algorithm_name, chap_response}
use Rattle.iscsi_chap.specs.Binary.{binary_text}
use Rattle.iscsi_access.specs.Chap.{Account, Chap, allows}
use Rattle.iscsi_access.specs.Exchange.{stands, plain_of, algorithm_by, binary_in}

-- As whom an initiator logs in, under its InitiatorName, and whom it demands the target to be, if it
-- does.
pub record Credentials : Type 0 where
  pub initiator : List ℕ
  pub account : Account
  pub peer : Option Account
  -- the algorithms that it offers, the one that it prefers before the others
  pub first : Algorithm
  pub others : List Algorithm
  -- of this login: the identifier and the challenge that the target is to answer
  pub identifier : ℕ
  pub challenge : List ℕ

-- What offers the method: CHAP alone, so that no target can talk the initiator out of it (own rule).
abbrev pub method_offer : Pairs
method_offer = (codes "AuthMethod", values.Items (codes "CHAP")) ∷ []

-- The numbers of algorithms, with commas between them (section 12.1.3).
abbrev pub algorithm_list : Algorithm → List Algorithm → List ℕ
algorithm_list first [] = algorithm_name first
algorithm_list first (next ∷ others) = algorithm_name first ++ 44 ∷ algorithm_list next others

-- What offers the algorithms.
abbrev pub algorithm_offer : Credentials → Pairs
algorithm_offer k = (codes "CHAP_A", values.Plain (algorithm_list k.first k.others)) ∷ []

-- Two algorithms are one.
abbrev pub is_same : Algorithm → Algorithm → Bool
is_same Md5 Md5 = true
is_same Sha256 Sha256 = true
is_same _ _ = false

-- The initiator offers the algorithm.
abbrev pub is_offered : Credentials → Algorithm → Bool
is_offered k algorithm = list_any (is_same algorithm) (k.first ∷ k.others)

-- What challenges the target, where the initiator demands it.
abbrev pub challenge_pairs : Credentials → Option Account → Pairs
challenge_pairs k None = []
challenge_pairs k (Some peer) =
    (codes "CHAP_C", values.Plain (binary_text k.challenge))
    ∷ (codes "CHAP_I", values.Plain (canonical_number k.identifier)) ∷ []

-- What answers this challenge by the algorithm; none where it is the initiator's own.
abbrev pub response_by : Credentials → Algorithm → Option ℕ → Option (List ℕ) → Option Pairs
response_by k algorithm (Some identifier) (Some challenge) =
    if nat_lt identifier 256 && not (bytes_eq challenge k.challenge)
    then Some (challenge_pairs k k.peer
    ++ (codes "CHAP_N", values.Plain k.account.name)
    ∷ (
      codes "CHAP_R",
      values.Plain
          (binary_text (chap_response algorithm identifier k.account.secret challenge)),
    )
    ∷ [])
    else None
response_by k algorithm _ _ = None

-- The number that a plain value spells.
abbrev pub spelled_number : Option (List ℕ) → Option ℕ
spelled_number None = None
spelled_number (Some text) = number_in text

-- What answers the challenge of a text by the algorithm that the target chose; none where it wasn't
-- offered.
abbrev pub response_as : Credentials → Option Algorithm → Pairs → Option Pairs
response_as k None pairs = None
response_as k (Some algorithm) pairs =
    if is_offered k algorithm
    then response_by k algorithm (spelled_number (plain_of (codes "CHAP_I") pairs))
    (binary_in (plain_of (codes "CHAP_C") pairs))
    else None

-- What answers a text with a challenge.
abbrev pub response_to : Credentials → Pairs → Option Pairs
response_to k pairs = response_as k (algorithm_by (plain_of (codes "CHAP_A") pairs)) pairs

-- The response is the one that the peer's secret gives by the algorithm.
abbrev pub is_peer : Credentials → Algorithm → Account → Option (List ℕ) → Option (List ℕ) → Bool
is_peer k algorithm peer (Some name) (Some given) =
    bytes_eq name peer.name
    && bytes_eq given (chap_response algorithm k.identifier peer.secret k.challenge)
is_peer k algorithm peer _ _ = false

-- The target has proved who it is, where the initiator demands that; else it says nothing of it.
abbrev pub is_proven : Credentials → Algorithm → Option Account → Pairs → Bool
is_proven k algorithm None pairs = not (stands (codes "CHAP_N") pairs || stands (codes "CHAP_R") pairs)
is_proven k algorithm (Some peer) pairs =
    is_peer k algorithm peer (plain_of (codes "CHAP_N") pairs) (binary_in (plain_of (codes "CHAP_R") pairs))

-- A challenge: some bytes, at most 1,024, and an identifier of one byte.
pub record IsChallenge (identifier : ℕ) (challenge : List ℕ) : Type 0 where
  pub byte : identifier < 256
  pub bytes : IsBytes challenge
  pub some : challenge ≢ []
  pub few : length challenge ≤ 1024

-- The target knows the account, which the initiator may use there, and is the peer that is demanded;
-- both challenges are such, and differ.
pub record SuitsCredentials (c : Chap) (k : Credentials) : Type 0 where
  pub known : find (λ a. bytes_eq a.name k.account.name) c.accounts ≡ Some k.account
  pub allowed : allows k.account.initiator k.initiator ≡ true
  pub peer : (k.peer ≡ None) ⊎ ((own : Account) × (k.peer ≡ Some own) × (c.own ≡ Some own))
  pub asked : IsChallenge c.identifier c.challenge
  pub asks : IsChallenge k.identifier k.challenge
  pub differ : c.challenge ≢ k.challenge
