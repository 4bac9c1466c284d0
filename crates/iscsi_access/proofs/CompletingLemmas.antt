-- Both ends with one secret.
use Rattle.std.proofs.Common.{arith, ◌≡◌, ◌≢◌, inl, inr, ◌∙◌, ℕ, ◌<◌, Bool, true, false, List, [], ◌∷◌, ◌++◌, length, Option, Some, None, refl, sym, ap}
use Rattle.std.specs.Prelude.{find, ◌==◌, ◌||◌, is_some, if◌then◌else◌, codes}
use Rattle.std.specs.List.{list_any, slice_split, onto_first}
use Rattle.std.proofs.lemmas.Bool.{lt-ltb}
use Rattle.std.proofs.Common.{le-leb}
use Rattle.std.specs.Str.{bytes_eq}
use Rattle.hex.specs.Hex.{IsBytes}
use Rattle.iscsi_chap.proofs.ResponseLemmas.{response_bytes, response_some}
use Rattle.iscsi_text.specs.Value as values
use Rattle.iscsi_text.specs.Numeral.{canonical_number}
use Rattle.iscsi_text.specs.Reading.{number_in}
use Rattle.iscsi_text.proofs.NumeralLemmas.{canonical_spells}
use Rattle.iscsi_text.proofs.KeyLemmas.{bytes_eq_same, bytes_eq_other}
use Rattle.std.proofs.lemmas.List.Splits.{slice_split-cons_no, slice_split-cons_yes}
use Rattle.iscsi_chap.specs.declared.algorithm.Algorithm.{Algorithm}
use Rattle.iscsi_chap.specs.declared.algorithm.Algorithm.TheVariants.{Md5, Sha256}
use Rattle.iscsi_chap.specs.Response.{algorithm_name, algorithm_named, due_response, chap_response}
use Rattle.iscsi_chap.specs.Binary.{binary_of, binary_text}
use Rattle.iscsi_chap.proofs.HexLemmas.{hex_back}
use Rattle.iscsi_access.specs.Chap.{Account, Chap, allows}
use Rattle.iscsi_access.specs.Exchange.{said_pairs, own_response, own_said, is_response, is_fair, account_named, passing, algorithm_by, first_known, challenging, judge}
use Rattle.iscsi_access.specs.Initiator.{Credentials, SuitsCredentials, algorithm_list, algorithm_offer, is_same, challenge_pairs, response_to, response_as, response_by, is_proven, is_peer}
use Rattle.iscsi_access.specs.Laws.{CompletesExchange}
use Rattle.iscsi_access.specs.declared.verdict.Progress.TheVariants.{Chosen, Challenged}
use Rattle.iscsi_access.specs.declared.verdict.Said.TheVariants.{Nothing, Challenge, Response}
use Rattle.iscsi_access.specs.declared.verdict.Verdict.TheVariants.{Goes}
use Rattle.iscsi_access.proofs.NumberLemmas.{read_is}

-- a number is read back
number_back : (n : ℕ) → n < 256 → number_in (canonical_number n) ≡ Some n
number_back n small = sym (read_is (canonical_number n) (Some n) (canonical_spells n (omega (arith, small))))

-- bytes are read back
binary_back : (bytes : List ℕ) → IsBytes bytes → bytes ≢ [] → binary_of (binary_text bytes) ≡ Some bytes
binary_back bytes are some = hex_back bytes are some

-- the response that an account's secret gives is right
rightly : (c : Chap) (algorithm : Algorithm) (initiator : List ℕ) (a : Account) → find (λ b. bytes_eq b.name a.name) c.accounts ≡ Some a → allows a.initiator initiator ≡ true
    → is_response c algorithm initiator (account_named (Some a.name) c.accounts)
    (binary_of (binary_text (chap_response algorithm c.identifier a.secret c.challenge))) ≡ true
rightly c algorithm initiator a known allowed =
    let due : List ℕ = chap_response algorithm c.identifier a.secret c.challenge in
    ap (λ (o : Option Account). is_response c algorithm initiator o (binary_of (binary_text due))) known
    ∙ ap (λ (o : Option (List ℕ)). is_response c algorithm initiator (Some a) o)
    (binary_back due (response_bytes algorithm c.identifier a.secret c.challenge) (response_some algorithm c.identifier a.secret c.challenge))
    ∙ rw (bytes_eq_same due due refl, allowed) refl

-- a name is read back
name_back : (a : Algorithm) → algorithm_named (algorithm_name a) ≡ Some a
name_back Md5 = refl
name_back Sha256 = refl

-- the first part is what stands before the first comma
first_part : (b : ℕ) (rest : List ℕ) → (b == 44) ≡ false → slice_split (λ c. c == 44) (b ∷ 44 ∷ rest) ≡ (b ∷ []) ∷ slice_split (λ c. c == 44) rest
first_part b rest other =
    slice_split-cons_no (λ c. c == 44) b (44 ∷ rest) other ∙ ap (onto_first b) (slice_split-cons_yes (λ c. c == 44) 44 rest refl)

abbrev known_of : List (List ℕ) → Option Algorithm
known_of parts = algorithm_by (find (λ i. is_some (algorithm_named i)) parts)

-- the first of a list is the first that is known
first_is : (a : Algorithm) (others : List Algorithm) → first_known (algorithm_list a others) ≡ Some a
first_is Md5 [] = refl
first_is Sha256 [] = refl
first_is Md5 (next ∷ others) = ap known_of (first_part 53 (algorithm_list next others) refl)
first_is Sha256 (next ∷ others) = ap known_of (first_part 55 (algorithm_list next others) refl)

-- so the target takes what the initiator prefers
chooses : (c : Chap) (k : Credentials) → judge c Chosen k.initiator (algorithm_offer k) ≡ Goes (Challenged k.first) (Challenge k.first)
chooses c k = ap challenging (first_is k.first k.others)

offered : (a : Algorithm) → is_same a a ≡ true
offered Md5 = refl
offered Sha256 = refl

-- the initiator answers the target's challenge
answers : (c : Chap) (k : Credentials) → SuitsCredentials c k → response_to k (said_pairs c (Challenge k.first))
    ≡ Some (challenge_pairs k k.peer ++ (codes "CHAP_N", values.Plain k.account.name)
    ∷ (codes "CHAP_R", values.Plain (binary_text (chap_response k.first c.identifier k.account.secret c.challenge))) ∷ [])
answers c k s =
    ap (λ (o : Option Algorithm). response_as k o (said_pairs c (Challenge k.first))) (name_back k.first)
    ∙ ap (λ (t : Bool). if t || list_any (is_same k.first) k.others
    then response_by k k.first (number_in (canonical_number c.identifier)) (binary_of (binary_text c.challenge)) else None) (offered k.first)
    ∙ ap (λ (o : Option ℕ). response_by k k.first o (binary_of (binary_text c.challenge))) (number_back c.identifier s.asked.byte)
    ∙ ap (λ (o : Option (List ℕ)). response_by k k.first (Some c.identifier) o) (binary_back c.challenge s.asked.bytes s.asked.some)
    ∙ rw (lt-ltb c.identifier 256 s.asked.byte, bytes_eq_other c.challenge k.challenge s.differ) refl

-- a login that demands nothing of the target
one_way : (c : Chap) (k : Credentials) → SuitsCredentials c k → k.peer ≡ None → CompletesExchange c k
one_way c k s alone = record {
  method = refl;
  algorithm = chooses c k;
  reply = challenge_pairs k k.peer ++ (codes "CHAP_N", values.Plain k.account.name)
      ∷ (codes "CHAP_R", values.Plain (binary_text (chap_response k.first c.identifier k.account.secret c.challenge))) ∷ [];
  replies = answers c k s;
  said = Nothing;
  passes = rw alone (rw (rightly c k.first k.initiator k.account s.known s.allowed) refl);
  proven = rw alone refl;
}

longer : (xs : List ℕ) → xs ≢ [] → 0 < length xs
longer [] some = absurd (some refl)
longer (x ∷ xs) some = omega arith

fair : (c : Chap) (k : Credentials) → SuitsCredentials c k → is_fair c k.identifier k.challenge ≡ true
fair c k s = rw (
  lt-ltb k.identifier 256 s.asks.byte,
  lt-ltb 0 (length k.challenge) (longer k.challenge s.asks.some),
  le-leb (length k.challenge) 1024 s.asks.few,
  bytes_eq_other k.challenge c.challenge (λ e. s.differ (sym e)),
) refl

-- the target answers the initiator's challenge
own_says : (c : Chap) (k : Credentials) (own : Account) → SuitsCredentials c k → c.own ≡ Some own
    → own_said c k.first (Some (canonical_number k.identifier)) (Some (binary_text k.challenge))
    ≡ Some (Response (due_response k.first k.identifier own.secret k.challenge))
own_says c k own s e =
    ap (λ (o : Option Account). own_response c k.first o (number_in (canonical_number k.identifier)) (binary_of (binary_text k.challenge))) e
    ∙ ap (λ (o : Option ℕ). own_response c k.first (Some own) o (binary_of (binary_text k.challenge))) (number_back k.identifier s.asks.byte)
    ∙ ap (λ (o : Option (List ℕ)). own_response c k.first (Some own) (Some k.identifier) o) (binary_back k.challenge s.asks.bytes s.asks.some)
    ∙ ap (λ (b : Bool). if b then Some (Response (due_response k.first k.identifier own.secret k.challenge)) else None) (fair c k s)

-- and so it is who it is demanded to be
proves : (c : Chap) (k : Credentials) (own : Account) → c.own ≡ Some own
    → is_proven k k.first (Some own) (said_pairs c (Response (due_response k.first k.identifier own.secret k.challenge))) ≡ true
proves c k own e =
    let due : List ℕ = chap_response k.first k.identifier own.secret k.challenge in
    rw e (ap (λ (o : Option (List ℕ)). is_peer k k.first own (Some own.name) o) (binary_back due (response_bytes k.first k.identifier own.secret k.challenge)
    (response_some k.first k.identifier own.secret k.challenge)) ∙ rw (bytes_eq_same own.name own.name refl, bytes_eq_same due due refl) refl)

-- a login that demands the target to be someone
both_ways : (c : Chap) (k : Credentials) (own : Account) → SuitsCredentials c k → k.peer ≡ Some own → c.own ≡ Some own → CompletesExchange c k
both_ways c k own s e f = record {
  method = refl;
  algorithm = chooses c k;
  reply = challenge_pairs k k.peer ++ (codes "CHAP_N", values.Plain k.account.name)
      ∷ (codes "CHAP_R", values.Plain (binary_text (chap_response k.first c.identifier k.account.secret c.challenge))) ∷ [];
  replies = answers c k s;
  said = Response (due_response k.first k.identifier own.secret k.challenge);
  passes = rw e (rw (rightly c k.first k.initiator k.account s.known s.allowed) (ap passing (own_says c k own s f)));
  proven = rw e (proves c k own f);
}

pub completes : (c : Chap) (k : Credentials) → SuitsCredentials c k → CompletesExchange c k
completes c k s = elim s.peer [
  | inl alone ↦ one_way c k s alone
  | inr both ↦ both_ways c k both.0 s both.1 both.2
]
