-- The words of the laws.
use Rattle.std.specs.Prelude.{◌≡◌, ℕ, true, List, find, Some, codes}
use Rattle.std.specs.Str.{bytes_eq}
use Rattle.iscsi_text.specs.Text.{Pairs}
use Rattle.iscsi_chap.specs.declared.algorithm.Algorithm.{Algorithm}
use Rattle.iscsi_chap.specs.Response.{chap_response}
use Rattle.iscsi_access.specs.Chap.{Account, Chap, allows}
use Rattle.iscsi_access.specs.Exchange.{plain_of, binary_in, judge, said_pairs}
use Rattle.iscsi_access.specs.Initiator.{Credentials, method_offer, algorithm_offer, response_to, is_proven}
use Rattle.iscsi_access.specs.declared.verdict.Progress.{Progress}
use Rattle.iscsi_access.specs.declared.verdict.Progress.TheVariants.{Unasked, Chosen, Challenged, Passed}
use Rattle.iscsi_access.specs.declared.verdict.Said.{Said}
use Rattle.iscsi_access.specs.declared.verdict.Said.TheVariants.{Method, Challenge}
use Rattle.iscsi_access.specs.declared.verdict.Verdict.TheVariants.{Goes}

-- The text has the name of an account that an initiator of this name may use, and the response of
-- its secret to the challenge: the digest of the identifier, the secret and the challenge, by MD5 or
-- by SHA-256 (RFC 1994, section 4.1).
pub record AnswersChallenge (c : Chap) (initiator : List ℕ) (pairs : Pairs) : Type 0 where
  pub name : List ℕ
  pub account : Account
  pub named : plain_of (codes "CHAP_N") pairs ≡ Some name
  pub known : find (λ a. bytes_eq a.name name) c.accounts ≡ Some account
  pub allowed : allows account.initiator initiator ≡ true
  pub algorithm : Algorithm
  pub response : binary_in (plain_of (codes "CHAP_R") pairs)
      ≡ Some (chap_response algorithm c.identifier account.secret c.challenge)

-- The text answers the challenge by the algorithm that was chosen before.
abbrev pub AnswersStep : Chap → Progress → List ℕ → Pairs → Type 0
AnswersStep c before initiator pairs =
    (answer : AnswersChallenge c initiator pairs) × (before ≡ Challenged answer.algorithm)

-- The three texts of the initiator lead to the end of the exchange, by the algorithm that it offers
-- first, and so does the target's answer.
pub record CompletesExchange (c : Chap) (k : Credentials) : Type 0 where
  pub method : judge c Unasked k.initiator method_offer ≡ Goes Chosen Method
  pub algorithm : judge c Chosen k.initiator (algorithm_offer k)
      ≡ Goes (Challenged k.first) (Challenge k.first)
  pub reply : Pairs
  pub replies : response_to k (said_pairs c (Challenge k.first)) ≡ Some reply
  pub said : Said
  pub passes : judge c (Challenged k.first) k.initiator reply ≡ Goes Passed said
  pub proven : is_proven k k.first k.peer (said_pairs c said) ≡ true
