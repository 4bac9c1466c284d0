-- What a target demands of an initiator (RFC 7143, sections 9.2.1 and 12.1.3).
use Rattle.std.specs.Prelude.{◌≡◌, ℕ, ◌≤◌, Bool, true, false, List, length, Option, Some, None, Result, Ok, Err}
use Rattle.std.specs.List.{list_any}
use Rattle.std.specs.Str.{bytes_eq}
use Rattle.iscsi_access.specs.declared.chap.ChapFault.{ChapFault}
use Rattle.iscsi_access.specs.declared.chap.ChapFault.TheVariants.{BadSecret, SameSecret}

-- A name with its secret, and the InitiatorName under which alone it counts, if it is bound to one
-- (section 12.1.3; that it may be bound is own rule).
pub record Account : Type 0 where
  pub name : List ℕ
  pub secret : List ℕ
  pub initiator : Option (List ℕ)

-- What is demanded in one login, and as whom the target answers a challenge, if it does.
pub record Chap : Type 0 where
  pub accounts : List Account
  pub own : Option Account
  -- of this login: the identifier and the challenge that the initiator is to answer
  pub identifier : ℕ
  pub challenge : List ℕ

-- An initiator of this name may use an account that is bound so (own rule).
abbrev pub allows : Option (List ℕ) → List ℕ → Bool
allows None initiator = true
allows (Some name) initiator = bytes_eq name initiator

-- A secret has 96 bits or more (section 9.2.1; that it has at most 255 bytes is own rule).
abbrev pub IsSecret : List ℕ → Type 0
IsSecret secret = (12 ≤ length secret) × (length secret ≤ 255)

-- The account is of this name and secret, bound to no initiator; or the secret is none.
abbrev pub NewAccountPost : List ℕ → List ℕ → Result Account ChapFault → Type 0
NewAccountPost name secret (Ok account) =
    IsSecret secret × (account ≡ record { name = name; secret = secret; initiator = None })
NewAccountPost name secret (Err BadSecret) = ¬ IsSecret secret
NewAccountPost name secret (Err SameSecret) = ⊥

-- One of the accounts has the secret.
abbrev pub has_secret : List Account → List ℕ → Bool
has_secret accounts secret = list_any (λ a. bytes_eq a.secret secret) accounts

-- The target's own secret is none of an initiator's (section 9.2.1).
abbrev pub AreApart : List Account → Option Account → Type 0
AreApart accounts None = Unit {0}
AreApart accounts (Some own) = has_secret accounts own.secret ≡ false

-- The demand is of these, or the target's own secret is an initiator's.
abbrev pub NewChapPost : List Account → Option Account → ℕ → List ℕ → Result Chap ChapFault → Type 0
NewChapPost accounts own identifier challenge (Ok chap) = AreApart accounts own
    × (chap ≡ record {
      accounts = accounts;
      own = own;
      identifier = identifier;
      challenge = challenge;
    })
NewChapPost accounts own identifier challenge (Err SameSecret) = ¬ AreApart accounts own
NewChapPost accounts own identifier challenge (Err BadSecret) = ⊥
