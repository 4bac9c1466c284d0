-- The exchange of CHAP at the target: what a text of the security stage leads to (RFC 7143, section
-- 12.1.3). Of a text it looks at six keys alone: AuthMethod, which is a list, and CHAP_A, CHAP_C,
-- CHAP_I, CHAP_N and CHAP_R, which stand in no table of keys, so that their bytes are what they mean.
use Rattle.std.specs.Prelude.{ℕ, Bool, false, not, ◌==◌, ◌&&◌, ◌||◌, nat_lt, nat_le, if◌then◌else◌, List, [], ◌∷◌, length, find, slice_get, Option, Some, None, is_some, codes}
use Rattle.std.specs.List.{list_any, slice_split}
use Rattle.std.specs.Str.{bytes_eq}
use Rattle.iscsi_text.specs.Value.{Typed}
use Rattle.iscsi_text.specs.Value as values
use Rattle.iscsi_text.specs.Text.{Pairs, values_of}
use Rattle.iscsi_text.specs.Numeral.{canonical_number}
use Rattle.iscsi_text.specs.Reading.{number_in}
use Rattle.iscsi_chap.specs.declared.algorithm.Algorithm.{Algorithm}
use Rattle.iscsi_chap.specs.Response.{algorithm_name, algorithm_named, due_response, digest_in, chap_response}
use Rattle.iscsi_chap.specs.Binary.{binary_of, binary_text}
use Rattle.iscsi_access.specs.Chap.{Account, Chap, allows}
use Rattle.iscsi_access.specs.declared.verdict.Progress.{Progress}
use Rattle.iscsi_access.specs.declared.verdict.Progress.TheVariants.{Unasked, Chosen, Challenged, Passed}
use Rattle.iscsi_access.specs.declared.verdict.Said.{Said}
use Rattle.iscsi_access.specs.declared.verdict.Said.TheVariants.{Nothing, Method, Challenge, Response}
use Rattle.iscsi_access.specs.declared.verdict.Verdict.{Verdict}
use Rattle.iscsi_access.specs.declared.verdict.Verdict.TheVariants.{Refused, Goes}

-- ---- a text

-- The value of a key, if it stands in the text.
abbrev pub exchange_value : List ℕ → Pairs → Option Typed
exchange_value key pairs = slice_get (values_of key pairs) 0

-- The key stands in the text.
abbrev pub stands : List ℕ → Pairs → Bool
stands key pairs = is_some (exchange_value key pairs)

-- The bytes of a value that is plain.
abbrev pub plain_bytes : Option Typed → Option (List ℕ)
plain_bytes (Some (values.Plain bytes)) = Some bytes
plain_bytes _ = None

-- The plain value of a key, if it stands in the text.
abbrev pub plain_of : List ℕ → Pairs → Option (List ℕ)
plain_of key pairs = plain_bytes (exchange_value key pairs)

-- The items between commas have this one.
abbrev pub has_item : List ℕ → List ℕ → Bool
has_item item bytes = list_any (λ i. bytes_eq i item) (slice_split (λ b. b == 44) bytes)

-- A list has the item.
abbrev pub lists : List ℕ → Option Typed → Bool
lists item (Some (values.Items bytes)) = has_item item bytes
lists item (Some (values.Plain bytes)) = has_item item bytes
lists item _ = false

-- The algorithm that an item names, if there is one that is known.
abbrev pub algorithm_by : Option (List ℕ) → Option Algorithm
algorithm_by None = None
algorithm_by (Some item) = algorithm_named item

-- The first algorithm between commas that is known.
abbrev pub first_known : List ℕ → Option Algorithm
first_known bytes = algorithm_by
    (find (λ i. is_some (algorithm_named i)) (slice_split (λ b. b == 44) bytes))

-- The first algorithm of a list that is known.
abbrev pub known_in : Option Typed → Option Algorithm
known_in (Some (values.Items bytes)) = first_known bytes
known_in (Some (values.Plain bytes)) = first_known bytes
known_in _ = None

-- The bytes that a large binary value writes, where it is there and writes some.
abbrev pub binary_in : Option (List ℕ) → Option (List ℕ)
binary_in None = None
binary_in (Some text) = binary_of text

-- ---- no method is chosen

-- A key of CHAP stands in the text.
abbrev pub has_chap_key : Pairs → Bool
has_chap_key pairs =
    stands (codes "CHAP_A") pairs || stands (codes "CHAP_C") pairs
    || stands (codes "CHAP_I") pairs || stands (codes "CHAP_N") pairs
    || stands (codes "CHAP_R") pairs

-- A method is to be chosen: CHAP where it is offered; else the login is refused (section 12.1; the
-- keys of CHAP come behind).
abbrev pub on_method : Pairs → Verdict
on_method pairs =
    if not (has_chap_key pairs) && lists (codes "CHAP") (exchange_value (codes "AuthMethod") pairs)
    then Goes Chosen Method
    else Refused

-- ---- CHAP is chosen

-- Other keys of the exchange than CHAP_A stand in the text.
abbrev pub has_more_than_algorithms : Pairs → Bool
has_more_than_algorithms pairs =
    stands (codes "AuthMethod") pairs || stands (codes "CHAP_C") pairs
    || stands (codes "CHAP_I") pairs || stands (codes "CHAP_N") pairs
    || stands (codes "CHAP_R") pairs

-- The challenge goes out with the algorithm that is chosen, if one is.
abbrev pub challenging : Option Algorithm → Verdict
challenging None = Refused
challenging (Some algorithm) = Goes (Challenged algorithm) (Challenge algorithm)

-- An algorithm is to be chosen: the first that the initiator offers of MD5, which is 5, and SHA-256,
-- which is 7 (section 12.1.3).
abbrev pub on_algorithm : Pairs → Verdict
on_algorithm pairs =
    if has_more_than_algorithms pairs then Refused
    else challenging (known_in (exchange_value (codes "CHAP_A") pairs))

-- ---- the initiator has the challenge

-- The first account of this name, if there is one.
abbrev pub account_named : Option (List ℕ) → List Account → Option Account
account_named None accounts = None
account_named (Some name) accounts = find (λ a. bytes_eq a.name name) accounts

-- These bytes are the response that the account's secret gives by the algorithm, and an initiator of
-- this name may use the account.
abbrev pub is_response : Chap → Algorithm → List ℕ → Option Account → Option (List ℕ) → Bool
is_response c algorithm initiator (Some account) (Some given) =
    bytes_eq given (chap_response algorithm c.identifier account.secret c.challenge)
    && allows account.initiator initiator
is_response c algorithm initiator _ _ = false

-- The text has the name of an account that the initiator may use, and the response that its secret
-- gives by the algorithm (RFC 1994, section 4.1).
abbrev pub is_right : Chap → Algorithm → List ℕ → Pairs → Bool
is_right c algorithm initiator pairs =
    is_response c algorithm initiator (account_named (plain_of (codes "CHAP_N") pairs) c.accounts)
    (binary_in (plain_of (codes "CHAP_R") pairs))

-- A challenge that the target answers: an identifier of one byte, 1 to 1,024 bytes, and not the
-- target's own challenge, which would be reflected (section 12.1.3; RFC 1994, section 4.1).
abbrev pub is_fair : Chap → ℕ → List ℕ → Bool
is_fair c identifier challenge =
    nat_lt identifier 256
    && (nat_lt 0 (length challenge)
    && (nat_le (length challenge) 1024 && not (bytes_eq challenge c.challenge)))

-- What the target says to a challenge of the initiator, by the algorithm that is chosen; none where it
-- doesn't answer it.
abbrev pub own_response : Chap → Algorithm → Option Account → Option ℕ → Option (List ℕ) → Option Said
own_response c algorithm (Some own) (Some identifier) (Some challenge) =
    if is_fair c identifier challenge
    then Some (Response (due_response algorithm identifier own.secret challenge))
    else None
own_response c algorithm _ _ _ = None

-- What the target says of itself: nothing where it isn't challenged; none where it is to be refused.
abbrev pub own_said : Chap → Algorithm → Option (List ℕ) → Option (List ℕ) → Option Said
own_said c algorithm None None = Some Nothing
own_said c algorithm (Some identifier) (Some challenge) =
    own_response c algorithm c.own (number_in identifier) (binary_of challenge)
own_said c algorithm _ _ = None

-- The login goes on where there is something to say.
abbrev pub passing : Option Said → Verdict
passing None = Refused
passing (Some said) = Goes Passed said

-- A response is to be given, and with it may come a challenge (section 12.1.3).
abbrev pub on_response : Chap → Algorithm → List ℕ → Pairs → Verdict
on_response c algorithm initiator pairs =
    if stands (codes "AuthMethod") pairs || stands (codes "CHAP_A") pairs then Refused
    else if not (is_right c algorithm initiator pairs) then Refused
    else passing (own_said c algorithm (plain_of (codes "CHAP_I") pairs)
    (plain_of (codes "CHAP_C") pairs))

-- ---- the response was right

-- Nothing of the exchange comes any more.
abbrev pub on_rest : Pairs → Verdict
on_rest pairs =
    if stands (codes "AuthMethod") pairs || has_chap_key pairs then Refused
    else Goes Passed Nothing

-- ---- any text

-- What a text of the security stage leads to, where the login has this InitiatorName.
abbrev pub judge : Chap → Progress → List ℕ → Pairs → Verdict
judge c Unasked initiator pairs = on_method pairs
judge c Chosen initiator pairs = on_algorithm pairs
judge c (Challenged algorithm) initiator pairs = on_response c algorithm initiator pairs
judge c Passed initiator pairs = on_rest pairs

-- ---- what is said

-- The pairs by which the target says it (section 12.1.3).
abbrev pub said_pairs : Chap → Said → Pairs
said_pairs c Nothing = []
said_pairs c Method = (codes "AuthMethod", values.Items (codes "CHAP")) ∷ []
said_pairs c (Challenge algorithm) =
    (codes "CHAP_A", values.Plain (algorithm_name algorithm))
    ∷ (codes "CHAP_C", values.Plain (binary_text c.challenge))
    ∷ (codes "CHAP_I", values.Plain (canonical_number c.identifier)) ∷ []
said_pairs c (Response response) = own_pairs c.own (digest_in response)
  where
    own_pairs : Option Account → List ℕ → Pairs
    own_pairs None bytes = []
    own_pairs (Some own) bytes =
        (codes "CHAP_N", values.Plain own.name)
        ∷ (codes "CHAP_R", values.Plain (binary_text bytes)) ∷ []
