-- The text of a file of secrets: which accounts its lines mean, and which line is the first that is
-- wrong (own rules; RFC 7143, section 9.2.1, asks for 96 bits and for a secret for each direction).
use Rattle.std.specs.Prelude.{ℕ, ◌+◌, Bool, true, false, not, ◌==◌, ◌&&◌, ◌||◌, nat_lt, nat_le, if◌then◌else◌, List, [], ◌∷◌, ◌++◌, length, filter, Option, Some, None, is_some, Result, Ok, Err, codes}
use Rattle.std.specs.List.{list_any, slice_split, take_while}
use Rattle.std.specs.Str.{bytes_eq}
use Rattle.std.specs.Char.{is_ascii_control, is_ascii_uppercase}
use Rattle.iscsi_chap.specs.Binary.{binary_of}
use Rattle.iscsi_access.specs.Chap.{Account, Chap, has_secret}
use Rattle.iscsi_secrets.specs.declared.fault.SecretsFault.{SecretsFault}
use Rattle.iscsi_secrets.specs.declared.fault.SecretsFault.TheVariants.{TooLong, NumberSign, BadLine, BadName, BadBinary, BadSecret, SameName, SameSecret, TooManyUsers, SecondTarget}
use Rattle.iscsi_secrets.specs.declared.remark.SecretsRemark.{SecretsRemark}
use Rattle.iscsi_secrets.specs.declared.remark.SecretsRemark.TheVariants.{SharedSecret, Capital}

-- Who may log in, and as whom the target answers, if it does; and what is told of the lines.
pub record Secrets : Type 0 where
  pub accounts : List Account
  pub own : Option Account
  pub remarks : List SecretsRemark

-- Nobody.
abbrev pub nobody : Secrets
nobody = record { accounts = []; own = None; remarks = [] }

-- ---- words

-- The lines of a text are parted by line feeds.
abbrev pub secrets_lines : List ℕ → List (List ℕ)
secrets_lines text = slice_split (λ b. b == 10) text

-- A blank, a tab or a carriage return, which part words.
abbrev pub is_blank : ℕ → Bool
is_blank b = b == 32 || b == 9 || b == 13

-- There is a byte in it.
abbrev pub has_byte : List ℕ → Bool
has_byte [] = false
has_byte (b ∷ word) = true

-- A comment begins with this word, since a `#` is at its head.
abbrev pub begins_comment : List ℕ → Bool
begins_comment [] = false
begins_comment (b ∷ word) = b == 35

-- The words of a line before its comment: what stands between blanks.
abbrev pub words_of : List ℕ → List (List ℕ)
words_of line = take_while (λ w. not (begins_comment w)) (filter has_byte (slice_split is_blank line))

-- One of the words has a `#` in it.
abbrev pub has_number_sign : List (List ℕ) → Bool
has_number_sign words = list_any (λ w. list_any (λ b. b == 35) w) words

-- ---- one line more

-- A name has at most 255 bytes, and no control character (RFC 7143, section 6.1).
abbrev pub is_account_name : List ℕ → Bool
is_account_name name = nat_le (length name) 255 && not (list_any is_ascii_control name)

-- A secret has 12 to 255 bytes.
abbrev pub is_secret : List ℕ → Bool
is_secret secret = nat_le 12 (length secret) && nat_le (length secret) 255

-- The word begins as a large binary value: `0x`, `0X`, `0b` or `0B` (RFC 7143, section 6.1).
abbrev pub is_binary_word : List ℕ → Bool
is_binary_word (zero_digit ∷ base ∷ rest) =
    zero_digit == 48 && (base == 120 || base == 88 || base == 98 || base == 66)
is_binary_word _ = false

-- The secret that a word gives: the bytes that it writes where it begins as a large binary value, if
-- it is one; else its own bytes.
abbrev pub secret_of : List ℕ → Option (List ℕ)
secret_of word = if is_binary_word word then binary_of word else Some word

-- A name with the secret that a word gives, which any initiator may use.
abbrev pub account_with : ℕ → List ℕ → Option (List ℕ) → Result Account SecretsFault
account_with line name None = Err (BadBinary line)
account_with line name (Some secret) =
    if is_secret secret then Ok (record { name = name; secret = secret; initiator = None })
    else Err (BadSecret line)

-- The account of a name and of the word of a secret on the line of this number: the name's fault
-- comes first.
unfoldable pub account_in : ℕ → List ℕ → List ℕ → Result Account SecretsFault
account_in line name word =
    if is_account_name name then account_with line name (secret_of word) else Err (BadName line)

-- What follows on a value, unless there is a fault.
abbrev pub then_with : {A : Type 0} → Result A SecretsFault → (A → Result Secrets SecretsFault)
    → Result Secrets SecretsFault
then_with (Ok a) next = next a
then_with (Err fault) next = Err fault

-- One of the accounts has the name.
abbrev pub has_name : List Account → List ℕ → Bool
has_name accounts name = list_any (λ a. bytes_eq a.name name) accounts

-- The target has this name.
abbrev pub is_own_name : Option Account → List ℕ → Bool
is_own_name None name = false
is_own_name (Some own) name = bytes_eq own.name name

-- The target has this secret.
abbrev pub is_own_secret : Option Account → List ℕ → Bool
is_own_secret None secret = false
is_own_secret (Some own) secret = bytes_eq secret own.secret

-- An earlier line has the name.
abbrev pub is_known : Secrets → List ℕ → Bool
is_known s name = has_name s.accounts name || is_own_name s.own name

-- A remark is told, or none.
abbrev pub noted_if : Bool → SecretsRemark → Secrets → Secrets
noted_if told remark s = if told then record s { remarks = s.remarks ++ remark ∷ [] } else s

-- `user NAME SECRET [IQN]`, on the line of this number: one account more, of 64. It is told where an
-- earlier user has the secret.
unfoldable pub with_user : ℕ → Secrets → Account → Result Secrets SecretsFault
with_user line s account =
    if is_known s account.name then Err (SameName line)
    else if is_own_secret s.own account.secret then Err (SameSecret line)
    else if nat_lt (length s.accounts) 64
    then Ok (noted_if (has_secret s.accounts account.secret) (SharedSecret line) (record s {
      accounts = s.accounts ++ account ∷ [];
    }))
    else Err (TooManyUsers line)

-- `target NAME SECRET`, on the line of this number: the target's own account, of which there is one.
abbrev pub with_target : ℕ → Secrets → Account → Result Secrets SecretsFault
with_target line s account =
    if is_some s.own then Err (SecondTarget line)
    else if is_known s account.name then Err (SameName line)
    else if has_secret s.accounts account.secret then Err (SameSecret line)
    else Ok (record s { own = Some account })

-- A name has a capital letter of ASCII.
abbrev pub has_capital : List ℕ → Bool
has_capital name = list_any is_ascii_uppercase name

-- A line of three words, with the account of the last two.
unfoldable pub with_three : ℕ → Secrets → List ℕ → Result Account SecretsFault
    → Result Secrets SecretsFault
with_three line s kind made =
    if bytes_eq kind (codes "user") then then_with made (λ account. with_user line s account)
    else if bytes_eq kind (codes "target") then then_with made (λ account. with_target line s account)
    else Err (BadLine line)

-- A user more, who is bound to this InitiatorName. It is told where that has a capital letter.
abbrev pub with_bound : ℕ → Secrets → Account → List ℕ → Result Secrets SecretsFault
with_bound line s account initiator =
    with_user line (noted_if (has_capital initiator) (Capital line) s)
    (record account { initiator = Some initiator })

-- A line of four words, with the account of the second and the third, and the InitiatorName to which
-- it is bound.
unfoldable pub with_four : ℕ → Secrets → List ℕ → Result Account SecretsFault → List ℕ
    → Result Secrets SecretsFault
with_four line s kind made initiator =
    if bytes_eq kind (codes "user")
    then then_with made (λ account. with_bound line s account initiator)
    else Err (BadLine line)

-- The words of the line of this number, none of which has a `#`: none says nothing.
abbrev pub with_words : ℕ → Secrets → List (List ℕ) → Result Secrets SecretsFault
with_words line s [] = Ok s
with_words line s (kind ∷ name ∷ secret ∷ []) =
    with_three line s kind (account_in line name secret)
with_words line s (kind ∷ name ∷ secret ∷ initiator ∷ []) =
    with_four line s kind (account_in line name secret) initiator
with_words line s _ = Err (BadLine line)

-- The words of the line of this number.
abbrev pub with_line : ℕ → Secrets → List (List ℕ) → Result Secrets SecretsFault
with_line line s words =
    if has_number_sign words then Err (NumberSign line) else with_words line s words

-- ---- a text

-- The lines one after another, the first of which has this number, up to the first that is wrong.
abbrev pub with_lines : ℕ → Secrets → List (List ℕ) → Result Secrets SecretsFault
with_lines line s [] = Ok s
with_lines line s (text ∷ texts) =
    then_with (with_line line s (words_of text)) (λ next. with_lines (line + 1) next texts)

-- What a text of at most 65,536 bytes means, its lines counted from 1.
abbrev pub secrets_in : List ℕ → Result Secrets SecretsFault
secrets_in text =
    if nat_lt 65536 (length text) then Err TooLong else with_lines 1 nobody (secrets_lines text)

-- What a target with these secrets demands in one login, by this identifier and challenge.
abbrev pub demand_of : Secrets → ℕ → List ℕ → Chap
demand_of s identifier challenge = record {
  accounts = s.accounts;
  own = s.own;
  identifier = identifier;
  challenge = challenge;
}
