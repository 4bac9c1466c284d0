-- How long the text is that tells of a target.
use Rattle.std.proofs.Common.{◌≡◌, ◌<◌, ◌≤◌, inl, inr, ℕ, ◌+◌, true, List, [], ◌∷◌, ◌++◌, length, Option, Some, None, ap, arith}
use Rattle.std.specs.Prelude.{◌^◌, IfSome, codes}
use Rattle.std.specs.Fmt.{decimal}
use Rattle.std.proofs.lemmas.List.{length-append}
use Rattle.std.proofs.lemmas.Fmt.{length-decimal-le}
use Rattle.iscsi_text.specs.Numeral.{canonical_number}
use Rattle.iscsi_text.specs.Value.{Plain}
use Rattle.iscsi_text.specs.Canonical.{canonical_text, pair_text}
use Rattle.iscsi_text.proofs.NumeralLemmas.{canonical_is}
use Rattle.iscsi_login.specs.Name.{IsName}
use Rattle.iscsi_portal.specs.Portal.{IsPortal}
use Rattle.iscsi_target_session.specs.Configured.{TargetSettings}
use Rattle.iscsi_target_session.specs.TextRequests.{address_if, announced, name_if}

-- the tag of a group has five digits at most
tag_short : (n : ℕ) → n < 2 ^ 16 → length (canonical_number n) ≤ 5
tag_short n lt =
    let d : length (decimal n) ≤ 5 = length-decimal-le 5 n (omega arith) (omega (arith, lt)) (omega (arith, lt)) in
    elim (canonical_is n) [
      | inl e ↦ (let f = ap length e.0 in omega (arith, f, d))
      | inr e ↦ (let f = ap length e.0 in let g = e.1 in omega (arith, f, g, d))
    ]

-- a text of one pair has its key, its value, and two bytes more
one_pair : (key value : List ℕ) → length (canonical_text ((key, Plain value) ∷ [])) ≡ length key + length value + 2
one_pair key value =
    let one : length (pair_text (key, Plain value)) ≡ length (key ++ (61 ∷ value)) + 1 = length-append (key ++ (61 ∷ value)) (0 ∷ []) in
    let two : length (key ++ (61 ∷ value)) ≡ length key + length (61 ∷ value) = length-append key (61 ∷ value) in
    let three : length (61 ∷ value) ≡ length value + 1 = omega arith in
    let all : length (canonical_text ((key, Plain value) ∷ [])) ≡ length (pair_text (key, Plain value)) + 0 = length-append (pair_text (key, Plain value)) [] in
    omega (arith, one, two, three, all)

address_short : (portal : Option (List ℕ)) (group : ℕ) → IfSome portal IsPortal → group < 2 ^ 16 → length (canonical_text (address_if portal group)) ≤ 276
address_short None group p lt = omega arith
address_short (Some portal) group p lt =
    let tag = tag_short group lt in
    let few = p.few in
    let one : length (portal ++ codes "," ++ canonical_number group) ≡ length (portal ++ codes ",") + length (canonical_number group) =
    length-append (portal ++ codes ",") (canonical_number group) in
    let two : length (portal ++ codes ",") ≡ length portal + 1 = length-append portal (codes ",") in
    let all = one_pair (codes "TargetAddress") (portal ++ codes "," ++ canonical_number group) in
    omega (arith, tag, few, one, two, all)

pub told_short : (settings : TargetSettings) → IsName settings.name → IfSome settings.extras.portal IsPortal → settings.group < 2 ^ 16 → length
    (announced settings) ≤ 511
told_short settings name portal group =
    let few = name.few in
    let front = one_pair (codes "TargetName") settings.name in
    let back = address_short settings.extras.portal settings.group portal group in
    let all : length (announced settings) ≡ length (canonical_text (name_if true settings.name))
    + length (canonical_text (address_if settings.extras.portal settings.group)) =
    length-append (canonical_text (name_if true settings.name)) (canonical_text (address_if settings.extras.portal settings.group)) in
    omega (arith, few, front, back, all)
