-- The target's secret is none of the users'.
use Rattle.std.proofs.Common.{◌≡◌, false, List, [], ◌∷◌, ◌++◌, Option, Some, None, refl, ◌∙◌}
use Rattle.std.specs.Str.{bytes_eq}
use Rattle.std.proofs.lemmas.List.Folds.{list_any-append}
use Rattle.iscsi_access.specs.Chap.{Account, AreApart}
use Rattle.iscsi_secrets.specs.Secrets.{is_own_secret}

-- nor is it that of one user more
pub apart_longer : (accounts : List Account) (own : Option Account) (account : Account) → AreApart accounts own → is_own_secret own account.secret ≡ false
    → AreApart (accounts ++ account ∷ []) own
apart_longer accounts None account apart other = tt
apart_longer accounts (Some own) account apart other = list_any-append (λ a. bytes_eq a.secret own.secret) accounts (account ∷ []) ∙ rw (apart, other) refl
