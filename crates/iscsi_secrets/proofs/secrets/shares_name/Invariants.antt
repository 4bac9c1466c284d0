-- None of the accounts so far has the name.
use Rattle.std.proofs.Common.{◌≡◌, false, take}
use Rattle.std.specs.List.{list_any}
use Rattle.std.specs.Str.{bytes_eq}
use Rattle.iscsi_secrets.proofs.secrets.shares_name.Given as goal

abbrev pub invariant-loop-account : goal.invariant-loop-account
invariant-loop-account l = list_any (λ a. bytes_eq a.name l.other.name) (take l.account-index l.accounts) ≡ false
