-- The copies are the accounts so far.
use Rattle.std.proofs.Common.{◌≡◌, take}
use Rattle.iscsi_secrets.proofs.secrets.copies_of.Given as goal

abbrev pub invariant-loop-account : goal.invariant-loop-account
invariant-loop-account l = l.copies.items ≡ take l.account-index l.accounts
