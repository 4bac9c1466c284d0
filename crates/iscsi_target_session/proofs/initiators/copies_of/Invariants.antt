-- The copies are those of the names so far.
use Rattle.std.proofs.Common.{◌≡◌, take, map}
use Rattle.iscsi_target_session.proofs.initiators.copies_of.Given as goal

abbrev pub invariant-loop-name : goal.invariant-loop-name
invariant-loop-name l = l.copies.items ≡ map (λ n. n.now) (take l.name-index l.names)
