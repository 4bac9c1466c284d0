-- The names so far are those that were read.
use Rattle.std.proofs.Common.{◌≡◌, take, map}
use Rattle.iscsi_serve_words.proofs.serve_words.initiators_of.Given as goal

abbrev pub invariant-loop-name : goal.invariant-loop-name
invariant-loop-name l =
    map (λ name. name.now) l.initiators.items ≡ map (λ name. name.now) (take l.name-index l.names)
