-- Those of the pairs so far are kept.
use Rattle.std.proofs.Common.{◌≡◌, not, take, map}
use Rattle.std.specs.List.{filter}
use Rattle.iscsi_text.specs.Key.{is_among}
use Rattle.iscsi_text.proofs.text.leaving_out.pairs_without.Given as goal

abbrev pub invariant-loop-pair : goal.invariant-loop-pair
invariant-loop-pair l = l.kept.items ≡ filter (λ x. not (is_among (map (λ k. k.now) l.keys) x.key.now)) (take l.pair-index l.pairs)
