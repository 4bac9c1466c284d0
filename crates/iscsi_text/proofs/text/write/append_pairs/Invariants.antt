use Rattle.std.proofs.Common.{◌≡◌, ◌++◌, take}
use Rattle.iscsi_text.specs.Canonical.{canonical_text}
use Rattle.iscsi_text.specs.Shown.{all_shown}
use Rattle.iscsi_text.proofs.text.write.append_pairs.Given as goal

abbrev pub invariant-loop-pair : goal.invariant-loop-pair
invariant-loop-pair l = l.out.items ≡ l.fn.out.items ++ canonical_text (all_shown (take l.pair-index l.pairs))
