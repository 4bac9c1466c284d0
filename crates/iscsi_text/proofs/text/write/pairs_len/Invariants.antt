use Rattle.std.proofs.Common.{◌≡◌, length, take}
use Rattle.iscsi_text.specs.Canonical.{canonical_text}
use Rattle.iscsi_text.specs.Shown.{all_shown}
use Rattle.iscsi_text.proofs.text.write.pairs_len.Given as goal

abbrev pub invariant-loop-pair : goal.invariant-loop-pair
invariant-loop-pair l = l.len ≡ length (canonical_text (all_shown (take l.pair-index l.pairs)))
