use Rattle.std.proofs.Common.{rules}
use Rattle.std.proofs.lemmas.List.Sorted.{answers_always}
use Rattle.iscsi_text.specs.Shown.{shown}
use Rattle.iscsi_text.specs.inner.Inside.{follows}
use Rattle.iscsi_text.proofs.SortLemmas.{ascends_is}
use Rattle.iscsi_text.proofs.text.read.ascends.Goals as goal

pub returns : goal.returns
returns c = ascends_is c.args.pairs.now c.is_sorted_by.result (c.is_sorted_by.ensures.cases (λ p q. follows (shown p) (shown q))
    (answers_always _ _ _ (λ f a r g h. search rules)))
