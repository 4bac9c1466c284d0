use Rattle.std.proofs.Common.{rules, arith}
use Rattle.std.proofs.lemmas.List.Sorted.{answers_always}
use Rattle.iscsi_text.specs.declared.pair.Pair.{Pair}
use Rattle.iscsi_text.proofs.SortLemmas.{sorted_in_order, same_values}
use Rattle.iscsi_text.proofs.text.read.sort.Goals as goal

pub returns-clause-ok : goal.returns-clause-ok
returns-clause-ok c =
    let xs = c.args.pairs.now.items in
    let ys = c.sort_by_key.new.self.items in
    let sorted = c.in_ok-sort_by_key.ensures in
    record {
      in_order = sorted_in_order ys (sorted.sorted (λ (p : Pair). p.key) (answers_always _ _ _ (λ f a r g h. search rules)));
      same = same_values xs ys (sorted.stable (λ (p : Pair). p.key) (answers_always _ _ _ (λ f a r g h. search rules))) (omega (arith, sorted.len));
    }
