use Rattle.std.proofs.Common.{rules}
use Rattle.std.proofs.lemmas.List.Sorted.{answers_always}
use Rattle.iscsi_text.specs.declared.pair.Pair.{Pair}
use Rattle.iscsi_text.proofs.SortLemmas.{sorted_in_order}
use Rattle.iscsi_login.proofs.SortLemmas.{sorted_is}
use Rattle.iscsi_login.proofs.offers.put_in_order.Goals as goal

pub returns : goal.returns
returns c =
    let sort = c.sort_unstable_by_key in
    sorted_is c.args.pairs.now sort.new.self c.requires sort.ensures.permutation
    (sorted_in_order sort.new.self (sort.ensures.sorted (λ (p : Pair). p.key) (answers_always _ _ _ (λ f a r g h. search rules))))
