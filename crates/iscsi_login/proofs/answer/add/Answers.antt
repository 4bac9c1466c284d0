use Rattle.std.proofs.Common.{◌≢◌, ◌-◌, ◌<◌, ◌≤◌, ◌++◌, ◌∷◌, [], get_or, length, sym, ap, subst, rules, arith}
use borrow.Author.Tests.{tests}
use Rattle.std.proofs.lemmas.List.Sorted.{IsPartitionPoint-from_clause}
use Rattle.iscsi_text.specs.Key.{target_address}
use Rattle.iscsi_text.specs.Text.{key_le, ArrangesPairs}
use Rattle.iscsi_text.specs.Shown.{all_shown, shown}
use Rattle.iscsi_text.proofs.PairLemmas.{in_order_partition, placed, present}
use Rattle.iscsi_login.proofs.AnswerLoopLemmas.{arranges_insert}
use Rattle.iscsi_login.proofs.answer.add.Goals as goal

pub returns : goal.returns
returns c =
    let pair = c.args.pair in
    let items = c.args.pairs.now.items in
    let at = c.partition_point-at.result in
    let bound : at ≤ length items = omega (arith, c.partition_point-at.ensures.bound, c.deref.ensures.len, ap length c.deref.ensures.value) in
    let parts = IsPartitionPoint-from_clause (λ y. key_le y.key.now pair.key.now) items at
    (rw c.deref.ensures.value at c.partition_point-at.ensures.partitioned) (in_order_partition pair.key.now items c.requires.in_order)
    (λ a r f k. search (rules, tests)) in
    let last : pair.key.now ≢ target_address → 0 < at → (get_or items (at - 1) pair).key.now ≢ pair.key.now =
    λ other some same. let stands = present items pair.key.now (at - 1) pair (omega arith) same in let none = ap length c.requires.new in
    absurd (omega (arith, stands, none)) in
    subst (λ ps. ArrangesPairs (all_shown items ++ shown pair ∷ []) (all_shown ps)) (sym c.in_ok-insert.ensures.items)
    (arranges_insert (all_shown items) (shown pair) (all_shown _) (placed items pair at c.requires.in_order bound parts last))
