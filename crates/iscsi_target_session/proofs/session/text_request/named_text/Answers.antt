use Rattle.std.proofs.Common.{◌≤◌, ℕ, List, ◌++◌, not, length, take, drop, ap, ◌∙◌, rules, arith}
use borrow.Author.Tests.{tests}
use Rattle.std.specs.Prelude.{codes}
use Rattle.std.proofs.lemmas.List.{take_rest}
use Rattle.std.proofs.lemmas.List.Sorted.{IsPartitionPoint-from_clause}
use Rattle.iscsi_text.specs.declared.pair.Pair.{Pair}
use Rattle.iscsi_text.specs.Value.{Typed, Plain}
use Rattle.iscsi_text.specs.Text.{key_le}
use Rattle.iscsi_text.specs.Canonical.{canonical_text}
use Rattle.iscsi_text.specs.Shown.{all_shown}
use Rattle.iscsi_target_session.proofs.TextReplyLemmas.{partitioned, placed_split, named}
use Rattle.iscsi_target_session.proofs.session.text_request.named_text.Goals as goal

pub returns : goal.returns
returns c =
    let at = c.partition_point-at.result in
    let p : List ℕ × Typed = (codes "TargetName", Plain c.args.name.now) in
    let bound : at ≤ length c.args.pairs.now = omega (arith, c.partition_point-at.ensures.bound) in
    let parts = IsPartitionPoint-from_clause (λ y. not (key_le (codes "TargetName") y.key.now)) c.args.pairs.now at c.partition_point-at.ensures.partitioned
    (partitioned (codes "TargetName") c.args.pairs.now c.requires) (λ a r f k. search (rules, tests)) in
    named p (all_shown c.args.pairs.now) (all_shown (take at c.args.pairs.now)) (all_shown (drop at c.args.pairs.now)) c.new-out.result.items
    c.write_pairs.new.out.items c.write_name.new.out.items c.write_pairs-2.new.out.items
    (placed_split p c.args.pairs.now at parts.0 parts.1 bound) c.new-out.ensures.items c.in_ok-write_pairs.ensures.ok c.in_ok-write_name.ensures
    (c.in_ok-write_pairs-2.ensures.ok ∙ ap (λ (x : List Pair). c.write_name.new.out.items ++ canonical_text (all_shown x)) (take_rest c.args.pairs.now at))
