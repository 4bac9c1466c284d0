use Rattle.std.proofs.Common.{rules, sym, subst}
use borrow.Author.Tests.{tests}
use Rattle.iscsi_text.specs.Key.{target_address}
use Rattle.iscsi_text.specs.Value.{typed}
use Rattle.iscsi_text.specs.Shown.{shown}
use Rattle.iscsi_text.proofs.KeyLemmas.{same_key, bytes_eq_same}
use Rattle.iscsi_text.proofs.FirstFaultLemmas.{Seen, seen_spare, seen_address, seen_key, seen_repeated, seen_goes_on, was_new, was_there}
use Rattle.iscsi_text.proofs.text.read.first_fault.Goals as goal
use Rattle.iscsi_text.proofs.text.read.first_fault.Goals.{else-ne-via-then-ne+in_ok-insert-in-Ok+else-not-branch, else-ne-via-else-ne}

pub read_entry-requires : goal.read_entry-requires
read_entry-requires c = seen_goes_on c.args.bytes.now c.loop-pair.rest.now c.loop-pair.keys c.requires c.loop-pair.invariant

pub returns-then-not-branch : goal.returns-then-not-branch
returns-then-not-branch c =
    let key = c.in-Some.pair.key in
    seen_repeated c.args.bytes.now c.loop-pair.rest.now c.in-Ok.more.now c.loop-pair.keys key (typed c.in-Some.pair.value) c.loop-pair.invariant
    (rw c.in-Some.is at c.in-Ok.ensures.found)
    (λ same. let yes = bytes_eq_same key.now target_address same in search (rules, tests, yes, c.ne.ensures, c.if-ne.true))
    (was_there _ _ c.in_ok-insert-in-Ok.ensures.added c.if-not-branch.true)

pub loop-pair-preserved-else-ne : goal.loop-pair-preserved-else-ne
loop-pair-preserved-else-ne c =
    let key = c.in-Some.pair.key in
    elim c.else-ne.branch [
      | else-ne-via-then-ne+in_ok-insert-in-Ok+else-not-branch w ↦
          subst (Seen c.args.bytes.now c.in-Ok.more.now) (sym w.keys-is)
          (seen_key c.args.bytes.now c.loop-pair.rest.now c.in-Ok.more.now c.loop-pair.keys w.insert.new.self key (typed c.in-Some.pair.value)
          c.loop-pair.invariant (rw c.in-Some.is at c.in-Ok.ensures.found)
          (λ same. let yes = bytes_eq_same key.now target_address same in search (rules, tests, yes, c.ne.ensures, w.if-ne.true))
          (was_new _ _ w.in_ok-insert-in-Ok.ensures.added w.if-not-branch.false)
          w.in_ok-insert-in-Ok.ensures.updates.0)
      | else-ne-via-else-ne w ↦
          subst (Seen c.args.bytes.now c.in-Ok.more.now) (sym w.keys-is)
          (seen_address c.args.bytes.now c.loop-pair.rest.now c.in-Ok.more.now c.loop-pair.keys (shown c.in-Some.pair)
          c.loop-pair.invariant (rw c.in-Some.is at c.in-Ok.ensures.found)
          (same_key key.now target_address (search (rules, tests, c.ne.ensures, w.if-ne.false))))
    ]

pub loop-pair-preserved : goal.loop-pair-preserved
loop-pair-preserved c =
    seen_spare c.args.bytes.now c.loop-pair.rest.now c.in-Ok.more.now c.loop-pair.keys c.loop-pair.invariant (rw c.in_default.is at c.in-Ok.ensures.found)
