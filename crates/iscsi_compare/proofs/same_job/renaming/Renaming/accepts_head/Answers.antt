use Rattle.std.proofs.Common.{◌≡◌, true, false, sym, ap, subst, ◌∙◌}
use Rattle.iscsi_pdu.specs.declared.head.Head.{Head}
use Rattle.iscsi_pdu.specs.Meaning.{HeadFits}
use Rattle.iscsi_compare.specs.declared.same_job.numbers.Numbers.{Numbers}
use Rattle.iscsi_compare.specs.inner.SameJobNumbers.{numbers, with_numbers}
use Rattle.iscsi_compare.specs.inner.SameJobJudge.{AllowsRenumbering}
use Rattle.iscsi_compare.proofs.LearningLemmas.{learns_none, learns_heads, learns_at, other_fits}
use Rattle.iscsi_compare.proofs.same_job.renaming.Renaming.accepts_head.Goals as goal

pub returns-then-not-branch-clause-learns : goal.returns-then-not-branch-clause-learns
returns-then-not-branch-clause-learns c =
    let old = AllowsRenumbering c.args.self.now in
    let new = AllowsRenumbering c.learn.new.self in
    learns_none old new c.args.mine.now c.args.other.now
    (learns_at old new c.of.result (numbers c.args.mine.now) c.of-others.result (numbers c.args.other.now) c.in_ok-learn.field-0 false c.of.ensures
    c.of-others.ensures c.if-not-branch.true c.in_ok-learn.ensures.learns)

with_is : (g h x : Head) (n : Numbers) → x ≡ with_numbers g n → n ≡ numbers h → x ≡ with_numbers g (numbers h)
with_is g h x n e f = e ∙ ap (with_numbers g) f

pub is_same_head-requires-clause-mine : goal.is_same_head-requires-clause-mine
is_same_head-requires-clause-mine c =
    let old = AllowsRenumbering c.args.self.now in
    let new = AllowsRenumbering c.learn.new.self in
    let l = learns_at old new c.of.result (numbers c.args.mine.now) c.of-others.result (numbers c.args.other.now) c.in_ok-learn.field-0 true c.of.ensures
    c.of-others.ensures c.if-not-branch.false c.in_ok-learn.ensures.learns in
    subst HeadFits (sym (with_is c.args.mine.now c.args.other.now c.within.result c.of-others.result c.within.ensures c.of-others.ensures))
    (other_fits c.args.self.now c.learn.new.self c.args.mine.now c.args.other.now c.in_ok-learn.ensures.sound l c.requires.mine)

pub returns-clause-learns : goal.returns-clause-learns
returns-clause-learns c =
    let old = AllowsRenumbering c.args.self.now in
    let new = AllowsRenumbering c.learn.new.self in
    let is = with_is c.args.mine.now c.args.other.now c.within.result c.of-others.result c.within.ensures c.of-others.ensures in
    let l = learns_at old new c.of.result (numbers c.args.mine.now) c.of-others.result (numbers c.args.other.now) c.in_ok-learn.field-0 true c.of.ensures
    c.of-others.ensures c.if-not-branch.false c.in_ok-learn.ensures.learns in
    learns_heads old new c.args.mine.now c.args.other.now c.is_same_head.result (λ e. sym is ∙ c.is_same_head.ensures.so e)
    (λ e same. c.is_same_head.ensures.not_so e (is ∙ same)) l
