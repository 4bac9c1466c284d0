use Rattle.std.proofs.Common.{◌∙◌, true, false, subst}
use Rattle.std.proofs.lemmas.Result.{err_from_is_err_and}
use Rattle.iscsi_compare.specs.declared.fault.Which.{Which}
use Rattle.iscsi_compare.specs.inner.Inside.{SideReadsOn, SideHasRead, SideFails, fuel}
use Rattle.iscsi_compare.proofs.SideLemmas.{reads_and, reads_then, at_most}
use Rattle.iscsi_compare.proofs.side.Side.advance.Goals as goal

pub returns-in_err-feed-clause-err : goal.returns-in_err-feed-clause-err
returns-in_err-feed-clause-err g c =
    let p = err_from_is_err_and c.from_residual.result c.from_residual.ensures.1 in
    let e = c.in_err-feed.field-0.0 in
    let inv = c.loop-self.invariant in
    let a = g.R.Read.remaining c.args.r.now in
    let b = g.R.Read.remaining c.loop-self.r in
    rw (p.1, p.2) (subst (λ (w : Which). SideReadsOn c.args.self.now a b (SideFails e w)) inv.1
    (reads_and c.args.self.now c.loop-self.self a b (SideFails e c.loop-self.self.which) inv.3 (λ read ms left r. c.in_err-feed.ensures.err read ms left r)))

pub returns-then-branch-clause-ok : goal.returns-then-branch-clause-ok
returns-then-branch-clause-ok g c =
    reads_and c.args.self.now c.loop-self.self (g.R.Read.remaining c.args.r.now) (g.R.Read.remaining c.loop-self.r)
    (SideHasRead true c.feed.new.self) c.loop-self.invariant.3 (λ read ms left r. c.in_ok-feed.ensures.ok read ms r)

pub returns-in_err-fill-clause-err : goal.returns-in_err-fill-clause-err
returns-in_err-fill-clause-err g c =
    let p = err_from_is_err_and c.from_residual-in_err-fill.result c.from_residual-in_err-fill.ensures.1 in
    let e = c.in_err-fill.field-0.0 in
    let inv = c.loop-self.invariant in
    let s = c.feed.new.self in
    let a = g.R.Read.remaining c.args.r.now in
    let b = g.R.Read.remaining c.loop-self.r in
    let d = g.R.Read.remaining c.fill.new.r in
    rw (p.1, p.2) (subst (λ (w : Which). SideReadsOn c.args.self.now a d (SideFails e w)) (c.feed.ensures.which ∙ inv.1)
    (reads_then c.args.self.now s a b d (SideFails e s.which)
    (reads_and c.args.self.now c.loop-self.self a b (SideHasRead true s) inv.3 (λ read ms left r. c.in_ok-feed.ensures.ok read ms r))
    c.in_err-fill.ensures.err))

pub returns-then-not-branch-clause-ok : goal.returns-then-not-branch-clause-ok
returns-then-not-branch-clause-ok g c =
    let s = c.feed.new.self in
    let a = g.R.Read.remaining c.args.r.now in
    let b = g.R.Read.remaining c.loop-self.r in
    reads_then c.args.self.now s a b (g.R.Read.remaining c.fill.new.r) (SideHasRead false c.fill.new.self)
    (reads_and c.args.self.now c.loop-self.self a b (SideHasRead true s) c.loop-self.invariant.3 (λ read ms left r. c.in_ok-feed.ensures.ok read ms r))
    (rw c.if-not-branch.true at c.in_ok-fill.ensures.ok)

pub loop-self-preserved : goal.loop-self-preserved
loop-self-preserved g c =
    let s = c.feed.new.self in
    let inv = c.loop-self.invariant in
    let a = g.R.Read.remaining c.args.r.now in
    let b = g.R.Read.remaining c.loop-self.r in (
      c.fill.ensures.inside,
      c.fill.ensures.which ∙ c.feed.ensures.which ∙ inv.1,
      at_most (fuel c.fill.new.self) (fuel s) (fuel c.args.self.now) c.fill.ensures.fuel (at_most (fuel s) (fuel c.loop-self.self)
          (fuel c.args.self.now) c.feed.ensures.fuel inv.2),
      reads_then c.args.self.now s a b (g.R.Read.remaining c.fill.new.r) (SideHasRead true c.fill.new.self)
          (reads_and c.args.self.now c.loop-self.self a b (SideHasRead true s) inv.3 (λ read ms left r. c.in_ok-feed.ensures.ok read ms r))
          (rw c.if-not-branch.false at c.in_ok-fill.ensures.ok),
    )
