use Rattle.std.proofs.Common.{◌++◌, ◌∙◌, List, ℕ, ap, sym}
use Rattle.std.proofs.lemmas.Result.{err_from_is_err_and}
use Rattle.iscsi_compare.specs.declared.fault.CompareFault.TheVariants as fault
use Rattle.iscsi_compare.specs.Comparing.{AgreeAtEnds, ComparisonFails, Part}
use Rattle.iscsi_compare.specs.inner.Inside.{fuel}
use Rattle.iscsi_compare.proofs.SideLemmas.{less}
use Rattle.iscsi_compare.proofs.InStepLemmas.{streams, first_stops, second_stops, onwards, memory_stops, they_part, they_agree, one_more}
use Rattle.iscsi_compare.proofs.in_step.compare_streams.Goals as goal

pub returns-in_err-some-clause-compares : goal.returns-in_err-some-clause-compares
returns-in_err-some-clause-compares g c =
    let p = err_from_is_err_and c.from_residual.result c.from_residual.ensures.1 in
    let l = c.loop-other_form in
    rw (p.1, p.2) (first_stops c.in_err-some.field-0.0 (g.R.Read.remaining c.args.mine.now) (g.R.Read.remaining l.mine) (g.R.Read.remaining c.next.new.r)
    (g.Q.Read.remaining c.args.other.now) (g.Q.Read.remaining l.other) l.first l.second
    c.args.out.now.items l.out.items l.invariant c.in_err-some.ensures.err)

pub returns-in_err-other_some-clause-compares : goal.returns-in_err-other_some-clause-compares
returns-in_err-other_some-clause-compares g c =
    let p = err_from_is_err_and c.from_residual-in_err-other_some.result c.from_residual-in_err-other_some.ensures.1 in
    let l = c.loop-other_form in
    rw (p.1, p.2) (second_stops c.in_err-other_some.field-0.0 (streams (g.R.Read.remaining c.args.mine.now) (g.Q.Read.remaining c.args.other.now)
    c.args.out.now.items) (streams (g.R.Read.remaining l.mine) (g.Q.Read.remaining l.other) l.out.items) (g.R.Read.remaining c.next.new.r)
    (g.Q.Read.remaining c.next-in-loop-other_form.new.r) l.first l.second c.next.new.self c.next.new.form.items
    c.in_ok-some.some l.invariant c.in_ok-some.ensures.ok c.in_ok-some.ensures.form c.in_err-other_some.ensures.err)

pub returns-in_err-write_lines-clause-compares : goal.returns-in_err-write_lines-clause-compares
returns-in_err-write_lines-clause-compares g c =
    let p = err_from_is_err_and c.from_residual-in_err-write_lines.result c.from_residual-in_err-write_lines.ensures.1 in
    let l = c.loop-other_form in
    let s = c.next.new.self in
    let t = c.next-in-loop-other_form.new.self in
    rw (p.1, p.2) (onwards (ComparisonFails fault.NoMemory) (streams (g.R.Read.remaining c.args.mine.now) (g.Q.Read.remaining c.args.other.now)
    c.args.out.now.items) (streams (g.R.Read.remaining l.mine) (g.Q.Read.remaining l.other) l.out.items) (g.R.Read.remaining c.next.new.r)
    (g.Q.Read.remaining c.next-in-loop-other_form.new.r) l.first l.second s t c.in_ok-some.some c.in_ok-other_some.other_some
    l.invariant c.in_ok-some.ensures.ok c.in_ok-other_some.ensures.ok
    (memory_stops c.in_ok-some.some c.in_ok-other_some.other_some s t))

pub returns-then-not-is_same-clause-compares : goal.returns-then-not-is_same-clause-compares
returns-then-not-is_same-clause-compares g c =
    let l = c.loop-other_form in
    let s = c.next.new.self in
    let t = c.next-in-loop-other_form.new.self in
    let p = c.in_ok-some.some in
    let q = c.in_ok-other_some.other_some in
    rw c.difference.ensures (onwards (λ x y. Part x y s.framer.place t.framer.place)
    (streams (g.R.Read.remaining c.args.mine.now) (g.Q.Read.remaining c.args.other.now) c.args.out.now.items)
    (streams (g.R.Read.remaining l.mine) (g.Q.Read.remaining l.other) l.out.items) (g.R.Read.remaining c.next.new.r)
    (g.Q.Read.remaining c.next-in-loop-other_form.new.r) l.first l.second s t p q l.invariant
    c.in_ok-some.ensures.ok c.in_ok-other_some.ensures.ok
    (they_part p q s t c.next.new.form.items c.next-in-loop-other_form.new.form.items c.in_ok-some.ensures.form c.in_ok-other_some.ensures.form
    (λ e u. c.is_same.ensures.differ c.if-not-is_same.true e (c.deref.ensures.value ∙ u ∙ sym c.deref-in-loop-other_form.ensures.value))))

pub returns-then-not-is_same-clause-tells : goal.returns-then-not-is_same-clause-tells
returns-then-not-is_same-clause-tells g c =
    let lines = c.in_ok-write_lines.ensures.ok in
    rw c.difference.ensures (lines.0, lines.1, lines.2, lines.3, lines.4 ∙ ap (λ (x : List ℕ). x ++ (lines.0 ++ lines.1)) c.loop-other_form.invariant.same)

pub returns-then-not-some-clause-compares : goal.returns-then-not-some-clause-compares
returns-then-not-some-clause-compares g c =
    let l = c.loop-other_form in
    let s = c.next.new.self in
    let t = c.next-in-loop-other_form.new.self in
    let p = c.in_ok-some.some in
    let q = c.in_ok-other_some.other_some in
    let same = c.is_same.ensures.same c.if-not-is_same.false in
    onwards AgreeAtEnds (streams (g.R.Read.remaining c.args.mine.now) (g.Q.Read.remaining c.args.other.now) c.args.out.now.items)
    (streams (g.R.Read.remaining l.mine) (g.Q.Read.remaining l.other) l.out.items) (g.R.Read.remaining c.next.new.r)
    (g.Q.Read.remaining c.next-in-loop-other_form.new.r) l.first l.second s t p q l.invariant c.in_ok-some.ensures.ok c.in_ok-other_some.ensures.ok
    (they_agree p q s t c.if-not-some.true (sym same.0 ∙ c.if-not-some.true))

pub loop-other_form-smaller : goal.loop-other_form-smaller
loop-other_form-smaller g c =
    let form = rw c.if-not-some.false at c.in_ok-some.ensures.form in
    less (fuel c.take.new.self) (fuel c.next.new.self) (fuel c.loop-other_form.first)
    (c.take.ensures.fuel form.0 form.1 (c.in_ok-some.ensures.ready ∙ c.if-not-some.false) form.2) c.next.ensures.fuel

pub loop-other_form-preserved : goal.loop-other_form-preserved
loop-other_form-preserved g c =
    let l = c.loop-other_form in
    let s = c.next.new.self in
    let t = c.next-in-loop-other_form.new.self in
    let p = c.in_ok-some.some in
    let q = c.in_ok-other_some.other_some in
    let same = c.is_same.ensures.same c.if-not-is_same.false in
    one_more (streams (g.R.Read.remaining c.args.mine.now) (g.Q.Read.remaining c.args.other.now) c.args.out.now.items)
    (streams (g.R.Read.remaining l.mine) (g.Q.Read.remaining l.other) l.out.items) (g.R.Read.remaining c.next.new.r)
    (g.Q.Read.remaining c.next-in-loop-other_form.new.r) (record { first = l.first; second = l.second }) (record { first = s; second = t })
    (record { first = c.take.new.self; second = c.take-in-loop-other_form.new.self }) c.next.new.form.items c.next-in-loop-other_form.new.form.items p q
    c.if-not-some.false (sym same.0 ∙ c.if-not-some.false) l.invariant c.in_ok-some.ensures.ok
    c.in_ok-other_some.ensures.ok c.in_ok-some.ensures.form c.in_ok-other_some.ensures.form (sym c.deref.ensures.value ∙ same.1
    ∙ c.deref-in-loop-other_form.ensures.value) c.in_ok-some.ensures.ready c.in_ok-other_some.ensures.ready
    c.take.ensures.taken c.take-in-loop-other_form.ensures.taken c.take.ensures.inside c.take-in-loop-other_form.ensures.inside (c.take.ensures.which
    ∙ c.next.ensures.which) (c.take-in-loop-other_form.ensures.which ∙ c.next-in-loop-other_form.ensures.which)
