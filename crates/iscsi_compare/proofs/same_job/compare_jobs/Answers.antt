use Rattle.std.proofs.Common.{◌++◌, ◌∙◌, List, ℕ, ap, sym, subst}
use Rattle.std.proofs.lemmas.Result.{err_from_is_err_and}
use Rattle.iscsi_compare.specs.declared.fault.CompareFault.TheVariants as fault
use Rattle.iscsi_compare.specs.inner.SameJobJudge.{LearnsNext}
use Rattle.iscsi_compare.specs.SameJobVerdict.{AgreeOnJob, PartFromJob, FailsInJob}
use Rattle.iscsi_compare.proofs.RunsInStepLemmas.{
  job_at_start,
  job_not_begun,
  job_first_stops,
  job_second_stops,
  job_onwards,
  job_memory,
  job_parts,
  job_agrees,
}
use Rattle.iscsi_compare.proofs.RunsInStepLemmas.{job_one_more, alike}
use Rattle.iscsi_compare.proofs.same_job.compare_jobs.Goals as goal
use Rattle.iscsi_compare.proofs.InStepLemmas.{streams}

pub returns-in_err-renaming-clause-compares : goal.returns-in_err-renaming-clause-compares
returns-in_err-renaming-clause-compares g c =
    let p = err_from_is_err_and c.from_residual.result c.from_residual.ensures.1 in
    rw (p.1, p.2) (job_not_begun (g.R.Read.remaining c.args.mine.now) (g.Q.Read.remaining c.args.other.now) c.new-first.result c.new-second.result
    c.new-first.ensures.none c.new-second.ensures.none)

pub loop-renaming-init : goal.loop-renaming-init
loop-renaming-init g c =
    job_at_start (g.R.Read.remaining c.args.mine.now) (g.Q.Read.remaining c.args.other.now) c.new-first.result c.new-second.result c.in_ok-renaming.renaming
    c.args.out.now.items c.new-first.ensures.none c.new-second.ensures.none
    c.new-first.ensures.inside c.new-second.ensures.inside c.new-first.ensures.which c.new-second.ensures.which c.in_ok-renaming.ensures.sound
    c.in_ok-renaming.ensures.all

pub returns-in_err-some-clause-compares : goal.returns-in_err-some-clause-compares
returns-in_err-some-clause-compares g c =
    let p = err_from_is_err_and c.from_residual-in_err-some.result c.from_residual-in_err-some.ensures.1 in
    let l = c.loop-renaming in
    rw (p.1, p.2) (job_first_stops c.in_err-some.field-0.0 (g.R.Read.remaining c.args.mine.now) (g.R.Read.remaining l.mine) (g.R.Read.remaining c.advance.new.r)
    (g.Q.Read.remaining c.args.other.now) (g.Q.Read.remaining l.other)
    l.first l.second l.renaming c.args.out.now.items l.out.items l.invariant c.in_err-some.ensures.err)

pub returns-in_err-advance-clause-compares : goal.returns-in_err-advance-clause-compares
returns-in_err-advance-clause-compares g c =
    let p = err_from_is_err_and c.from_residual-in_err-advance.result c.from_residual-in_err-advance.ensures.1 in
    let l = c.loop-renaming in
    rw (p.1, p.2) (job_second_stops c.in_err-advance.field-0.0 (streams (g.R.Read.remaining c.args.mine.now) (g.Q.Read.remaining c.args.other.now)
    c.args.out.now.items) (streams (g.R.Read.remaining l.mine) (g.Q.Read.remaining l.other) l.out.items) (g.R.Read.remaining c.advance.new.r)
    (g.Q.Read.remaining c.advance-in-loop-renaming.new.r) l.first l.second c.advance.new.self l.renaming c.in_ok-some.some
    l.invariant c.in_ok-some.ensures.ready c.in_ok-some.ensures.ok c.in_err-advance.ensures.err)

pub returns-in_err-accepts_next-clause-compares : goal.returns-in_err-accepts_next-clause-compares
returns-in_err-accepts_next-clause-compares g c =
    let p = err_from_is_err_and c.from_residual-in_err-accepts_next.result c.from_residual-in_err-accepts_next.ensures.1 in
    let l = c.loop-renaming in
    let s = c.advance.new.self in
    let t = c.advance-in-loop-renaming.new.self in
    rw (p.1, p.2) (job_onwards (FailsInJob fault.NoMemory) (streams (g.R.Read.remaining c.args.mine.now) (g.Q.Read.remaining c.args.other.now)
    c.args.out.now.items) (streams (g.R.Read.remaining l.mine) (g.Q.Read.remaining l.other) l.out.items) (g.R.Read.remaining c.advance.new.r)
    (g.Q.Read.remaining c.advance-in-loop-renaming.new.r) l.first l.second s t l.renaming c.in_ok-some.some
    c.in_ok-advance.field-0 l.invariant c.in_ok-some.ensures.ok c.in_ok-advance.ensures.ok
    (job_memory c.in_ok-some.some c.in_ok-advance.field-0 s t l.renaming))

pub returns-in_err-write_lines-clause-compares : goal.returns-in_err-write_lines-clause-compares
returns-in_err-write_lines-clause-compares g c =
    let p = err_from_is_err_and c.from_residual-in_err-write_lines.result c.from_residual-in_err-write_lines.ensures.1 in
    let l = c.loop-renaming in
    let s = c.advance.new.self in
    let t = c.advance-in-loop-renaming.new.self in
    rw (p.1, p.2) (job_onwards (FailsInJob fault.NoMemory) (streams (g.R.Read.remaining c.args.mine.now) (g.Q.Read.remaining c.args.other.now)
    c.args.out.now.items) (streams (g.R.Read.remaining l.mine) (g.Q.Read.remaining l.other) l.out.items) (g.R.Read.remaining c.advance.new.r)
    (g.Q.Read.remaining c.advance-in-loop-renaming.new.r) l.first l.second s t l.renaming c.in_ok-some.some
    c.in_ok-advance.field-0 l.invariant c.in_ok-some.ensures.ok c.in_ok-advance.ensures.ok
    (job_memory c.in_ok-some.some c.in_ok-advance.field-0 s t l.renaming))

pub returns-then-not-branch-clause-compares : goal.returns-then-not-branch-clause-compares
returns-then-not-branch-clause-compares g c =
    let l = c.loop-renaming in
    let s = c.advance.new.self in
    let t = c.advance-in-loop-renaming.new.self in
    let p = c.in_ok-some.some in
    let q = c.in_ok-advance.field-0 in
    rw c.difference.ensures (job_onwards (λ x y. PartFromJob x y s.framer.place t.framer.place)
    (streams (g.R.Read.remaining c.args.mine.now) (g.Q.Read.remaining c.args.other.now) c.args.out.now.items)
    (streams (g.R.Read.remaining l.mine) (g.Q.Read.remaining l.other) l.out.items) (g.R.Read.remaining c.advance.new.r)
    (g.Q.Read.remaining c.advance-in-loop-renaming.new.r) l.first l.second s t l.renaming p q l.invariant c.in_ok-some.ensures.ok c.in_ok-advance.ensures.ok
    (job_parts p q s t l.renaming c.accepts_next.new.self c.in_ok-some.ensures.ready c.in_ok-advance.ensures.ready
    (subst (LearnsNext l.renaming c.accepts_next.new.self s.framer t.framer) c.if-not-branch.true c.in_ok-accepts_next.ensures.learns)))

pub returns-then-not-branch-clause-tells : goal.returns-then-not-branch-clause-tells
returns-then-not-branch-clause-tells g c =
    let lines = c.in_ok-write_lines.ensures.ok in
    rw c.difference.ensures (lines.0, lines.1, lines.2, lines.3, lines.4 ∙ ap (λ (x : List ℕ). x ++ (lines.0 ++ lines.1)) c.loop-renaming.invariant.same)

pub returns-then-not-some-clause-compares : goal.returns-then-not-some-clause-compares
returns-then-not-some-clause-compares g c =
    let l = c.loop-renaming in
    let s = c.advance.new.self in
    let t = c.advance-in-loop-renaming.new.self in
    let p = c.in_ok-some.some in
    let q = c.in_ok-advance.field-0 in
    let learns = subst (LearnsNext l.renaming c.accepts_next.new.self s.framer t.framer) c.if-not-branch.false c.in_ok-accepts_next.ensures.learns in
    let same = alike p q s.framer t.framer l.renaming c.accepts_next.new.self c.in_ok-accepts_next.ensures.sound c.in_ok-some.ensures.ready
    c.in_ok-advance.ensures.ready learns in
    job_onwards AgreeOnJob (streams (g.R.Read.remaining c.args.mine.now) (g.Q.Read.remaining c.args.other.now) c.args.out.now.items)
    (streams (g.R.Read.remaining l.mine) (g.Q.Read.remaining l.other) l.out.items) (g.R.Read.remaining c.advance.new.r)
    (g.Q.Read.remaining c.advance-in-loop-renaming.new.r) l.first l.second s t l.renaming p q l.invariant
    c.in_ok-some.ensures.ok c.in_ok-advance.ensures.ok
    (job_agrees p q s t l.renaming c.if-not-some.true (sym same ∙ c.if-not-some.true))

pub loop-renaming-preserved : goal.loop-renaming-preserved
loop-renaming-preserved g c =
    let l = c.loop-renaming in
    let s = c.advance.new.self in
    let t = c.advance-in-loop-renaming.new.self in
    let p = c.in_ok-some.some in
    let q = c.in_ok-advance.field-0 in
    let learns = subst (LearnsNext l.renaming c.accepts_next.new.self s.framer t.framer) c.if-not-branch.false c.in_ok-accepts_next.ensures.learns in
    let same = alike p q s.framer t.framer l.renaming c.accepts_next.new.self c.in_ok-accepts_next.ensures.sound c.in_ok-some.ensures.ready
    c.in_ok-advance.ensures.ready learns in
    job_one_more (streams (g.R.Read.remaining c.args.mine.now) (g.Q.Read.remaining c.args.other.now) c.args.out.now.items)
    (streams (g.R.Read.remaining l.mine) (g.Q.Read.remaining l.other) l.out.items) (g.R.Read.remaining c.advance.new.r)
    (g.Q.Read.remaining c.advance-in-loop-renaming.new.r) (record { first = l.first; second = l.second }) (record { first = s; second = t })
    (record { first = c.take.new.self; second = c.take-in-loop-renaming.new.self }) l.renaming c.accepts_next.new.self p q
    c.if-not-some.false (sym same ∙ c.if-not-some.false) l.invariant c.in_ok-some.ensures.ok c.in_ok-advance.ensures.ok c.in_ok-some.ensures.ready
    c.in_ok-advance.ensures.ready c.in_ok-accepts_next.ensures.sound learns
    c.take.ensures.taken c.take-in-loop-renaming.ensures.taken c.take.ensures.inside c.take-in-loop-renaming.ensures.inside (c.take.ensures.which
    ∙ c.advance.ensures.which)
    (c.take-in-loop-renaming.ensures.which ∙ c.advance-in-loop-renaming.ensures.which)
