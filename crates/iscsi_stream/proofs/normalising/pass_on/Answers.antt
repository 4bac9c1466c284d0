use Rattle.std.proofs.Common.{◌<◌, length, take, refl, sym, ap, arith}
use Rattle.std.proofs.lemmas.Bool.{eqb-false}
use Rattle.std.proofs.lemmas.List.{length-drop, take_rest}
use Rattle.std.proofs.lemmas.Result.{err_from_is_err_and}
use Rattle.iscsi_stream.specs.Framing.{holding}
use Rattle.iscsi_stream.proofs.PassingLemmas.{passed_none, passed_more, passed_part, feed_stops, takes_some, bare_taken}
use Rattle.iscsi_stream.proofs.normalising.pass_on.Goals as goal
use Rattle.iscsi_stream.specs.inner.Passing.{passing_progress}

pub loop-rest-init : goal.loop-rest-init
loop-rest-init c = passed_none c.args.form c.args.piece.now c.args.framer.now c.args.out.now.items c.args.counts.now c.requires.unready

pub returns-in_err-append_bare-clause-appended : goal.returns-in_err-append_bare-clause-appended
returns-in_err-append_bare-clause-appended c = passed_part c.args.form c.args.piece.now c.loop-rest.rest.now c.args.framer.now c.loop-rest.framer
    c.args.out.now.items c.loop-rest.out.items c.append_bare.new.out.items c.args.counts.now c.loop-rest.counts c.loop-rest.invariant c.requires.limit
    c.in_err-append_bare.ensures.err

pub loop-rest-preserved-in-Some-bare : goal.loop-rest-preserved-in-Some-bare
loop-rest-preserved-in-Some-bare c =
    let rest = c.loop-rest.rest.now in
    let next = c.in-Some.ensures in
    let taken = bare_taken c.loop-rest.framer rest c.in-Some-bare.head (next.live refl) (next.empty refl) (next.whole refl)
    (rw (next.header, c.in-Some-bare.is) at c.read_bare_head-bare.ensures.means) in
    passed_more c.args.form c.args.piece.now rest (passing_progress c.args.framer.now c.args.out.now.items c.args.counts.now)
    (passing_progress c.loop-rest.framer c.loop-rest.out.items c.loop-rest.counts) (holding c.loop-rest.framer (take 48 rest))
    (passing_progress c.append_bare.new.framer c.append_bare.new.out.items c.append_bare.new.counts) 48 _ c.loop-rest.invariant
    taken.0 (c.in_ok-append_bare.ensures.ok (take 48 rest) taken.1)

pub returns-in_err-taken-clause-appended : goal.returns-in_err-taken-clause-appended
returns-in_err-taken-clause-appended c = passed_part c.args.form c.args.piece.now c.loop-rest.rest.now c.args.framer.now c.loop-rest.framer c.args.out.now.items
    c.loop-rest.out.items c.loop-rest.out.items c.args.counts.now c.loop-rest.counts c.loop-rest.invariant c.requires.limit refl

pub returns-in_err-taken-clause-err : goal.returns-in_err-taken-clause-err
returns-in_err-taken-clause-err c =
    let p = err_from_is_err_and c.from_residual-in_err-taken.result c.from_residual-in_err-taken.ensures.1 in
    rw (p.1, p.2) (feed_stops c.in_err-taken.field-0.0 c.args.form c.args.piece.now c.loop-rest.rest.now c.args.framer.now c.loop-rest.framer
    c.args.out.now.items c.loop-rest.out.items c.args.counts.now c.loop-rest.counts c.loop-rest.invariant c.requires.limit c.in_err-taken.ensures.err)

pub loop-rest-smaller : goal.loop-rest-smaller
loop-rest-smaller c =
    let rest = c.loop-rest.rest.now in
    let some : 0 < length rest = omega (arith, eqb-false (length rest) 0 (sym c.loop-rest-test.ensures)) in
    let taken = c.in_ok-taken.ensures.ok in
    let one = takes_some c.loop-rest.framer rest c.in_ok-taken.taken c.feed.new.self c.loop-rest.invariant.passes.unready taken some in
    omega (arith, ap length (take_rest rest c.in_ok-taken.taken), length-drop c.in_ok-taken.taken rest, taken.bound, one, some)

pub loop-rest-preserved : goal.loop-rest-preserved
loop-rest-preserved c =
    passed_more c.args.form c.args.piece.now c.loop-rest.rest.now (passing_progress c.args.framer.now c.args.out.now.items c.args.counts.now)
    (passing_progress c.loop-rest.framer c.loop-rest.out.items c.loop-rest.counts) c.feed.new.self
    (passing_progress c.append_ready.new.framer c.append_ready.new.out.items c.append_ready.new.counts) c.in_ok-taken.taken
    c.in_ok-append_ready.ensures.ok.0 c.loop-rest.invariant
    c.in_ok-taken.ensures.ok c.in_ok-append_ready.ensures.ok.1

pub returns-in_err-append_ready-clause-appended : goal.returns-in_err-append_ready-clause-appended
returns-in_err-append_ready-clause-appended c = passed_part c.args.form c.args.piece.now c.loop-rest.rest.now c.args.framer.now c.loop-rest.framer
    c.args.out.now.items c.loop-rest.out.items c.append_ready.new.out.items c.args.counts.now c.loop-rest.counts c.loop-rest.invariant c.requires.limit
    c.in_err-append_ready.ensures.err

pub returns-clause-appended : goal.returns-clause-appended
returns-clause-appended c = passed_part c.args.form c.args.piece.now c.loop-rest.rest.now c.args.framer.now c.loop-rest.framer c.args.out.now.items
    c.loop-rest.out.items c.loop-rest.out.items c.args.counts.now c.loop-rest.counts c.loop-rest.invariant c.requires.limit refl
