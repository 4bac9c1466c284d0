use Rattle.std.proofs.Common.{◌<◌, length, sym, ap, arith}
use Rattle.std.proofs.lemmas.Bool.{eqb-false}
use Rattle.std.proofs.lemmas.List.{length-drop, take_rest}
use Rattle.iscsi_stream.proofs.PassingLemmas.{takes_some}
use Rattle.iscsi_explain.proofs.Passing.{up_to_more}
use Rattle.iscsi_explain.proofs.stream.pass_on.Goals as goal

pub loop-rest-smaller : goal.loop-rest-smaller
loop-rest-smaller c =
    let rest = c.loop-rest.rest.now in
    let some : 0 < length rest = omega (arith, eqb-false (length rest) 0 (sym c.loop-rest-test.ensures)) in
    let taken = c.in_ok-taken.ensures.ok in
    let one = takes_some c.loop-rest.framer rest c.in_ok-taken.taken c.feed.new.self c.loop-rest.invariant.passes.unready taken some in
    omega (arith, ap length (take_rest rest c.in_ok-taken.taken), length-drop c.in_ok-taken.taken rest, taken.bound, one, some)

pub loop-rest-preserved : goal.loop-rest-preserved
loop-rest-preserved c = up_to_more _ _ _ _ _ _ _ _ _ _ _ _ c.loop-rest.invariant c.in_ok-taken.ensures.ok c.in_ok-append_ready-2.ensures.ok.1
