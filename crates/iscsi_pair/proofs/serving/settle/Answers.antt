use Rattle.std.proofs.Common.{inl, inr, arith}
use Rattle.iscsi_stream.proofs.ReadyLemmas.{apart}
use Rattle.iscsi_pair.proofs.Lists.ServingLemmas.{at_last, none_turned, turned_more}
use Rattle.iscsi_pair.proofs.serving.settle.Goals as goal

pub loop-init : goal.loop-init
loop-init c = none_turned c.args.pair.now

pub loop-preserved : goal.loop-preserved
loop-preserved c = turned_more c.args.pair.now c.loop.pair c.turn.ensures.0 c.turn.new.pair c.loop.counter c.loop.invariant
    (λ silent. apart (c.is_silent.ensures.1 silent) c.if-is_silent.false) c.turn.ensures.1 c.turn.ensures.2

pub returns-then-is_silent-clause-err : goal.returns-then-is_silent-clause-err
returns-then-is_silent-clause-err c =
    at_last c.at_rest.result c.args.pair.now c.loop.pair c.loop.counter c.loop.invariant (inl (c.is_silent.ensures.0 c.if-is_silent.true)) c.at_rest.ensures.err

pub returns-clause-err : goal.returns-clause-err
returns-clause-err c =
    at_last c.at_rest-2.result c.args.pair.now c.loop.pair c.loop.counter c.loop.invariant (inr (omega (arith, c.loop-test.false, c.loop.auto.counter-end)))
    c.at_rest-2.ensures.err
