use Rattle.std.proofs.Common.{[], subst}
use Rattle.std.proofs.lemmas.Result.{err_from_is_err_and}
use Rattle.iscsi_initiator.specs.Calls.{InitiatorConnection}
use Rattle.iscsi_loop.specs.inner.LoopSteps.{InitiatorContinues}
use Rattle.iscsi_loop.proofs.HistoryLemmas.{then_continues}
use Rattle.iscsi_loop.proofs.PairStepLemmas.{on_and_on}
use Rattle.iscsi_loop.proofs.loop_script.LoopbackSession.settle.Goals as goal

pub loop-preserved : goal.loop-preserved
loop-preserved g c = (
  then_continues _ c.loop.self.initiator.machine _ [] [] [] [] c.loop.invariant.0
      (subst (λ (i : InitiatorConnection). InitiatorContinues i.machine [] [] c.feed_initiator.new.self.initiator.machine) c.in_ok-answers.ensures.kept
      c.in_ok-requests.ensures.continues),
  λ faithful. on_and_on _ _ _ (c.loop.invariant.1 faithful)
      (on_and_on _ _ _ (rw c.deref.ensures.value at (c.in_ok-answers.ensures.served faithful))
      (rw c.deref-in-loop.ensures.value at (c.in_ok-requests.ensures.served faithful))),
)

pub returns-in_err-answers-clause-blameless : goal.returns-in_err-answers-clause-blameless
returns-in_err-answers-clause-blameless g c = λ faithful.
    let p = err_from_is_err_and c.from_residual.result c.from_residual.ensures.1 in
    let blameless = rw c.deref.ensures.value at (c.in_err-answers.ensures.blameless faithful) in
    rw (p.1, p.2) (λ blocks requests outcomes h. blameless blocks requests outcomes (c.loop.invariant.1 faithful blocks requests outcomes h))

pub returns-in_err-requests-clause-blameless : goal.returns-in_err-requests-clause-blameless
returns-in_err-requests-clause-blameless g c = λ faithful.
    let p = err_from_is_err_and c.from_residual-in_err-requests.result c.from_residual-in_err-requests.ensures.1 in
    let on = rw c.deref.ensures.value at (c.in_ok-answers.ensures.served faithful) in
    let blameless = rw c.deref-in-loop.ensures.value at (c.in_err-requests.ensures.blameless faithful) in
    rw (p.1, p.2) (λ blocks requests outcomes h. blameless blocks requests outcomes
    (on blocks requests outcomes (c.loop.invariant.1 faithful blocks requests outcomes h)))
