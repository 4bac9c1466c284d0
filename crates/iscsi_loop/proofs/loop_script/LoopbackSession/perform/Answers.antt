use Rattle.std.proofs.Common.{[], ◌∷◌, subst, sym}
use Rattle.std.proofs.lemmas.Result.{err_from_is_err_and}
use Rattle.scsi_disk.specs.Sparse.{extents_disk}
use Rattle.iscsi_initiator.specs.declared.request.Request.{Request}
use Rattle.iscsi_initiator.specs.Calls.{InitiatorConnection}
use Rattle.iscsi_pair.specs.Served.{IsServed}
use Rattle.iscsi_loop.specs.Commands.{command_request}
use Rattle.iscsi_loop.specs.LoopPairs.{outcomes_on}
use Rattle.iscsi_loop.specs.inner.LoopPairs.{PerformsOnDisk, ends_of}
use Rattle.iscsi_loop.specs.inner.LoopSteps.{InitiatorContinues}
use Rattle.iscsi_loop.proofs.BlameLemmas.{IsShort, has_outcome, range_short, submits_blameless}
use Rattle.iscsi_loop.proofs.HistoryLemmas.{submits, takes, then_continues}
use Rattle.iscsi_loop.proofs.PairStepLemmas.{performs, submits_on}
use Rattle.iscsi_loop.proofs.RequestLemmas.{request_served}
use Rattle.iscsi_loop.proofs.loop_script.LoopbackSession.perform.Goals as goal

pub returns-in-Some : goal.returns-in-Some
returns-in-Some g c =
    let before = c.args.self.now.initiator in
    let after = c.settle.new.self.initiator in
    let done = c.in-Some.done in
    let handed : InitiatorContinues before.machine (c.in_ok-request.request ∷ []) [] c.submit.new.self.machine =
    submits before c.submit.new.self c.in_ok-request.request _ _ c.in-Ok.ensures.submits in
    let asked = subst (λ (r : Request). InitiatorContinues before.machine (r ∷ []) [] c.submit.new.self.machine) c.in_ok-request.ensures.request handed in
    let settled = then_continues before.machine c.submit.new.self.machine after.machine _ [] [] [] asked c.in_ok-settle.ensures.continues in
    let given = subst (λ (i : InitiatorConnection). InitiatorContinues after.machine [] (done ∷ []) i.machine) (sym c.in-Some.ensures.taken)
    (takes after done (sym c.in-Some.ensures.outcome)) in
    let served : IsServed (command_request c.args.command) = request_served c.args.command c.into_request.ensures.numbers in
    record {
      continues = then_continues before.machine after.machine _ _ [] [] _ settled given;
      served = λ faithful.
          let done_on = performs before c.submit.new.self after c.args.self.now.target c.settle.new.self.target (extents_disk c.args.self.now.store)
          (extents_disk c.settle.new.self.store)
          c.submit.new.out.items c.in_ok-request.request done (rw c.new-out.ensures.items at c.in-Ok.ensures.submits)
          (subst IsServed (sym c.in_ok-request.ensures.request) served)
          (c.in_ok-settle.ensures.served faithful) (sym c.in-Some.ensures.outcome) in
          subst (λ (r : Request). PerformsOnDisk (ends_of before c.args.self.now.target (extents_disk c.args.self.now.store) [] []) r done
          (ends_of c.outcome.new.self c.settle.new.self.target (extents_disk c.settle.new.self.store) [] [])) c.in_ok-request.ensures.request
          (subst (λ (i : InitiatorConnection). PerformsOnDisk (ends_of before c.args.self.now.target (extents_disk c.args.self.now.store) [] [])
          c.in_ok-request.request done
          (ends_of i c.settle.new.self.target (extents_disk c.settle.new.self.store) [] [])) (sym c.in-Some.ensures.taken) done_on);
      blameless = λ faithful blocks past goes_on range. tt;
      err = tt;
    }

pub returns-in-Err-clause-blameless : goal.returns-in-Err-clause-blameless
returns-in-Err-clause-blameless g c = λ faithful blocks past goes_on range.
    let before = c.args.self.now in
    rw c.refusal.ensures (submits_blameless before.initiator c.submit.new.self before.target (extents_disk before.store) c.submit.new.out.items
    c.in_ok-request.request c.in-Err.refused blocks past (rw c.new-out.ensures.items at c.in-Err.ensures.submits) goes_on
    (subst IsShort (sym c.in_ok-request.ensures.request) (range_short c.args.command range)))

pub returns-in_err-settle-clause-blameless : goal.returns-in_err-settle-clause-blameless
returns-in_err-settle-clause-blameless g c = λ faithful blocks past goes_on range.
    let before = c.args.self.now in
    let p = err_from_is_err_and c.from_residual-in_err-settle.result c.from_residual-in_err-settle.ensures.1 in
    let served : IsServed c.in_ok-request.request = subst IsServed (sym c.in_ok-request.ensures.request)
    (request_served c.args.command c.into_request.ensures.numbers) in
    let handed = submits_on before.initiator c.submit.new.self before.target (extents_disk before.store) c.submit.new.out.items c.in_ok-request.request
    (rw c.new-out.ensures.items at c.in-Ok.ensures.submits) served blocks past (outcomes_on blocks past) goes_on.0 in
    rw (p.1, p.2) (c.in_err-settle.ensures.blameless faithful blocks _ (outcomes_on blocks past) handed)

pub returns-in-None-clause-blameless : goal.returns-in-None-clause-blameless
returns-in-None-clause-blameless g c = λ faithful blocks past goes_on range.
    let before = c.args.self.now in
    let after = c.settle.new.self in
    let served : IsServed c.in_ok-request.request = subst IsServed (sym c.in_ok-request.ensures.request)
    (request_served c.args.command c.into_request.ensures.numbers) in
    let handed = submits_on before.initiator c.submit.new.self before.target (extents_disk before.store) c.submit.new.out.items c.in_ok-request.request
    (rw c.new-out.ensures.items at c.in-Ok.ensures.submits) served blocks past (outcomes_on blocks past) goes_on.0 in
    absurd (has_outcome after.initiator after.target (extents_disk after.store) c.in_ok-request.request blocks past
    (c.in_ok-settle.ensures.served faithful blocks _ (outcomes_on blocks past) handed) (sym c.in-None.ensures.outcome))
