use Rattle.std.proofs.Common.{◌<◌, [], length, sym, subst, arith}
use Rattle.std.proofs.lemmas.Result.{err_from_is_err_and}
use Rattle.std.proofs.lemmas.Bool.Decides.{nat_tests}
use Rattle.scsi_disk.specs.Sparse.{extents_disk}
use Rattle.iscsi_loop.specs.LoopSteps.{BlamesNoEnd}
use Rattle.iscsi_loop.proofs.BlameLemmas.{initiator_blameless}
use Rattle.iscsi_loop.proofs.HistoryLemmas.{fed, then_continues}
use Rattle.iscsi_loop.proofs.PairStepLemmas.{receives_more, on_and_on}
use Rattle.iscsi_loop.proofs.loop_script.LoopbackSession.feed_initiator.Goals as goal

pub loop-rest-preserved : goal.loop-rest-preserved
loop-rest-preserved g c =
    let at = c.loop-rest in
    let n = c.min-len.result in
    let least = c.min-len.ensures in
    let moves = at.self.moves in
    let some : 0 < length at.rest.now = grind (arith, nat_tests, c.is_empty.ensures, c.loop-rest-test.true) in (
      then_continues _ at.self.initiator.machine _ [] [] [] [] at.invariant.0 (fed c.in_ok-feed.field-0 at.self.initiator c.feed.new.self _ _ _
          c.in_ok-feed.ensures.feeds),
      λ faithful. on_and_on _ _ _ (at.invariant.1 faithful)
          (receives_more at.self.initiator c.feed.new.self at.self.target (extents_disk at.self.store) at.requests.items at.rest.now c.feed.new.out.items
          c.to_initiator.new.read n c.in_ok-feed.field-0 c.in_ok-feed.ensures.feeds (faithful _ _ c.in_ok-to_initiator.ensures.carried) (omega (arith, least))
          (omega (arith, least, some, moves))),
    )

pub returns-in_err-to_initiator-clause-blameless : goal.returns-in_err-to_initiator-clause-blameless
returns-in_err-to_initiator-clause-blameless g c = λ faithful.
    let p = err_from_is_err_and c.from_residual.result c.from_residual.ensures.1 in
    rw (p.1, p.2) (λ blocks requests outcomes h. subst BlamesNoEnd (sym c.in_err-to_initiator.ensures.err) tt)

pub returns-in_err-feed-clause-blameless : goal.returns-in_err-feed-clause-blameless
returns-in_err-feed-clause-blameless g c = λ faithful.
    let p = err_from_is_err_and c.from_residual-in_err-feed.result c.from_residual-in_err-feed.ensures.1 in
    let at = c.loop-rest in
    let n = c.min-len.result in
    let least = c.min-len.ensures in
    let moves = at.self.moves in
    let some : 0 < length at.rest.now = grind (arith, nat_tests, c.is_empty.ensures, c.loop-rest-test.true) in
    let blameless = initiator_blameless c.in_err-feed.field-0.0 at.self.initiator c.feed.new.self at.self.target (extents_disk at.self.store)
    at.requests.items at.rest.now
    c.feed.new.out.items c.to_initiator.new.read n c.in_err-feed.ensures.feeds (faithful _ _ c.in_ok-to_initiator.ensures.carried)
    (omega (arith, least)) (omega (arith, least, some, moves)) in
    rw (p.1, p.2) (λ blocks requests outcomes h. blameless blocks requests outcomes (at.invariant.1 faithful blocks requests outcomes h))
