use Rattle.std.proofs.Common.{◌<◌, length, refl, sym, subst, arith}
use Rattle.std.proofs.lemmas.Result.{err_from_is_err_and}
use Rattle.std.proofs.lemmas.Bool.Decides.{nat_tests}
use Rattle.scsi_disk.specs.Sparse.{extents_disk}
use Rattle.iscsi_loop.specs.LoopSteps.{BlamesNoEnd}
use Rattle.iscsi_loop.proofs.BlameLemmas.{target_blameless}
use Rattle.iscsi_loop.proofs.PairStepLemmas.{asks_more, on_and_on}
use Rattle.iscsi_loop.proofs.loop_script.LoopbackSession.feed_target.Goals as goal

pub loop-rest-preserved : goal.loop-rest-preserved
loop-rest-preserved g c =
    let at = c.loop-rest in
    let n = c.min-len.result in
    let least = c.min-len.ensures in
    let moves = at.self.moves in
    let some : 0 < length at.rest.now = grind (arith, nat_tests, c.is_empty.ensures, c.loop-rest-test.true) in (
      at.invariant.0,
      λ faithful. on_and_on _ _ _ (at.invariant.1 faithful)
          (asks_more at.self.initiator at.self.target c.feed.new.self (extents_disk at.self.store)
          (extents_disk c.feed.new.store) at.rest.now at.answers.items c.feed.new.out.items
          c.to_target.new.read n c.in_ok-feed.field-0 c.in_ok-feed.ensures.fed c.blocks-blocks.ensures.disk refl
          (faithful _ _ c.in_ok-to_target.ensures.carried)
          (omega (arith, least)) (omega (arith, least, some, moves))),
    )

pub returns-in_err-to_target-clause-blameless : goal.returns-in_err-to_target-clause-blameless
returns-in_err-to_target-clause-blameless g c = λ faithful.
    let p = err_from_is_err_and c.from_residual.result c.from_residual.ensures.1 in
    rw (p.1, p.2) (λ blocks requests outcomes h. subst BlamesNoEnd (sym c.in_err-to_target.ensures.err) tt)

pub returns-in_err-feed-clause-blameless : goal.returns-in_err-feed-clause-blameless
returns-in_err-feed-clause-blameless g c = λ faithful.
    let p = err_from_is_err_and c.from_residual-in_err-feed.result c.from_residual-in_err-feed.ensures.1 in
    let at = c.loop-rest in
    let n = c.min-len.result in
    let least = c.min-len.ensures in
    let moves = at.self.moves in
    let some : 0 < length at.rest.now = grind (arith, nat_tests, c.is_empty.ensures, c.loop-rest-test.true) in
    let blameless = target_blameless c.in_err-feed.field-0.0 at.self.initiator at.self.target c.feed.new.self (extents_disk at.self.store)
    (extents_disk c.feed.new.store) at.rest.now
    at.answers.items c.feed.new.out.items c.to_target.new.read n c.in_err-feed.ensures.fed (faithful _ _ c.in_ok-to_target.ensures.carried)
    (omega (arith, least)) (omega (arith, least, some, moves)) in
    rw (p.1, p.2) (λ blocks requests outcomes h. blameless blocks requests outcomes (at.invariant.1 faithful blocks requests outcomes h))
