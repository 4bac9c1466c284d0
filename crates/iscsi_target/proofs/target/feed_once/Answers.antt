use Rattle.std.proofs.Common.{List, ℕ, drop, refl, ◌∙◌}
use Rattle.std.proofs.lemmas.Result.{err_from_is_err_and}
use Rattle.iscsi_target.specs.Feed.{scene, TargetConnection, Store}
use Rattle.iscsi_target.specs.Advances.{store_of}
use Rattle.iscsi_target.proofs.Feed.FeedStepLemmas.{fed_none, fed_one}
use Rattle.iscsi_target.proofs.Feed.FeedInvariant.{ends_failed, ends_broken, next_fed}
use Rattle.iscsi_target.proofs.Feed.NotingLemmas.{notes_next}
use Rattle.iscsi_target.proofs.target.feed_once.Goals as goal

pub returns-in_err-taken-clause-fed : goal.returns-in_err-taken-clause-fed
returns-in_err-taken-clause-fed g c =
    let old : TargetConnection = c.args.intake.now in
    let before : Store = store_of (g.S.BlockStore.disk c.args.store.now) (g.S.BlockStore.failures c.args.store.now) in
    let new : TargetConnection = c.feed_one.new.intake in
    let after : Store = store_of (g.S.BlockStore.disk c.feed_one.new.store) (g.S.BlockStore.failures c.feed_one.new.store) in
    let out : List ℕ = c.args.out.now.items in
    let piece : List ℕ = c.args.piece.now in
    let p = err_from_is_err_and c.from_residual.result c.from_residual.ensures.1 in
    rw (p.1, p.2) (ends_failed g.S.BlockStore.protected (scene old before out) piece piece (scene old before out) c.in_err-taken.field-0.0
    (scene new after c.feed_one.new.out.items)
    (fed_none g.S.BlockStore.protected old before out piece c.requires.unready c.requires.live) c.in_err-taken.ensures.err)

pub returns-in-Some-clause-fed : goal.returns-in-Some-clause-fed
returns-in-Some-clause-fed g c =
    let old : TargetConnection = c.args.intake.now in
    let before : Store = store_of (g.S.BlockStore.disk c.args.store.now) (g.S.BlockStore.failures c.args.store.now) in
    let new : TargetConnection = c.feed_one.new.intake in
    let after : Store = store_of (g.S.BlockStore.disk c.feed_one.new.store) (g.S.BlockStore.failures c.feed_one.new.store) in
    let out : List ℕ = c.args.out.now.items in
    let piece : List ℕ = c.args.piece.now in
    let fed = fed_one g.S.BlockStore.protected (scene old before out) piece piece (drop c.in_ok-taken.taken piece) (scene old before out)
    c.in_ok-taken.taken c.in_ok-taken.broken (scene new after c.feed_one.new.out.items)
    (fed_none g.S.BlockStore.protected old before out piece c.requires.unready c.requires.live) c.in_ok-taken.ensures.ok refl in
    ends_broken g.S.BlockStore.protected old before out piece (drop c.in_ok-taken.taken piece) new after c.feed_one.new.out.items
    c.in-Some.rule fed.fed (fed.rule
    ∙ c.in-Some.is) c.phase-phase.ensures.joined

pub returns-in-None-clause-fed : goal.returns-in-None-clause-fed
returns-in-None-clause-fed g c =
    let old : TargetConnection = c.args.intake.now in
    let before : Store = store_of (g.S.BlockStore.disk c.args.store.now) (g.S.BlockStore.failures c.args.store.now) in
    let new : TargetConnection = c.feed_one.new.intake in
    let after : Store = store_of (g.S.BlockStore.disk c.feed_one.new.store) (g.S.BlockStore.failures c.feed_one.new.store) in
    let out : List ℕ = c.args.out.now.items in
    let piece : List ℕ = c.args.piece.now in
    next_fed g.S.BlockStore.protected old before out piece c.in_ok-taken.taken c.phase-phase.result new after c.feed_one.new.out.items
    c.requires.unready c.requires.live
    (rw c.in-None.is at c.in_ok-taken.ensures.ok) c.phase-phase.ensures.joined c.phase-phase.ensures.phase

pub returns-in-None-clause-asks : goal.returns-in-None-clause-asks
returns-in-None-clause-asks g c =
    let old : TargetConnection = c.args.intake.now in
    let before : Store = store_of (g.S.BlockStore.disk c.args.store.now) (g.S.BlockStore.failures c.args.store.now) in
    let new : TargetConnection = c.feed_one.new.intake in
    let after : Store = store_of (g.S.BlockStore.disk c.feed_one.new.store) (g.S.BlockStore.failures c.feed_one.new.store) in
    let out : List ℕ = c.args.out.now.items in
    let piece : List ℕ = c.args.piece.now in
    notes_next g.S.BlockStore.protected old before out piece c.in_ok-taken.taken c.phase-phase.result new after c.feed_one.new.out.items
    c.args.asks.now c.feed_one.new.asks c.requires.unready c.requires.live
    (rw c.in-None.is at c.in_ok-taken.ensures.ok) c.phase-phase.ensures.joined c.phase-phase.ensures.phase
    c.in_ok-taken.ensures.noted c.in_ok-taken.ensures.none
