use Rattle.std.proofs.Common.{◌≡◌, ◌<◌, ℕ, List, length, drop, refl, sym, ap, subst, ◌∙◌, arith, rules}
use Rattle.std.specs.Prelude.{None}
use Rattle.std.proofs.lemmas.Bool.{eqb-true, eqb-false}
use Rattle.std.proofs.lemmas.List.{length-drop, take_rest}
use Rattle.std.proofs.lemmas.Result.{err_from_is_err_and}
use Rattle.iscsi_stream.proofs.PassingLemmas.{takes_some}
use Rattle.iscsi_target.specs.Feed.{scene, TargetConnection, Store}
use Rattle.iscsi_target.specs.Advances.{store_of}
use Rattle.iscsi_target.proofs.Feed.PassedLemmas.{crashes_none, crashes_on, crashes_failed}
use Rattle.iscsi_target.proofs.Feed.FeedStepLemmas.{GoesUpTo, fed_none, fed_one}
use Rattle.iscsi_target.proofs.Feed.FeedInvariant.{ends_failed, ends_broken, ends_closed, ends_live}
use Rattle.iscsi_target.proofs.target.feed_all.Goals as goal

pub loop-rest-init : goal.loop-rest-init
loop-rest-init g c =
    let old : TargetConnection = c.args.intake.now in
    let before : Store = store_of (g.S.BlockStore.disk c.args.store.now) (g.S.BlockStore.failures c.args.store.now) in (
      fed_none g.S.BlockStore.protected old before c.args.out.now.items c.args.piece.now c.requires.unready c.requires.live,
      crashes_none g.S.BlockStore.protected old before c.args.piece.now (g.S.BlockStore.kept c.args.store.now),
    )

pub returns-in_err-taken-clause-fed : goal.returns-in_err-taken-clause-fed
returns-in_err-taken-clause-fed g c =
    let old : TargetConnection = c.args.intake.now in
    let before : Store = store_of (g.S.BlockStore.disk c.args.store.now) (g.S.BlockStore.failures c.args.store.now) in
    let now : TargetConnection = c.loop-rest.intake in
    let mid : Store = store_of (g.S.BlockStore.disk c.loop-rest.store) (g.S.BlockStore.failures c.loop-rest.store) in
    let new : TargetConnection = c.feed_one.new.intake in
    let after : Store = store_of (g.S.BlockStore.disk c.feed_one.new.store) (g.S.BlockStore.failures c.feed_one.new.store) in
    let out : List ℕ = c.args.out.now.items in
    let piece : List ℕ = c.args.piece.now in
    let p = err_from_is_err_and c.from_residual.result c.from_residual.ensures.1 in
    rw (p.1, p.2) (ends_failed g.S.BlockStore.protected (scene old before out) piece c.loop-rest.rest.now (scene now mid c.loop-rest.out.items)
    c.in_err-taken.field-0.0 (scene new after c.feed_one.new.out.items) c.loop-rest.invariant.0 c.in_err-taken.ensures.err)

pub returns-in-Some-clause-fed : goal.returns-in-Some-clause-fed
returns-in-Some-clause-fed g c =
    let old : TargetConnection = c.args.intake.now in
    let before : Store = store_of (g.S.BlockStore.disk c.args.store.now) (g.S.BlockStore.failures c.args.store.now) in
    let now : TargetConnection = c.loop-rest.intake in
    let mid : Store = store_of (g.S.BlockStore.disk c.loop-rest.store) (g.S.BlockStore.failures c.loop-rest.store) in
    let new : TargetConnection = c.feed_one.new.intake in
    let after : Store = store_of (g.S.BlockStore.disk c.feed_one.new.store) (g.S.BlockStore.failures c.feed_one.new.store) in
    let out : List ℕ = c.args.out.now.items in
    let piece : List ℕ = c.args.piece.now in
    let left : List ℕ = drop c.in_ok-taken.taken c.loop-rest.rest.now in
    let fed = fed_one g.S.BlockStore.protected (scene old before out) piece c.loop-rest.rest.now left (scene now mid c.loop-rest.out.items)
    c.in_ok-taken.taken c.in_ok-taken.broken (scene new after c.feed_one.new.out.items) c.loop-rest.invariant.0 c.in_ok-taken.ensures.ok refl in
    ends_broken g.S.BlockStore.protected old before out piece left new after c.feed_one.new.out.items c.in-Some.rule fed.fed (fed.rule ∙ c.in-Some.is)
    c.phase-phase.ensures.joined

pub returns-then-is_closed-clause-fed : goal.returns-then-is_closed-clause-fed
returns-then-is_closed-clause-fed g c =
    let old : TargetConnection = c.args.intake.now in
    let before : Store = store_of (g.S.BlockStore.disk c.args.store.now) (g.S.BlockStore.failures c.args.store.now) in
    let now : TargetConnection = c.loop-rest.intake in
    let mid : Store = store_of (g.S.BlockStore.disk c.loop-rest.store) (g.S.BlockStore.failures c.loop-rest.store) in
    let new : TargetConnection = c.feed_one.new.intake in
    let after : Store = store_of (g.S.BlockStore.disk c.feed_one.new.store) (g.S.BlockStore.failures c.feed_one.new.store) in
    let out : List ℕ = c.args.out.now.items in
    let piece : List ℕ = c.args.piece.now in
    let left : List ℕ = drop c.in_ok-taken.taken c.loop-rest.rest.now in
    let fed = fed_one g.S.BlockStore.protected (scene old before out) piece c.loop-rest.rest.now left (scene now mid c.loop-rest.out.items)
    c.in_ok-taken.taken c.in_ok-taken.broken (scene new after c.feed_one.new.out.items) c.loop-rest.invariant.0 c.in_ok-taken.ensures.ok refl in
    let none : c.in_ok-taken.broken ≡ None = search rules in
    ends_closed g.S.BlockStore.protected old before out piece left new after c.feed_one.new.out.items c.phase-phase.result fed.fed (fed.rule
    ∙ none) c.phase-phase.ensures.joined c.phase-phase.ensures.phase (sym c.is_closed.ensures ∙ c.if-is_closed.true)

pub loop-rest-smaller : goal.loop-rest-smaller
loop-rest-smaller g c =
    let some : 0 < length c.loop-rest.rest.now = omega (arith, eqb-false (length c.loop-rest.rest.now) 0 (sym c.loop-rest-test.ensures)) in
    let taken = c.in_ok-taken.ensures.ok.takes in
    let one = takes_some c.loop-rest.intake.framing c.loop-rest.rest.now c.in_ok-taken.taken c.in_ok-taken.ensures.ok.framing
    c.loop-rest.invariant.0.fed.answered.ready
    taken some in
    omega (arith, ap length (take_rest c.loop-rest.rest.now c.in_ok-taken.taken), length-drop c.in_ok-taken.taken c.loop-rest.rest.now, taken.bound, one, some)

pub loop-rest-preserved : goal.loop-rest-preserved
loop-rest-preserved g c =
    let old : TargetConnection = c.args.intake.now in
    let before : Store = store_of (g.S.BlockStore.disk c.args.store.now) (g.S.BlockStore.failures c.args.store.now) in
    let now : TargetConnection = c.loop-rest.intake in
    let mid : Store = store_of (g.S.BlockStore.disk c.loop-rest.store) (g.S.BlockStore.failures c.loop-rest.store) in
    let new : TargetConnection = c.feed_one.new.intake in
    let after : Store = store_of (g.S.BlockStore.disk c.feed_one.new.store) (g.S.BlockStore.failures c.feed_one.new.store) in
    let out : List ℕ = c.args.out.now.items in
    let piece : List ℕ = c.args.piece.now in
    let left : List ℕ = drop c.in_ok-taken.taken c.loop-rest.rest.now in
    let fed = fed_one g.S.BlockStore.protected (scene old before out) piece c.loop-rest.rest.now left (scene now mid c.loop-rest.out.items)
    c.in_ok-taken.taken c.in_ok-taken.broken (scene new after c.feed_one.new.out.items) c.loop-rest.invariant.0 c.in_ok-taken.ensures.ok refl in
    let none : c.in_ok-taken.broken ≡ None = search rules in (
      subst (λ (x : List ℕ). GoesUpTo g.S.BlockStore.protected (scene old before out) piece x (scene new after c.feed_one.new.out.items))
          (sym (take_rest c.loop-rest.rest.now c.in_ok-taken.taken))
          (record { fed = fed.fed; rule = fed.rule ∙ none; live = sym c.is_closed.ensures ∙ c.if-is_closed.false }),
      crashes_on g.S.BlockStore.protected (scene old before out) piece c.loop-rest.rest.now (scene now mid c.loop-rest.out.items) c.in_ok-taken.taken
          c.in_ok-taken.broken (scene new after c.feed_one.new.out.items) (g.S.BlockStore.kept c.args.store.now) (g.S.BlockStore.kept c.loop-rest.store)
          (g.S.BlockStore.kept c.feed_one.new.store)
          c.loop-rest.invariant.0 c.in_ok-taken.ensures.ok c.loop-rest.invariant.1 c.feed_one.ensures.crash,
    )

pub returns-clause-fed : goal.returns-clause-fed
returns-clause-fed g c =
    let old : TargetConnection = c.args.intake.now in
    let before : Store = store_of (g.S.BlockStore.disk c.args.store.now) (g.S.BlockStore.failures c.args.store.now) in
    let now : TargetConnection = c.loop-rest.intake in
    let mid : Store = store_of (g.S.BlockStore.disk c.loop-rest.store) (g.S.BlockStore.failures c.loop-rest.store) in
    let out : List ℕ = c.args.out.now.items in
    let piece : List ℕ = c.args.piece.now in
    ends_live g.S.BlockStore.protected old before out piece c.loop-rest.rest.now now mid c.loop-rest.out.items c.phase.result c.loop-rest.invariant.0
    c.phase.ensures.joined
    c.phase.ensures.phase (eqb-true (length c.loop-rest.rest.now) 0 (sym c.loop-rest-test.ensures))

pub returns-in_err-taken-clause-crash : goal.returns-in_err-taken-clause-crash
returns-in_err-taken-clause-crash g c =
    let old : TargetConnection = c.args.intake.now in
    let before : Store = store_of (g.S.BlockStore.disk c.args.store.now) (g.S.BlockStore.failures c.args.store.now) in
    let now : TargetConnection = c.loop-rest.intake in
    let mid : Store = store_of (g.S.BlockStore.disk c.loop-rest.store) (g.S.BlockStore.failures c.loop-rest.store) in
    let new : TargetConnection = c.feed_one.new.intake in
    let after : Store = store_of (g.S.BlockStore.disk c.feed_one.new.store) (g.S.BlockStore.failures c.feed_one.new.store) in
    crashes_failed g.S.BlockStore.protected (scene old before c.args.out.now.items) c.args.piece.now c.loop-rest.rest.now
    (scene now mid c.loop-rest.out.items) c.in_err-taken.field-0.0 (scene new after c.feed_one.new.out.items) (g.S.BlockStore.kept c.args.store.now)
    (g.S.BlockStore.kept c.loop-rest.store) (g.S.BlockStore.kept c.feed_one.new.store)
    c.loop-rest.invariant.0 c.in_err-taken.ensures.err c.loop-rest.invariant.1 c.feed_one.ensures.crash

pub returns-in-Some-clause-crash : goal.returns-in-Some-clause-crash
returns-in-Some-clause-crash g c =
    let old : TargetConnection = c.args.intake.now in
    let before : Store = store_of (g.S.BlockStore.disk c.args.store.now) (g.S.BlockStore.failures c.args.store.now) in
    let now : TargetConnection = c.loop-rest.intake in
    let mid : Store = store_of (g.S.BlockStore.disk c.loop-rest.store) (g.S.BlockStore.failures c.loop-rest.store) in
    let new : TargetConnection = c.feed_one.new.intake in
    let after : Store = store_of (g.S.BlockStore.disk c.feed_one.new.store) (g.S.BlockStore.failures c.feed_one.new.store) in
    crashes_on g.S.BlockStore.protected (scene old before c.args.out.now.items) c.args.piece.now c.loop-rest.rest.now (scene now mid c.loop-rest.out.items)
    c.in_ok-taken.taken c.in_ok-taken.broken (scene new after c.feed_one.new.out.items) (g.S.BlockStore.kept c.args.store.now)
    (g.S.BlockStore.kept c.loop-rest.store)
    (g.S.BlockStore.kept c.feed_one.new.store) c.loop-rest.invariant.0 c.in_ok-taken.ensures.ok c.loop-rest.invariant.1 c.feed_one.ensures.crash

pub returns-then-is_closed-clause-crash : goal.returns-then-is_closed-clause-crash
returns-then-is_closed-clause-crash g c =
    let old : TargetConnection = c.args.intake.now in
    let before : Store = store_of (g.S.BlockStore.disk c.args.store.now) (g.S.BlockStore.failures c.args.store.now) in
    let now : TargetConnection = c.loop-rest.intake in
    let mid : Store = store_of (g.S.BlockStore.disk c.loop-rest.store) (g.S.BlockStore.failures c.loop-rest.store) in
    let new : TargetConnection = c.feed_one.new.intake in
    let after : Store = store_of (g.S.BlockStore.disk c.feed_one.new.store) (g.S.BlockStore.failures c.feed_one.new.store) in
    crashes_on g.S.BlockStore.protected (scene old before c.args.out.now.items) c.args.piece.now c.loop-rest.rest.now (scene now mid c.loop-rest.out.items)
    c.in_ok-taken.taken c.in_ok-taken.broken (scene new after c.feed_one.new.out.items) (g.S.BlockStore.kept c.args.store.now)
    (g.S.BlockStore.kept c.loop-rest.store)
    (g.S.BlockStore.kept c.feed_one.new.store) c.loop-rest.invariant.0 c.in_ok-taken.ensures.ok c.loop-rest.invariant.1 c.feed_one.ensures.crash

pub returns-clause-crash : goal.returns-clause-crash
returns-clause-crash g c = c.loop-rest.invariant.1
