use Rattle.std.proofs.Common.{◌≡◌, List, ℕ, drop, refl, sym, ap, ◌∙◌, subst}
use Rattle.iscsi_stream.specs.Framing.{Framing}
use Rattle.iscsi_target_session.specs.Session.{target_limit}
use Rattle.iscsi_target.specs.State.{Machine}
use Rattle.iscsi_target.specs.Feed.{scene, TargetConnection, Store}
use Rattle.iscsi_target.specs.Advances.{store_of}
use Rattle.iscsi_target.specs.inner.Inside.{target_connection, AnswersReady}
use Rattle.iscsi_target.proofs.Feed.FeedStepLemmas.{fed_none, fed_one, stays_within}
use Rattle.iscsi_target.specs.Asking.{has_cache}
use Rattle.iscsi_target.specs.inner.Asking.{NoneReadyAsks}
use Rattle.iscsi_target.specs.Crash.{CrashesNext}
use Rattle.iscsi_target.proofs.Feed.CrashLemmas.{next_by}
use Rattle.iscsi_target.proofs.Feed.NotingLemmas.{some_next}
use Rattle.iscsi_target.proofs.target.feed_one.Goals as goal

pub returns-clause-ok : goal.returns-clause-ok
returns-clause-ok g c =
    let before : Store = store_of (g.S.BlockStore.disk c.args.store.now) (g.S.BlockStore.failures c.args.store.now) in
    let after : Store = store_of (g.S.BlockStore.disk c.answer_ready.new.store) (g.S.BlockStore.failures c.answer_ready.new.store) in
    let new : TargetConnection = c.answer_ready.new.self in
    record {
      framing = c.take_bytes.new.self.framing;
      takes = c.in_ok-taken.ensures.ok;
      answers = subst (λ (m : Machine). AnswersReady g.S.BlockStore.protected
          (scene (target_connection m c.take_bytes.new.self.framing) before c.args.out.now.items)
          c.in_ok-broken.broken (scene new after c.answer_ready.new.out.items))
          c.in_ok-taken.ensures.kept c.in_ok-broken.ensures.ok;
    }

pub returns-clause-limit : goal.returns-clause-limit
returns-clause-limit g c =
    let old : TargetConnection = c.args.intake.now in
    let before : Store = store_of (g.S.BlockStore.disk c.args.store.now) (g.S.BlockStore.failures c.args.store.now) in
    let new : TargetConnection = c.answer_ready.new.self in
    let after : Store = store_of (g.S.BlockStore.disk c.answer_ready.new.store) (g.S.BlockStore.failures c.answer_ready.new.store) in
    let out : List ℕ = c.args.out.now.items in
    let piece : List ℕ = c.args.piece.now in
    let fed = fed_one g.S.BlockStore.protected (scene old before out) piece piece (drop c.in_ok-taken.taken piece) (scene old before out)
    c.in_ok-taken.taken c.in_ok-broken.broken (scene new after c.answer_ready.new.out.items)
    (fed_none g.S.BlockStore.protected old before out piece c.requires.unready c.requires.live) (returns-clause-ok g c) refl in
    stays_within g.S.BlockStore.protected old before out piece (drop c.in_ok-taken.taken piece) new after c.answer_ready.new.out.items fed.fed c.requires.limit

pub returns-clause-unready : goal.returns-clause-unready
returns-clause-unready g c =
    let old : TargetConnection = c.args.intake.now in
    let before : Store = store_of (g.S.BlockStore.disk c.args.store.now) (g.S.BlockStore.failures c.args.store.now) in
    let new : TargetConnection = c.answer_ready.new.self in
    let after : Store = store_of (g.S.BlockStore.disk c.answer_ready.new.store) (g.S.BlockStore.failures c.answer_ready.new.store) in
    let out : List ℕ = c.args.out.now.items in
    let piece : List ℕ = c.args.piece.now in
    let fed = fed_one g.S.BlockStore.protected (scene old before out) piece piece (drop c.in_ok-taken.taken piece) (scene old before out)
    c.in_ok-taken.taken c.in_ok-broken.broken (scene new after c.answer_ready.new.out.items)
    (fed_none g.S.BlockStore.protected old before out piece c.requires.unready c.requires.live) (returns-clause-ok g c) refl in
    fed.fed.answered.ready

pub returns-in_err-broken-clause-limit : goal.returns-in_err-broken-clause-limit
returns-in_err-broken-clause-limit g c =
    c.in_err-broken.ensures.err.limit ∙ ap (λ (v : Framing). v.limit) c.in_ok-taken.ensures.ok.gathered ∙ c.requires.limit
    ∙ ap target_limit (sym (c.in_err-broken.ensures.err.settings ∙ ap (λ (m : Machine). m.session.settings) c.in_ok-taken.ensures.kept))

pub returns-in_err-broken-clause-crash : goal.returns-in_err-broken-clause-crash
returns-in_err-broken-clause-crash g c =
    subst (λ (m : Machine). CrashesNext g.S.BlockStore.protected (target_connection m c.args.intake.now.framing) c.args.piece.now
    (g.S.BlockStore.disk c.args.store.now)
    (g.S.BlockStore.disk c.answer_ready.new.store) (g.S.BlockStore.kept c.args.store.now)
    (g.S.BlockStore.kept c.answer_ready.new.store)) c.in_ok-taken.ensures.kept
    (next_by g.S.BlockStore.protected (target_connection c.take_bytes.new.self.machine c.args.intake.now.framing) c.args.piece.now c.in_ok-taken.taken
    c.take_bytes.new.self.framing
    (g.S.BlockStore.disk c.args.store.now) (g.S.BlockStore.disk c.answer_ready.new.store) (g.S.BlockStore.kept c.args.store.now)
    (g.S.BlockStore.kept c.answer_ready.new.store)
    c.in_ok-taken.ensures.ok c.answer_ready.ensures.crash)

pub returns-clause-crash : goal.returns-clause-crash
returns-clause-crash g c =
    subst (λ (m : Machine). CrashesNext g.S.BlockStore.protected (target_connection m c.args.intake.now.framing) c.args.piece.now
    (g.S.BlockStore.disk c.args.store.now)
    (g.S.BlockStore.disk c.answer_ready.new.store) (g.S.BlockStore.kept c.args.store.now)
    (g.S.BlockStore.kept c.answer_ready.new.store)) c.in_ok-taken.ensures.kept
    (next_by g.S.BlockStore.protected (target_connection c.take_bytes.new.self.machine c.args.intake.now.framing) c.args.piece.now c.in_ok-taken.taken
    c.take_bytes.new.self.framing
    (g.S.BlockStore.disk c.args.store.now) (g.S.BlockStore.disk c.answer_ready.new.store) (g.S.BlockStore.kept c.args.store.now)
    (g.S.BlockStore.kept c.answer_ready.new.store)
    c.in_ok-taken.ensures.ok c.answer_ready.ensures.crash)

pub returns-clause-none : goal.returns-clause-none
returns-clause-none g c = λ cache quiet framing takes head segment ready means.
    (let same : framing ≡ c.take_bytes.new.self.framing = takes.gathered ∙ sym c.in_ok-taken.ensures.ok.gathered in
    let kept : c.take_bytes.new.self.machine ≡ c.args.intake.now.machine = c.in_ok-taken.ensures.kept in
    let none : NoneReadyAsks c.take_bytes.new.self.machine c.take_bytes.new.self.framing =
    c.note_asking.ensures.none (ap has_cache kept ∙ cache) quiet in
    subst (λ (m : Machine). NoneReadyAsks m framing) kept
    (subst (λ (v : Framing). NoneReadyAsks c.take_bytes.new.self.machine v) (sym same) none) head segment ready means)

pub returns-clause-only : goal.returns-clause-only
returns-clause-only g c = λ noted.
    some_next c.args.intake.now.machine c.take_bytes.new.self.machine c.args.intake.now.framing c.take_bytes.new.self.framing c.args.piece.now
    c.in_ok-taken.taken c.args.asks.now
    c.in_ok-taken.ensures.ok c.in_ok-taken.ensures.kept (c.note_asking.ensures.only noted)

pub returns-in_err-broken-clause-only : goal.returns-in_err-broken-clause-only
returns-in_err-broken-clause-only g c = λ noted.
    some_next c.args.intake.now.machine c.take_bytes.new.self.machine c.args.intake.now.framing c.take_bytes.new.self.framing c.args.piece.now
    c.in_ok-taken.taken c.args.asks.now
    c.in_ok-taken.ensures.ok c.in_ok-taken.ensures.kept (c.note_asking.ensures.only noted)
