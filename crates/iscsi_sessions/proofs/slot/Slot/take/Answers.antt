use Rattle.std.proofs.Common.{List, ℕ, ap, subst, ◌∙◌}
use Rattle.iscsi_target.specs.Crash.{CrashesNext}
use Rattle.iscsi_target.specs.Feed.{scene, TargetConnection}
use Rattle.iscsi_target.specs.Advances.{store_of}
use Rattle.iscsi_sessions.specs.Slots.{Slot}
use Rattle.iscsi_sessions.proofs.TakingLaw.{takes_at}
use Rattle.iscsi_sessions.proofs.slot.Slot.take.Goals as goal

pub returns-in-Ok-clause-takes : goal.returns-in-Ok-clause-takes
returns-in-Ok-clause-takes g c =
    takes_at g.S.BlockStore.protected c.args.self.now (scene c.self.inside.target
    (store_of (g.S.BlockStore.disk c.args.store.now) (g.S.BlockStore.failures c.args.store.now)) c.self.inside.output.items)
    (scene c.feed_asking.new.self (store_of (g.S.BlockStore.disk c.feed_asking.new.store) (g.S.BlockStore.failures c.feed_asking.new.store))
    c.feed_asking.new.out.items) (c.in-Ok.taken, c.in-Ok.field-0-1) c.as_bytes.result.now
    c.self.inside.unfed c.take.new.self c.self.inside.sent
    c.self.inside.asks c.feed_asking.new.asks c.self.inside.offered c.requires.may (c.self.view_is ∙ c.gather.ensures) c.self.invariant.1
    c.as_bytes.ensures.value c.take.ensures c.in-Ok.ensures.fed c.in-Ok.ensures.asks

pub returns-in-Err-clause-crash : goal.returns-in-Err-clause-crash
returns-in-Err-clause-crash g c =
    let same = c.self.view_is ∙ c.gather.ensures in
    subst (λ (u : List ℕ). CrashesNext g.S.BlockStore.protected c.args.self.now.connection u (g.S.BlockStore.disk c.args.store.now)
    (g.S.BlockStore.disk c.feed_asking.new.store) (g.S.BlockStore.kept c.args.store.now) (g.S.BlockStore.kept c.feed_asking.new.store))
    (c.as_bytes.ensures.value ∙ ap (λ (s : Slot). s.unfed) same)
    (subst (λ (x : TargetConnection). CrashesNext g.S.BlockStore.protected x c.as_bytes.result.now
    (g.S.BlockStore.disk c.args.store.now)
    (g.S.BlockStore.disk c.feed_asking.new.store) (g.S.BlockStore.kept c.args.store.now) (g.S.BlockStore.kept c.feed_asking.new.store))
    (ap (λ (s : Slot). s.connection) same) c.in-Err.ensures.crash)
