use Rattle.std.proofs.Common.{◌≡◌, false, inl, refl, sym, ap, subst, ◌∙◌}
use Rattle.std.specs.Prelude.{Some, OnErr}
use Rattle.iscsi_stream.specs.Framing.{is_ready}
use Rattle.iscsi_stream.proofs.ReadyLemmas.{apart}
use Rattle.iscsi_target_session.specs.Session.{target_limit}
use Rattle.iscsi_target.specs.Machine.{is_machine_closed}
use Rattle.iscsi_target.specs.Feed.{TargetConnection, Store, scene}
use Rattle.iscsi_target.specs.inner.Crash.{CrashesReady}
use Rattle.iscsi_target.specs.Advances.{store_of}
use Rattle.iscsi_target.specs.inner.Inside.{TargetShutsReady, target_connection}
use Rattle.iscsi_target.specs.inner.Arrival.{ArrivesForWrite, MayArrive, connected}
use Rattle.iscsi_target.proofs.Feed.ArrivalLemmas.{arriving_unready, ready_done, ready_same}
use Rattle.iscsi_target.proofs.intake.Intake.answer_ready.Goals as goal

pub returns-then-not-is_there-clause-ok : goal.returns-then-not-is_there-clause-ok
returns-then-not-is_there-clause-ok g c =
    let s = c.self.inside.machine in
    let v = c.self.inside.framer in
    let a = c.in-Some.incoming in
    let old : connected s v (Some a) ≡ c.args.self.now = ap (connected s v) (sym c.in-Some.is ∙ c.take.ensures.value) ∙ c.self.view_is in
    let arrives : ArrivesForWrite s v a = subst (MayArrive s v) (sym c.take.ensures.value ∙ c.in-Some.is) c.self.invariant in
    inl (record {
      unready = subst (λ (x : TargetConnection). is_ready x.framing ≡ false) old
          (arriving_unready s v a arrives (λ there. apart (c.is_there.ensures.1 there) c.if-not-is_there.true));
      connection_is = old;
      store_is = refl;
      output_is = refl;
      rule_is = refl;
    })

pub answer_arrived-requires-clause-arrives : goal.answer_arrived-requires-clause-arrives
answer_arrived-requires-clause-arrives g c =
    subst (MayArrive c.self.inside.machine c.self.inside.framer) (sym c.take.ensures.value ∙ c.in-Some.is) c.self.invariant

pub answer_arrived-requires-clause-limit : goal.answer_arrived-requires-clause-limit
answer_arrived-requires-clause-limit g c =
    subst (λ (x : TargetConnection). x.framing.limit ≡ target_limit x.machine.session.settings) (sym c.self.view_is) c.requires.limit

pub answer_framed-requires-clause-limit : goal.answer_framed-requires-clause-limit
answer_framed-requires-clause-limit g c =
    subst (λ (x : TargetConnection). x.framing.limit ≡ target_limit x.machine.session.settings) (sym c.self.view_is) c.requires.limit

pub answer_framed-requires-clause-live : goal.answer_framed-requires-clause-live
answer_framed-requires-clause-live g c = subst (λ (x : TargetConnection). is_machine_closed x.machine ≡ false) (sym c.self.view_is) c.requires.live

pub returns-else-not-is_there-clause-ok : goal.returns-else-not-is_there-clause-ok
returns-else-not-is_there-clause-ok g c =
    let s = c.self.inside.machine in
    let v = c.self.inside.framer in
    let a = c.in-Some.incoming in
    let t = c.answer_arrived.new.machine in
    let w = c.answer_arrived.new.framer in
    let before : Store = store_of (g.S.BlockStore.disk c.args.store.now) (g.S.BlockStore.failures c.args.store.now) in
    let after : Store = store_of (g.S.BlockStore.disk c.answer_arrived.new.store) (g.S.BlockStore.failures c.answer_arrived.new.store) in
    ready_done g.S.BlockStore.protected c.answer_arrived.result (connected s v (Some a)) c.args.self.now (target_connection t w) (connected t w c.take.new.self)
    before after c.args.out.now.items c.answer_arrived.new.out.items
    (ap (connected s v) (sym c.in-Some.is ∙ c.take.ensures.value) ∙ c.self.view_is) (ap (connected t w) (sym c.take.ensures.after)) c.answer_arrived.ensures.ok

pub returns-else-not-is_there-clause-err : goal.returns-else-not-is_there-clause-err
returns-else-not-is_there-clause-err g c =
    let s = c.self.inside.machine in
    let v = c.self.inside.framer in
    let a = c.in-Some.incoming in
    let t = c.answer_arrived.new.machine in
    let w = c.answer_arrived.new.framer in
    let before : Store = store_of (g.S.BlockStore.disk c.args.store.now) (g.S.BlockStore.failures c.args.store.now) in
    let after : Store = store_of (g.S.BlockStore.disk c.answer_arrived.new.store) (g.S.BlockStore.failures c.answer_arrived.new.store) in
    subst (λ (x : TargetConnection). OnErr c.answer_arrived.result (TargetShutsReady g.S.BlockStore.protected (scene x before c.args.out.now.items)
    (scene (connected t w c.take.new.self) after c.answer_arrived.new.out.items)))
    (ap (connected s v) (sym c.in-Some.is ∙ c.take.ensures.value) ∙ c.self.view_is)
    (subst (λ (x : TargetConnection). OnErr c.answer_arrived.result (TargetShutsReady g.S.BlockStore.protected
    (scene (connected s v (Some a)) before c.args.out.now.items)
    (scene x after c.answer_arrived.new.out.items))) (ap (connected t w) (sym c.take.ensures.after)) c.answer_arrived.ensures.err)

pub returns-else-not-is_there-clause-crash : goal.returns-else-not-is_there-clause-crash
returns-else-not-is_there-clause-crash g c =
    subst (λ (x : TargetConnection). CrashesReady g.S.BlockStore.protected x (g.S.BlockStore.disk c.args.store.now)
    (g.S.BlockStore.disk c.answer_arrived.new.store)
    (g.S.BlockStore.kept c.args.store.now) (g.S.BlockStore.kept c.answer_arrived.new.store))
    (ap (connected c.self.inside.machine c.self.inside.framer) (sym c.in-Some.is ∙ c.take.ensures.value) ∙ c.self.view_is) c.answer_arrived.ensures.crash

pub returns-in-None-clause-ok : goal.returns-in-None-clause-ok
returns-in-None-clause-ok g c =
    let s = c.self.inside.machine in
    let v = c.self.inside.framer in
    let t = c.answer_framed.new.machine in
    let w = c.answer_framed.new.framer in
    let before : Store = store_of (g.S.BlockStore.disk c.args.store.now) (g.S.BlockStore.failures c.args.store.now) in
    let after : Store = store_of (g.S.BlockStore.disk c.answer_framed.new.store) (g.S.BlockStore.failures c.answer_framed.new.store) in
    ready_same g.S.BlockStore.protected c.answer_framed.result (target_connection s v) c.args.self.now (target_connection t w) (connected t w c.take.new.self)
    before after c.args.out.now.items c.answer_framed.new.out.items
    (ap (connected s v) (sym c.in-None.is ∙ c.take.ensures.value) ∙ c.self.view_is) (ap (connected t w) (sym c.take.ensures.after)) c.answer_framed.ensures.ok

pub returns-in-None-clause-err : goal.returns-in-None-clause-err
returns-in-None-clause-err g c =
    let s = c.self.inside.machine in
    let v = c.self.inside.framer in
    let t = c.answer_framed.new.machine in
    let w = c.answer_framed.new.framer in
    let before : Store = store_of (g.S.BlockStore.disk c.args.store.now) (g.S.BlockStore.failures c.args.store.now) in
    let after : Store = store_of (g.S.BlockStore.disk c.answer_framed.new.store) (g.S.BlockStore.failures c.answer_framed.new.store) in
    subst (λ (x : TargetConnection). OnErr c.answer_framed.result (TargetShutsReady g.S.BlockStore.protected (scene x before c.args.out.now.items)
    (scene (connected t w c.take.new.self) after c.answer_framed.new.out.items)))
    (ap (connected s v) (sym c.in-None.is ∙ c.take.ensures.value) ∙ c.self.view_is)
    (subst (λ (x : TargetConnection). OnErr c.answer_framed.result (TargetShutsReady g.S.BlockStore.protected
    (scene (target_connection s v) before c.args.out.now.items)
    (scene x after c.answer_framed.new.out.items))) (ap (connected t w) (sym c.take.ensures.after)) c.answer_framed.ensures.err)

pub returns-in-None-clause-crash : goal.returns-in-None-clause-crash
returns-in-None-clause-crash g c =
    subst (λ (x : TargetConnection). CrashesReady g.S.BlockStore.protected x (g.S.BlockStore.disk c.args.store.now)
    (g.S.BlockStore.disk c.answer_framed.new.store)
    (g.S.BlockStore.kept c.args.store.now) (g.S.BlockStore.kept c.answer_framed.new.store))
    (ap (connected c.self.inside.machine c.self.inside.framer) (sym c.in-None.is ∙ c.take.ensures.value) ∙ c.self.view_is) c.answer_framed.ensures.crash
