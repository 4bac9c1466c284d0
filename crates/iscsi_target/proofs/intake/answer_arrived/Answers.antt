use Rattle.std.proofs.Common.{ℕ, sym, subst}
use Rattle.std.specs.Prelude.{insert}
use Rattle.iscsi_pdu.specs.declared.head.Head.TheVariants as heads
use Rattle.iscsi_target.specs.Transfer.{joined_write, with_data}
use Rattle.iscsi_target.specs.Write.{Write}
use Rattle.iscsi_target.specs.declared.tasks.Task.TheVariants.{Data}
use Rattle.iscsi_target.specs.Feed.{Store}
use Rattle.iscsi_target.specs.Advances.{store_of}
use Rattle.iscsi_target.specs.inner.Inside.{AreInPlace}
use Rattle.iscsi_target.proofs.Feed.ArrivalLemmas.{arrived_done, arrived_short, arrived_crash, back_in_place}
use Rattle.iscsi_target.proofs.intake.answer_arrived.Goals as goal

pub resume-requires-clause-in_place : goal.resume-requires-clause-in_place
resume-requires-clause-in_place g c =
    let e = c.into_write-place.ensures in
    let tasks = c.args.machine.now.tasks in
    let w : Write = joined_write (with_data c.args.incoming.write c.args.incoming.head c.args.incoming.segment) in
    subst (λ (x : Write). AreInPlace (insert tasks c.into_write-place.result.0 (Data x))) (sym e.write)
    (subst (λ (p : ℕ). AreInPlace (insert tasks p (Data w))) (sym e.place)
    (back_in_place c.args.machine.now c.args.framer.now c.args.incoming c.requires.arrives))

pub returns-in-Ok-clause-ok : goal.returns-in-Ok-clause-ok
returns-in-Ok-clause-ok g c =
    let s = c.args.machine.now in
    let v = c.args.framer.now in
    let a = c.args.incoming in
    let h = c.requires.arrives in
    let before : Store = store_of (g.S.BlockStore.disk c.args.store.now) (g.S.BlockStore.failures c.args.store.now) in
    let after : Store = store_of (g.S.BlockStore.disk c.resume.new.store) (g.S.BlockStore.failures c.resume.new.store) in
    arrived_done g.S.BlockStore.protected c.in-Ok.broken s v c.skip.new.self a c.into_write-place.result.0 c.into_write-place.result.1 before
    c.args.out.now.items c.resume.new.self after c.resume.new.out.items h c.requires.there c.requires.limit c.into_write-place.ensures.place
    c.into_write-place.ensures.write (c.skip.ensures.skipped (heads.DataOut a.head) a.len h.live h.body.says) c.in-Ok.ensures.works

pub returns-in-Err-clause-err : goal.returns-in-Err-clause-err
returns-in-Err-clause-err g c =
    let s = c.args.machine.now in
    let v = c.args.framer.now in
    let a = c.args.incoming in
    let h = c.requires.arrives in
    let before : Store = store_of (g.S.BlockStore.disk c.args.store.now) (g.S.BlockStore.failures c.args.store.now) in
    let after : Store = store_of (g.S.BlockStore.disk c.resume.new.store) (g.S.BlockStore.failures c.resume.new.store) in
    arrived_short c.in-Err.error g.S.BlockStore.protected s v c.skip.new.self a c.into_write-place.result.0 c.into_write-place.result.1 before
    c.args.out.now.items c.resume.new.self c.close.new.self after c.resume.new.out.items h c.requires.there c.requires.limit c.into_write-place.ensures.place
    c.into_write-place.ensures.write (c.skip.ensures.skipped (heads.DataOut a.head) a.len h.live h.body.says) c.close.ensures c.in-Err.ensures.works

pub returns-in-Ok-clause-crash : goal.returns-in-Ok-clause-crash
returns-in-Ok-clause-crash g c =
    arrived_crash g.S.BlockStore.protected c.args.machine.now c.args.framer.now c.args.incoming c.into_write-place.result.0 c.into_write-place.result.1
    (g.S.BlockStore.disk c.args.store.now) (g.S.BlockStore.disk c.resume.new.store) (g.S.BlockStore.kept c.args.store.now)
    (g.S.BlockStore.kept c.resume.new.store) c.requires.arrives c.requires.there c.into_write-place.ensures.place c.into_write-place.ensures.write
    c.resume.ensures.crash

pub returns-in-Err-clause-crash : goal.returns-in-Err-clause-crash
returns-in-Err-clause-crash g c =
    arrived_crash g.S.BlockStore.protected c.args.machine.now c.args.framer.now c.args.incoming c.into_write-place.result.0 c.into_write-place.result.1
    (g.S.BlockStore.disk c.args.store.now) (g.S.BlockStore.disk c.resume.new.store) (g.S.BlockStore.kept c.args.store.now)
    (g.S.BlockStore.kept c.resume.new.store) c.requires.arrives c.requires.there c.into_write-place.ensures.place c.into_write-place.ensures.write
    c.resume.ensures.crash
