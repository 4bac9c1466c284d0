use Rattle.std.proofs.Common.{[], take}
use Rattle.std.proofs.lemmas.Result.{err_from_is_err_and}
use Rattle.iscsi_target.specs.Machine.{is_machine_closed}
use Rattle.iscsi_target.specs.Feed.{scene, Store}
use Rattle.iscsi_target.specs.Advances.{store_of}
use Rattle.iscsi_serve.specs.inner.SessionSteps.{service}
use Rattle.iscsi_serve.proofs.NextPduLemmas.{next_goes, next_rises}
use Rattle.iscsi_serve.proofs.SessionReadInvariant.{next_closes, next_is_closed, next_is_open}
use Rattle.iscsi_serve.proofs.SyncedLemmas.{closes_synced}
use Rattle.iscsi_serve.proofs.PieceLemmas.{goes_written}
use Rattle.iscsi_serve.proofs.NextPduLemmas.{write_loses, fault_breaks}
use Rattle.iscsi_serve.proofs.PieceLemmas.{breaks_held}
use Rattle.iscsi_serve.proofs.SyncedLemmas.{held_all}
use Rattle.iscsi_serve.proofs.SessionCrashLemmas.{next_crashes, next_advances, comes_synced, crashes_synced}
use Rattle.iscsi_serve.proofs.session.serve_next.Goals as goal

pub returns-in_err-write_out-in-Ok-clause-err : goal.returns-in_err-write_out-in-Ok-clause-err
returns-in_err-write_out-in-Ok-clause-err g c =
    let before : Store = store_of (g.S.BlockStore.disk c.args.store.now) (g.S.BlockStore.failures c.args.store.now) in
    let mid : Store = store_of (g.S.BlockStore.disk c.feed_next.new.store) (g.S.BlockStore.failures c.feed_next.new.store) in
    let after : Store = store_of (g.S.BlockStore.disk c.write_out.new.store) (g.S.BlockStore.failures c.write_out.new.store) in
    let contents = g.W.Write.contents c.args.w.now in
    let now = g.W.Write.contents c.write_out.new.w in
    let p = err_from_is_err_and c.from_residual.result c.from_residual.ensures.1 in
    rw (p.1, p.2) (breaks_held g.S.BlockStore.protected (service c.args.target.now before contents c.args.out.now.items)
    (service c.feed_next.new.self after now [])
    c.args.piece.now c.in_err-write_out-in-Ok.field-0.0 contents now c.feed_next.new.out.items c.in_err-write_out-in-Ok.ensures.err
    (write_loses g.S.BlockStore.protected (service c.args.target.now before contents c.args.out.now.items)
    (scene c.feed_next.new.self mid c.feed_next.new.out.items) after now c.args.piece.now []
    c.in_err-write_out-in-Ok.field-0.0 c.feed_next.result c.requires.live c.feed_next.ensures.fed c.in_err-write_out-in-Ok.ensures.store
    c.in_err-write_out-in-Ok.ensures.bytes
    c.in_err-write_out-in-Ok.ensures.err))

pub returns-in_err-write_out-in-Err-clause-err : goal.returns-in_err-write_out-in-Err-clause-err
returns-in_err-write_out-in-Err-clause-err g c =
    let before : Store = store_of (g.S.BlockStore.disk c.args.store.now) (g.S.BlockStore.failures c.args.store.now) in
    let mid : Store = store_of (g.S.BlockStore.disk c.feed_next.new.store) (g.S.BlockStore.failures c.feed_next.new.store) in
    let after : Store = store_of (g.S.BlockStore.disk c.write_out-in-Err.new.store) (g.S.BlockStore.failures c.write_out-in-Err.new.store) in
    let contents = g.W.Write.contents c.args.w.now in
    let now = g.W.Write.contents c.write_out-in-Err.new.w in
    let p = err_from_is_err_and c.from_residual-in_err-write_out-in-Err.result c.from_residual-in_err-write_out-in-Err.ensures.1 in
    rw (p.1, p.2) (breaks_held g.S.BlockStore.protected (service c.args.target.now before contents c.args.out.now.items)
    (service c.feed_next.new.self after now [])
    c.args.piece.now c.in_err-write_out-in-Err.field-0.0 contents now c.feed_next.new.out.items c.in_err-write_out-in-Err.ensures.err
    (write_loses g.S.BlockStore.protected (service c.args.target.now before contents c.args.out.now.items)
    (scene c.feed_next.new.self mid c.feed_next.new.out.items) after now c.args.piece.now []
    c.in_err-write_out-in-Err.field-0.0 c.feed_next.result c.requires.live c.feed_next.ensures.fed c.in_err-write_out-in-Err.ensures.store
    c.in_err-write_out-in-Err.ensures.bytes c.in_err-write_out-in-Err.ensures.err))

pub returns-in_ok-write_out-in-Ok-clause-goes : goal.returns-in_ok-write_out-in-Ok-clause-goes
returns-in_ok-write_out-in-Ok-clause-goes g c =
    let before : Store = store_of (g.S.BlockStore.disk c.args.store.now) (g.S.BlockStore.failures c.args.store.now) in
    let mid : Store = store_of (g.S.BlockStore.disk c.feed_next.new.store) (g.S.BlockStore.failures c.feed_next.new.store) in
    let after : Store = store_of (g.S.BlockStore.disk c.write_out.new.store) (g.S.BlockStore.failures c.write_out.new.store) in
    let contents = g.W.Write.contents c.args.w.now in
    rw c.in_ok-write_out-in-Ok.ensures.none
    (goes_written g.S.BlockStore.protected (service c.args.target.now before contents c.args.out.now.items) (take c.in-Ok.done.0 c.args.piece.now)
    c.feed_next.new.self mid after
    contents (g.W.Write.contents c.write_out.new.w) c.feed_next.new.out.items
    (next_goes g.S.BlockStore.protected c.args.target.now c.feed_next.new.self before mid contents c.args.out.now.items c.args.piece.now
    c.feed_next.new.out.items c.in-Ok.done
    c.in-Ok.ensures.fed)
    c.in_ok-write_out-in-Ok.ensures.store c.in_ok-write_out-in-Ok.ensures.bytes c.in_ok-write_out-in-Ok.ensures.ok)

pub returns-in_ok-write_out-in-Ok-clause-closes : goal.returns-in_ok-write_out-in-Ok-clause-closes
returns-in_ok-write_out-in-Ok-clause-closes g c =
    let before : Store = store_of (g.S.BlockStore.disk c.args.store.now) (g.S.BlockStore.failures c.args.store.now) in
    let mid : Store = store_of (g.S.BlockStore.disk c.feed_next.new.store) (g.S.BlockStore.failures c.feed_next.new.store) in
    let after : Store = store_of (g.S.BlockStore.disk c.write_out.new.store) (g.S.BlockStore.failures c.write_out.new.store) in
    let contents = g.W.Write.contents c.args.w.now in
    λ over. (
      next_is_closed g.S.BlockStore.protected (is_machine_closed c.args.target.now.machine) c.args.target.now c.feed_next.new.self before mid
          c.args.out.now.items c.args.piece.now
          c.feed_next.new.out.items c.in-Ok.done c.in-Ok.ensures.fed over,
      closes_synced g.S.BlockStore.protected (service c.args.target.now before contents c.args.out.now.items) (take c.in-Ok.done.0 c.args.piece.now) mid after
          (next_rises g.S.BlockStore.protected c.args.target.now c.feed_next.new.self before mid c.args.out.now.items c.args.piece.now
          c.feed_next.new.out.items c.feed_next.result
          c.feed_next.ensures.fed) c.in_ok-write_out-in-Ok.ensures.store
          (next_closes g.S.BlockStore.protected c.args.target.now c.feed_next.new.self before mid contents c.args.out.now.items c.args.piece.now
          c.feed_next.new.out.items c.in-Ok.done
          c.in-Ok.ensures.fed over),
    )

pub returns-else-len-gt-MOST_WAITING-clause-goes : goal.returns-else-len-gt-MOST_WAITING-clause-goes
returns-else-len-gt-MOST_WAITING-clause-goes g c =
    let before : Store = store_of (g.S.BlockStore.disk c.args.store.now) (g.S.BlockStore.failures c.args.store.now) in
    let after : Store = store_of (g.S.BlockStore.disk c.feed_next.new.store) (g.S.BlockStore.failures c.feed_next.new.store) in
    let contents = g.W.Write.contents c.args.w.now in
    next_goes g.S.BlockStore.protected c.args.target.now c.feed_next.new.self before after contents c.args.out.now.items c.args.piece.now
    c.feed_next.new.out.items c.in-Ok.done
    c.in-Ok.ensures.fed

pub returns-else-len-gt-MOST_WAITING-clause-closes : goal.returns-else-len-gt-MOST_WAITING-clause-closes
returns-else-len-gt-MOST_WAITING-clause-closes g c =
    let before : Store = store_of (g.S.BlockStore.disk c.args.store.now) (g.S.BlockStore.failures c.args.store.now) in
    let after : Store = store_of (g.S.BlockStore.disk c.feed_next.new.store) (g.S.BlockStore.failures c.feed_next.new.store) in
    let contents = g.W.Write.contents c.args.w.now in
    λ over. (
      next_is_closed g.S.BlockStore.protected (is_machine_closed c.args.target.now.machine) c.args.target.now c.feed_next.new.self before after
          c.args.out.now.items c.args.piece.now
          c.feed_next.new.out.items c.in-Ok.done c.in-Ok.ensures.fed over,
      next_closes g.S.BlockStore.protected c.args.target.now c.feed_next.new.self before after contents c.args.out.now.items c.args.piece.now
          c.feed_next.new.out.items c.in-Ok.done
          c.in-Ok.ensures.fed over,
    )

pub returns-in_ok-write_out-in-Err-clause-err : goal.returns-in_ok-write_out-in-Err-clause-err
returns-in_ok-write_out-in-Err-clause-err g c =
    let before : Store = store_of (g.S.BlockStore.disk c.args.store.now) (g.S.BlockStore.failures c.args.store.now) in
    let mid : Store = store_of (g.S.BlockStore.disk c.feed_next.new.store) (g.S.BlockStore.failures c.feed_next.new.store) in
    let after : Store = store_of (g.S.BlockStore.disk c.write_out-in-Err.new.store) (g.S.BlockStore.failures c.write_out-in-Err.new.store) in
    let contents = g.W.Write.contents c.args.w.now in
    rw c.from.ensures (fault_breaks g.S.BlockStore.protected c.args.target.now c.feed_next.new.self before mid after contents
    (g.W.Write.contents c.write_out-in-Err.new.w)
    c.args.out.now.items c.args.piece.now c.feed_next.new.out.items c.in-Err.fault c.requires.live c.in-Err.ensures.fed
    c.in_ok-write_out-in-Err.ensures.store c.in_ok-write_out-in-Err.ensures.bytes c.in_ok-write_out-in-Err.ensures.ok)

pub returns-in_ok-write_out-in-Ok-clause-open : goal.returns-in_ok-write_out-in-Ok-clause-open
returns-in_ok-write_out-in-Ok-clause-open g c =
    let before : Store = store_of (g.S.BlockStore.disk c.args.store.now) (g.S.BlockStore.failures c.args.store.now) in
    let mid : Store = store_of (g.S.BlockStore.disk c.feed_next.new.store) (g.S.BlockStore.failures c.feed_next.new.store) in
    let after : Store = store_of (g.S.BlockStore.disk c.write_out.new.store) (g.S.BlockStore.failures c.write_out.new.store) in
    let contents = g.W.Write.contents c.args.w.now in
    λ open_. next_is_open g.S.BlockStore.protected (is_machine_closed c.args.target.now.machine) c.args.target.now c.feed_next.new.self before mid
    c.args.out.now.items c.args.piece.now
    c.feed_next.new.out.items c.in-Ok.done c.in-Ok.ensures.fed open_

pub returns-else-len-gt-MOST_WAITING-clause-open : goal.returns-else-len-gt-MOST_WAITING-clause-open
returns-else-len-gt-MOST_WAITING-clause-open g c =
    let before : Store = store_of (g.S.BlockStore.disk c.args.store.now) (g.S.BlockStore.failures c.args.store.now) in
    let after : Store = store_of (g.S.BlockStore.disk c.feed_next.new.store) (g.S.BlockStore.failures c.feed_next.new.store) in
    let contents = g.W.Write.contents c.args.w.now in
    λ open_. next_is_open g.S.BlockStore.protected (is_machine_closed c.args.target.now.machine) c.args.target.now c.feed_next.new.self before after
    c.args.out.now.items c.args.piece.now
    c.feed_next.new.out.items c.in-Ok.done c.in-Ok.ensures.fed open_

pub returns-in_err-write_out-in-Ok-clause-crash : goal.returns-in_err-write_out-in-Ok-clause-crash
returns-in_err-write_out-in-Ok-clause-crash g c =
    let before : Store = store_of (g.S.BlockStore.disk c.args.store.now) (g.S.BlockStore.failures c.args.store.now) in
    let mid : Store = store_of (g.S.BlockStore.disk c.feed_next.new.store) (g.S.BlockStore.failures c.feed_next.new.store) in
    let after : Store = store_of (g.S.BlockStore.disk c.write_out.new.store) (g.S.BlockStore.failures c.write_out.new.store) in
    let contents = g.W.Write.contents c.args.w.now in
    crashes_synced g.S.BlockStore.protected c.args.target.now before mid after c.args.piece.now (g.S.BlockStore.kept c.args.store.now)
    (g.S.BlockStore.kept c.feed_next.new.store)
    (g.S.BlockStore.kept c.write_out.new.store)
    (next_crashes g.S.BlockStore.protected c.args.target.now c.feed_next.new.self before mid c.args.out.now.items c.args.piece.now
    c.feed_next.new.out.items c.feed_next.result
    (g.S.BlockStore.kept c.args.store.now) (g.S.BlockStore.kept c.feed_next.new.store) c.feed_next.ensures.fed c.feed_next.ensures.crash)
    c.in_err-write_out-in-Ok.ensures.store c.in_err-write_out-in-Ok.ensures.kept

pub returns-in_err-write_out-in-Err-clause-crash : goal.returns-in_err-write_out-in-Err-clause-crash
returns-in_err-write_out-in-Err-clause-crash g c =
    let before : Store = store_of (g.S.BlockStore.disk c.args.store.now) (g.S.BlockStore.failures c.args.store.now) in
    let mid : Store = store_of (g.S.BlockStore.disk c.feed_next.new.store) (g.S.BlockStore.failures c.feed_next.new.store) in
    let after : Store = store_of (g.S.BlockStore.disk c.write_out-in-Err.new.store) (g.S.BlockStore.failures c.write_out-in-Err.new.store) in
    let contents = g.W.Write.contents c.args.w.now in
    crashes_synced g.S.BlockStore.protected c.args.target.now before mid after c.args.piece.now (g.S.BlockStore.kept c.args.store.now)
    (g.S.BlockStore.kept c.feed_next.new.store)
    (g.S.BlockStore.kept c.write_out-in-Err.new.store)
    (next_crashes g.S.BlockStore.protected c.args.target.now c.feed_next.new.self before mid c.args.out.now.items c.args.piece.now
    c.feed_next.new.out.items c.feed_next.result
    (g.S.BlockStore.kept c.args.store.now) (g.S.BlockStore.kept c.feed_next.new.store) c.feed_next.ensures.fed c.feed_next.ensures.crash)
    c.in_err-write_out-in-Err.ensures.store c.in_err-write_out-in-Err.ensures.kept

pub returns-in_ok-write_out-in-Ok-clause-crash : goal.returns-in_ok-write_out-in-Ok-clause-crash
returns-in_ok-write_out-in-Ok-clause-crash g c =
    let before : Store = store_of (g.S.BlockStore.disk c.args.store.now) (g.S.BlockStore.failures c.args.store.now) in
    let mid : Store = store_of (g.S.BlockStore.disk c.feed_next.new.store) (g.S.BlockStore.failures c.feed_next.new.store) in
    let after : Store = store_of (g.S.BlockStore.disk c.write_out.new.store) (g.S.BlockStore.failures c.write_out.new.store) in
    let contents = g.W.Write.contents c.args.w.now in
    crashes_synced g.S.BlockStore.protected c.args.target.now before mid after c.args.piece.now (g.S.BlockStore.kept c.args.store.now)
    (g.S.BlockStore.kept c.feed_next.new.store)
    (g.S.BlockStore.kept c.write_out.new.store)
    (next_crashes g.S.BlockStore.protected c.args.target.now c.feed_next.new.self before mid c.args.out.now.items c.args.piece.now
    c.feed_next.new.out.items c.feed_next.result
    (g.S.BlockStore.kept c.args.store.now) (g.S.BlockStore.kept c.feed_next.new.store) c.feed_next.ensures.fed c.feed_next.ensures.crash)
    c.in_ok-write_out-in-Ok.ensures.store c.in_ok-write_out-in-Ok.ensures.kept

pub returns-in_ok-write_out-in-Err-clause-crash : goal.returns-in_ok-write_out-in-Err-clause-crash
returns-in_ok-write_out-in-Err-clause-crash g c =
    let before : Store = store_of (g.S.BlockStore.disk c.args.store.now) (g.S.BlockStore.failures c.args.store.now) in
    let mid : Store = store_of (g.S.BlockStore.disk c.feed_next.new.store) (g.S.BlockStore.failures c.feed_next.new.store) in
    let after : Store = store_of (g.S.BlockStore.disk c.write_out-in-Err.new.store) (g.S.BlockStore.failures c.write_out-in-Err.new.store) in
    let contents = g.W.Write.contents c.args.w.now in
    crashes_synced g.S.BlockStore.protected c.args.target.now before mid after c.args.piece.now (g.S.BlockStore.kept c.args.store.now)
    (g.S.BlockStore.kept c.feed_next.new.store)
    (g.S.BlockStore.kept c.write_out-in-Err.new.store)
    (next_crashes g.S.BlockStore.protected c.args.target.now c.feed_next.new.self before mid c.args.out.now.items c.args.piece.now
    c.feed_next.new.out.items c.feed_next.result
    (g.S.BlockStore.kept c.args.store.now) (g.S.BlockStore.kept c.feed_next.new.store) c.feed_next.ensures.fed c.feed_next.ensures.crash)
    c.in_ok-write_out-in-Err.ensures.store c.in_ok-write_out-in-Err.ensures.kept

pub returns-else-len-gt-MOST_WAITING-clause-crash : goal.returns-else-len-gt-MOST_WAITING-clause-crash
returns-else-len-gt-MOST_WAITING-clause-crash g c =
    let before : Store = store_of (g.S.BlockStore.disk c.args.store.now) (g.S.BlockStore.failures c.args.store.now) in
    let after : Store = store_of (g.S.BlockStore.disk c.feed_next.new.store) (g.S.BlockStore.failures c.feed_next.new.store) in
    let contents = g.W.Write.contents c.args.w.now in
    next_crashes g.S.BlockStore.protected c.args.target.now c.feed_next.new.self before after c.args.out.now.items c.args.piece.now
    c.feed_next.new.out.items c.feed_next.result
    (g.S.BlockStore.kept c.args.store.now) (g.S.BlockStore.kept c.feed_next.new.store) c.feed_next.ensures.fed c.feed_next.ensures.crash

pub returns-in_ok-write_out-in-Ok-clause-advances : goal.returns-in_ok-write_out-in-Ok-clause-advances
returns-in_ok-write_out-in-Ok-clause-advances g c =
    let before : Store = store_of (g.S.BlockStore.disk c.args.store.now) (g.S.BlockStore.failures c.args.store.now) in
    let mid : Store = store_of (g.S.BlockStore.disk c.feed_next.new.store) (g.S.BlockStore.failures c.feed_next.new.store) in
    let after : Store = store_of (g.S.BlockStore.disk c.write_out.new.store) (g.S.BlockStore.failures c.write_out.new.store) in
    let contents = g.W.Write.contents c.args.w.now in
    λ open_. comes_synced g.S.BlockStore.protected c.args.target.now c.feed_next.new.self before mid after (take c.in-Ok.done.0 c.args.piece.now)
    (next_advances g.S.BlockStore.protected (is_machine_closed c.args.target.now.machine) c.args.target.now c.feed_next.new.self before mid
    c.args.out.now.items c.args.piece.now
    c.feed_next.new.out.items c.in-Ok.done c.in-Ok.ensures.fed open_)
    c.in_ok-write_out-in-Ok.ensures.store

pub returns-else-len-gt-MOST_WAITING-clause-advances : goal.returns-else-len-gt-MOST_WAITING-clause-advances
returns-else-len-gt-MOST_WAITING-clause-advances g c =
    let before : Store = store_of (g.S.BlockStore.disk c.args.store.now) (g.S.BlockStore.failures c.args.store.now) in
    let after : Store = store_of (g.S.BlockStore.disk c.feed_next.new.store) (g.S.BlockStore.failures c.feed_next.new.store) in
    let contents = g.W.Write.contents c.args.w.now in
    λ open_. next_advances g.S.BlockStore.protected (is_machine_closed c.args.target.now.machine) c.args.target.now c.feed_next.new.self before after
    c.args.out.now.items c.args.piece.now
    c.feed_next.new.out.items c.in-Ok.done c.in-Ok.ensures.fed open_

pub returns-in_err-write_out-in-Ok-clause-unsent : goal.returns-in_err-write_out-in-Ok-clause-unsent
returns-in_err-write_out-in-Ok-clause-unsent g c =
    let p = err_from_is_err_and c.from_residual.result c.from_residual.ensures.1 in
    rw (p.1, p.2) (λ is. held_all c.in_err-write_out-in-Ok.field-0.0 (g.W.Write.contents c.args.w.now) (g.W.Write.contents c.write_out.new.w)
    c.feed_next.new.out.items is c.in_err-write_out-in-Ok.ensures.err)

pub returns-in_err-write_out-in-Err-clause-unsent : goal.returns-in_err-write_out-in-Err-clause-unsent
returns-in_err-write_out-in-Err-clause-unsent g c =
    let p = err_from_is_err_and c.from_residual-in_err-write_out-in-Err.result c.from_residual-in_err-write_out-in-Err.ensures.1 in
    rw (p.1, p.2) (λ is. held_all c.in_err-write_out-in-Err.field-0.0 (g.W.Write.contents c.args.w.now) (g.W.Write.contents c.write_out-in-Err.new.w)
    c.feed_next.new.out.items is c.in_err-write_out-in-Err.ensures.err)
