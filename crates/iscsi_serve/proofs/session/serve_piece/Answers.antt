use Rattle.std.proofs.Common.{List, ℕ, [], length, drop, sym, subst, ◌∙◌, arith}
use Rattle.std.proofs.lemmas.Bool.{eqb-true}
use Rattle.std.proofs.lemmas.List.{take_rest}
use Rattle.std.proofs.lemmas.Result.{err_from_is_err_and}
use Rattle.iscsi_target.specs.Feed.{Store}
use Rattle.iscsi_target.specs.Advances.{store_of}
use Rattle.iscsi_serve.specs.inner.SessionSteps.{ServedTarget, service}
use Rattle.iscsi_serve.proofs.PieceLemmas.{PieceUpTo, piece_next, piece_breaks, piece_lost, piece_done, piece_over, piece_closes}
use Rattle.iscsi_serve.proofs.PieceLemmas.{piece_start}
use Rattle.iscsi_serve.proofs.SyncedLemmas.{closes_synced, held_all}
use Rattle.iscsi_serve.proofs.SessionCrashLemmas.{AdvancesUpTo, piece_begins, piece_advances, piece_advanced, piece_crashes, comes_synced, crashes_synced}
use Rattle.iscsi_serve.proofs.SessionCrashLemmas.{LastUpTo, SomeSynced, last_begins, last_more, last_stops, last_closed, last_synced, last_done, serving}
use Rattle.iscsi_target.proofs.Feed.PassedLemmas.{crashes_none}
use Rattle.iscsi_serve.proofs.session.serve_piece.Goals as goal

pub loop-rest-init : goal.loop-rest-init
loop-rest-init g c =
    let before : Store = store_of (g.S.BlockStore.disk c.args.store.now) (g.S.BlockStore.failures c.args.store.now) in (
      c.requires.live,
      subst (λ (waiting : List ℕ). PieceUpTo g.S.BlockStore.protected (service c.args.target.now before (g.W.Write.contents c.args.w.now) [])
          c.args.piece.now c.args.piece.now
          (service c.args.target.now before (g.W.Write.contents c.args.w.now) waiting)) (sym c.clear.ensures.items)
          (piece_start g.S.BlockStore.protected (service c.args.target.now before (g.W.Write.contents c.args.w.now) []) c.args.piece.now),
      piece_begins g.S.BlockStore.protected c.args.target.now before c.args.piece.now,
      (omega arith, crashes_none g.S.BlockStore.protected c.args.target.now before c.args.piece.now (g.S.BlockStore.kept c.args.store.now)),
      λ synced. (
        c.args.store.now,
        synced,
        last_begins g.S.BlockStore.protected c.args.target.now before (g.W.Write.contents c.args.w.now) _ c.args.piece.now
            (g.S.BlockStore.kept c.args.store.now),
      ),
    )

pub returns-in_err-taken-clause-err : goal.returns-in_err-taken-clause-err
returns-in_err-taken-clause-err g c =
    let old : ServedTarget = service c.args.target.now (store_of (g.S.BlockStore.disk c.args.store.now) (g.S.BlockStore.failures c.args.store.now))
    (g.W.Write.contents c.args.w.now) [] in
    let mid : ServedTarget = service c.loop-rest.target (store_of (g.S.BlockStore.disk c.loop-rest.store) (g.S.BlockStore.failures c.loop-rest.store))
    (g.W.Write.contents c.loop-rest.w) c.loop-rest.out.items in
    let after : Store = store_of (g.S.BlockStore.disk c.serve_next.new.store) (g.S.BlockStore.failures c.serve_next.new.store) in
    let p = err_from_is_err_and c.from_residual.result c.from_residual.ensures.1 in
    rw (p.1, p.2) (piece_breaks g.S.BlockStore.protected old mid (service c.serve_next.new.target after (g.W.Write.contents c.serve_next.new.w) [])
    c.args.piece.now c.loop-rest.rest.now
    c.in_err-taken.field-0.0 c.loop-rest.invariant.1 c.in_err-taken.ensures.err)

pub returns-in_err-write_out-clause-err : goal.returns-in_err-write_out-clause-err
returns-in_err-write_out-clause-err g c =
    let old : ServedTarget = service c.args.target.now (store_of (g.S.BlockStore.disk c.args.store.now) (g.S.BlockStore.failures c.args.store.now))
    (g.W.Write.contents c.args.w.now) [] in
    let mid : ServedTarget = service c.loop-rest.target (store_of (g.S.BlockStore.disk c.loop-rest.store) (g.S.BlockStore.failures c.loop-rest.store))
    (g.W.Write.contents c.loop-rest.w) c.loop-rest.out.items in
    let after : Store = store_of (g.S.BlockStore.disk c.serve_next.new.store) (g.S.BlockStore.failures c.serve_next.new.store) in
    let contents = g.W.Write.contents c.serve_next.new.w in
    let new : ServedTarget = service c.serve_next.new.target after contents c.serve_next.new.out.items in
    let left : List ℕ = drop c.in_ok-taken.taken c.loop-rest.rest.now in
    let up : PieceUpTo g.S.BlockStore.protected old c.args.piece.now left new = piece_next g.S.BlockStore.protected old mid new c.args.piece.now
    c.loop-rest.rest.now c.in_ok-taken.taken c.loop-rest.invariant.1
    c.in_ok-taken.ensures.goes in
    let p = err_from_is_err_and c.from_residual-in_err-write_out.result c.from_residual-in_err-write_out.ensures.1 in
    let last : Store = store_of (g.S.BlockStore.disk c.write_out.new.store) (g.S.BlockStore.failures c.write_out.new.store) in
    rw (p.1, p.2) (piece_lost g.S.BlockStore.protected old c.args.piece.now left c.serve_next.new.target after last contents
    (g.W.Write.contents c.write_out.new.w)
    c.serve_next.new.out.items c.in_err-write_out.field-0.0 up c.in_err-write_out.ensures.store c.in_err-write_out.ensures.bytes
    c.in_err-write_out.ensures.err)

pub returns-then-is_over-clause-goes : goal.returns-then-is_over-clause-goes
returns-then-is_over-clause-goes g c =
    let old : ServedTarget = service c.args.target.now (store_of (g.S.BlockStore.disk c.args.store.now) (g.S.BlockStore.failures c.args.store.now))
    (g.W.Write.contents c.args.w.now) [] in
    let mid : ServedTarget = service c.loop-rest.target (store_of (g.S.BlockStore.disk c.loop-rest.store) (g.S.BlockStore.failures c.loop-rest.store))
    (g.W.Write.contents c.loop-rest.w) c.loop-rest.out.items in
    let after : Store = store_of (g.S.BlockStore.disk c.serve_next.new.store) (g.S.BlockStore.failures c.serve_next.new.store) in
    let contents = g.W.Write.contents c.serve_next.new.w in
    let new : ServedTarget = service c.serve_next.new.target after contents c.serve_next.new.out.items in
    let left : List ℕ = drop c.in_ok-taken.taken c.loop-rest.rest.now in
    let up : PieceUpTo g.S.BlockStore.protected old c.args.piece.now left new = piece_next g.S.BlockStore.protected old mid new c.args.piece.now
    c.loop-rest.rest.now c.in_ok-taken.taken c.loop-rest.invariant.1
    c.in_ok-taken.ensures.goes in
    let over = c.in_ok-taken.ensures.closes (sym c.is_over.ensures ∙ c.if-is_over.true) in
    let last : Store = store_of (g.S.BlockStore.disk c.write_out.new.store) (g.S.BlockStore.failures c.write_out.new.store) in
    piece_over g.S.BlockStore.protected old c.args.piece.now left c.serve_next.new.target after last contents (g.W.Write.contents c.write_out.new.w)
    c.serve_next.new.out.items up over.0
    c.in_ok-write_out.ensures.store c.in_ok-write_out.ensures.bytes c.in_ok-write_out.ensures.ok

pub returns-then-is_over-clause-closes : goal.returns-then-is_over-clause-closes
returns-then-is_over-clause-closes g c = λ _.
    let old : ServedTarget = service c.args.target.now (store_of (g.S.BlockStore.disk c.args.store.now) (g.S.BlockStore.failures c.args.store.now))
    (g.W.Write.contents c.args.w.now) [] in
    let mid : ServedTarget = service c.loop-rest.target (store_of (g.S.BlockStore.disk c.loop-rest.store) (g.S.BlockStore.failures c.loop-rest.store))
    (g.W.Write.contents c.loop-rest.w) c.loop-rest.out.items in
    let after : Store = store_of (g.S.BlockStore.disk c.serve_next.new.store) (g.S.BlockStore.failures c.serve_next.new.store) in
    let over = c.in_ok-taken.ensures.closes (sym c.is_over.ensures ∙ c.if-is_over.true) in
    let last : Store = store_of (g.S.BlockStore.disk c.write_out.new.store) (g.S.BlockStore.failures c.write_out.new.store) in
    let low = c.loop-rest.invariant.3.0 in
    let high = c.serve_next.ensures.crash.0 in
    closes_synced g.S.BlockStore.protected old c.args.piece.now after last (omega (arith, low, high)) c.in_ok-write_out.ensures.store
    (piece_closes g.S.BlockStore.protected old mid c.args.piece.now c.loop-rest.rest.now c.in_ok-taken.taken after c.loop-rest.invariant.1 over.1)

pub loop-rest-preserved : goal.loop-rest-preserved
loop-rest-preserved g c =
    let old : ServedTarget = service c.args.target.now (store_of (g.S.BlockStore.disk c.args.store.now) (g.S.BlockStore.failures c.args.store.now))
    (g.W.Write.contents c.args.w.now) [] in
    let mid : ServedTarget = service c.loop-rest.target (store_of (g.S.BlockStore.disk c.loop-rest.store) (g.S.BlockStore.failures c.loop-rest.store))
    (g.W.Write.contents c.loop-rest.w) c.loop-rest.out.items in
    let after : Store = store_of (g.S.BlockStore.disk c.serve_next.new.store) (g.S.BlockStore.failures c.serve_next.new.store) in
    let contents = g.W.Write.contents c.serve_next.new.w in
    let new : ServedTarget = service c.serve_next.new.target after contents c.serve_next.new.out.items in
    let left : List ℕ = drop c.in_ok-taken.taken c.loop-rest.rest.now in
    let up : PieceUpTo g.S.BlockStore.protected old c.args.piece.now left new = piece_next g.S.BlockStore.protected old mid new c.args.piece.now
    c.loop-rest.rest.now c.in_ok-taken.taken c.loop-rest.invariant.1
    c.in_ok-taken.ensures.goes in (
      c.in_ok-taken.ensures.open (sym c.is_over.ensures ∙ c.if-is_over.false),
      subst (λ (x : List ℕ). PieceUpTo g.S.BlockStore.protected old c.args.piece.now x new)
          (sym (take_rest c.loop-rest.rest.now c.in_ok-taken.taken)) up,
      subst (λ (x : List ℕ). AdvancesUpTo g.S.BlockStore.protected c.args.target.now old.store c.args.piece.now x c.serve_next.new.target after)
          (sym (take_rest c.loop-rest.rest.now c.in_ok-taken.taken))
          (piece_advances g.S.BlockStore.protected c.args.target.now c.loop-rest.target c.serve_next.new.target old.store mid.store after
          c.args.piece.now c.loop-rest.rest.now
          c.in_ok-taken.taken c.loop-rest.invariant.2 (c.in_ok-taken.ensures.advances (sym c.is_over.ensures ∙ c.if-is_over.false))),
      piece_crashes g.S.BlockStore.protected c.args.target.now c.loop-rest.target old.store mid.store after c.args.piece.now c.loop-rest.rest.now
          (g.S.BlockStore.kept c.args.store.now)
          (g.S.BlockStore.kept c.loop-rest.store) (g.S.BlockStore.kept c.serve_next.new.store) c.loop-rest.invariant.2 c.loop-rest.invariant.3
          c.serve_next.ensures.crash,
      λ synced. subst (λ (x : List ℕ). SomeSynced g.S.BlockStore.synced (λ s. store_of (g.S.BlockStore.disk s) (g.S.BlockStore.failures s))
          g.S.BlockStore.kept (λ then kept. LastUpTo g.S.BlockStore.protected old (serving c.args.piece.now x) then kept new
          (g.S.BlockStore.kept c.serve_next.new.store)))
          (sym (take_rest c.loop-rest.rest.now c.in_ok-taken.taken))
          (last_more g.S.BlockStore.protected g.S.BlockStore.synced (λ s. store_of (g.S.BlockStore.disk s) (g.S.BlockStore.failures s)) g.S.BlockStore.kept
          c.serve_next.new.store old c.args.piece.now c.loop-rest.rest.now c.in_ok-taken.taken c.loop-rest.target c.serve_next.new.target mid.store
          mid.contents contents mid.waiting c.serve_next.new.out.items (g.S.BlockStore.kept c.loop-rest.store) (c.loop-rest.invariant.4 synced) up
          (piece_advances g.S.BlockStore.protected c.args.target.now c.loop-rest.target c.serve_next.new.target old.store mid.store after
          c.args.piece.now c.loop-rest.rest.now
          c.in_ok-taken.taken c.loop-rest.invariant.2 (c.in_ok-taken.ensures.advances (sym c.is_over.ensures ∙ c.if-is_over.false)))
          (c.in_ok-taken.ensures.advances (sym c.is_over.ensures ∙ c.if-is_over.false)) c.serve_next.ensures.crash c.in_ok-taken.ensures.sent),
    )

pub returns-in_err-write_out-2-clause-err : goal.returns-in_err-write_out-2-clause-err
returns-in_err-write_out-2-clause-err g c =
    let old : ServedTarget = service c.args.target.now (store_of (g.S.BlockStore.disk c.args.store.now) (g.S.BlockStore.failures c.args.store.now))
    (g.W.Write.contents c.args.w.now) [] in
    let mid : ServedTarget = service c.loop-rest.target (store_of (g.S.BlockStore.disk c.loop-rest.store) (g.S.BlockStore.failures c.loop-rest.store))
    (g.W.Write.contents c.loop-rest.w) c.loop-rest.out.items in
    let store : Store = store_of (g.S.BlockStore.disk c.loop-rest.store) (g.S.BlockStore.failures c.loop-rest.store) in
    let p = err_from_is_err_and c.from_residual-in_err-write_out-2.result c.from_residual-in_err-write_out-2.ensures.1 in
    let last : Store = store_of (g.S.BlockStore.disk c.write_out-2.new.store) (g.S.BlockStore.failures c.write_out-2.new.store) in
    rw (p.1, p.2) (piece_lost g.S.BlockStore.protected old c.args.piece.now c.loop-rest.rest.now c.loop-rest.target store last
    (g.W.Write.contents c.loop-rest.w)
    (g.W.Write.contents c.write_out-2.new.w) c.loop-rest.out.items c.in_err-write_out-2.field-0.0 c.loop-rest.invariant.1 c.in_err-write_out-2.ensures.store
    c.in_err-write_out-2.ensures.bytes c.in_err-write_out-2.ensures.err)

pub returns-clause-goes : goal.returns-clause-goes
returns-clause-goes g c =
    let old : ServedTarget = service c.args.target.now (store_of (g.S.BlockStore.disk c.args.store.now) (g.S.BlockStore.failures c.args.store.now))
    (g.W.Write.contents c.args.w.now) [] in
    let mid : ServedTarget = service c.loop-rest.target (store_of (g.S.BlockStore.disk c.loop-rest.store) (g.S.BlockStore.failures c.loop-rest.store))
    (g.W.Write.contents c.loop-rest.w) c.loop-rest.out.items in
    let store : Store = store_of (g.S.BlockStore.disk c.loop-rest.store) (g.S.BlockStore.failures c.loop-rest.store) in
    let last : Store = store_of (g.S.BlockStore.disk c.write_out-2.new.store) (g.S.BlockStore.failures c.write_out-2.new.store) in
    piece_done g.S.BlockStore.protected old c.args.piece.now c.loop-rest.rest.now c.loop-rest.target store last (g.W.Write.contents c.loop-rest.w)
    (g.W.Write.contents c.write_out-2.new.w) c.loop-rest.out.items c.loop-rest.invariant.1
    (eqb-true (length c.loop-rest.rest.now) 0 (sym c.loop-rest-test.ensures)) c.in_ok-write_out-2.ensures.store c.in_ok-write_out-2.ensures.bytes
    c.in_ok-write_out-2.ensures.ok

pub returns-in_err-taken-clause-crash : goal.returns-in_err-taken-clause-crash
returns-in_err-taken-clause-crash g c =
    let before : Store = store_of (g.S.BlockStore.disk c.args.store.now) (g.S.BlockStore.failures c.args.store.now) in
    let mid : Store = store_of (g.S.BlockStore.disk c.loop-rest.store) (g.S.BlockStore.failures c.loop-rest.store) in
    let after : Store = store_of (g.S.BlockStore.disk c.serve_next.new.store) (g.S.BlockStore.failures c.serve_next.new.store) in
    piece_crashes g.S.BlockStore.protected c.args.target.now c.loop-rest.target before mid after c.args.piece.now c.loop-rest.rest.now
    (g.S.BlockStore.kept c.args.store.now)
    (g.S.BlockStore.kept c.loop-rest.store) (g.S.BlockStore.kept c.serve_next.new.store) c.loop-rest.invariant.2 c.loop-rest.invariant.3
    c.serve_next.ensures.crash

pub returns-in_err-write_out-clause-crash : goal.returns-in_err-write_out-clause-crash
returns-in_err-write_out-clause-crash g c =
    let before : Store = store_of (g.S.BlockStore.disk c.args.store.now) (g.S.BlockStore.failures c.args.store.now) in
    let mid : Store = store_of (g.S.BlockStore.disk c.loop-rest.store) (g.S.BlockStore.failures c.loop-rest.store) in
    let after : Store = store_of (g.S.BlockStore.disk c.serve_next.new.store) (g.S.BlockStore.failures c.serve_next.new.store) in
    let last : Store = store_of (g.S.BlockStore.disk c.write_out.new.store) (g.S.BlockStore.failures c.write_out.new.store) in
    crashes_synced g.S.BlockStore.protected c.args.target.now before after last c.args.piece.now (g.S.BlockStore.kept c.args.store.now)
    (g.S.BlockStore.kept c.serve_next.new.store)
    (g.S.BlockStore.kept c.write_out.new.store)
    (piece_crashes g.S.BlockStore.protected c.args.target.now c.loop-rest.target before mid after c.args.piece.now c.loop-rest.rest.now
    (g.S.BlockStore.kept c.args.store.now)
    (g.S.BlockStore.kept c.loop-rest.store) (g.S.BlockStore.kept c.serve_next.new.store) c.loop-rest.invariant.2 c.loop-rest.invariant.3
    c.serve_next.ensures.crash) c.in_err-write_out.ensures.store c.in_err-write_out.ensures.kept

pub returns-then-is_over-clause-crash : goal.returns-then-is_over-clause-crash
returns-then-is_over-clause-crash g c =
    let before : Store = store_of (g.S.BlockStore.disk c.args.store.now) (g.S.BlockStore.failures c.args.store.now) in
    let mid : Store = store_of (g.S.BlockStore.disk c.loop-rest.store) (g.S.BlockStore.failures c.loop-rest.store) in
    let after : Store = store_of (g.S.BlockStore.disk c.serve_next.new.store) (g.S.BlockStore.failures c.serve_next.new.store) in
    let last : Store = store_of (g.S.BlockStore.disk c.write_out.new.store) (g.S.BlockStore.failures c.write_out.new.store) in
    crashes_synced g.S.BlockStore.protected c.args.target.now before after last c.args.piece.now (g.S.BlockStore.kept c.args.store.now)
    (g.S.BlockStore.kept c.serve_next.new.store)
    (g.S.BlockStore.kept c.write_out.new.store)
    (piece_crashes g.S.BlockStore.protected c.args.target.now c.loop-rest.target before mid after c.args.piece.now c.loop-rest.rest.now
    (g.S.BlockStore.kept c.args.store.now)
    (g.S.BlockStore.kept c.loop-rest.store) (g.S.BlockStore.kept c.serve_next.new.store) c.loop-rest.invariant.2 c.loop-rest.invariant.3
    c.serve_next.ensures.crash) c.in_ok-write_out.ensures.store c.in_ok-write_out.ensures.kept

pub returns-in_err-write_out-2-clause-crash : goal.returns-in_err-write_out-2-clause-crash
returns-in_err-write_out-2-clause-crash g c =
    let before : Store = store_of (g.S.BlockStore.disk c.args.store.now) (g.S.BlockStore.failures c.args.store.now) in
    let store : Store = store_of (g.S.BlockStore.disk c.loop-rest.store) (g.S.BlockStore.failures c.loop-rest.store) in
    let last : Store = store_of (g.S.BlockStore.disk c.write_out-2.new.store) (g.S.BlockStore.failures c.write_out-2.new.store) in
    crashes_synced g.S.BlockStore.protected c.args.target.now before store last c.args.piece.now (g.S.BlockStore.kept c.args.store.now)
    (g.S.BlockStore.kept c.loop-rest.store)
    (g.S.BlockStore.kept c.write_out-2.new.store) c.loop-rest.invariant.3 c.in_err-write_out-2.ensures.store c.in_err-write_out-2.ensures.kept

pub returns-clause-crash : goal.returns-clause-crash
returns-clause-crash g c =
    let before : Store = store_of (g.S.BlockStore.disk c.args.store.now) (g.S.BlockStore.failures c.args.store.now) in
    let store : Store = store_of (g.S.BlockStore.disk c.loop-rest.store) (g.S.BlockStore.failures c.loop-rest.store) in
    let last : Store = store_of (g.S.BlockStore.disk c.write_out-2.new.store) (g.S.BlockStore.failures c.write_out-2.new.store) in
    crashes_synced g.S.BlockStore.protected c.args.target.now before store last c.args.piece.now (g.S.BlockStore.kept c.args.store.now)
    (g.S.BlockStore.kept c.loop-rest.store)
    (g.S.BlockStore.kept c.write_out-2.new.store) c.loop-rest.invariant.3 c.in_ok-write_out-2.ensures.store c.in_ok-write_out-2.ensures.kept

pub returns-clause-advances : goal.returns-clause-advances
returns-clause-advances g c = λ _.
    let before : Store = store_of (g.S.BlockStore.disk c.args.store.now) (g.S.BlockStore.failures c.args.store.now) in
    let store : Store = store_of (g.S.BlockStore.disk c.loop-rest.store) (g.S.BlockStore.failures c.loop-rest.store) in
    let last : Store = store_of (g.S.BlockStore.disk c.write_out-2.new.store) (g.S.BlockStore.failures c.write_out-2.new.store) in
    comes_synced g.S.BlockStore.protected c.args.target.now c.loop-rest.target before store last c.args.piece.now
    (piece_advanced g.S.BlockStore.protected c.args.target.now c.loop-rest.target before store c.args.piece.now c.loop-rest.rest.now c.loop-rest.invariant.2
    (eqb-true (length c.loop-rest.rest.now) 0 (sym c.loop-rest-test.ensures))) c.in_ok-write_out-2.ensures.store

pub returns-in_err-taken-clause-unsent : goal.returns-in_err-taken-clause-unsent
returns-in_err-taken-clause-unsent g c =
    let old : ServedTarget = service c.args.target.now (store_of (g.S.BlockStore.disk c.args.store.now) (g.S.BlockStore.failures c.args.store.now))
    (g.W.Write.contents c.args.w.now) [] in
    let mid : ServedTarget = service c.loop-rest.target (store_of (g.S.BlockStore.disk c.loop-rest.store) (g.S.BlockStore.failures c.loop-rest.store))
    (g.W.Write.contents c.loop-rest.w) c.loop-rest.out.items in
    let after : Store = store_of (g.S.BlockStore.disk c.serve_next.new.store) (g.S.BlockStore.failures c.serve_next.new.store) in
    let contents = g.W.Write.contents c.serve_next.new.w in
    let p = err_from_is_err_and c.from_residual.result c.from_residual.ensures.1 in
    rw (p.1, p.2) (λ is synced.
    let l = c.loop-rest.invariant.4 synced in (
      l.0,
      l.1,
      last_stops g.S.BlockStore.protected old (serving c.args.piece.now c.loop-rest.rest.now)
          (service c.loop-rest.target mid.store mid.contents mid.waiting) (service c.serve_next.new.target after contents [])
          (store_of (g.S.BlockStore.disk l.0) (g.S.BlockStore.failures l.0))
          (g.S.BlockStore.kept l.0) (g.S.BlockStore.kept c.loop-rest.store) (g.S.BlockStore.kept c.serve_next.new.store) l.2
          (c.in_err-taken.ensures.unsent (cc)) c.serve_next.ensures.crash,
    ))

pub returns-in_err-write_out-clause-unsent : goal.returns-in_err-write_out-clause-unsent
returns-in_err-write_out-clause-unsent g c =
    let old : ServedTarget = service c.args.target.now (store_of (g.S.BlockStore.disk c.args.store.now) (g.S.BlockStore.failures c.args.store.now))
    (g.W.Write.contents c.args.w.now) [] in
    let mid : ServedTarget = service c.loop-rest.target (store_of (g.S.BlockStore.disk c.loop-rest.store) (g.S.BlockStore.failures c.loop-rest.store))
    (g.W.Write.contents c.loop-rest.w) c.loop-rest.out.items in
    let after : Store = store_of (g.S.BlockStore.disk c.serve_next.new.store) (g.S.BlockStore.failures c.serve_next.new.store) in
    let contents = g.W.Write.contents c.serve_next.new.w in
    let last : Store = store_of (g.S.BlockStore.disk c.write_out.new.store) (g.S.BlockStore.failures c.write_out.new.store) in
    let new : ServedTarget = service c.serve_next.new.target after contents c.serve_next.new.out.items in
    let left : List ℕ = drop c.in_ok-taken.taken c.loop-rest.rest.now in
    let up : PieceUpTo g.S.BlockStore.protected old c.args.piece.now left new = piece_next g.S.BlockStore.protected old mid new c.args.piece.now
    c.loop-rest.rest.now c.in_ok-taken.taken c.loop-rest.invariant.1
    c.in_ok-taken.ensures.goes in
    let over = c.in_ok-taken.ensures.closes (sym c.is_over.ensures ∙ c.if-is_over.true) in
    let p = err_from_is_err_and c.from_residual-in_err-write_out.result c.from_residual-in_err-write_out.ensures.1 in
    rw (p.1, p.2) (λ is synced.
    let l = last_closed g.S.BlockStore.protected g.S.BlockStore.synced (λ s. store_of (g.S.BlockStore.disk s) (g.S.BlockStore.failures s)) g.S.BlockStore.kept
    c.serve_next.new.store old c.args.piece.now c.loop-rest.rest.now c.in_ok-taken.taken c.loop-rest.target c.serve_next.new.target mid.store mid.contents
    contents mid.waiting c.serve_next.new.out.items (g.S.BlockStore.kept c.loop-rest.store) (c.loop-rest.invariant.4 synced) up over.0
    c.serve_next.ensures.crash c.in_ok-taken.ensures.sent in (
      l.0,
      l.1,
      last_synced g.S.BlockStore.protected old c.args.piece.now (service c.serve_next.new.target after contents c.serve_next.new.out.items)
          (store_of (g.S.BlockStore.disk l.0) (g.S.BlockStore.failures l.0)) last (g.W.Write.contents c.write_out.new.w) [] (g.S.BlockStore.kept l.0)
          (g.S.BlockStore.kept c.serve_next.new.store)
          (g.S.BlockStore.kept c.write_out.new.store) l.2 c.in_err-write_out.ensures.store c.in_err-write_out.ensures.kept
          (held_all c.in_err-write_out.field-0.0 contents (g.W.Write.contents c.write_out.new.w) c.serve_next.new.out.items (cc)
          c.in_err-write_out.ensures.err),
    ))

pub returns-in_err-write_out-2-clause-unsent : goal.returns-in_err-write_out-2-clause-unsent
returns-in_err-write_out-2-clause-unsent g c =
    let old : ServedTarget = service c.args.target.now (store_of (g.S.BlockStore.disk c.args.store.now) (g.S.BlockStore.failures c.args.store.now))
    (g.W.Write.contents c.args.w.now) [] in
    let mid : ServedTarget = service c.loop-rest.target (store_of (g.S.BlockStore.disk c.loop-rest.store) (g.S.BlockStore.failures c.loop-rest.store))
    (g.W.Write.contents c.loop-rest.w) c.loop-rest.out.items in
    let last : Store = store_of (g.S.BlockStore.disk c.write_out-2.new.store) (g.S.BlockStore.failures c.write_out-2.new.store) in
    let p = err_from_is_err_and c.from_residual-in_err-write_out-2.result c.from_residual-in_err-write_out-2.ensures.1 in
    rw (p.1, p.2) (λ is synced.
    let l = c.loop-rest.invariant.4 synced in (
      l.0,
      l.1,
      last_done g.S.BlockStore.protected old c.args.piece.now c.loop-rest.rest.now (service c.loop-rest.target mid.store mid.contents mid.waiting)
          (store_of (g.S.BlockStore.disk l.0) (g.S.BlockStore.failures l.0)) last (g.W.Write.contents c.write_out-2.new.w) [] (g.S.BlockStore.kept l.0)
          (g.S.BlockStore.kept c.loop-rest.store)
          (g.S.BlockStore.kept c.write_out-2.new.store) l.2 c.in_err-write_out-2.ensures.store c.in_err-write_out-2.ensures.kept
          (held_all c.in_err-write_out-2.field-0.0 mid.contents (g.W.Write.contents c.write_out-2.new.w) mid.waiting (cc) c.in_err-write_out-2.ensures.err),
    ))
