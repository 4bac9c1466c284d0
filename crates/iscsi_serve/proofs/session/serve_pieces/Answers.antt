use Rattle.std.proofs.Common.{[], List, ℕ, ◌++◌, take, refl, ◌∙◌}
use Rattle.std.proofs.lemmas.Result.{err_from_is_err_and}
use Rattle.iscsi_target.specs.Feed.{Store, opening_target}
use Rattle.iscsi_target.specs.Crash.{CrashesFed}
use Rattle.iscsi_target.specs.Advances.{store_of}
use Rattle.iscsi_serve.specs.inner.SessionSteps.{service}
use Rattle.iscsi_serve.proofs.SessionReadInvariant.{read_stops, end_stops, over_stops, finish_stops, read_more, fault_stops, fault_cut, end_cut}
use Rattle.iscsi_serve.proofs.SessionReadInvariant.{fault_executed, over_ends, ok_is, ok_open, outside, ReadUpTo}
use Rattle.iscsi_serve.proofs.SessionCrashLemmas.{session_start, session_crashes, session_more, session_last}
use Rattle.iscsi_serve.proofs.session.serve_pieces.Goals as goal

pub loop-n-init : goal.loop-n-init
loop-n-init g c =
    rw c.requires.opening (
      refl,
      session_start g.S.BlockStore.protected c.args.target.now.machine.session.settings (store_of (g.S.BlockStore.disk c.args.store.now) (g.S.BlockStore.failures c.args.store.now))
          (g.R.Read.remaining c.args.r.now) (g.W.Write.contents c.args.w.now) (g.S.BlockStore.kept c.args.store.now),
      λ synced. synced,
    )

pub returns-in_err-n-clause-serves : goal.returns-in_err-n-clause-serves
returns-in_err-n-clause-serves g c =
    let first : Store = store_of (g.S.BlockStore.disk c.args.store.now) (g.S.BlockStore.failures c.args.store.now) in
    let store : Store = store_of (g.S.BlockStore.disk c.loop-n.store) (g.S.BlockStore.failures c.loop-n.store) in
    let r0 = g.R.Read.remaining c.args.r.now in
    let w0 = g.W.Write.contents c.args.w.now in
    let due : List ℕ → Type 0 = λ read. CrashesFed g.S.BlockStore.protected (opening_target c.args.target.now.machine.session.settings 1) first read store
    (g.S.BlockStore.kept c.args.store.now)
    (g.S.BlockStore.kept c.loop-n.store) in
    let p = err_from_is_err_and c.from_residual.result c.from_residual.ensures.1 in
    rw (p.1, p.2) (read_stops g.S.BlockStore.protected c.args.target.now.machine.session.settings c.requires.range (outside first r0 w0) c.loop-n.target
    (outside store (g.R.Read.remaining c.loop-n.r) (g.W.Write.contents c.loop-n.w)) (g.R.Read.remaining c.next.new.r) due
    c.loop-n.invariant.1.read c.loop-n.invariant.1.crash c.loop-n.invariant.0
    c.in_err-n.ensures.err.0)

pub returns-in-Err-clause-serves : goal.returns-in-Err-clause-serves
returns-in-Err-clause-serves g c =
    let first : Store = store_of (g.S.BlockStore.disk c.args.store.now) (g.S.BlockStore.failures c.args.store.now) in
    let store : Store = store_of (g.S.BlockStore.disk c.loop-n.store) (g.S.BlockStore.failures c.loop-n.store) in
    let r0 = g.R.Read.remaining c.args.r.now in
    let w0 = g.W.Write.contents c.args.w.now in
    let due : List ℕ → Type 0 = λ read. CrashesFed g.S.BlockStore.protected (opening_target c.args.target.now.machine.session.settings 1) first read store
    (g.S.BlockStore.kept c.args.store.now)
    (g.S.BlockStore.kept c.loop-n.store) in
    rw c.from.ensures (finish_stops g.S.BlockStore.protected c.args.target.now.machine.session.settings c.requires.range c.in-Err.fault (outside first r0 w0) c.loop-n.target
    c.finish.new.self (outside store (g.R.Read.remaining c.loop-n.r) (g.W.Write.contents c.loop-n.w)) (g.R.Read.remaining c.next.new.r) due
    c.loop-n.invariant.1.read
    c.loop-n.invariant.1.crash c.loop-n.invariant.0 c.in-Err.ensures.finishes (rw c.in_default.is at c.in_ok-n.ensures.end).1)

pub returns-in-Ok-clause-serves : goal.returns-in-Ok-clause-serves
returns-in-Ok-clause-serves g c =
    let first : Store = store_of (g.S.BlockStore.disk c.args.store.now) (g.S.BlockStore.failures c.args.store.now) in
    let store : Store = store_of (g.S.BlockStore.disk c.loop-n.store) (g.S.BlockStore.failures c.loop-n.store) in
    let r0 = g.R.Read.remaining c.args.r.now in
    let w0 = g.W.Write.contents c.args.w.now in
    let due : List ℕ → Type 0 = λ read. CrashesFed g.S.BlockStore.protected (opening_target c.args.target.now.machine.session.settings 1) first read store
    (g.S.BlockStore.kept c.args.store.now)
    (g.S.BlockStore.kept c.loop-n.store) in
    end_stops g.S.BlockStore.protected c.args.target.now.machine.session.settings c.requires.range (outside first r0 w0) c.loop-n.target c.finish.new.self
    (outside store (g.R.Read.remaining c.loop-n.r) (g.W.Write.contents c.loop-n.w)) (g.R.Read.remaining c.next.new.r) due
    c.loop-n.invariant.1.read c.loop-n.invariant.1.crash c.loop-n.invariant.0
    c.in-Ok.ensures.finishes
    (rw c.in_default.is at c.in_ok-n.ensures.end).1

pub returns-in_err-serve_piece-clause-serves : goal.returns-in_err-serve_piece-clause-serves
returns-in_err-serve_piece-clause-serves g c =
    let first : Store = store_of (g.S.BlockStore.disk c.args.store.now) (g.S.BlockStore.failures c.args.store.now) in
    let store : Store = store_of (g.S.BlockStore.disk c.loop-n.store) (g.S.BlockStore.failures c.loop-n.store) in
    let after : Store = store_of (g.S.BlockStore.disk c.serve_piece.new.store) (g.S.BlockStore.failures c.serve_piece.new.store) in
    let r0 = g.R.Read.remaining c.args.r.now in
    let r1 = g.R.Read.remaining c.loop-n.r in
    let r2 = g.R.Read.remaining c.next.new.r in
    let w0 = g.W.Write.contents c.args.w.now in
    let w1 = g.W.Write.contents c.loop-n.w in
    let w2 = g.W.Write.contents c.serve_piece.new.w in
    let piece : List ℕ = take c.in-Some.n c.next.new.buffer in
    let due : List ℕ → Type 0 = λ read. CrashesFed g.S.BlockStore.protected (opening_target c.args.target.now.machine.session.settings 1) first read after
    (g.S.BlockStore.kept c.args.store.now)
    (g.S.BlockStore.kept c.serve_piece.new.store) in
    let crash : due (c.loop-n.invariant.1.read.stream ++ piece) =
    session_crashes g.S.BlockStore.protected c.args.target.now.machine.session.settings (outside first r0 w0) c.loop-n.target (outside store r1 w1) after
    (g.S.BlockStore.kept c.args.store.now)
    (g.S.BlockStore.kept c.loop-n.store)
    (g.S.BlockStore.kept c.serve_piece.new.store) piece c.loop-n.invariant.1 c.serve_piece.ensures.crash in
    let p = err_from_is_err_and c.from_residual-in_err-serve_piece.result c.from_residual-in_err-serve_piece.ensures.1 in
    rw (p.1, p.2) (fault_stops g.S.BlockStore.protected c.args.target.now.machine.session.settings c.requires.range c.in_err-serve_piece.field-0.0 (outside first r0 w0)
    c.loop-n.target c.serve_piece.new.target (outside store r1 w1) (outside after r2 w2) piece
    due c.loop-n.invariant.1.read crash (rw c.in-Some.is at c.in_ok-n.ensures.piece).2 c.in_err-serve_piece.ensures.err)

pub returns-in_err-serve_piece-clause-blocks : goal.returns-in_err-serve_piece-clause-blocks
returns-in_err-serve_piece-clause-blocks g c =
    let first : Store = store_of (g.S.BlockStore.disk c.args.store.now) (g.S.BlockStore.failures c.args.store.now) in
    let store : Store = store_of (g.S.BlockStore.disk c.loop-n.store) (g.S.BlockStore.failures c.loop-n.store) in
    let after : Store = store_of (g.S.BlockStore.disk c.serve_piece.new.store) (g.S.BlockStore.failures c.serve_piece.new.store) in
    let r0 = g.R.Read.remaining c.args.r.now in
    let r1 = g.R.Read.remaining c.loop-n.r in
    let r2 = g.R.Read.remaining c.next.new.r in
    let w0 = g.W.Write.contents c.args.w.now in
    let w1 = g.W.Write.contents c.loop-n.w in
    let w2 = g.W.Write.contents c.serve_piece.new.w in
    let piece : List ℕ = take c.in-Some.n c.next.new.buffer in
    fault_executed g.S.BlockStore.protected c.args.target.now.machine.session.settings c.in_err-serve_piece.field-0.0 (outside first r0 w0) c.loop-n.target c.serve_piece.new.target
    (outside store r1 w1) after w2 piece
    c.loop-n.invariant.1.read c.in_err-serve_piece.ensures.err

pub returns-then-branch-clause-serves : goal.returns-then-branch-clause-serves
returns-then-branch-clause-serves g c =
    let first : Store = store_of (g.S.BlockStore.disk c.args.store.now) (g.S.BlockStore.failures c.args.store.now) in
    let store : Store = store_of (g.S.BlockStore.disk c.loop-n.store) (g.S.BlockStore.failures c.loop-n.store) in
    let after : Store = store_of (g.S.BlockStore.disk c.serve_piece.new.store) (g.S.BlockStore.failures c.serve_piece.new.store) in
    let r0 = g.R.Read.remaining c.args.r.now in
    let r1 = g.R.Read.remaining c.loop-n.r in
    let r2 = g.R.Read.remaining c.next.new.r in
    let w0 = g.W.Write.contents c.args.w.now in
    let w1 = g.W.Write.contents c.loop-n.w in
    let w2 = g.W.Write.contents c.serve_piece.new.w in
    let piece : List ℕ = take c.in-Some.n c.next.new.buffer in
    let due : List ℕ → Type 0 = λ read. CrashesFed g.S.BlockStore.protected (opening_target c.args.target.now.machine.session.settings 1) first read after
    (g.S.BlockStore.kept c.args.store.now)
    (g.S.BlockStore.kept c.serve_piece.new.store) in
    let crash : due (c.loop-n.invariant.1.read.stream ++ piece) =
    session_crashes g.S.BlockStore.protected c.args.target.now.machine.session.settings (outside first r0 w0) c.loop-n.target (outside store r1 w1) after
    (g.S.BlockStore.kept c.args.store.now)
    (g.S.BlockStore.kept c.loop-n.store)
    (g.S.BlockStore.kept c.serve_piece.new.store) piece c.loop-n.invariant.1 c.serve_piece.ensures.crash in
    over_stops g.S.BlockStore.protected c.args.target.now.machine.session.settings c.requires.range (outside first r0 w0) c.loop-n.target c.serve_piece.new.target
    (outside store r1 w1) (outside after r2 w2) piece due
    c.loop-n.invariant.1.read crash
    (rw c.in-Some.is at c.in_ok-n.ensures.piece).2 c.in_ok-serve_piece.ensures.goes
    (c.serve_piece.ensures.closes (c.in_ok-serve_piece.was ∙ ok_is c.in_ok-serve_piece.field-0 c.if-branch.true))

pub returns-then-branch-clause-blocks : goal.returns-then-branch-clause-blocks
returns-then-branch-clause-blocks g c =
    let first : Store = store_of (g.S.BlockStore.disk c.args.store.now) (g.S.BlockStore.failures c.args.store.now) in
    let store : Store = store_of (g.S.BlockStore.disk c.loop-n.store) (g.S.BlockStore.failures c.loop-n.store) in
    let after : Store = store_of (g.S.BlockStore.disk c.serve_piece.new.store) (g.S.BlockStore.failures c.serve_piece.new.store) in
    let r0 = g.R.Read.remaining c.args.r.now in
    let r1 = g.R.Read.remaining c.loop-n.r in
    let r2 = g.R.Read.remaining c.next.new.r in
    let w0 = g.W.Write.contents c.args.w.now in
    let w1 = g.W.Write.contents c.loop-n.w in
    let w2 = g.W.Write.contents c.serve_piece.new.w in
    let piece : List ℕ = take c.in-Some.n c.next.new.buffer in
    let more : ReadUpTo g.S.BlockStore.protected c.args.target.now.machine.session.settings (outside first r0 w0) c.serve_piece.new.target (outside after r2 w2) =
    read_more g.S.BlockStore.protected c.args.target.now.machine.session.settings (outside first r0 w0) c.loop-n.target c.serve_piece.new.target (outside store r1 w1)
    (outside after r2 w2) piece
    c.loop-n.invariant.1.read (rw c.in-Some.is
    at c.in_ok-n.ensures.piece).2
    c.in_ok-serve_piece.ensures.goes in
    more.served.executed

pub returns-then-branch-clause-end : goal.returns-then-branch-clause-end
returns-then-branch-clause-end g c = λ h.
    let first : Store = store_of (g.S.BlockStore.disk c.args.store.now) (g.S.BlockStore.failures c.args.store.now) in
    let store : Store = store_of (g.S.BlockStore.disk c.loop-n.store) (g.S.BlockStore.failures c.loop-n.store) in
    let after : Store = store_of (g.S.BlockStore.disk c.serve_piece.new.store) (g.S.BlockStore.failures c.serve_piece.new.store) in
    let r0 = g.R.Read.remaining c.args.r.now in
    let r1 = g.R.Read.remaining c.loop-n.r in
    let r2 = g.R.Read.remaining c.next.new.r in
    let w0 = g.W.Write.contents c.args.w.now in
    let w1 = g.W.Write.contents c.loop-n.w in
    let w2 = g.W.Write.contents c.serve_piece.new.w in
    let piece : List ℕ = take c.in-Some.n c.next.new.buffer in
    over_ends g.S.BlockStore.protected c.args.target.now.machine.session.settings (outside first r0 w0) c.loop-n.target (outside store r1 w1) after r2 piece c.loop-n.invariant.1.read
    (rw c.in-Some.is at c.in_ok-n.ensures.piece).2
    (c.serve_piece.ensures.closes (c.in_ok-serve_piece.was ∙ ok_is c.in_ok-serve_piece.field-0 c.if-branch.true)) h

pub loop-n-preserved : goal.loop-n-preserved
loop-n-preserved g c =
    let first : Store = store_of (g.S.BlockStore.disk c.args.store.now) (g.S.BlockStore.failures c.args.store.now) in
    let store : Store = store_of (g.S.BlockStore.disk c.loop-n.store) (g.S.BlockStore.failures c.loop-n.store) in
    let after : Store = store_of (g.S.BlockStore.disk c.serve_piece.new.store) (g.S.BlockStore.failures c.serve_piece.new.store) in
    let r0 = g.R.Read.remaining c.args.r.now in
    let r1 = g.R.Read.remaining c.loop-n.r in
    let r2 = g.R.Read.remaining c.next.new.r in
    let w0 = g.W.Write.contents c.args.w.now in
    let w1 = g.W.Write.contents c.loop-n.w in
    let w2 = g.W.Write.contents c.serve_piece.new.w in
    let piece : List ℕ = take c.in-Some.n c.next.new.buffer in
    let open_ = c.in_ok-serve_piece.was ∙ ok_open c.in_ok-serve_piece.field-0 c.if-branch.false in (
      c.serve_piece.ensures.open open_,
      session_more g.S.BlockStore.protected c.args.target.now.machine.session.settings (outside first r0 w0) c.loop-n.target c.serve_piece.new.target (outside store r1 w1)
          (outside after r2 w2)
          (g.S.BlockStore.kept c.args.store.now)
          (g.S.BlockStore.kept c.loop-n.store) (g.S.BlockStore.kept c.serve_piece.new.store) piece c.loop-n.invariant.1 (rw c.in-Some.is at
          c.in_ok-n.ensures.piece).2
          c.in_ok-serve_piece.ensures.goes (c.serve_piece.ensures.advances open_) c.serve_piece.ensures.crash,
      λ synced. c.in_ok-serve_piece.ensures.synced (λ e. cc),
    )

pub returns-in_err-n-clause-lasts : goal.returns-in_err-n-clause-lasts
returns-in_err-n-clause-lasts g c = g.met.S.BlockStore.lasts c.loop-n.store

pub returns-in-Err-clause-lasts : goal.returns-in-Err-clause-lasts
returns-in-Err-clause-lasts g c = g.met.S.BlockStore.lasts c.loop-n.store

pub returns-in_err-serve_piece-clause-lasts : goal.returns-in_err-serve_piece-clause-lasts
returns-in_err-serve_piece-clause-lasts g c = g.met.S.BlockStore.lasts c.serve_piece.new.store

pub returns-then-branch-clause-lasts : goal.returns-then-branch-clause-lasts
returns-then-branch-clause-lasts g c = g.met.S.BlockStore.lasts c.serve_piece.new.store

pub returns-in-Ok-clause-lasts : goal.returns-in-Ok-clause-lasts
returns-in-Ok-clause-lasts g c = g.met.S.BlockStore.lasts c.loop-n.store

pub returns-in_err-serve_piece-clause-synced : goal.returns-in_err-serve_piece-clause-synced
returns-in_err-serve_piece-clause-synced g c =
    let p = err_from_is_err_and c.from_residual-in_err-serve_piece.result c.from_residual-in_err-serve_piece.ensures.1 in
    rw (p.1, p.2) (λ synced other. c.in_err-serve_piece.ensures.synced (λ e. other cc))

pub returns-in_err-serve_piece-clause-unsent : goal.returns-in_err-serve_piece-clause-unsent
returns-in_err-serve_piece-clause-unsent g c =
    let first : Store = store_of (g.S.BlockStore.disk c.args.store.now) (g.S.BlockStore.failures c.args.store.now) in
    let store : Store = store_of (g.S.BlockStore.disk c.loop-n.store) (g.S.BlockStore.failures c.loop-n.store) in
    let after : Store = store_of (g.S.BlockStore.disk c.serve_piece.new.store) (g.S.BlockStore.failures c.serve_piece.new.store) in
    let r0 = g.R.Read.remaining c.args.r.now in
    let r1 = g.R.Read.remaining c.loop-n.r in
    let r2 = g.R.Read.remaining c.next.new.r in
    let w0 = g.W.Write.contents c.args.w.now in
    let w1 = g.W.Write.contents c.loop-n.w in
    let w2 = g.W.Write.contents c.serve_piece.new.w in
    let piece : List ℕ = take c.in-Some.n c.next.new.buffer in
    let p = err_from_is_err_and c.from_residual-in_err-serve_piece.result c.from_residual-in_err-serve_piece.ensures.1 in
    rw (p.1, p.2) (λ is synced.
    let l = c.in_err-serve_piece.ensures.unsent (cc) (c.loop-n.invariant.2 synced) in
    let m = session_last g.S.BlockStore.protected c.args.target.now.machine.session.settings c.requires.range (outside first r0 w0) c.loop-n.target c.serve_piece.new.target
    (record { store = (store_of (g.S.BlockStore.disk l.0) (g.S.BlockStore.failures l.0)); kept = (g.S.BlockStore.kept l.0) }) (outside store r1 w1)
    (outside after r2 w2) (g.S.BlockStore.kept c.args.store.now) (g.S.BlockStore.kept c.loop-n.store)
    (g.S.BlockStore.kept c.serve_piece.new.store) piece c.loop-n.invariant.1 (rw c.in-Some.is at c.in_ok-n.ensures.piece).2 l.2 in
    (l.0, l.1, m))

pub returns-in_err-n-clause-cut : goal.returns-in_err-n-clause-cut
returns-in_err-n-clause-cut g c =
    let p = err_from_is_err_and c.from_residual.result c.from_residual.ensures.1 in
    rw (p.1, p.2) tt

pub returns-in-Err-clause-cut : goal.returns-in-Err-clause-cut
returns-in-Err-clause-cut g c = rw c.from.ensures (end_cut c.in-Err.fault (g.R.Read.remaining c.next.new.r) (rw c.in_default.is at c.in_ok-n.ensures.end).0)

pub returns-in_err-serve_piece-clause-cut : goal.returns-in_err-serve_piece-clause-cut
returns-in_err-serve_piece-clause-cut g c =
    let store : Store = store_of (g.S.BlockStore.disk c.loop-n.store) (g.S.BlockStore.failures c.loop-n.store) in
    let after : Store = store_of (g.S.BlockStore.disk c.serve_piece.new.store) (g.S.BlockStore.failures c.serve_piece.new.store) in
    let p = err_from_is_err_and c.from_residual-in_err-serve_piece.result c.from_residual-in_err-serve_piece.ensures.1 in
    rw (p.1, p.2) (fault_cut g.S.BlockStore.protected (service c.loop-n.target store (g.W.Write.contents c.loop-n.w) [])
    (service c.serve_piece.new.target after (g.W.Write.contents c.serve_piece.new.w) [])
    (take c.in-Some.n c.next.new.buffer) c.in_err-serve_piece.field-0.0 (g.R.Read.remaining c.next.new.r) c.in_err-serve_piece.ensures.err)
