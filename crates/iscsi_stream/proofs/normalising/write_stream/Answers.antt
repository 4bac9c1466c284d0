use Rattle.std.proofs.Common.{[], take, arith}
use Rattle.std.proofs.lemmas.List.{length-take}
use Rattle.std.proofs.lemmas.Result.{err_from_is_err_and}
use Rattle.iscsi_stream.proofs.NormalisingLemmas.{at_start, read_stops, finish_stops, finish_done, not_truncated, pass_stops, write_stops}
use Rattle.iscsi_stream.proofs.NormalisingLemmas.{read_more}
use Rattle.iscsi_stream.proofs.normalising.write_stream.Goals as goal
use Rattle.iscsi_stream.proofs.LoopInvariants.{sides}
use Rattle.iscsi_stream.specs.inner.Passing.{passing_progress}

pub loop-out-init : goal.loop-out-init
loop-out-init g c = rw (c.new-framer.ensures, c.new-counts.ensures, c.new-reads.ensures) (at_start c.args.form (g.R.Read.remaining c.args.r.now)
    (g.W.Write.contents c.args.w.now))

pub returns-in_err-n-clause-writes : goal.returns-in_err-n-clause-writes
returns-in_err-n-clause-writes g c =
    let p = err_from_is_err_and c.from_residual.result c.from_residual.ensures.1 in
    rw (p.1, p.2) (read_stops c.args.form c.loop-out.framer c.loop-out.counts c.loop-out.reads (g.R.Read.remaining c.args.r.now)
    (g.R.Read.remaining c.loop-out.r) (g.R.Read.remaining c.next.new.r) (g.W.Write.contents c.args.w.now)
    (g.W.Write.contents c.loop-out.w) c.loop-out.invariant c.in_err-n.ensures.err.0)

pub returns-in_err-finish-clause-writes : goal.returns-in_err-finish-clause-writes
returns-in_err-finish-clause-writes g c =
    let p = err_from_is_err_and c.from_residual-in_err-finish.result c.from_residual-in_err-finish.ensures.1 in
    rw (p.1, p.2) (finish_stops c.in_err-finish.field-0.0 c.args.form c.loop-out.framer c.loop-out.counts c.loop-out.reads (g.R.Read.remaining c.args.r.now)
    (g.R.Read.remaining c.loop-out.r) (g.R.Read.remaining c.next.new.r) (g.W.Write.contents c.args.w.now) (g.W.Write.contents c.loop-out.w)
    c.in_ok-n.ensures.left c.loop-out.invariant (rw c.in_default.is at c.in_ok-n.ensures.end).1 c.in_err-finish.ensures.err)

pub returns-clause-writes : goal.returns-clause-writes
returns-clause-writes g c =
    finish_done c.args.form c.loop-out.framer c.loop-out.counts c.loop-out.reads (g.R.Read.remaining c.args.r.now) (g.R.Read.remaining c.loop-out.r)
    (g.R.Read.remaining c.next.new.r) (g.W.Write.contents c.args.w.now) (g.W.Write.contents c.loop-out.w) c.loop-out.invariant
    (rw c.in_default.is at c.in_ok-n.ensures.end).1 c.in_ok-finish.ensures.ok.1

pub returns-in_err-write_fully-clause-writes : goal.returns-in_err-write_fully-clause-writes
returns-in_err-write_fully-clause-writes g c =
    let piece = rw c.in-Some.is at c.in_ok-n.ensures.piece in
    let p = err_from_is_err_and c.from_residual-in_err-write_fully.result c.from_residual-in_err-write_fully.ensures.1 in
    rw (p.1, p.2) (write_stops _ c.args.form c.loop-out.framer c.loop-out.counts c.loop-out.reads
    (sides (g.R.Read.remaining c.args.r.now) (g.W.Write.contents c.args.w.now)) (sides (g.R.Read.remaining
    c.loop-out.r) (g.W.Write.contents c.loop-out.w)) (sides (g.R.Read.remaining c.next.new.r) (g.W.Write.contents c.write_fully.new.w))
    (take c.in-Some.n c.next.new.buffer) c.pass_on-passed.new.out.items c.pass_on-passed.ensures.bytes c.loop-out.invariant piece.2
    (rw c.clear.ensures.items at c.pass_on-passed.ensures.appended) c.in_err-write_fully.ensures.err.0
    (rw c.deref.ensures.value at c.in_err-write_fully.ensures.err.1))

pub returns-in_err-passed-clause-writes : goal.returns-in_err-passed-clause-writes
returns-in_err-passed-clause-writes g c =
    let piece = rw c.in-Some.is at c.in_ok-n.ensures.piece in
    let p = err_from_is_err_and c.from_residual-in_err-passed.result c.from_residual-in_err-passed.ensures.1 in
    rw (p.1, p.2) (pass_stops c.in_err-passed.field-0.0 c.args.form c.loop-out.framer c.loop-out.counts c.loop-out.reads
    (sides (g.R.Read.remaining c.args.r.now) (g.W.Write.contents c.args.w.now))
    (sides (g.R.Read.remaining c.loop-out.r) (g.W.Write.contents c.loop-out.w))
    (sides (g.R.Read.remaining c.next.new.r) (g.W.Write.contents c.write_fully.new.w))
    (take c.in-Some.n c.next.new.buffer) c.pass_on-passed.new.out.items c.in_ok-n.ensures.left
    (omega (arith, length-take c.in-Some.n c.next.new.buffer, piece.1, c.next.ensures.length, c.next.auto.buffer)) c.pass_on-passed.ensures.bytes
    c.loop-out.invariant
    piece.2
    (rw c.clear.ensures.items at c.pass_on-passed.ensures.appended) (rw c.clear.ensures.items at c.in_err-passed.ensures.err)
    (rw c.deref.ensures.value at c.in_ok-write_fully.ensures.ok))

pub returns-in_err-passed-clause-end : goal.returns-in_err-passed-clause-end
returns-in_err-passed-clause-end g c =
    let p = err_from_is_err_and c.from_residual-in_err-passed.result c.from_residual-in_err-passed.ensures.1 in
    rw (p.1, p.2) (not_truncated c.in_err-passed.field-0.0 c.args.form c.loop-out.framer (take c.in-Some.n c.next.new.buffer) []
    c.pass_on-passed.new.out.items _
    (rw c.clear.ensures.items at c.in_err-passed.ensures.err))

pub loop-out-preserved : goal.loop-out-preserved
loop-out-preserved g c =
    let piece = rw c.in-Some.is at c.in_ok-n.ensures.piece in
    rw piece.3 (read_more c.args.form c.loop-out.framer (passing_progress c.pass_on-passed.new.framer c.pass_on-passed.new.out.items
    c.pass_on-passed.new.counts) c.loop-out.counts c.loop-out.reads c.saturating_add.result
    (sides (g.R.Read.remaining c.args.r.now) (g.W.Write.contents c.args.w.now))
    (sides (g.R.Read.remaining c.loop-out.r) (g.W.Write.contents c.loop-out.w))
    (sides (g.R.Read.remaining c.next.new.r) (g.W.Write.contents c.write_fully.new.w)) (take c.in-Some.n c.next.new.buffer) c.in_ok-passed.ensures.ok.0
    c.in_ok-n.ensures.left
    (omega (arith, length-take c.in-Some.n c.next.new.buffer, piece.1, c.next.ensures.length, c.next.auto.buffer)) c.pass_on-passed.ensures.bytes
    c.loop-out.invariant
    piece.2
    (omega (arith, c.saturating_add.ensures, length-take c.in-Some.n c.next.new.buffer, piece.1)) (rw c.clear.ensures.items at c.in_ok-passed.ensures.ok.1)
    (rw c.deref.ensures.value at c.in_ok-write_fully.ensures.ok))

pub pass_on-passed-requires-clause-limit : goal.pass_on-passed-requires-clause-limit
pass_on-passed-requires-clause-limit g c = c.loop-out.invariant.limit

pub pass_on-passed-requires-clause-unready : goal.pass_on-passed-requires-clause-unready
pass_on-passed-requires-clause-unready g c = c.loop-out.invariant.unready
