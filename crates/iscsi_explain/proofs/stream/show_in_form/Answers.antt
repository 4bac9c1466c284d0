use Rattle.std.proofs.Common.{take}
use Rattle.std.proofs.lemmas.Result.{err_from_is_err_and}
use Rattle.iscsi_explain.proofs.Reading.{at_start, read_more, writes_on, is_done}
use Rattle.iscsi_explain.proofs.stream.show_in_form.Goals as goal

pub loop-out-init : goal.loop-out-init
loop-out-init g c = rw c.new-framer.ensures (at_start c.args.form (g.R.Read.remaining c.args.r.now)
    (g.W.Write.contents c.args.w.now))

pub loop-out-preserved : goal.loop-out-preserved
loop-out-preserved g c =
    let piece = rw c.in-Some.is at c.in_ok-n.ensures.piece in
    read_more c.args.form c.loop-out.framer c.pass_on-passed.new.framer
    (g.R.Read.remaining c.args.r.now) (g.R.Read.remaining c.loop-out.r) (g.R.Read.remaining c.next.new.r)
    (g.W.Write.contents c.args.w.now) (g.W.Write.contents c.loop-out.w) (g.W.Write.contents c.write_fully.new.w)
    (take c.in-Some.n c.next.new.buffer) c.pass_on-passed.new.out.items c.in_ok-passed.ensures.ok.0
    c.loop-out.invariant piece.2 (rw c.clear.ensures.items at c.in_ok-passed.ensures.ok.1)
    (rw c.deref.ensures.value at c.in_ok-write_fully.ensures.ok)

pub returns-in_err-write_fully : goal.returns-in_err-write_fully
returns-in_err-write_fully g c =
    let piece = rw c.in-Some.is at c.in_ok-n.ensures.piece in
    let p = err_from_is_err_and c.from_residual-in_err-write_fully.result c.from_residual-in_err-write_fully.ensures.1 in
    let wrote = c.in_err-write_fully.ensures.err.1 in
    record {
      writes = rw p.1 (writes_on c.args.form c.loop-out.framer
          (g.R.Read.remaining c.args.r.now) (g.R.Read.remaining c.loop-out.r) (g.R.Read.remaining c.next.new.r)
          (g.W.Write.contents c.args.w.now) (g.W.Write.contents c.loop-out.w) (g.W.Write.contents c.write_fully.new.w)
          (take c.in-Some.n c.next.new.buffer) _ c.loop-out.invariant piece.2 wrote.1);
    }

pub returns-in_err-passed : goal.returns-in_err-passed
returns-in_err-passed g c =
    let piece = rw c.in-Some.is at c.in_ok-n.ensures.piece in
    let p = err_from_is_err_and c.from_residual-in_err-passed.result c.from_residual-in_err-passed.ensures.1 in
    record {
      writes = rw p.1 (writes_on c.args.form c.loop-out.framer
          (g.R.Read.remaining c.args.r.now) (g.R.Read.remaining c.loop-out.r) (g.R.Read.remaining c.next.new.r)
          (g.W.Write.contents c.args.w.now) (g.W.Write.contents c.loop-out.w) (g.W.Write.contents c.write_fully.new.w)
          (take c.in-Some.n c.next.new.buffer) _ c.loop-out.invariant piece.2 c.in_ok-write_fully.ensures.ok);
    }

pub returns : goal.returns
returns g c =
    record {
      writes = is_done c.args.form c.loop-out.framer
          (g.R.Read.remaining c.args.r.now) (g.R.Read.remaining c.loop-out.r) (g.R.Read.remaining c.next.new.r)
          (g.W.Write.contents c.args.w.now) (g.W.Write.contents c.loop-out.w) c.loop-out.invariant
          (rw c.in_default.is at c.in_ok-n.ensures.end).1 c.in_ok-finish.ensures.ok.1;
    }
