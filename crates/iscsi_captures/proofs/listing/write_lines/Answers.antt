-- What is left of the lines is not empty while it is written.
use Rattle.std.proofs.Common.{rules, ◌<◌, length}
use Rattle.iscsi_stream.proofs.WritingLemmas.{wrote_more}
use Rattle.iscsi_captures.proofs.Listed.{less_kept, less_none}
use Rattle.iscsi_captures.proofs.listing.write_lines.Goals as goal

pub loop-rest-preserved : goal.loop-rest-preserved
loop-rest-preserved g c =
    wrote_more c.args.lines.now c.loop-rest.rest.now (g.W.Write.contents c.args.w.now) (g.W.Write.contents c.loop-rest.w)
    (g.W.Write.contents c.write.new.self) c.in-Ok.n c.loop-rest.invariant c.in-Ok.ensures.bytes

pub returns-then-n-eq0-clause-err : goal.returns-then-n-eq0-clause-err
returns-then-n-eq0-clause-err g c =
    let some : 0 < length c.loop-rest.rest.now = search rules in
    less_none c.args.lines.now c.loop-rest.rest.now (g.W.Write.contents c.args.w.now) (g.W.Write.contents c.loop-rest.w)
    (g.W.Write.contents c.write.new.self) some c.loop-rest.invariant (rw c.if-n-eq0.true at c.in-Ok.ensures.bytes)

pub returns-in-Err-clause-err : goal.returns-in-Err-clause-err
returns-in-Err-clause-err g c =
    let some : 0 < length c.loop-rest.rest.now = search rules in
    less_kept c.args.lines.now c.loop-rest.rest.now (g.W.Write.contents c.args.w.now) (g.W.Write.contents c.loop-rest.w)
    (g.W.Write.contents c.write.new.self) some c.loop-rest.invariant c.in-Err.ensures.bytes
