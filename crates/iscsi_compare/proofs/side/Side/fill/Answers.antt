use Rattle.std.proofs.Common.{arith}
use Rattle.iscsi_compare.proofs.SideLemmas.{at_end, at_piece, cannot_read, cannot_end}
use Rattle.iscsi_compare.proofs.side.Side.fill.Goals as goal

pub returns-in-Err-clause-err : goal.returns-in-Err-clause-err
returns-in-Err-clause-err g c =
    cannot_read c.args.self.now (g.R.Read.remaining c.args.r.now) (g.R.Read.remaining c.next.new.r) c.requires.none
    c.in-Err.ensures.err.0 c.requires.unready

pub returns-in-Ok-clause-ok : goal.returns-in-Ok-clause-ok
returns-in-Ok-clause-ok g c =
    let end = rw c.in-Ok-None.field-0-is at c.in-Ok-None.ensures.end in
    rw end.2 (at_end c.args.self.now c.finish.new.self c.next.new.buffer (g.R.Read.remaining c.args.r.now) (g.R.Read.remaining c.next.new.r)
    c.requires.none end.1 end.0 c.requires.unready c.in-Ok.ensures.ok.1 c.in-Ok.ensures.ok.2)

pub returns-in-Err-finish-clause-err : goal.returns-in-Err-finish-clause-err
returns-in-Err-finish-clause-err g c =
    let end = rw c.in-Ok-None.field-0-is at c.in-Ok-None.ensures.end in
    rw c.compare_fault.ensures (cannot_end c.args.self.now c.in-Err-finish.fault (g.R.Read.remaining c.args.r.now)
    (g.R.Read.remaining c.next.new.r) c.requires.none end.1 end.0 c.in-Err-finish.ensures.err)

pub returns-in-Ok-Some-clause-ok : goal.returns-in-Ok-Some-clause-ok
returns-in-Ok-Some-clause-ok g c =
    let piece = rw c.in-Ok-Some.field-0-is at c.in-Ok-Some.ensures.piece in
    rw piece.3 (at_piece c.args.self.now c.next.new.buffer c.in-Ok-Some.count (g.R.Read.remaining c.args.r.now) (g.R.Read.remaining c.next.new.r)
    c.requires.none piece.2 c.next.ensures.bytes (omega (arith, piece.1, c.next.ensures.length, c.requires.inside.piece)) c.in-Ok-Some.ensures.left)
