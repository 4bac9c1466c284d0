-- The first bytes that are known are given.
use Rattle.std.proofs.Common.{take, sym, subst}
use Rattle.iscsi_captures.specs.Giving.{Listening, DirectionReadsOn}
use Rattle.iscsi_captures.proofs.Reading.{reads_give}
use Rattle.iscsi_captures.proofs.captured.CapturedRead.read.Goals as goal

pub returns-clause-gives : goal.returns-clause-gives
returns-clause-gives g c =
    let P : Listening → Type 0 = λ new. DirectionReadsOn c.args.self.now new (take c.give-count.result c.give-count.new.buf) in
    subst P (sym c.give-count.ensures.rest)
    (reads_give c.args.self.now c.advance.new.self c.give-count.result
    (take c.give-count.result c.give-count.new.buf) c.advance.ensures.reads c.give-count.ensures.bytes)
