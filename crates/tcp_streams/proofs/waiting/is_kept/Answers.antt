-- A piece that lies in a part that waits lies in one of the pieces.
use Rattle.std.proofs.Common.{rules}
use Rattle.tcp_streams.specs.inner.Inside.{LiesIn, piece}
use Rattle.tcp_streams.specs.Parts.{piece_of}
use Rattle.tcp_streams.specs.Pieces.{Piece}
use Rattle.tcp_streams.proofs.Steps.{within_some}
use Rattle.tcp_streams.proofs.waiting.is_kept.Goals as goal

pub returns-then-is_within : goal.returns-then-is_within
returns-then-is_within c =
    let p : Piece = piece c.args.fresh.offset c.args.fresh.bytes.now in
    let within : LiesIn p (piece_of c.part-item.result) = search rules in
    λ _. within_some p c.args.waiting.now c.loop-part.part-index c.part-item.result c.loop-part-test.true c.part-item.is within
