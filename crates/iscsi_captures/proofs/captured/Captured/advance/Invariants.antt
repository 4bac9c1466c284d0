-- What was read on so far; nothing of it was given.
use Rattle.std.proofs.Common.{◌≡◌, []}
use Rattle.iscsi_captures.specs.Giving.{DirectionReadsOn}
use Rattle.iscsi_captures.proofs.captured.Captured.advance.Given as goal

abbrev pub invariant-loop-turn : goal.invariant-loop-turn
invariant-loop-turn g l = (l.self-inside.given ≡ 0) × DirectionReadsOn l.fn.self (record {
  connections = l.self-inside.connections;
  wanted = l.self-inside.wanted;
  known = l.self-inside.out.items;
  ended = l.self-inside.ended;
  fault = l.self-inside.fault;
  left = g.R.Read.remaining l.self-inside.source.now;
}) []
