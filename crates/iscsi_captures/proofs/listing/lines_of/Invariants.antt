use Rattle.std.proofs.Common.{take, string_bytes}
use Rattle.iscsi_captures.specs.Listing.{AreLinesFrom}
use Rattle.iscsi_captures.proofs.listing.lines_of.Given as goal

-- the lines of the first connections
abbrev pub invariant-loop-k : goal.invariant-loop-k
invariant-loop-k l = AreLinesFrom 0 (take l.k l.list) (string_bytes l.lines)
