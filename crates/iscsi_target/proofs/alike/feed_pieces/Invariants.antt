use Rattle.std.proofs.Common.{◌≡◌, ◌≤◌, map, take}
use Rattle.iscsi_target.specs.Feed.{FeedsAllPieces, scene}
use Rattle.iscsi_target.specs.Advances.{store_of}
use Rattle.iscsi_target.proofs.alike.feed_pieces.Given as goal

-- The pieces so far were fed, if no failure was counted.
abbrev pub invariant-loop-piece : goal.invariant-loop-piece
invariant-loop-piece g l =
    let disk = g.S.BlockStore.disk in
    let failures = g.S.BlockStore.failures in
    record {
      rises : failures l.fn.store ≤ failures l.store;
      fed : failures l.store ≡ failures l.fn.store
          → FeedsAllPieces g.S.BlockStore.protected (scene l.fn.answered.target (store_of (disk l.fn.store) (failures l.fn.store)) l.fn.answered.output.items)
          (map (λ piece. piece.items) (take l.piece-index l.pieces))
          (scene l.answered.target (store_of (disk l.store) (failures l.store)) l.answered.output.items);
    }
