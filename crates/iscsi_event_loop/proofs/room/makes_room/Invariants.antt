use Rattle.iscsi_event_loop.proofs.RoomLemmas.{OldestBefore}
use Rattle.iscsi_event_loop.proofs.room.makes_room.Given as goal

abbrev pub invariant-loop-slot : goal.invariant-loop-slot
invariant-loop-slot l = OldestBefore l.table l.arrivals l.slot l.oldest
