use Rattle.iscsi_event_loop.proofs.RoomLemmas.{oldest_first}
use Rattle.iscsi_event_loop.proofs.room.makes_room.Goals as goal

pub loop-slot-init : goal.loop-slot-init
loop-slot-init c = oldest_first c.args.table.now c.args.arrivals.now
