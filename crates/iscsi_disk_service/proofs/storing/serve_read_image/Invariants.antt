use Rattle.std.proofs.Common.{◌≡◌}
use Rattle.iscsi_serving.specs.Access.{door_of}
use Rattle.iscsi_event_loop.specs.Serving.{IsEmpty}
use Rattle.iscsi_disk_service.proofs.storing.serve_read_image.Given as goal

-- Nobody has a session, and the door stays.
abbrev pub invariant-loop : goal.invariant-loop
invariant-loop g l = record {
  empty : IsEmpty l.server.room.table;
  door : l.server.room.door ≡ door_of l.served.access;
}
