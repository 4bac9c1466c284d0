use Rattle.std.proofs.Common.{subst, sym}
use Rattle.iscsi_serving.specs.Access.{IsAdmitted, door_of}
use Rattle.iscsi_event_loop.specs.Running.{RunsIdle}
use Rattle.iscsi_event_loop.specs.Serving.{ServerState}
use Rattle.iscsi_event_loop.proofs.RunningLemmas.{slot_idle}
use Rattle.iscsi_event_loop.proofs.server.Server.slot.Goals as goal

pub returns-clause-runs : goal.returns-clause-runs
returns-clause-runs c = subst (λ (s : ServerState). RunsIdle s.room (record { table = c.slot.new.self; door = door_of c.self.inside.access })) c.self.view_is
    (slot_idle (door_of c.self.inside.access) c.self.inside.table c.slot.new.self c.args.config c.slot.result
    (subst (λ (s : ServerState). IsAdmitted s.room.door c.args.config) (sym c.self.view_is) c.requires.admitted)
    c.slot.ensures.place c.slot.ensures.filled c.slot.ensures.full c.slot.ensures.comes)
