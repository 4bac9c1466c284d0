use Rattle.std.proofs.Common.{subst}
use Rattle.iscsi_serving.specs.Access.{door_of}
use Rattle.iscsi_event_loop.specs.Running.{RunsIdle}
use Rattle.iscsi_event_loop.specs.Serving.{ServerState}
use Rattle.iscsi_event_loop.proofs.RunningLemmas.{goes_idle}
use Rattle.iscsi_event_loop.proofs.server.Server.free.Goals as goal

pub returns-clause-runs : goal.returns-clause-runs
returns-clause-runs c = subst (λ (s : ServerState). RunsIdle s.room (record { table = c.leave.new.self; door = door_of c.self.inside.access })) c.self.view_is
    (goes_idle (door_of c.self.inside.access) c.self.inside.table c.leave.new.self c.args.slot c.leave.ensures.free c.leave.ensures.goes)
