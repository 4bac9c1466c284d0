use Rattle.std.proofs.Common.{subst}
use Rattle.iscsi_serving.specs.Access.{IsAdmitted}
use Rattle.iscsi_event_loop.specs.Serving.{ServerState}
use Rattle.iscsi_event_loop.proofs.server.Server.configured.Goals as goal

pub returns-in-Ok-clause-admitted : goal.returns-in-Ok-clause-admitted
returns-in-Ok-clause-admitted c = subst (λ (s : ServerState). IsAdmitted s.room.door c.in-Ok.config) c.self.view_is
    (c.in_ok-config-4.config, c.in-Ok.ensures.demands)
