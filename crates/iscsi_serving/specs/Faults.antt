-- The faults of a service: the exit status of each, those of the two ends, and those that end it.
use Rattle.std.specs.Prelude.{ℕ}
use Rattle.iscsi_target.specs.declared.fault.TargetFault.{TargetFault}
use Rattle.iscsi_target.specs.declared.fault.TargetFault.TheVariants as target
use Rattle.iscsi_initiator.specs.declared.fault.InitiatorFault.{InitiatorFault}
use Rattle.iscsi_initiator.specs.declared.fault.InitiatorFault.TheVariants as initiator
use Rattle.iscsi_serving.specs.declared.fault.ServeFault.{ServeFault}
use Rattle.iscsi_serving.specs.declared.fault.ServeFault.TheVariants as serve

-- The exit status of a fault: 1 where what came is refused, 3 for memory, 4 for reading, writing,
-- a sync, random bytes and the network.
abbrev pub serve_exit_status : ServeFault → ℕ
serve_exit_status serve.NoMemory = 3
serve_exit_status (serve.Target fault) = 1
serve_exit_status (serve.Initiator fault) = 1
serve_exit_status (serve.Script line) = 1
serve_exit_status serve.Network = 4
serve_exit_status serve.Read = 4
serve_exit_status serve.Sync = 4
serve_exit_status serve.NoRandom = 4
serve_exit_status serve.Write = 4

-- A target's fault; its `NoMemory` is the session's own.
abbrev pub target_serve_fault : TargetFault → ServeFault
target_serve_fault target.NoMemory = serve.NoMemory
target_serve_fault (target.Stream fault) = serve.Target (target.Stream fault)
target_serve_fault (target.Protocol rule) = serve.Target (target.Protocol rule)
target_serve_fault target.Closed = serve.Target target.Closed

-- An initiator's fault; its `NoMemory` is the session's own.
abbrev pub initiator_serve_fault : InitiatorFault → ServeFault
initiator_serve_fault initiator.NoMemory = serve.NoMemory
initiator_serve_fault (initiator.Stream fault) = serve.Initiator (initiator.Stream fault)
initiator_serve_fault (initiator.Protocol rule) = serve.Initiator (initiator.Protocol rule)
initiator_serve_fault (initiator.Refused status detail) =
    serve.Initiator (initiator.Refused status detail)
initiator_serve_fault (initiator.BadAnswer key) = serve.Initiator (initiator.BadAnswer key)
initiator_serve_fault initiator.Closed = serve.Initiator initiator.Closed

-- The faults of a session that end the service.
abbrev pub EndsService : ServeFault → Type 0
EndsService serve.NoMemory = Unit {0}
EndsService serve.Network = Unit {0}
EndsService serve.Sync = Unit {0}
EndsService _ = ⊥
