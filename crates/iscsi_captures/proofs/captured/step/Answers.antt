-- A step that fails before a segment is heard adds nothing.
use Rattle.std.proofs.lemmas.Result.{err_from_is_err_and}
use Rattle.capture_connections.specs.Following.{Table}
use Rattle.iscsi_captures.specs.Giving.{AddsSome}
use Rattle.iscsi_captures.proofs.Reading.{adds_nothing, on_err}
use Rattle.iscsi_captures.proofs.captured.step.Goals as goal

pub returns-in_err-step-clause-err : goal.returns-in_err-step-clause-err
returns-in_err-step-clause-err g c =
    on_err c.from_residual.result ((table : Table) × AddsSome c.args.wanted c.args.connections.now table c.clear.new.self.items)
    (adds_nothing c.args.wanted c.args.connections.now c.clear.new.self.items c.clear.ensures.items)

pub returns-in_err-step-clause-fault : goal.returns-in_err-step-clause-fault
returns-in_err-step-clause-fault g c =
    let p = err_from_is_err_and c.from_residual.result c.from_residual.ensures.1 in
    rw (p.1, p.2) (c.in_err-step.ensures.fault c.args.wanted.connection)

pub returns-in_err-hear-in-Packet-clause-fault : goal.returns-in_err-hear-in-Packet-clause-fault
returns-in_err-hear-in-Packet-clause-fault g c =
    let p = err_from_is_err_and c.from_residual-in_err-hear-in-Packet.result
    c.from_residual-in_err-hear-in-Packet.ensures.1 in
    rw (p.1, p.2) (c.in_err-hear-in-Packet.ensures.fault (g.R.Read.remaining c.step.new.file))

pub returns-in_err-at_end-in-End-clause-err : goal.returns-in_err-at_end-in-End-clause-err
returns-in_err-at_end-in-End-clause-err g c =
    on_err c.from_residual-in_err-at_end-in-End.result ((table : Table) × AddsSome c.args.wanted c.args.connections.now table c.clear.new.self.items)
    (adds_nothing c.args.wanted c.args.connections.now c.clear.new.self.items c.clear.ensures.items)
