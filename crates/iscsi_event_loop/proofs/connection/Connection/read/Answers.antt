use Rattle.std.proofs.Common.{◌<◌, rules}
use Rattle.iscsi_event_loop.proofs.RunningLemmas.{receive_at}
use Rattle.iscsi_event_loop.proofs.connection.Connection.read.Goals as goal

pub returns-after-self-clause-runs : goal.returns-after-self-clause-runs
returns-after-self-clause-runs c =
    let positive : 0 < c.in-Ok.count = search rules in
    let some = c.in-Ok.ensures.some positive in
    receive_at c.args.slot some.0 c.args.table.now c.read.new.self some.3 c.in-Ok.ensures.machines
