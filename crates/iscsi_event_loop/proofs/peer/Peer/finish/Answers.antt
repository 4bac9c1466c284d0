use Rattle.iscsi_event_loop.proofs.RunningLemmas.{ends_at}
use Rattle.iscsi_event_loop.proofs.peer.Peer.finish.Goals as goal

pub returns-in-Ok-clause-runs : goal.returns-in-Ok-clause-runs
returns-in-Ok-clause-runs c = ends_at c.args.slot c.args.table.now c.finish.new.self c.finish.result c.finish.ensures.finishes c.finish.ensures.ends

pub returns-in-Err-clause-runs : goal.returns-in-Err-clause-runs
returns-in-Err-clause-runs c = ends_at c.args.slot c.args.table.now c.finish.new.self c.finish.result c.finish.ensures.finishes c.finish.ensures.ends
