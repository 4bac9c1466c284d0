use Rattle.iscsi_target.proofs.Queue.QueueLemmas.{opening_queue, step_rises}
use Rattle.iscsi_target.proofs.laws.queue.Goals as goal

pub returns : goal.returns
returns c = record { tasks = opening_queue; rises = step_rises }
