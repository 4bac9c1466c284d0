use Rattle.std.proofs.Common.{length}
use Rattle.std.specs.declared.alloc.AllocError.{AllocError}
use Rattle.iscsi_target.specs.Advances.{store_of}
use Rattle.iscsi_target.specs.inner.Inside.{moment}
use Rattle.iscsi_target.specs.Crash.{commands_of}
use Rattle.iscsi_target.proofs.Feed.CrashLemmas.{Pends}
use Rattle.iscsi_target.proofs.Turns.TaskRunLemmas.{GoesOn}
use Rattle.iscsi_target.proofs.machine.Machine.run_queue.Given as goal

abbrev pub invariant-loop-task : goal.invariant-loop-task
invariant-loop-task g l = record {
  works : GoesOn g.S.BlockStore.protected AllocError (moment l.initial.self
      (store_of (g.S.BlockStore.disk l.initial.store) (g.S.BlockStore.failures l.initial.store))
      l.initial.out.items) (moment l.self (store_of (g.S.BlockStore.disk l.store) (g.S.BlockStore.failures l.store)) l.out.items);
  crash : Pends g.S.BlockStore.protected (commands_of l.initial.self.tasks)
      (commands_of l.self.tasks) (g.S.BlockStore.disk l.initial.store)
      (g.S.BlockStore.disk l.store)
      (g.S.BlockStore.kept l.initial.store) (g.S.BlockStore.kept l.store);
}

abbrev pub decreases-loop-task : goal.decreases-loop-task
decreases-loop-task g l = length l.self.tasks
