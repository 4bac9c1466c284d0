use Rattle.std.proofs.Common.{[]}
use Rattle.std.proofs.lemmas.Result.{err_from_is_err_and}
use Rattle.iscsi_serve.proofs.SessionEndLemmas.{none_served}
use Rattle.iscsi_serve.proofs.SessionReadInvariant.{fault_served}
use Rattle.iscsi_serve.proofs.serving.serve_one.Goals as goal

pub returns-clause-serves : goal.returns-clause-serves
returns-clause-serves g c =
    let s = c.in-Err.ensures.serves in (
      s.0,
      s.1,
      λ h. rw c.from.ensures (fault_served g.S.BlockStore.protected c.args.config (g.S.BlockStore.disk c.args.store.now) c.in-Err.fault s.0
          (g.S.BlockStore.disk c.serve_reads.new.store) s.1 (s.5 h)),
    )

pub returns-in-Ok-clause-serves : goal.returns-in-Ok-clause-serves
returns-in-Ok-clause-serves g c =
    let s = c.in-Ok.ensures.serves in
    (s.0, s.1, s.5)

pub returns-in_err-buffer-clause-serves : goal.returns-in_err-buffer-clause-serves
returns-in_err-buffer-clause-serves g c =
    let p = err_from_is_err_and c.from_residual.result c.from_residual.ensures.1 in
    rw (p.1, p.2) ([], [], λ h. none_served g.S.BlockStore.protected c.args.config (g.S.BlockStore.disk c.args.store.now))
