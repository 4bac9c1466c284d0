use Rattle.std.proofs.Common.{◌≡◌, ◌∙◌}
use Rattle.std.proofs.lemmas.Result.{err_from_is_err_and}
use Rattle.scsi_disk.specs.Sparse.{extents_disk}
use Rattle.iscsi_login.specs.declared.phase.Phase.TheVariants as phases
use Rattle.iscsi_stream.proofs.ReadyLemmas.{apart}
use Rattle.iscsi_loop.proofs.BlameLemmas.{finish_blameless}
use Rattle.iscsi_loop.proofs.loop_script.LoopbackSession.finish.Goals as goal

pub returns-in_err-finish-clause-blameless : goal.returns-in_err-finish-clause-blameless
returns-in_err-finish-clause-blameless c =
    let p = err_from_is_err_and c.from_residual.result c.from_residual.ensures.1 in
    let before = c.args.self.now in
    rw (p.1, p.2) (finish_blameless c.in_err-finish.field-0.0 before.initiator before.target c.finish.new.self (extents_disk before.store)
    c.in_err-finish.ensures.finishes
    (λ over. let same : c.phase.result ≡ phases.Closed = c.phase.ensures.phase ∙ over in apart c.if-ne.true (rw same at c.ne.ensures)))
