use Rattle.std.proofs.Common.{◌≡◌, ◌⊎◌, inl, inr, [], sym, ap, ◌∙◌}
use Rattle.iscsi_login.specs.declared.phase.Phase.{Phase}
use Rattle.iscsi_login.specs.declared.phase.Phase.TheVariants as phases
use Rattle.std.proofs.lemmas.Result.{err_from_is_err_and}
use Rattle.scsi_disk.specs.Sparse.{extents_disk}
use Rattle.iscsi_loop.specs.LoopPairs.{outcomes_on}
use Rattle.iscsi_loop.specs.inner.LoopPairs.{BothEnds}
use Rattle.iscsi_loop.proofs.BlameLemmas.{logged_in, starts_blameless}
use Rattle.iscsi_loop.proofs.HistoryLemmas.{started, then_continues}
use Rattle.iscsi_loop.proofs.PairStepLemmas.{login_begins, logs_in}
use Rattle.iscsi_loop.proofs.loop_script.LoopbackSession.log_in.Goals as goal

pub returns-in-Full : goal.returns-in-Full
returns-in-Full g c =
    let before = c.args.self.now in
    let after = c.settle.new.self in record {
      continues = then_continues _ c.start.new.self.machine _ [] [] [] [] (started before.initiator c.start.new.self _ _ c.in_ok-start.ensures.starts)
          c.in_ok-settle.ensures.continues;
      served = λ faithful blocks new. logs_in before.initiator c.start.new.self after.initiator before.target after.target (extents_disk before.store)
          (extents_disk after.store)
          c.start.new.out.items blocks new (rw c.new-out.ensures.items at c.in_ok-start.ensures.starts) (c.in_ok-settle.ensures.served faithful);
      blameless = λ faithful blocks new. tt;
      err = tt;
    }

pub returns-in_err-start-clause-blameless : goal.returns-in_err-start-clause-blameless
returns-in_err-start-clause-blameless g c = λ faithful blocks new.
    let p = err_from_is_err_and c.from_residual.result c.from_residual.ensures.1 in
    rw (p.1, p.2) (starts_blameless _ c.args.self.now.initiator c.start.new.self _ _ (ap (λ (e : BothEnds). e.initiator) new) c.in_err-start.ensures.starts)

pub returns-in_err-settle-clause-blameless : goal.returns-in_err-settle-clause-blameless
returns-in_err-settle-clause-blameless g c = λ faithful blocks new.
    let p = err_from_is_err_and c.from_residual-in_err-settle.result c.from_residual-in_err-settle.ensures.1 in
    let before = c.args.self.now in
    rw (p.1, p.2) (c.in_err-settle.ensures.blameless faithful blocks [] (outcomes_on blocks [])
    (login_begins before.initiator c.start.new.self before.target (extents_disk before.store) c.start.new.out.items blocks new
    (rw c.new-out.ensures.items at c.in_ok-start.ensures.starts)))

not_full : (p : Phase) → p ≡ phases.Full → (p ≡ phases.Login) ⊎ (p ≡ phases.Closed) → ⊥
not_full p full (inl e) = (let bad : phases.Login ≡ phases.Full = sym e ∙ full in cc)
not_full p full (inr e) = (let bad : phases.Closed ≡ phases.Full = sym e ∙ full in cc)

pub returns-in-Login : goal.returns-in-Login
returns-in-Login g c =
    let before = c.args.self.now in
    let after = c.settle.new.self in record {
      continues = tt;
      served = λ faithful blocks new. tt;
      blameless = λ faithful blocks new.
          let full : c.phase.result ≡ phases.Full = c.phase.ensures.phase ∙ logged_in after.initiator after.target (extents_disk after.store) blocks
          (logs_in before.initiator c.start.new.self after.initiator before.target after.target (extents_disk before.store) (extents_disk after.store)
          c.start.new.out.items blocks new (rw c.new-out.ensures.items at c.in_ok-start.ensures.starts) (c.in_ok-settle.ensures.served faithful)) in
          absurd (not_full c.phase.result full c.in-Login.is);
      err = rw c.no_outcome.ensures tt;
    }
