use Rattle.std.proofs.Common.{◌≡◌, ◌∙◌, sym}
use Rattle.iscsi_stream.specs.Canonical.{canon}
use Rattle.iscsi_stream.proofs.MeaningPartsLemmas.{same_exactly}
use Rattle.iscsi_stream.proofs.normalising.have_one_meaning.Goals as goal

pub returns-clause-same : goal.returns-clause-same
returns-clause-same g c =
    let a = c.in_ok-normalise.ensures.ok in
    let b = c.in_ok-normalise-2.ensures.ok in
    let first : c.deref.result.now ≡ canon a.5.0 = c.deref.ensures.value ∙ (rw c.new-first.ensures.items at a.4) ∙ a.5.2 in
    let second : c.deref-2.result.now ≡ canon b.5.0 = c.deref-2.ensures.value ∙ (rw c.new-second.ensures.items at b.4) ∙ b.5.2 in
    let e = same_exactly a.0 b.0 a.5.0 b.5.0 a.2 b.2 a.5.1 b.5.1 in
    let is = c.are_equal.ensures in (
      a.0,
      b.0,
      a.5.0,
      b.5.0,
      a.3,
      b.3,
      a.5.1,
      b.5.1,
      ((λ t. e.0 (sym first ∙ is.0 t ∙ second)), (λ s. is.1 (first ∙ e.1 s ∙ sym second))),
    )
