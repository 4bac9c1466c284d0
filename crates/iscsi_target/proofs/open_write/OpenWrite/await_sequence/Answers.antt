use Rattle.std.proofs.Common.{length, ap, ◌∙◌, arith}
use Rattle.iscsi_target.specs.Write.{Write}
use Rattle.iscsi_target.specs.Transfer.{is_nothing_due, bytes_received}
use Rattle.iscsi_target.proofs.Writes.OpenWriteLemmas.{data_of_one}
use Rattle.iscsi_target.proofs.Answers.CommandLemmas.{asked_idle}
use Rattle.iscsi_target.proofs.open_write.OpenWrite.await_sequence.Goals as goal

pub invariant_of-self : goal.invariant_of-self
invariant_of-self c =
    let v = c.self.view_is in
    let few = asked_idle c.self.inside.total (length c.self.inside.data.items) c.self.inside.r2t_count c.self.inside.due
    (ap (λ (w : Write). is_nothing_due w.due) v
    ∙ c.requires.idle) c.self.invariant.0.counted_r2ts in
    let size = ap (λ (w : Write). bytes_received w) v in
    let total = ap (λ (w : Write). w.total) v in
    let one = ap length (data_of_one c.self.inside.data.items) in (
      record {
        is_write = c.self.invariant.0.is_write;
        found_is = c.self.invariant.0.found_is;
        total_is = c.self.invariant.0.total_is;
        fits = c.self.invariant.0.fits;
        counted_r2ts = (
          omega (arith, c.received.ensures.value, c.requires.fits, total, size),
          omega (arith, few, size, one, c.received.ensures.value, c.requires.some),
        );
      },
      c.self.invariant.1,
    )
