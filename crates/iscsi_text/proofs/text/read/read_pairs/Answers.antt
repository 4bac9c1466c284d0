use Rattle.iscsi_text.specs.Shown.{all_shown}
use Rattle.iscsi_text.proofs.FirstFaultLemmas.{repeats_mean_nothing}
use Rattle.iscsi_text.proofs.text.read.read_pairs.Goals as goal

pub first_fault-requires : goal.first_fault-requires
first_fault-requires c = repeats_mean_nothing c.args.bytes.now (all_shown c.gather.new.pairs.items) (all_shown c.sort.new.pairs.items)
    c.in_ok-ended_by.ended_by c.in_ok-ended_by.ensures c.in_ok-sort.ensures.ok
    (λ up. let ascends = c.ascends.ensures.1 (rw (← c.deref.ensures.value) at up) in cc (ascends, c.if-not-ascends.true))
