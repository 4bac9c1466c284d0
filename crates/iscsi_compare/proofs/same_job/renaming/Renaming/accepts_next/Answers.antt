use Rattle.std.proofs.Common.{refl}
use Rattle.iscsi_stream.specs.Framing.{is_ready}
use Rattle.iscsi_compare.proofs.NextMessageLemmas.{both_next, first_next, second_next, unready_of}
use Rattle.iscsi_compare.proofs.same_job.renaming.Renaming.accepts_next.Goals as goal

pub returns-in-Some-Some-clause-learns : goal.returns-in-Some-Some-clause-learns
returns-in-Some-Some-clause-learns c =
    let v = c.args.first.now in
    let w = c.args.second.now in
    let p = c.in-Some-Some.mine in
    let q = c.in-Some-Some.other in
    let one = c.in-Some-Some.ensures in
    let two = c.in-Some-Some.ensures' in
    let ready = one.ready.0 refl in
    let other_ready = two.ready.0 refl in
    both_next c.args.self.now c.accepts.new.self v w p.head q.head p.bytes.now q.bytes.now c.continued.result c.continued-in-Some-Some.result c.accepts.result
    ready other_ready one.means two.means
    (c.continued.ensures.value p.head p.bytes.now ready one.means) (c.continued-in-Some-Some.ensures.value q.head q.bytes.now other_ready two.means)
    c.accepts.ensures.learns

pub returns-in-Some-None-clause-learns : goal.returns-in-Some-None-clause-learns
returns-in-Some-None-clause-learns c =
    let v = c.args.first.now in
    let w = c.args.second.now in
    let p = c.in-Some-None.field-0-0 in
    first_next c.args.self.now v w p.head p.bytes.now (c.in-Some-None.ensures.ready.0 refl) c.in-Some-None.ensures.means
    (unready_of (is_ready w) c.in-Some-None.ensures'.ready.1)

pub returns-in-None-Some-clause-learns : goal.returns-in-None-Some-clause-learns
returns-in-None-Some-clause-learns c =
    let v = c.args.first.now in
    let w = c.args.second.now in
    let q = c.in-None-Some.field-0-1 in
    second_next c.args.self.now v w q.head q.bytes.now (unready_of (is_ready v) c.in-None-Some.ensures.ready.1)
    (c.in-None-Some.ensures'.ready.0 refl) c.in-None-Some.ensures'.means
