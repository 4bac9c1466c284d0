use Rattle.std.proofs.Common.{◌≡◌, ◌∙◌, subst, sym}
use Rattle.iscsi_pair.specs.World.{World, Opening, new_pair}
use Rattle.iscsi_pair.specs.inner.World.{HasCome}
use Rattle.iscsi_pair.specs.Outcomes.{opening_of}
use Rattle.iscsi_pair.proofs.Run.ComesLemmas.{comes_first}
use Rattle.iscsi_pair.proofs.Run.OpeningLemmas.{has_started}
use Rattle.iscsi_pair.proofs.pair.Pair.new.Goals as goal

pub invariant_of-result : goal.invariant_of-result
invariant_of-result c =
    let o : Opening = opening_of c.args.initiator c.args.target c.args.first_statsn c.args.store in
    let same : c.start.new.self ≡ new_pair o =
    has_started o c.unstarted-ends.result c.start.new.self c.unstarted-ends.ensures.ends c.in_default.ensures.starts.1 c.start.ensures.others in
    subst (λ (w : World). HasCome w) (sym (c.in-Ok.ensures.ok ∙ same)) (comes_first o c.unstarted-ends.ensures.in_range)

pub returns-in-Ok-clause-opening : goal.returns-in-Ok-clause-opening
returns-in-Ok-clause-opening c =
    let o : Opening = opening_of c.args.initiator c.args.target c.args.first_statsn c.args.store in
    c.in-Ok.ensures.ok
    ∙ has_started o c.unstarted-ends.result c.start.new.self c.unstarted-ends.ensures.ends c.in_default.ensures.starts.1 c.start.ensures.others
