use Rattle.iscsi_compare.specs.inner.Inside.{pending}
use Rattle.iscsi_compare.proofs.SideLemmas.{feed_fails, fed_side, fed_fuel}
use Rattle.iscsi_compare.proofs.side.Side.feed.Goals as goal

pub returns-in-Err-clause-err : goal.returns-in-Err-clause-err
returns-in-Err-clause-err c read ms left r =
    let s = c.args.self.now in
    rw c.compare_fault.ensures (feed_fails c.in-Err.fault s.which read ms s.framer (pending s) s.reads left r c.in-Err.ensures.err)

pub returns-clause-fuel : goal.returns-clause-fuel
returns-clause-fuel c = fed_fuel c.args.self.now c.feed_part.new.framer c.in-Ok.taken c.requires.inside.order c.in-Ok.ensures.ok

pub returns-clause-ok : goal.returns-clause-ok
returns-clause-ok c read ms r = fed_side c.args.self.now c.feed_part.new.framer c.in-Ok.taken read ms c.requires.inside.order r c.in-Ok.ensures.ok
