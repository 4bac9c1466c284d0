use Rattle.iscsi_compare.specs.Comparing.{GaveInput}
use Rattle.iscsi_compare.proofs.VerdictLemmas.{from_parts}
use Rattle.iscsi_comparison.proofs.comparing.judged.Goals as goal

pub returns-in-Meaning-clause-compares : goal.returns-in-Meaning-clause-compares
returns-in-Meaning-clause-compares g c = rw c.in-Meaning.is (from_parts (GaveInput (g.R.Read.remaining c.args.mine.now) (g.R.Read.remaining c.compare.new.mine))
    (GaveInput (g.Q.Read.remaining c.args.other.now) (g.Q.Read.remaining c.compare.new.other)) c.compare.result c.compare.ensures.same c.compare.ensures.differ
    c.compare.ensures.fault)
