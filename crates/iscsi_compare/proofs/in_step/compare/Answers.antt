use Rattle.std.specs.Prelude.{Ok}
use Rattle.iscsi_compare.specs.declared.verdict.Verdict.TheVariants as verdict
use Rattle.iscsi_compare.specs.Comparing.{ReadInput, GaveInput}
use Rattle.iscsi_compare.proofs.VerdictLemmas.{as_said, fault_said}
use Rattle.iscsi_compare.proofs.in_step.compare.Goals as goal

pub returns : goal.returns
returns g c =
    let P : ReadInput → Type 0 = GaveInput (g.R.Read.remaining c.args.mine.now) (g.R.Read.remaining c.compare_streams.new.mine) in
    let Q : ReadInput → Type 0 = GaveInput (g.Q.Read.remaining c.args.other.now) (g.Q.Read.remaining c.compare_streams.new.other) in
    record {
      same = λ e. as_said P Q c.compare_streams.result (Ok verdict.Same) c.compare_streams.ensures.compares e;
      differ = λ place other_place e. as_said P Q c.compare_streams.result (Ok (verdict.Differ place other_place)) c.compare_streams.ensures.compares e;
      fault = fault_said P Q c.compare_streams.result c.compare_streams.ensures.compares;
      tells = c.compare_streams.ensures.tells;
    }
