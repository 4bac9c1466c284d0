use Rattle.std.proofs.Common.{[], refl, sym, subst}
use Rattle.std.specs.Prelude.{Option}
use Rattle.iscsi_filters.specs.declared.program.StreamFilter.{StreamFilter}
use Rattle.iscsi_filters.specs.Program.{RunsFilter}
use Rattle.iscsi_filters.proofs.Untouched.{reads_nothing, writes_nothing}
use Rattle.iscsi_filters.proofs.program.run_asked.Goals as goal

pub returns-in-None : goal.returns-in-None
returns-in-None g c = record {
  runs = (
    [],
    [],
    reads_nothing (g.R.Read.remaining c.args.r.now),
    writes_nothing (g.W.Write.contents c.args.w.now),
    subst (λ (asked : Option StreamFilter). RunsFilter asked 2 [] []) (sym c.in-None.is) (refl, refl, refl),
  );
}
