use Rattle.std.proofs.Common.{[], refl, sym, subst}
use Rattle.iscsi_comparison.specs.Program.{EndsWith}
use Rattle.iscsi_filters.proofs.Untouched.{reads_nothing, writes_nothing}
use Rattle.iscsi_comparison.proofs.program.run_asked.Goals as goal

pub returns-in-None : goal.returns-in-None
returns-in-None g c = record {
  runs = (
    [],
    [],
    reads_nothing (g.R.Read.remaining c.args.r.now),
    writes_nothing (g.W.Write.contents c.args.w.now),
    subst (λ asked. EndsWith asked 2 [] (g.R.Read.remaining c.args.r.now) []) (sym c.in-None.is) (refl, refl, refl),
  );
}
