use Rattle.std.proofs.Common.{[], refl}
use Rattle.std.proofs.KnownBytes.{Appends-nil, Consumes-nil}
use Rattle.iscsi_tool.proofs.running.run_job.Goals as goal

pub returns-in-Serve : goal.returns-in-Serve
returns-in-Serve g c = record {
  runs = (
    [],
    [],
    Consumes-nil (g.R.Read.remaining c.args.r.now),
    Appends-nil (g.W.Write.contents c.args.w.now),
    rw c.in-Serve.is ((_, c.serve_storage.ensures.ends, c.served.ensures.outcome), refl, refl),
  );
}

pub returns-in-Capture : goal.returns-in-Capture
returns-in-Capture g c = record {
  runs = (
    [],
    c.capture_over.ensures.ends.0,
    Consumes-nil (g.R.Read.remaining c.args.r.now),
    c.capture_over.ensures.ends.1,
    rw c.in-Capture.is (c.capture_over.ensures.ends.2, refl),
  );
}

pub returns-in-CompareCaptures : goal.returns-in-CompareCaptures
returns-in-CompareCaptures g c = record {
  runs = (
    [],
    c.run_comparison.ensures.compares.0,
    Consumes-nil (g.R.Read.remaining c.args.r.now),
    c.run_comparison.ensures.compares.1,
    rw c.in-CompareCaptures.is ((c.run_comparison.result, c.run_comparison.ensures.compares.2, c.compared_captures.ensures.outcome), refl),
  );
}
