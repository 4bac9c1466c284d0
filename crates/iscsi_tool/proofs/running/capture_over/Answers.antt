use Rattle.std.specs.Prelude.{[], Err}
use Rattle.iscsi_captures.specs.declared.fault.CapturesFault.TheVariants as fault
use Rattle.iscsi_tool.proofs.RunningLemmas.{writes_nothing, wrote_none, told_itself, ends_capture}
use Rattle.iscsi_tool.proofs.running.capture_over.Goals as goal

pub returns-in_default : goal.returns-in_default
returns-in_default g c = record {
  ends = (
    [],
    writes_nothing (g.W.Write.contents c.args.w.now),
    ends_capture c.args.job c.args.job (Err fault.NoMemory) c.captured.result [] (wrote_none c.args.job.work fault.NoMemory)
        (told_itself c.args.job) c.captured.ensures.outcome,
  );
}
