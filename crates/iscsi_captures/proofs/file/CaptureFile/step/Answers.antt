use Rattle.iscsi_captures.proofs.file.CaptureFile.step.Goals as goal

pub returns : goal.returns
returns g c = record {
  reads = c.read_on.ensures.reads;
  end = c.stand.ensures.on (g.R.Read.remaining c.read_on.new.file);
  fault = c.stand.ensures.fault (g.R.Read.remaining c.read_on.new.file);
}
