use Rattle.iscsi_captures.proofs.Shown.{some_then}
use Rattle.iscsi_captures.proofs.pdus.Reading.read.Goals as goal

pub returns : goal.returns
returns c = record { appends = some_then c.args.manner.form _ _ _ c.pass-2.ensures.appends c.pass-3.ensures.appends }
