use Rattle.std.specs.Io.KnownBytes.{Appends, Consumes}
use Rattle.iscsi_stream.proofs.MeaningPartsLemmas.{ok_part, fault_part}
use Rattle.iscsi_stream.proofs.normalising.normalise.Goals as goal

pub returns-clause-ok : goal.returns-clause-ok
returns-clause-ok g c = ok_part (Consumes (g.R.Read.remaining c.args.r.now) (g.R.Read.remaining c.write_stream.new.r))
    (Appends (g.W.Write.contents c.args.w.now) (g.W.Write.contents c.write_stream.new.w)) c.write_stream.result c.write_stream.ensures.writes

pub returns-clause-fault : goal.returns-clause-fault
returns-clause-fault g c = fault_part (Consumes (g.R.Read.remaining c.args.r.now) (g.R.Read.remaining c.write_stream.new.r))
    (Appends (g.W.Write.contents c.args.w.now) (g.W.Write.contents c.write_stream.new.w)) c.write_stream.result c.write_stream.ensures.writes
