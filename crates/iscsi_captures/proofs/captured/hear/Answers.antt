-- A segment adds what it says.
use Rattle.iscsi_captures.proofs.Reading.{ok_one}
use Rattle.iscsi_captures.proofs.captured.hear.Goals as goal

pub returns-clause-ok : goal.returns-clause-ok
returns-clause-ok c =
    ok_one c.hear_segment.result c.args.wanted c.args.connections.now c.hear_segment.new.connections
    c.heard_of-heard.result c.hear_segment.new.out.items c.hear_segment.ensures.hears
