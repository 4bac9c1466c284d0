use Rattle.iscsi_captures.proofs.Shown.{wrote_more}
use Rattle.iscsi_captures.proofs.interleaved.show_capture.Goals as goal

pub returns : goal.returns
returns g c = record { moves = wrote_more _ _ _ c.read_all-read.ensures.moves c.write_gathered-written.ensures.moves }
