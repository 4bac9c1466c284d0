use Rattle.iscsi_stream.proofs.LineLemmas.{no_end-hex}
use Rattle.iscsi_stream.proofs.lines.writing.Line.whole.Goals as goal

pub put-requires-2 : goal.put-requires-2
put-requires-2 c = no_end-hex _ _ c.in-Ok.ensures.written
