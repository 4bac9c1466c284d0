use Rattle.std.proofs.Common.{◌∙◌}
use Rattle.iscsi_stream.proofs.LineLemmas.{no_end-decimal}
use Rattle.iscsi_stream.proofs.lines.writing.Line.number.Goals as goal

pub put-requires : goal.put-requires
put-requires c = no_end-decimal _ _ c.ranges.number.fits (c.as_bytes.ensures.value ∙ c.format.ensures.text)
