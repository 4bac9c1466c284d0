use Rattle.iscsi_job_text.proofs.LineLemmas.{part_taken}
use Rattle.iscsi_job_text.proofs.line_reading.LineReader.take_piece.Goals as goal

pub returns : goal.returns
returns c =
    rw (← c.self.view_is)
    (part_taken c.self.inside.piece c.self.inside.from c.self.inside.to c.in_ok-count.count c.self.inside.count c.self.inside.line.items c.take_front.new.line.items c.in_ok-count.is_last c.in_ok-count.ensures.bound c.in_ok-count.ensures.taken)
