use Rattle.iscsi_compare.proofs.SegmentTextLemmas.{same_texts_if}
use Rattle.iscsi_compare.proofs.same_job.segments.is_same_segment.Goals as goal

pub returns-in-Some-Some : goal.returns-in-Some-Some
returns-in-Some-Some c =
    same_texts_if c.args.mine_continues c.args.other_continues c.args.mine.now.head c.args.other.now.head c.args.mine.now.bytes.now c.args.other.now.bytes.now _
    _
    c.in_ok-text.text c.in_ok-other_text.other_text c.is_same_text.result c.in_ok-text.ensures.means c.in_ok-other_text.ensures.means c.in-Some-Some.is-0
    c.in-Some-Some.is-1 c.is_same_text.ensures
