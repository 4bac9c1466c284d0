use Rattle.std.proofs.Common.{sym, ◌∙◌}
use Rattle.iscsi_stream.specs.Segment.{is_last_login_pdu}
use Rattle.iscsi_stream.proofs.SegmentLemmas.{segment_plain, segment_read, none_whole}
use Rattle.iscsi_stream.proofs.canonical_form.text_in.Goals as goal
use Rattle.iscsi_stream.proofs.canonical_form.text_in.Goals.{then-continued-via-then-continued, then-continued-via-else-continued+then-not-is_last}

pub returns-then-continued-clause-means : goal.returns-then-continued-clause-means
returns-then-continued-clause-means c =
    segment_plain c.args.continued c.args.head.now c.args.bytes.now (elim c.then-continued.branch [
      | then-continued-via-then-continued w ↦ none_whole.0 c.args.continued (is_last_login_pdu c.args.head.now) w.if-continued.true
      | then-continued-via-else-continued+then-not-is_last w ↦ none_whole.1 c.args.continued (is_last_login_pdu c.args.head.now)
          (sym w.is_last.ensures ∙ w.if-not-is_last.true)
    ])

pub returns-clause-means : goal.returns-clause-means
returns-clause-means c = segment_read c.args.continued c.args.head.now c.args.bytes.now c.read_text.result c.if-continued.false
    (sym c.is_last.ensures ∙ c.if-not-is_last.false) c.read_text.ensures.means
