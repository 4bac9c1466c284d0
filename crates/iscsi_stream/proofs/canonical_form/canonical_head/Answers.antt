use Rattle.std.proofs.Common.{ap, ◌∙◌}
use Rattle.iscsi_pdu.specs.Meaning.{header}
use Rattle.iscsi_stream.specs.Segment.{segment_bytes}
use Rattle.iscsi_stream.proofs.canonical_form.canonical_head.Goals as goal

pub returns-in-Some-clause-ok : goal.returns-in-Some-clause-ok
unfolding segment_bytes
returns-in-Some-clause-ok c = rw (← c.in_ok-text.ensures.means, c.in-Some.is) (c.write_head.ensures.canonical
    ∙ ap (header c.args.pdu.now.head) c.canonical_len.ensures.len)

pub returns-in-None-clause-ok : goal.returns-in-None-clause-ok
unfolding segment_bytes
returns-in-None-clause-ok c = rw (← c.in_ok-text.ensures.means, c.in-None.is) c.write_head-in-None.ensures.canonical
