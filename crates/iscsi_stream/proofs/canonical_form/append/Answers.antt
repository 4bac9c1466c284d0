use Rattle.iscsi_pdu.specs.Meaning.{whole}
use Rattle.iscsi_stream.specs.Segment.{segment_bytes}
use Rattle.iscsi_stream.proofs.canonical_form.append.Goals as goal

pub returns-in-Some-clause-ok : goal.returns-in-Some-clause-ok
unfolding segment_bytes whole
returns-in-Some-clause-ok c = rw (← c.in_ok-text.ensures.means, c.in-Some.is) c.append_text.ensures.ok

pub returns-in-None-clause-ok : goal.returns-in-None-clause-ok
unfolding segment_bytes whole
returns-in-None-clause-ok c = rw (← c.in_ok-text.ensures.means, c.in-None.is) c.append_bytes.ensures.ok
