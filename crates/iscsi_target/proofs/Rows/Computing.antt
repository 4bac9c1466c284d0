-- The definitions that a worked example unfolds, so that what a target writes is computed.
use Rattle.std.specs.Prelude.{⊤}
use Rattle.std.specs.Fmt.{digits}
use Rattle.scsi_cdb.specs.Layout.{put_bit, put_number, put_bytes, put_raw}
use Rattle.scsi_disk.specs.Disk.{cut, joined_blocks, overlaid, zero_blocks}
use Rattle.iscsi_pdu.specs.Meaning.{header, whole}
use Rattle.iscsi_text.specs.Key.{kind_of}
use Rattle.iscsi_stream.specs.Segment.{segment_of, segment_bytes}
use Rattle.iscsi_target_session.specs.TextRequests.{reply_text}
use Rattle.iscsi_target.specs.Machine.{answers, done_first}

-- The bytes of a PDU.
unfoldable pub pdu_on_literals : ⊤
unfolding digits header whole put_bit put_number put_bytes put_raw kind_of segment_of segment_bytes
pdu_on_literals = tt

-- The answers of a target, and its blocks.
unfoldable pub answers_on_literals : ⊤
unfolding reply_text answers done_first cut joined_blocks overlaid zero_blocks pdu_on_literals
answers_on_literals = tt
