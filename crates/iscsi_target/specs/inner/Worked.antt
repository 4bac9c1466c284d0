-- More of `Worked`, of which no public contract speaks.
use Rattle.std.specs.Prelude.{ℕ, true, List, Some, None, codes}
use Rattle.iscsi_pdu.specs.declared.head.Head.TheVariants as heads
use Rattle.iscsi_stream.specs.Segment.{Bytes}
use Rattle.iscsi_stream.specs.Stream.{Message}
use Rattle.iscsi_target_session.specs.Configured.{no_extras}
use Rattle.iscsi_target.specs.State.{Machine, opening_machine}
use Rattle.iscsi_target.specs.Worked.{settings}

-- ---- PDUs of an initiator

-- a ping with a tag
abbrev pub worked_ping : ℕ → Message
worked_ping tag = record {
  head = heads.NopOut (record {
    immediate = true;
    lun = None;
    initiator_task_tag = tag;
    target_transfer_tag = 0xffff_ffff;
    cmd_sn = 1;
    exp_stat_sn = 3;
  });
  segment = Bytes (codes "abc");
}

-- the one unsolicited Data-Out of a command: its offset and bytes
abbrev pub volunteers : ℕ → List ℕ → Message
volunteers offset bytes = record {
  head = heads.DataOut (record {
    is_final = true;
    lun = None;
    initiator_task_tag = 1;
    target_transfer_tag = 0xffff_ffff;
    exp_stat_sn = 3;
    data_sn = 0;
    buffer_offset = offset;
  });
  segment = Bytes bytes;
}

-- ---- sessions

-- the same, where initiators are told a portal
abbrev pub told_opening : Machine
told_opening = opening_machine
    (record settings { extras = record no_extras { portal = Some (codes "192.0.2.7:3260") } }) 1
