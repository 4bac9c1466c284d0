-- Worked requests in full feature phase.
use Rattle.std.specs.Prelude.{◌≡◌, true, false, [], ◌∷◌, ◌++◌, replicate, Some, None, codes, refl}
use Rattle.scsi_cdb.specs.declared.cdb.Cdb.TheVariants as cdbs
use Rattle.scsi_disk.specs.Disk.{blocks_from}
use Rattle.iscsi_pdu.specs.declared.head.Head.TheVariants as heads
use Rattle.iscsi_stream.specs.Segment.{Bytes}
use Rattle.iscsi_stream.specs.Stream.{Message}
use Rattle.iscsi_target.specs.Machine.{answers}
use Rattle.iscsi_target.specs.Sessions.{WriteIsAnswered}
use Rattle.iscsi_target.specs.Worked.{hex, fill, worked_command, orders, worked_data_out, blank, logged_in, WorkedRow, entry, agreed, fresh}
use Rattle.iscsi_target.specs.inner.Worked.{worked_ping, volunteers}
use Rattle.iscsi_target.proofs.Rows.Computing.{answers_on_literals}

-- A ping comes back with its bytes.
pub ping_comes_back : WorkedRow logged_in
    (worked_ping 1
    ∷ [])
    ((hex (codes "40800000 00000003 00000000 00000000 00000001 ffffffff 00000001 00000003 00000000 00000000 00000000 00000000 61626300")))
    (hex (codes "20800000 00000003 00000000 00000000 00000001 ffffffff 00000003 00000001 00000008 00000000 00000000 00000000 61626300"))
    None
unfolding answers_on_literals
ping_comes_back = (refl, refl, refl)

-- A write of eight blocks: one comes with the command, the others as R2Ts ask for them.
pub write_in_bursts : WriteIsAnswered
unfolding answers_on_literals
write_in_bursts = (refl, refl, refl)

-- It leaves its eight blocks, and no other changes.
pub write_leaves_its_blocks : blocks_from (answers false logged_in blank
    (orders (worked_command true false true 4096 (cdbs.Write10 (record { options = 0; logical_block_address = 0; group_number = 0; blocks = 8; control = 0 })))
    (fill 1)
    ∷ worked_data_out 0 0 512 (fill 2 ++ fill 3)
    ∷ worked_data_out 1 0 1536 (fill 4 ++ fill 5)
    ∷ worked_data_out 2 0 2560 (fill 6 ++ fill 7)
    ∷ worked_data_out 3 0 3584 (fill 8)
    ∷ [])).disk 0 9
    ≡ fill 1 ++ fill 2 ++ fill 3 ++ fill 4 ++ fill 5 ++ fill 6 ++ fill 7 ++ fill 8 ++ fill 0
unfolding answers_on_literals
write_leaves_its_blocks = refl

-- Before the last Data-Out no block changes.
pub write_waits_for_all : blocks_from (answers false logged_in blank
    (orders (worked_command true false true 4096 (cdbs.Write10 (record { options = 0; logical_block_address = 0; group_number = 0; blocks = 8; control = 0 })))
    (fill 1)
    ∷ worked_data_out 0 0 512 (fill 2 ++ fill 3)
    ∷ worked_data_out 1 0 1536 (fill 4 ++ fill 5)
    ∷ worked_data_out 2 0 2560 (fill 6 ++ fill 7)
    ∷ [])).disk 0 9
    ≡ fill 0 ++ fill 0 ++ fill 0 ++ fill 0 ++ fill 0 ++ fill 0 ++ fill 0 ++ fill 0 ++ fill 0
unfolding answers_on_literals
write_waits_for_all = refl

-- Two blocks at the last one aren't there.
pub read_past_the_end : WorkedRow logged_in
    (orders (worked_command true true false 1024 (cdbs.Read10 (record {
      options = 0;
      logical_block_address = 2047;
      group_number = 0;
      blocks = 2;
      control =
          0;
    }))) []
    ∷ [])
    (hex (codes "01c10000 00000000 00000000 00000000 00000001 00000400 00000001 00000003 28000000 07ff0000 02000000 00000000"))
    ((hex (codes "21820002 00000014 00000000 00000000 00000001 00000000 00000003 00000002 00000009 00000000 00000000 00000400"))
    ++ (hex (codes "0012 70000500 0000000a 00000000 21000000 0000")))
    None
unfolding answers_on_literals
read_past_the_end = (refl, refl, refl)

-- The last block is there.
pub read_the_last_block : WorkedRow logged_in
    (orders (worked_command true true false 512 (cdbs.Read10 (record { options = 0; logical_block_address = 2047; group_number = 0; blocks = 1; control = 0 })))
    []
    ∷ [])
    (hex (codes "01c10000 00000000 00000000 00000000 00000001 00000200 00000001 00000003 28000000 07ff0000 01000000 00000000"))
    ((hex (codes "25800000 00000200 00000000 00000000 00000001 ffffffff 00000000 00000002 00000009 00000000 00000000 00000000"))
    ++ fill 0
    ++ (hex (codes "21800000 00000000 00000000 00000000 00000001 00000000 00000003 00000002 00000009 00000001 00000000 00000000")))
    None
unfolding answers_on_literals
read_the_last_block = (refl, refl, refl)

-- No block at the end is no block too many.
pub read_no_block_at_the_end : WorkedRow logged_in
    (orders (worked_command true true false 0 (cdbs.Read10 (record { options = 0; logical_block_address = 2048; group_number = 0; blocks = 0; control = 0 })))
    []
    ∷ [])
    (hex (codes "01c10000 00000000 00000000 00000000 00000001 00000000 00000001 00000003 28000000 08000000 00000000 00000000"))
    (hex (codes "21800000 00000000 00000000 00000000 00000001 00000000 00000003 00000002 00000009 00000000 00000000 00000000"))
    None
unfolding answers_on_literals
read_no_block_at_the_end = (refl, refl, refl)

-- One block there is.
pub read_one_block_at_the_end : WorkedRow logged_in
    (orders (worked_command true true false 512 (cdbs.Read10 (record { options = 0; logical_block_address = 2048; group_number = 0; blocks = 1; control = 0 })))
    []
    ∷ [])
    (hex (codes "01c10000 00000000 00000000 00000000 00000001 00000200 00000001 00000003 28000000 08000000 01000000 00000000"))
    ((hex (codes "21820002 00000014 00000000 00000000 00000001 00000000 00000003 00000002 00000009 00000000 00000000 00000200"))
    ++ (hex (codes "0012 70000500 0000000a 00000000 21000000 0000")))
    None
unfolding answers_on_literals
read_one_block_at_the_end = (refl, refl, refl)

-- A command has at most 8,192 blocks.
pub read_too_many_blocks : WorkedRow logged_in
    (orders (worked_command true true false 512 (cdbs.Read16 (record { options = 0; logical_block_address = 0; group_number = 0; blocks = 8193; control = 0 })))
    []
    ∷ [])
    (hex (codes "01c10000 00000000 00000000 00000000 00000001 00000200 00000001 00000003 88000000 00000000 00000000 20010000"))
    ((hex (codes "21820002 00000014 00000000 00000000 00000001 00000000 00000003 00000002 00000009 00000000 00000000 00000200"))
    ++ (hex (codes "0012 70000500 0000000a 00000000 24000000 0000")))
    None
unfolding answers_on_literals
read_too_many_blocks = (refl, refl, refl)

-- A block number of 64 bits doesn't count round.
pub read_at_the_last_number : WorkedRow logged_in
    (orders (worked_command true true false 512 (cdbs.Read16 (record {
      options = 0;
      logical_block_address = 0xffff_ffff_ffff_ffff;
      group_number = 0;
      blocks = 1;
      control = 0;
    }))) []
    ∷ [])
    (hex (codes "01c10000 00000000 00000000 00000000 00000001 00000200 00000001 00000003 8800ffff ffffffff ffff0000 00010000"))
    ((hex (codes "21820002 00000014 00000000 00000000 00000001 00000000 00000003 00000002 00000009 00000000 00000000 00000200"))
    ++ (hex (codes "0012 70000500 0000000a 00000000 21000000 0000")))
    None
unfolding answers_on_literals
read_at_the_last_number = (refl, refl, refl)

-- Three blocks with bursts of two: each run ends with the F bit.
pub read_in_runs : WorkedRow logged_in
    (orders (worked_command true true false 1536 (cdbs.Read10 (record { options = 0; logical_block_address = 0; group_number = 0; blocks = 3; control = 0 })))
    []
    ∷ [])
    (hex (codes "01c10000 00000000 00000000 00000000 00000001 00000600 00000001 00000003 28000000 00000000 03000000 00000000"))
    ((hex (codes "25800000 00000400 00000000 00000000 00000001 ffffffff 00000000 00000002 00000009 00000000 00000000 00000000"))
    ++ (fill 0 ++ fill 0)
    ++ (hex (codes "25800000 00000200 00000000 00000000 00000001 ffffffff 00000000 00000002 00000009 00000001 00000400 00000000"))
    ++ fill 0
    ++ (hex (codes "21800000 00000000 00000000 00000000 00000001 00000000 00000003 00000002 00000009 00000002 00000000 00000000")))
    None
unfolding answers_on_literals
read_in_runs = (refl, refl, refl)

-- INQUIRY data are cut at the allocation length.
pub inquiry_is_cut : WorkedRow logged_in
    (orders (worked_command true true false 36 (cdbs.Inquiry false 0 5 0)) []
    ∷ [])
    (hex (codes "01c10000 00000000 00000000 00000000 00000001 00000024 00000001 00000003 12000000 05000000 00000000 00000000"))
    ((hex (codes "25800000 00000005 00000000 00000000 00000001 ffffffff 00000000 00000002 00000009 00000000 00000000 00000000"))
    ++ (hex (codes "00000612 1f000000"))
    ++ (hex (codes "21820000 00000000 00000000 00000000 00000001 00000000 00000003 00000002 00000009 00000001 00000000 0000001f")))
    None
unfolding answers_on_literals
inquiry_is_cut = (refl, refl, refl)

-- There is no page b0.
pub page_that_is_not_there : WorkedRow logged_in
    (orders (worked_command true true false 255 (cdbs.Inquiry true 0xb0 255 0)) []
    ∷ [])
    (hex (codes "01c10000 00000000 00000000 00000000 00000001 000000ff 00000001 00000003 1201b000 ff000000 00000000 00000000"))
    ((hex (codes "21820002 00000014 00000000 00000000 00000001 00000000 00000003 00000002 00000009 00000000 00000000 000000ff"))
    ++ (hex (codes "0012 70000500 0000000a 00000000 24000000 0000")))
    None
unfolding answers_on_literals
page_that_is_not_there = (refl, refl, refl)

-- The report of units has unit 0.
pub report_of_units : WorkedRow logged_in
    (orders (worked_command true true false 16 (cdbs.ReportLuns 0 16 0)) []
    ∷ [])
    (hex (codes "01c10000 00000000 00000000 00000000 00000001 00000010 00000001 00000003 a0000000 00000000 00100000 00000000"))
    ((hex (codes "25800000 00000010 00000000 00000000 00000001 ffffffff 00000000 00000002 00000009 00000000 00000000 00000000"))
    ++ (hex (codes "00000008 00000000 00000000 00000000"))
    ++ (hex (codes "21800000 00000000 00000000 00000000 00000001 00000000 00000003 00000002 00000009 00000001 00000000 00000000")))
    None
unfolding answers_on_literals
report_of_units = (refl, refl, refl)

-- There is no well-known unit.
pub report_of_well_known_units : WorkedRow logged_in
    (orders (worked_command true true false 16 (cdbs.ReportLuns 1 16 0)) []
    ∷ [])
    (hex (codes "01c10000 00000000 00000000 00000000 00000001 00000010 00000001 00000003 a0000100 00000000 00100000 00000000"))
    ((hex (codes "25800000 00000008 00000000 00000000 00000001 ffffffff 00000000 00000002 00000009 00000000 00000000 00000000"))
    ++ (hex (codes "00000000 00000000"))
    ++ (hex (codes "21820000 00000000 00000000 00000000 00000001 00000000 00000003 00000002 00000009 00000001 00000000 00000008")))
    None
unfolding answers_on_literals
report_of_well_known_units = (refl, refl, refl)

-- Code 34 is unknown.
pub unknown_command : WorkedRow logged_in
    (orders (record (worked_command true false false 0 (cdbs.Unknown (0x34 ∷ replicate 15 0))) { lun = 0 }) []
    ∷ [])
    (hex (codes "01810000 00000000 00000000 00000000 00000001 00000000 00000001 00000003 34000000 00000000 00000000 00000000"))
    ((hex (codes "21800002 00000014 00000000 00000000 00000001 00000000 00000003 00000002 00000009 00000000 00000000 00000000"))
    ++ (hex (codes "0012 70000500 0000000a 00000000 20000000 0000")))
    None
unfolding answers_on_literals
unknown_command = (refl, refl, refl)

-- So it is at a unit that isn't there.
pub unknown_command_at_another_unit : WorkedRow logged_in
    (orders (record (worked_command true false false 0 (cdbs.Unknown (0x34 ∷ replicate 15 0))) { lun = 0x0001_0000_0000_0000 }) []
    ∷ [])
    (hex (codes "01810000 00000000 00010000 00000000 00000001 00000000 00000001 00000003 34000000 00000000 00000000 00000000"))
    ((hex (codes "21800002 00000014 00000000 00000000 00000001 00000000 00000003 00000002 00000009 00000000 00000000 00000000"))
    ++ (hex (codes "0012 70000500 0000000a 00000000 20000000 0000")))
    None
unfolding answers_on_literals
unknown_command_at_another_unit = (refl, refl, refl)

-- A Data-Out with another DataSN is rejected.
pub data_sn_out_of_order : WorkedRow logged_in
    (orders (worked_command true false true 4096 (cdbs.Write10 (record { options = 0; logical_block_address = 0; group_number = 0; blocks = 8; control = 0 })))
    (fill 1)
    ∷ worked_data_out 0 1 512 (replicate 1024 0)
    ∷ [])
    ((hex (codes "01a10000 00000200 00000000 00000000 00000001 00001000 00000001 00000003 2a000000 00000000 08000000 00000000"))
    ++ fill 1
    ++ (hex (codes "05800000 00000400 00000000 00000000 00000001 00000000 00000000 00000003 00000000 00000001 00000200 00000000"))
    ++ replicate 1024 0)
    ((hex (codes "31800000 00000000 00000000 00000000 00000001 00000000 00000003 00000002 00000008 00000000 00000200 00000400"))
    ++ (hex (codes "3f800400 00000030 00000000 00000000 ffffffff 00000000 00000003 00000002 00000008 00000000 00000000 00000000"))
    ++ (hex (codes "05800000 00000400 00000000 00000000 00000001 00000000 00000000 00000003 00000000 00000001 00000200 00000000")))
    (Some 3)
unfolding answers_on_literals
data_sn_out_of_order = (refl, refl, refl)

-- So is one that goes past its burst.
pub data_past_the_burst : WorkedRow logged_in
    (orders (worked_command true false true 4096 (cdbs.Write10 (record { options = 0; logical_block_address = 0; group_number = 0; blocks = 8; control = 0 })))
    (fill 1)
    ∷ worked_data_out 0 0 512 (replicate 1028 0)
    ∷ [])
    ((hex (codes "01a10000 00000200 00000000 00000000 00000001 00001000 00000001 00000003 2a000000 00000000 08000000 00000000"))
    ++ fill 1
    ++ (hex (codes "05800000 00000404 00000000 00000000 00000001 00000000 00000000 00000003 00000000 00000000 00000200 00000000"))
    ++ replicate 1028 0)
    ((hex (codes "31800000 00000000 00000000 00000000 00000001 00000000 00000003 00000002 00000008 00000000 00000200 00000400"))
    ++ (hex (codes "3f800400 00000030 00000000 00000000 ffffffff 00000000 00000003 00000002 00000008 00000000 00000000 00000000"))
    ++ (hex (codes "05800000 00000404 00000000 00000000 00000001 00000000 00000000 00000003 00000000 00000000 00000200 00000000")))
    (Some 3)
unfolding answers_on_literals
data_past_the_burst = (refl, refl, refl)

-- While a write is open there is no room for a ping; the write goes on.
pub ping_while_a_write_is_open : WorkedRow logged_in
    (orders (worked_command true false true 4096 (cdbs.Write10 (record { options = 0; logical_block_address = 0; group_number = 0; blocks = 8; control = 0 })))
    (fill 1)
    ∷ worked_ping 2
    ∷ worked_data_out 0 0 512 (fill 2 ++ fill 3)
    ∷ [])
    ((hex (codes "01a10000 00000200 00000000 00000000 00000001 00001000 00000001 00000003 2a000000 00000000 08000000 00000000"))
    ++ fill 1
    ++ (hex (codes "40800000 00000003 00000000 00000000 00000002 ffffffff 00000001 00000003 00000000 00000000 00000000 00000000"))
    ++ (0x61 ∷ 0x62 ∷ 0x63 ∷ 0 ∷ [])
    ++ (hex (codes "05800000 00000400 00000000 00000000 00000001 00000000 00000000 00000003 00000000 00000000 00000200 00000000"))
    ++ (fill 2 ++ fill 3))
    ((hex (codes "31800000 00000000 00000000 00000000 00000001 00000000 00000003 00000002 00000008 00000000 00000200 00000400"))
    ++ (hex (codes "3f800600 00000030 00000000 00000000 ffffffff 00000000 00000003 00000002 00000008 00000000 00000000 00000000"))
    ++ (hex (codes "40800000 00000003 00000000 00000000 00000002 ffffffff 00000001 00000003 00000000 00000000 00000000 00000000"))
    ++ (hex (codes "31800000 00000000 00000000 00000000 00000001 00000001 00000004 00000002 00000008 00000001 00000600 00000400")))
    None
unfolding answers_on_literals
ping_while_a_write_is_open = (refl, refl, refl)

-- Data that come unasked end a sequence of their own.
pub unsolicited_data : WorkedRow logged_in
    (orders (worked_command false false true 4096 (cdbs.Write10 (record { options = 0; logical_block_address = 0; group_number = 0; blocks = 8; control = 0 })))
    (fill 1)
    ∷ volunteers 512 (fill 2)
    ∷ worked_data_out 0 0 1024 (fill 3 ++ fill 4)
    ∷ worked_data_out 1 0 2048 (fill 5 ++ fill 6)
    ∷ worked_data_out 2 0 3072 (fill 7 ++ fill 8)
    ∷ [])
    ((hex (codes "01210000 00000200 00000000 00000000 00000001 00001000 00000001 00000003 2a000000 00000000 08000000 00000000"))
    ++ fill 1
    ++ (hex (codes "05800000 00000200 00000000 00000000 00000001 ffffffff 00000000 00000003 00000000 00000000 00000200 00000000"))
    ++ fill 2
    ++ (hex (codes "05800000 00000400 00000000 00000000 00000001 00000000 00000000 00000003 00000000 00000000 00000400 00000000"))
    ++ (fill 3 ++ fill 4)
    ++ (hex (codes "05800000 00000400 00000000 00000000 00000001 00000001 00000000 00000003 00000000 00000000 00000800 00000000"))
    ++ (fill 5 ++ fill 6)
    ++ (hex (codes "05800000 00000400 00000000 00000000 00000001 00000002 00000000 00000003 00000000 00000000 00000c00 00000000"))
    ++ (fill 7 ++ fill 8))
    ((hex (codes "31800000 00000000 00000000 00000000 00000001 00000000 00000003 00000002 00000008 00000000 00000400 00000400"))
    ++ (hex (codes "31800000 00000000 00000000 00000000 00000001 00000001 00000003 00000002 00000008 00000001 00000800 00000400"))
    ++ (hex (codes "31800000 00000000 00000000 00000000 00000001 00000002 00000003 00000002 00000008 00000002 00000c00 00000400"))
    ++ (hex (codes "21800000 00000000 00000000 00000000 00000001 00000000 00000003 00000002 00000009 00000000 00000000 00000000")))
    None
unfolding answers_on_literals
unsolicited_data = (refl, refl, refl)

-- Where the first burst is there, no more may be announced.
pub first_burst_and_more : WorkedRow logged_in
    (orders (worked_command false false true 4096 (cdbs.Write10 (record { options = 0; logical_block_address = 0; group_number = 0; blocks = 8; control = 0 })))
    (replicate 1024 0)
    ∷ [])
    ((hex (codes "01210000 00000400 00000000 00000000 00000001 00001000 00000001 00000003 2a000000 00000000 08000000 00000000"))
    ++ replicate 1024 0)
    ((hex (codes "3f800400 00000030 00000000 00000000 ffffffff 00000000 00000003 00000002 00000009 00000000 00000000 00000000"))
    ++ (hex (codes "01210000 00000400 00000000 00000000 00000001 00001000 00000001 00000003 2a000000 00000000 08000000 00000000")))
    (Some 3)
unfolding answers_on_literals
first_burst_and_more = (refl, refl, refl)

-- Data of a write that was refused are dropped.
pub data_of_a_refused_write : WorkedRow logged_in
    (orders (worked_command false false true 1024 (cdbs.Write10 (record {
      options = 0;
      logical_block_address = 2047;
      group_number = 0;
      blocks = 2;
      control =
          0;
    }))) []
    ∷ volunteers 0 (fill 0)
    ∷ [])
    ((hex (codes "01210000 00000000 00000000 00000000 00000001 00000400 00000001 00000003 2a000000 07ff0000 02000000 00000000"))
    ++ (hex (codes "05800000 00000200 00000000 00000000 00000001 ffffffff 00000000 00000003 00000000 00000000 00000000 00000000"))
    ++ fill 0)
    ((hex (codes "21820002 00000014 00000000 00000000 00000001 00000000 00000003 00000002 00000009 00000000 00000000 00000400"))
    ++ (hex (codes "0012 70000500 0000000a 00000000 21000000 0000")))
    None
unfolding answers_on_literals
data_of_a_refused_write = (refl, refl, refl)

-- No task management function is supported.
pub task_management : WorkedRow logged_in
    ((let m : Message = record {
      head = heads.TaskRequest (record {
        immediate = true;
        function = 1;
        lun = 0;
        initiator_task_tag = 1;
        referenced_task_tag = 9;
        cmd_sn = 1;
        exp_stat_sn = 3;
        ref_cmd_sn = 0;
        exp_data_sn = 0;
      });
      segment = Bytes [];
    } in m)
    ∷ [])
    (hex (codes "42810000 00000000 00000000 00000000 00000001 00000009 00000001 00000003 00000000 00000000 00000000 00000000"))
    (hex (codes "22800500 00000000 00000000 00000000 00000001 00000000 00000003 00000001 00000008 00000000 00000000 00000000"))
    None
unfolding answers_on_literals
task_management = (refl, refl, refl)

-- A logout is answered.
pub logout : WorkedRow logged_in
    ((let m : Message = record {
      head = heads.LogoutRequest (record {
        immediate = true;
        reason = 0;
        initiator_task_tag = 1;
        connection_id = None;
        cmd_sn = 1;
        exp_stat_sn = 3;
      });
      segment = Bytes [];
    } in m)
    ∷ [])
    (hex (codes "46800000 00000000 00000000 00000000 00000001 00000000 00000001 00000003 00000000 00000000 00000000 00000000"))
    (hex (codes "26800000 00000000 00000000 00000000 00000001 00000000 00000003 00000001 00000008 00000000 00000000 00000000"))
    None
unfolding answers_on_literals
logout = (refl, refl, refl)

-- One for recovery is rejected.
pub logout_for_recovery : WorkedRow logged_in
    ((let m : Message = record {
      head = heads.LogoutRequest (record {
        immediate = true;
        reason = 2;
        initiator_task_tag = 1;
        connection_id = Some 0;
        cmd_sn = 1;
        exp_stat_sn = 3;
      });
      segment = Bytes [];
    } in m)
    ∷ [])
    (hex (codes "46820000 00000000 00000000 00000000 00000001 00000000 00000001 00000003 00000000 00000000 00000000 00000000"))
    ((hex (codes "3f800400 00000030 00000000 00000000 ffffffff 00000000 00000003 00000001 00000008 00000000 00000000 00000000"))
    ++ (hex (codes "46820000 00000000 00000000 00000000 00000001 00000000 00000001 00000003 00000000 00000000 00000000 00000000")))
    (Some 5)
unfolding answers_on_literals
logout_for_recovery = (refl, refl, refl)

-- A Text Request has to be whole.
pub text_that_goes_on : WorkedRow logged_in
    ((let m : Message = record {
      head = heads.TextRequest (record {
        immediate = false;
        is_final = false;
        continues = false;
        lun = None;
        initiator_task_tag = 1;
        target_transfer_tag = 0xffff_ffff;
        cmd_sn = 1;
        exp_stat_sn = 3;
      });
      segment = Bytes [];
    } in m)
    ∷ [])
    (hex (codes "04000000 00000000 00000000 00000000 00000001 ffffffff 00000001 00000003 00000000 00000000 00000000 00000000"))
    ((hex (codes "3f800400 00000030 00000000 00000000 ffffffff 00000000 00000003 00000002 00000009 00000000 00000000 00000000"))
    ++ (hex (codes "04000000 00000000 00000000 00000000 00000001 ffffffff 00000001 00000003 00000000 00000000 00000000 00000000")))
    (Some 4)
unfolding answers_on_literals
text_that_goes_on = (refl, refl, refl)

-- Before full feature phase no other PDU is due: the session is closed, and nothing is written.
pub ping_before_login : WorkedRow fresh (worked_ping 1 ∷ [])
    (hex (codes "40800000 00000003 00000000 00000000 00000001 ffffffff 00000001 00000003 00000000 00000000 00000000 00000000 61626300"))
    [] (Some 1)
unfolding answers_on_literals
ping_before_login = (refl, refl, refl)

-- A segment longer than the target declared is rejected.
pub segment_past_what_was_declared : WorkedRow (record logged_in { session = record logged_in.session { held = record agreed { target_max_recv = 2 } } })
    (worked_ping 1 ∷ [])
    (hex (codes "40800000 00000003 00000000 00000000 00000001 ffffffff 00000001 00000003 00000000 00000000 00000000 00000000 61626300"))
    (hex (codes "3f800400 00000030 00000000 00000000 ffffffff 00000000 00000003 00000001 00000008 00000000 00000000 00000000")
    ++ hex (codes "40800000 00000003 00000000 00000000 00000001 ffffffff 00000001 00000003 00000000 00000000 00000000 00000000"))
    (Some 2)
unfolding answers_on_literals
segment_past_what_was_declared = (refl, refl, refl)

-- One longer than the framer takes closes the session, and nothing is written.
pub segment_past_the_limit : WorkedRow logged_in (worked_data_out 0 0 0 (replicate 8193 0) ∷ worked_ping 1 ∷ [])
    (hex (codes "05800000 00002001 00000000 00000000 00000001 00000000 00000000 00000003 00000000 00000000 00000000 00000000")
    ++ replicate 8196 0
    ++ hex (codes "40800000 00000003 00000000 00000000 00000001 ffffffff 00000001 00000003 00000000 00000000 00000000 00000000 61626300"))
    [] None
unfolding answers_on_literals
segment_past_the_limit = (refl, refl, refl)

-- Data for no write are dropped, and a ping without a tag has no answer; the session goes on.
pub dropped_in_silence : WorkedRow logged_in (volunteers 0 (codes "ab") ∷ worked_ping 0xffff_ffff ∷ worked_ping 1 ∷ [])
    (hex (codes "05800000 00000002 00000000 00000000 00000001 ffffffff 00000000 00000003 00000000 00000000 00000000 00000000 61620000")
    ++ hex (codes "40800000 00000003 00000000 00000000 ffffffff ffffffff 00000001 00000003 00000000 00000000 00000000 00000000 61626300")
    ++ hex (codes "40800000 00000003 00000000 00000000 00000001 ffffffff 00000001 00000003 00000000 00000000 00000000 00000000 61626300"))
    (hex (codes "20800000 00000003 00000000 00000000 00000001 ffffffff 00000003 00000001 00000008 00000000 00000000 00000000 61626300"))
    None
unfolding answers_on_literals
dropped_in_silence = (refl, refl, refl)

-- A text gets the target's name once, `Reject` for a known key and `NotUnderstood` for another.
pub text_of_four_keys : WorkedRow logged_in
    ((let m : Message = record {
      head = heads.TextRequest (record {
        immediate = false;
        is_final = true;
        continues = false;
        lun = None;
        initiator_task_tag = 1;
        target_transfer_tag = 0xffff_ffff;
        cmd_sn = 1;
        exp_stat_sn = 3;
      });
      segment = Bytes (entry (codes "X=1") ++ entry (codes "SendTargets=") ++ entry (codes "TargetName=x") ++ entry (codes "MaxBurstLength=512"));
    } in m) ∷ [])
    (hex (codes "04800000 00000031 00000000 00000000 00000001 ffffffff 00000001 00000003 00000000 00000000 00000000 00000000")
    ++ entry (codes "X=1") ++ entry (codes "SendTargets=") ++ entry (codes "TargetName=x") ++ entry (codes "MaxBurstLength=512") ++ 0 ∷ 0 ∷ 0 ∷ [])
    (hex (codes "24800000 0000004a 00000000 00000000 00000001 ffffffff 00000003 00000002 00000009 00000000 00000000 00000000")
    ++ entry (codes "MaxBurstLength=Reject") ++ entry (codes "TargetName=iqn.2026-01.example:disk") ++ entry (codes "X=NotUnderstood") ++ 0 ∷ 0 ∷ [])
    None
unfolding answers_on_literals
text_of_four_keys = (refl, refl, refl)

-- A closed session answers nothing.
pub nothing_after_logout : WorkedRow logged_in
    ((let m : Message = record {
      head = heads.LogoutRequest (record {
        immediate = true;
        reason = 1;
        initiator_task_tag = 1;
        connection_id = Some 0;
        cmd_sn = 1;
        exp_stat_sn = 3;
      });
      segment = Bytes [];
    } in m) ∷ worked_ping 1 ∷ [])
    (hex (codes "46810000 00000000 00000000 00000000 00000001 00000000 00000001 00000003 00000000 00000000 00000000 00000000")
    ++ hex (codes "40800000 00000003 00000000 00000000 00000001 ffffffff 00000001 00000003 00000000 00000000 00000000 00000000 61626300"))
    (hex (codes "26800000 00000000 00000000 00000000 00000001 00000000 00000003 00000001 00000008 00000000 00000000 00000000"))
    None
unfolding answers_on_literals
nothing_after_logout = (refl, refl, refl)
