-- Three worked sessions: a login, where it leads, and a write (RFC 7143, sections 6.3 and 4.2.5.2).
-- Others are computed in the proofs of the law `worked_sessions`.
use Rattle.std.specs.Prelude.{◌≡◌, true, false, [], ◌∷◌, ◌++◌, None, codes}
use Rattle.scsi_cdb.specs.declared.cdb.Cdb.{Cdb}
use Rattle.scsi_cdb.specs.declared.cdb.Cdb.TheVariants as cdbs
use Rattle.iscsi_target.specs.Machine.{answers}
use Rattle.iscsi_target.specs.Worked.{hex, entry, first, second, says, first_text, second_text, fresh, fill, worked_command, orders, worked_data_out, logged_in, blank, WorkedRow}

-- A login of two requests: the first answer has the tag of the portal group, the second the
-- session's number and what the target takes (sections 11.12 and 11.13).
abbrev pub LoginIsAnswered : Type 0
LoginIsAnswered = WorkedRow fresh (says first first_text ∷ says second second_text ∷ [])
    (hex (codes "43810000 0000006e 40000001 00000000 00000000 00000000")
    ++ hex (codes "00000001 00000000 00000000 00000000 00000000 00000000")
    ++ first_text ++ 0 ∷ 0 ∷ hex (codes "43870000 0000006e 40000001 00000000 00000000 00000000")
    ++ hex (codes "00000001 00000002 00000000 00000000 00000000 00000000")
    ++ second_text ++ 0 ∷ 0 ∷ [])
    (hex (codes "23810000 00000027 40000001 00000000 00000000 00000000")
    ++ hex (codes "00000001 00000001 00000008 00000000 00000000 00000000")
    ++ entry (codes "AuthMethod=None") ++ entry (codes "TargetPortalGroupTag=1")
    ++ 0 ∷ hex (codes "23870000 00000073 40000001 00000001 00000000 00000000")
    ++ hex (codes "00000002 00000001 00000008 00000000 00000000 00000000")
    ++ entry (codes "HeaderDigest=None") ++ entry (codes "IFMarker=No")
    ++ entry (codes "InitialR2T=No") ++ entry (codes "MaxBurstLength=1024")
    ++ entry (codes "MaxRecvDataSegmentLength=8192") ++ entry (codes "X-test=NotUnderstood")
    ++ 0 ∷ [])
    None

-- It leads to full feature phase, with these held values (section 6.3).
abbrev pub LoginLeads : Type 0
LoginLeads =
    (answers false fresh blank (says first first_text ∷ says second second_text ∷ [])).machine
    ≡ logged_in

-- WRITE(10) of the first eight blocks (SBC-3).
abbrev pub write_of_eight : Cdb
write_of_eight = cdbs.Write10 (record {
  options = 0;
  logical_block_address = 0;
  group_number = 0;
  blocks = 8;
  control = 0;
})

-- A write of eight blocks: one comes with the command, and the others as R2Ts ask for them, at most
-- MaxBurstLength bytes at a time (sections 11.3, 11.7 and 11.8).
abbrev pub WriteIsAnswered : Type 0
WriteIsAnswered = WorkedRow logged_in
    (orders (worked_command true false true 4096 write_of_eight) (fill 1)
    ∷ worked_data_out 0 0 512 (fill 2 ++ fill 3) ∷ worked_data_out 1 0 1536 (fill 4 ++ fill 5)
    ∷ worked_data_out 2 0 2560 (fill 6 ++ fill 7) ∷ worked_data_out 3 0 3584 (fill 8) ∷ [])
    (hex (codes "01a10000 00000200 00000000 00000000 00000001 00001000")
    ++ hex (codes "00000001 00000003 2a000000 00000000 08000000 00000000")
    ++ fill 1 ++ hex (codes "05800000 00000400 00000000 00000000 00000001 00000000")
    ++ hex (codes "00000000 00000003 00000000 00000000 00000200 00000000")
    ++ fill 2 ++ fill 3 ++ hex (codes "05800000 00000400 00000000 00000000 00000001 00000001")
    ++ hex (codes "00000000 00000003 00000000 00000000 00000600 00000000")
    ++ fill 4 ++ fill 5 ++ hex (codes "05800000 00000400 00000000 00000000 00000001 00000002")
    ++ hex (codes "00000000 00000003 00000000 00000000 00000a00 00000000")
    ++ fill 6 ++ fill 7 ++ hex (codes "05800000 00000200 00000000 00000000 00000001 00000003")
    ++ hex (codes "00000000 00000003 00000000 00000000 00000e00 00000000") ++ fill 8)
    (hex (codes "31800000 00000000 00000000 00000000 00000001 00000000")
    ++ hex (codes "00000003 00000002 00000008 00000000 00000200 00000400")
    ++ hex (codes "31800000 00000000 00000000 00000000 00000001 00000001")
    ++ hex (codes "00000003 00000002 00000008 00000001 00000600 00000400")
    ++ hex (codes "31800000 00000000 00000000 00000000 00000001 00000002")
    ++ hex (codes "00000003 00000002 00000008 00000002 00000a00 00000400")
    ++ hex (codes "31800000 00000000 00000000 00000000 00000001 00000003")
    ++ hex (codes "00000003 00000002 00000008 00000003 00000e00 00000200")
    ++ hex (codes "21800000 00000000 00000000 00000000 00000001 00000000")
    ++ hex (codes "00000003 00000002 00000009 00000000 00000000 00000000"))
    None
