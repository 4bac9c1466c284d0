-- Words of worked sessions: bytes by hex text, the PDUs that an initiator sends, the session that
-- they begin in, and what is stated of them.
use Rattle.std.specs.Prelude.{◌≡◌, ℕ, ◌+◌, ◌-◌, ◌*◌, ◌==◌, nat_le, Bool, true, false, not, List, [], ◌∷◌, ◌++◌, filter, map, replicate, Option, Some, if◌then◌else◌, codes}
use Rattle.scsi_cdb.specs.declared.cdb.Cdb.{Cdb}
use Rattle.iscsi_text.specs.Key.{is_among, known_keys}
use Rattle.scsi_disk.specs.Disk.{Disk, zeros}
use Rattle.iscsi_pdu.specs.declared.head.Head.TheVariants as heads
use Rattle.iscsi_pdu.specs.declared.head.login_request.LoginRequest.{LoginRequest}
use Rattle.iscsi_pdu.specs.declared.head.scsi_command.ScsiCommand.{ScsiCommand}
use Rattle.iscsi_stream.specs.Segment.{Bytes, segment_of}
use Rattle.iscsi_stream.specs.Stream.{Message}
use Rattle.iscsi_stream.specs.Canonical.{canon}
use Rattle.iscsi_login.specs.declared.phase.Phase.TheVariants as phases
use Rattle.iscsi_text.specs.declared.negotiated.Session.TheVariants as session_types
use Rattle.iscsi_login.specs.declared.stage.Stage.TheVariants as stages
use Rattle.iscsi_text.specs.declared.negotiated.Answered.TheVariants as answered
use Rattle.iscsi_login.specs.Held.{Held}
use Rattle.iscsi_login.specs.Negotiation.{standard_preferences}
use Rattle.iscsi_target_session.specs.Configured.{TargetSettings, no_extras}
use Rattle.iscsi_access.specs.declared.verdict.Progress.TheVariants as progress
use Rattle.iscsi_target.specs.State.{Machine, opening_machine}
use Rattle.iscsi_target.specs.Machine.{answers}

-- ---- bytes

-- the value of a hex digit
abbrev pub digit : ℕ → ℕ
digit c = if nat_le c 57 then c - 48 else c - 87

-- the bytes of pairs of hex digits
abbrev pub pairs : List ℕ → List ℕ
pairs [] = []
pairs (a ∷ []) = []
pairs (a ∷ b ∷ more) = (16 * digit a + digit b) ∷ pairs more

-- the bytes of hex text, in which blanks mean nothing
abbrev pub hex : List ℕ → List ℕ
hex text = pairs (filter (λ c. not (c == 32)) text)

-- a pair of a text with its final 0
abbrev pub entry : List ℕ → List ℕ
entry text = text ++ 0 ∷ []

-- a block of this byte
abbrev pub fill : ℕ → List ℕ
fill byte = replicate 512 byte

-- ---- PDUs of an initiator

-- a Login Request of CmdSN 1: the bits T and C, CSG, NSG, ExpStatSN
abbrev pub login : Bool → Bool → ℕ → Option ℕ → ℕ → LoginRequest
login transits continues stage next exp_stat_sn = record {
  transits = transits;
  continues = continues;
  current_stage = stage;
  next_stage = next;
  version_max = 0;
  version_min = 0;
  isid = 0x40 ∷ 0 ∷ 0 ∷ 1 ∷ 0 ∷ 0 ∷ [];
  tsih = 0;
  initiator_task_tag = 0;
  connection_id = 0;
  cmd_sn = 1;
  exp_stat_sn = exp_stat_sn;
}

-- the first request, which asks for operational negotiation
abbrev pub first : LoginRequest
first = login true false 0 (Some 1) 0

-- the second request, which ends the login
abbrev pub second : LoginRequest
second = login true false 1 (Some 3) 2

-- a Login Request with its segment, which continues another or does not
abbrev pub segment : Bool → LoginRequest → List ℕ → Message
segment continued h bytes = record {
  head = heads.LoginRequest h;
  segment = segment_of continued (heads.LoginRequest h) bytes;
}

-- a Login Request with a whole text
abbrev pub says : LoginRequest → List ℕ → Message
says h text = segment false h text

-- a SCSI Command with tag 1 and CmdSN 1: the bits F, R and W, the expected length, the block
abbrev pub worked_command : Bool → Bool → Bool → ℕ → Cdb → ScsiCommand
worked_command is_final read write expected cdb = record {
  immediate = false;
  is_final = is_final;
  read = read;
  write = write;
  attribute = 1;
  lun = 0;
  initiator_task_tag = 1;
  expected_data_transfer_length = expected;
  cmd_sn = 1;
  exp_stat_sn = 3;
  cdb = cdb;
}

-- a SCSI Command with its immediate data
abbrev pub orders : ScsiCommand → List ℕ → Message
orders h bytes = record { head = heads.ScsiCommand h; segment = Bytes bytes }

-- a Data-Out that an R2T asked for, the last of its sequence: its tag, DataSN, offset and bytes
abbrev pub worked_data_out : ℕ → ℕ → ℕ → List ℕ → Message
worked_data_out tag data_sn offset bytes = record {
  head = heads.DataOut (record {
    is_final = true;
    lun = Some 0;
    initiator_task_tag = 1;
    target_transfer_tag = tag;
    exp_stat_sn = 3;
    data_sn = data_sn;
    buffer_offset = offset;
  });
  segment = Bytes bytes;
}

-- ---- texts

-- the initiator's name
abbrev pub initiator_name : List ℕ
initiator_name = entry (codes "InitiatorName=iqn.2026-01.example:host")

-- the target's name
abbrev pub target_name : List ℕ
target_name = entry (codes "TargetName=iqn.2026-01.example:disk")

-- what the first request says
abbrev pub first_text : List ℕ
first_text =
    entry (codes "AuthMethod=None") ++ initiator_name
    ++ entry (codes "SessionType=Normal") ++ target_name

-- what the second request says
abbrev pub second_text : List ℕ
second_text =
    entry (codes "HeaderDigest=CRC32C,None") ++ entry (codes "IFMarker=No")
    ++ entry (codes "InitialR2T=No") ++ entry (codes "MaxBurstLength=1024")
    ++ entry (codes "MaxRecvDataSegmentLength=4096") ++ entry (codes "X-test=1")

-- ---- sessions

-- what the target is configured with
abbrev pub settings : TargetSettings
settings = record {
  name = codes "iqn.2026-01.example:disk";
  group = 1;
  tsih = 1;
  preferences = standard_preferences;
  extras = no_extras;
}

-- before the first request
abbrev pub fresh : Machine
fresh = opening_machine settings 1

-- 2,048 blocks of 00
abbrev pub blank : Disk
blank = zeros 2048

-- which of the known keys the two texts give
abbrev pub keys_given : List Bool
keys_given = map (is_among (codes "InitiatorName" ∷ codes "SessionType" ∷ codes "TargetName"
    ∷ codes "AuthMethod" ∷ codes "HeaderDigest" ∷ codes "IFMarker" ∷ codes "InitialR2T"
    ∷ codes "MaxBurstLength" ∷ codes "MaxRecvDataSegmentLength" ∷ [])) known_keys

-- what the target holds after the two texts
abbrev pub agreed : Held
agreed = record {
  values =
      answered.Number 1 ∷ answered.Flag false ∷ answered.Flag true ∷ answered.Number 1024
      ∷ answered.Number 65536 ∷ answered.Number 2 ∷ answered.Number 20 ∷ answered.Number 1
      ∷ answered.Flag true ∷ answered.Flag true ∷ answered.Number 0
      ∷ answered.NoneItem ∷ answered.NoneItem ∷ answered.NoneItem ∷ [];
  initiator_max_recv = 4096;
  target_max_recv = 8192;
}

-- after the two requests
abbrev pub logged_in : Machine
logged_in = record {
  session = record {
    settings = settings;
    phase = phases.Full;
    stage = stages.Full;
    begun = true;
    gathered = [];
    seen_keys = keys_given;
    has_text = true;
    has_operational_text = true;
    progress = progress.Unasked;
    initiator_name = codes "iqn.2026-01.example:host";
    isid = 0x40 ∷ 0 ∷ 0 ∷ 1 ∷ 0 ∷ 0 ∷ [];
    session_type = session_types.Normal;
    held = agreed;
    exp_cmd_sn = 1;
    stat_sn = 3;
  };
  tasks = [];
}

-- ---- what is stated of a row

-- The messages have these bytes in their canonical form, and are answered by those; this rule is
-- broken, if one is.
abbrev pub WorkedRow : Machine → List Message → List ℕ → List ℕ → Option ℕ → Type 0
WorkedRow s ms input output rule =
    (canon ms ≡ input) × (canon (answers false s blank ms).answers ≡ output)
    × ((answers false s blank ms).rule ≡ rule)
