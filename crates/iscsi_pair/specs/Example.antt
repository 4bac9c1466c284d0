-- A write and a read of the same blocks, and two ends with the standard preferences (RFC 7143,
-- section 13; SBC-3).
use Rattle.std.specs.Prelude.{◌≡◌, ℕ, ◌+◌, ◌*◌, ◌/◌, ◌<◌, ◌≤◌, List, [], ◌∷◌, length, bit_and, codes}
use Rattle.scsi_cdb.specs.declared.cdb.Cdb.TheVariants.{Read10, Write10}
use Rattle.scsi_cdb.specs.declared.cdb.Transfer10.{Transfer10}
use Rattle.scsi_cdb.specs.declared.residual.Residual.TheVariants.{Exact}
use Rattle.scsi_cdb.specs.Blocks.{record_of}
use Rattle.iscsi_login.specs.Negotiation.{standard_preferences}
use Rattle.iscsi_login.specs.declared.stage.Stage.TheVariants as stages
use Rattle.iscsi_text.specs.declared.negotiated.Session.TheVariants as sessions
use Rattle.iscsi_login.specs.declared.offers.Auth.TheVariants as auths
use Rattle.iscsi_target_session.specs.Configured.{no_extras}
use Rattle.iscsi_initiator.specs.declared.request.Done.{Done}
use Rattle.iscsi_initiator.specs.declared.request.Done.TheVariants as done
use Rattle.iscsi_pair.specs.World.{Opening}
use Rattle.iscsi_pair.specs.Served.{HasCommandRoom}

-- A WRITE(10) and a READ(10) of the same blocks, without protection, and as many bytes (SBC-3). The
-- disk has the blocks, which are at most as many as one command may name (the most is own rule).
pub record NameSame (c : Opening) (write_cdb read_cdb bytes : List ℕ) : Type 0 where
  pub named : Transfer10
  pub writes : record_of write_cdb ≡ Write10 named
  pub reads : record_of read_cdb ≡ Read10 named
  pub plain : bit_and named.options 0xe0 ≡ 0
  pub some : 0 < named.blocks
  pub few : named.blocks ≤ 8192
  pub inside : named.logical_block_address + named.blocks ≤ length c.blocks / 512
  pub size : length bytes ≡ 512 * named.blocks
  pub write_room : HasCommandRoom 0 write_cdb
  pub read_room : HasCommandRoom 0 read_cdb

-- WRITE(10) of the first block (SBC-3).
abbrev pub first_written : List ℕ
first_written = 0x2a ∷ 0 ∷ 0 ∷ 0 ∷ 0 ∷ 0 ∷ 0 ∷ 0 ∷ 1 ∷ 0 ∷ 0 ∷ 0 ∷ 0 ∷ 0 ∷ 0 ∷ 0 ∷ []

-- READ(10) of it (SBC-3).
abbrev pub first_read : List ℕ
first_read = 0x28 ∷ 0 ∷ 0 ∷ 0 ∷ 0 ∷ 0 ∷ 0 ∷ 0 ∷ 1 ∷ 0 ∷ 0 ∷ 0 ∷ 0 ∷ 0 ∷ 0 ∷ 0 ∷ []

-- GOOD, with these bytes, no sense and no residual (sections 11.4.1 and 11.4.2).
abbrev pub good_done : List ℕ → Done
good_done bytes = done.Command 0 0x00 [] bytes Exact

-- Two ends of these names over these blocks, both with the standard preferences. They are in a
-- normal session that offers no authentication and starts with its operational stage (sections 6.3
-- and 13).
abbrev pub standard_opening : List ℕ → Opening
standard_opening blocks = record {
  initiator = record {
    proposal = record {
      initiator = codes "iqn.2026-01.example:host";
      target = codes "iqn.2026-01.example:disk";
      session = sessions.Normal;
      auth = auths.None;
      prefs = standard_preferences;
    };
    start = stages.Operational;
    isid = 0x80 ∷ 0 ∷ 0 ∷ 0 ∷ 0 ∷ 1 ∷ [];
    first_cmd_sn = 1;
    login_segment = 8192;
  };
  target = record {
    name = codes "iqn.2026-01.example:disk";
    group = 1;
    tsih = 1;
    preferences = standard_preferences;
    extras = no_extras;
  };
  first_stat_sn = 1;
  blocks = blocks;
}
