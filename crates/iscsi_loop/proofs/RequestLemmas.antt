-- The requests of commands are those that a pair serves.
use Rattle.std.specs.List.{AllByRecursion}
use Rattle.std.specs.Prelude.{if◌then◌else◌, nat_lt, replicate}
use Rattle.std.proofs.Common.{◌≡◌, ◌<◌, ℕ, ◌*◌, ◌^◌, Bool, true, false, length, refl, arith}
use Rattle.std.proofs.lemmas.Bool.{ltb-true}
use Rattle.scsi_cdb.specs.Layout.{HaveRoom}
use Rattle.scsi_cdb.specs.Blocks.{IsUnlisted, canonical, cdb_rows}
use Rattle.scsi_cdb.specs.declared.cdb.Cdb.{Cdb}
use Rattle.scsi_cdb.specs.declared.cdb.Cdb.TheVariants as cdb
use Rattle.scsi_cdb.proofs.RecordLemmas.{canonical-means}
use Rattle.iscsi_pdu.specs.Meaning.{AreBytes}
use Rattle.iscsi_stream.proofs.CanonBytesLaw.{IsRaw, are_narrow, put_all_bytes, zeros_bytes}
use Rattle.iscsi_pair.specs.Served.{HasCommandRoom, IsServed}
use Rattle.iscsi_loop.specs.declared.command.Command.{Command}
use Rattle.iscsi_loop.specs.declared.command.Command.TheVariants.{TestUnitReady, Inquiry, Capacity, Capacity16, Luns, Read, Write, Sync, Ping, Logout}
use Rattle.scsi_cdb.specs.Plain.{flush, long_transfer, reading, plain_transfer, writing}
use Rattle.iscsi_loop.specs.Commands.{command_request}
use Rattle.iscsi_loop.specs.inner.Commands.{HasNumbers}

-- a descriptor block has 16 bytes
abbrev IsBlock : Cdb → Type 0
IsBlock c = (length (canonical c) ≡ 16) × AreBytes (canonical c)

block_of : (c : Cdb) → HaveRoom (cdb_rows c) → IsUnlisted c → are_narrow (cdb_rows c) ≡ true → AllByRecursion IsRaw (cdb_rows c) → IsBlock c
block_of c room unlisted narrow raws = ((canonical-means c room unlisted).size, put_all_bytes (cdb_rows c) (replicate 16 0) narrow room raws (zeros_bytes 16))

read_block : (first blocks : ℕ) (short : Bool) → nat_lt first (2 ^ 32) ≡ short → first < 2 ^ 64 → blocks < 2 ^ 16
    → IsBlock (if short then cdb.Read10 (plain_transfer first blocks) else cdb.Read16 (long_transfer first blocks))
read_block first blocks true is far few =
    let near : first < 2 ^ 32 = ltb-true first (2 ^ 32) is in
    block_of (cdb.Read10 (plain_transfer first blocks)) (
      (refl, omega arith),
      (
        (refl, omega arith),
        ((refl, omega (arith, near)), ((refl, omega arith), ((refl, omega (arith, few)), ((refl, omega arith), tt)))),
      ),
    ) tt refl
    (tt, (tt, (tt, (tt, (tt, (tt, tt))))))
read_block first blocks false is far few =
    block_of (cdb.Read16 (long_transfer first blocks)) (
      (refl, omega arith),
      (
        (refl, omega arith),
        ((refl, omega (arith, far)), ((refl, omega (arith, few)), ((refl, omega arith), ((refl, omega arith), tt)))),
      ),
    ) tt refl
    (tt, (tt, (tt, (tt, (tt, (tt, tt))))))

write_block : (first blocks : ℕ) (short : Bool) → nat_lt first (2 ^ 32) ≡ short → first < 2 ^ 64 → blocks < 2 ^ 16
    → IsBlock (if short then cdb.Write10 (plain_transfer first blocks) else cdb.Write16 (long_transfer first blocks))
write_block first blocks true is far few =
    let near : first < 2 ^ 32 = ltb-true first (2 ^ 32) is in
    block_of (cdb.Write10 (plain_transfer first blocks)) (
      (refl, omega arith),
      (
        (refl, omega arith),
        ((refl, omega (arith, near)), ((refl, omega arith), ((refl, omega (arith, few)), ((refl, omega arith), tt)))),
      ),
    ) tt refl
    (tt, (tt, (tt, (tt, (tt, (tt, tt))))))
write_block first blocks false is far few =
    block_of (cdb.Write16 (long_transfer first blocks)) (
      (refl, omega arith),
      (
        (refl, omega arith),
        ((refl, omega (arith, far)), ((refl, omega (arith, few)), ((refl, omega arith), ((refl, omega arith), tt)))),
      ),
    ) tt refl
    (tt, (tt, (tt, (tt, (tt, (tt, tt))))))

-- it has room in its field, and so has the unit
in_room : (lun : ℕ) (c : Cdb) → lun < 2 ^ 64 → IsBlock c → HasCommandRoom lun (canonical c)
in_room lun c small block = (small, block.0, block.1)

pub request_served : (command : Command) → HasNumbers command → IsServed (command_request command)
request_served (TestUnitReady unit) n =
    in_room (unit * 2 ^ 48) (cdb.TestUnitReady 0) (omega (arith, n))
    (block_of (cdb.TestUnitReady 0) ((refl, omega arith), ((refl, omega arith), tt)) tt refl (tt, (tt, tt)))
request_served (Inquiry unit allocation_length) n =
    let small = n.0 in
    let few = n.1 in
    in_room (unit * 2 ^ 48) (cdb.Inquiry false 0 allocation_length 0) (omega (arith, small))
    (block_of (cdb.Inquiry false 0 allocation_length 0) (
      (refl, omega arith),
      (
        refl,
        ((refl, omega arith), ((refl, omega (arith, few)), ((refl, omega arith), tt))),
      ),
    ) tt refl
    (tt, (tt, (tt, (tt, (tt, tt))))))
request_served Capacity n = in_room 0 (cdb.Capacity10 0) (omega arith) (block_of (cdb.Capacity10 0)
    ((refl, omega arith), ((refl, omega arith), tt)) tt refl (tt, (tt, tt)))
request_served Capacity16 n =
    in_room 0 (cdb.Capacity16 32 0) (omega arith) (block_of (cdb.Capacity16 32 0)
    ((refl, omega arith), ((refl, omega arith), ((refl, omega arith), ((refl, omega arith), tt)))) tt refl (tt, (tt, (tt, (tt, tt)))))
request_served Luns n =
    in_room 0 (cdb.ReportLuns 0 16 0) (omega arith) (block_of (cdb.ReportLuns 0 16 0)
    ((refl, omega arith), ((refl, omega arith), ((refl, omega arith), ((refl, omega arith), tt)))) tt refl (tt, (tt, (tt, (tt, tt)))))
request_served (Read first blocks) n = in_room 0 (reading first blocks) (omega arith) (read_block first blocks (nat_lt first (2 ^ 32)) refl n.0 n.1)
request_served (Write first blocks byte) n = in_room 0 (writing first blocks) (omega arith) (write_block first blocks (nat_lt first (2 ^ 32)) refl n.0 n.1)
request_served (Sync first blocks) n =
    let near = n.0 in
    let few = n.1 in
    in_room 0 (flush first blocks) (omega arith)
    (block_of (flush first blocks) (
      (refl, omega arith),
      (
        (refl, omega arith),
        (
          (refl, omega (arith, near)),
          ((refl, omega arith), ((refl, omega (arith, few)), ((refl, omega arith), tt))),
        ),
      ),
    ) tt refl
    (tt, (tt, (tt, (tt, (tt, (tt, tt)))))))
request_served (Ping bytes) n = tt
request_served Logout n = tt
