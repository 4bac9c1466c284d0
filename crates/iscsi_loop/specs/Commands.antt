-- The requests that the commands of a script are (SPC-4 and SBC-3; which there are is own rule).
use Rattle.std.specs.Prelude.{ℕ, ◌*◌, ◌^◌, Bool, true, false, replicate}
use Rattle.scsi_cdb.specs.declared.cdb.Cdb.{Cdb}
use Rattle.scsi_cdb.specs.declared.cdb.Cdb.TheVariants as cdb
use Rattle.scsi_cdb.specs.Blocks.{canonical}
use Rattle.scsi_cdb.specs.Plain.{flush, reading, writing}
use Rattle.iscsi_initiator.specs.declared.request.Request.{Request}
use Rattle.iscsi_initiator.specs.declared.request.Request.TheVariants as requests
use Rattle.iscsi_loop.specs.declared.command.Command.{Command}
use Rattle.iscsi_loop.specs.declared.command.Command.TheVariants.{TestUnitReady, Inquiry, Capacity, Capacity16, Luns, Read, Write, Sync, Ping, Logout}

-- A command to a unit that may return n bytes; the unit's number is byte 1 of the LUN, the
-- second from above (SAM-5, section 4.7).
abbrev pub data_in_request : ℕ → Cdb → ℕ → Request
data_in_request unit block expected = requests.In (unit * 2 ^ 48) (canonical block) expected

-- A WRITE of n blocks of 512 bytes, all of them this byte (SBC-3).
abbrev pub write_request : ℕ → ℕ → ℕ → Request
write_request logical_block_address blocks byte =
    requests.Out 0 (canonical (writing logical_block_address blocks))
    (replicate (512 * blocks) byte)

-- What a command asks for. TEST UNIT READY, INQUIRY and REPORT LUNS are SPC-4's, and READ CAPACITY,
-- READ, WRITE and SYNCHRONIZE CACHE(10) are SBC-3's. A ping and a logout are those of RFC 7143,
-- sections 11.18 and 11.14 (what stands in the other fields of all these is own rule).
abbrev pub command_request : Command → Request
command_request (TestUnitReady unit) = data_in_request unit (cdb.TestUnitReady 0) 0
command_request (Inquiry unit allocation_length) =
    data_in_request unit (cdb.Inquiry false 0 allocation_length 0) allocation_length
command_request Capacity = data_in_request 0 (cdb.Capacity10 0) 8
command_request Capacity16 = data_in_request 0 (cdb.Capacity16 32 0) 32
command_request Luns = data_in_request 0 (cdb.ReportLuns 0 16 0) 16
command_request (Read logical_block_address blocks) =
    data_in_request 0 (reading logical_block_address blocks) (512 * blocks)
command_request (Write logical_block_address blocks byte) =
    write_request logical_block_address blocks byte
command_request (Sync logical_block_address blocks) =
    data_in_request 0 (flush logical_block_address blocks) 0
command_request (Ping bytes) = requests.Ping bytes
command_request Logout = requests.Logout

-- The command ends the session (RFC 7143, section 11.14).
abbrev pub is_logout : Command → Bool
is_logout (TestUnitReady unit) = false
is_logout (Inquiry unit allocation_length) = false
is_logout Capacity = false
is_logout Capacity16 = false
is_logout Luns = false
is_logout (Read logical_block_address blocks) = false
is_logout (Write logical_block_address blocks byte) = false
is_logout (Sync logical_block_address blocks) = false
is_logout (Ping bytes) = false
is_logout Logout = true
