-- Messages of the transmission phase ("Request message", "Simple reply message").
use Rattle.std.specs.Prelude.{ℕ, Bool, if◌then◌else◌, ◌==◌, ◌||◌, not, List, ◌++◌, Result, Ok, Err}
use Rattle.std.specs.Int.{to_be_bytes, w16, w32, w64}
use Rattle.nbd_wire.specs.Numbers.{u16_of, u32_of, u64_of}
use Rattle.nbd_wire.specs.declared.request.Command.{Command}
use Rattle.nbd_wire.specs.declared.request.Command.TheVariants.{Read, Write, Flush, WriteZeroes}
use Rattle.nbd_wire.specs.declared.request.Request.{Request}
use Rattle.nbd_wire.specs.declared.request.RequestFault.{RequestFault}
use Rattle.nbd_wire.specs.declared.request.RequestFault.TheVariants as fault
use Rattle.nbd_wire.specs.declared.reply.SimpleReply.{SimpleReply}
use Rattle.nbd_wire.specs.declared.reply.ReplyMagic.{ReplyMagic}

-- ---- requests

-- the number of a command
abbrev pub command_code : Command → ℕ
command_code Read = 0
command_code Write = 1
command_code Flush = 3
command_code WriteZeroes = 6

-- a request: magic, flags, type, cookie, offset, length
unfoldable pub request_bytes : Request → List ℕ
request_bytes r =
    to_be_bytes w32 0x25609513
    ++ to_be_bytes w16 0
    ++ to_be_bytes w16 (command_code r.command)
    ++ to_be_bytes w64 r.cookie
    ++ to_be_bytes w64 r.offset
    ++ to_be_bytes w32 r.length

-- whether a number is that of a command
unfoldable pub is_command : ℕ → Bool
is_command n = n == 0 || n == 1 || n == 3 || n == 6

-- the command of such a number
unfoldable pub nbd_command : ℕ → Command
nbd_command n =
    if n == 0 then Read
    else if n == 1 then Write
    else if n == 3 then Flush
    else WriteZeroes

-- what 28 bytes are, read as a request
unfoldable pub request_at : List ℕ → Result Request RequestFault
request_at bytes =
    if not (u32_of 0 bytes == 0x25609513) then Err (fault.Magic (u32_of 0 bytes))
    else if not (u16_of 4 bytes == 0) then Err (fault.Flags (u16_of 4 bytes))
    else if not (is_command (u16_of 6 bytes))
    then Err (fault.Command (u16_of 6 bytes))
    else Ok (record {
      command = nbd_command (u16_of 6 bytes);
      cookie = u64_of 8 bytes;
      offset = u64_of 16 bytes;
      length = u32_of 24 bytes;
    })

-- ---- replies

-- a simple reply: magic, error, cookie
unfoldable pub reply_bytes : SimpleReply → List ℕ
reply_bytes r = to_be_bytes w32 0x67446698 ++ to_be_bytes w32 r.error ++ to_be_bytes w64 r.cookie

-- what 16 bytes are, read as a simple reply
unfoldable pub simple_reply_at : List ℕ → Result SimpleReply ReplyMagic
simple_reply_at bytes =
    if u32_of 0 bytes == 0x67446698
    then Ok (record { error = u32_of 4 bytes; cookie = u64_of 8 bytes })
    else Err (record { magic = u32_of 0 bytes })
