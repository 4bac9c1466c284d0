-- What bytes mean as a header and as a whole PDU, and the canonical bytes of a head (RFC 7143,
-- sections 11.1 and 11.2).
use Rattle.std.specs.Prelude.{◌≡◌, ℕ, ◌+◌, ◌%◌, ◌-◌, ◌^◌, ◌<◌, ◌≤◌, Bool, true, not, ◌==◌, nat_lt, ◌&&◌, ◌||◌, if◌then◌else◌, List, [], ◌∷◌, ◌++◌, length, take, slice_index, slice_range, replicate, Option, Some, None}
use Rattle.std.specs.Bool.{OnTrue}
use Rattle.std.specs.List.{list_any}
use Rattle.scsi_cdb.specs.Layout.{Row, always, RowsHold, AreFilled, HaveRoom, put_all, bits_at, number_at, part}
use Rattle.scsi_cdb.specs.Layout.Row.{bit, bits, bytes}
use Rattle.scsi_cdb.specs.Blocks as cdb
use Rattle.iscsi_pdu.specs.declared.head.Head.{Head}
use Rattle.iscsi_pdu.specs.declared.head.Head.TheVariants.{NopOut, ScsiCommand, TaskRequest, LoginRequest, TextRequest, DataOut, LogoutRequest, NopIn, ScsiResponse, TaskResponse, LoginResponse, TextResponse, DataIn, LogoutResponse, ReadyToTransfer, AsyncMessage, Reject}
use Rattle.iscsi_pdu.specs.declared.head.HeadFault.{HeadFault}
use Rattle.iscsi_pdu.specs.declared.head.HeadFault.TheVariants.{UnknownOpcode, Additional, TooLong}
use Rattle.iscsi_pdu.specs.Fields.{nop_out, scsi_command, task_request, login_request, text_request, data_out, logout_request, nop_in, scsi_response, task_response, login_response, text_response, data_in, logout_response, ready_to_transfer, async_message, reject, block_rows}

-- the opcode of a kind (RFC 7143, section 11.2.1.2)
abbrev pub opcode : Head → ℕ
opcode (NopOut h) = 0x00
opcode (ScsiCommand h) = 0x01
opcode (TaskRequest h) = 0x02
opcode (LoginRequest h) = 0x03
opcode (TextRequest h) = 0x04
opcode (DataOut h) = 0x05
opcode (LogoutRequest h) = 0x06
opcode (NopIn h) = 0x20
opcode (ScsiResponse h) = 0x21
opcode (TaskResponse h) = 0x22
opcode (LoginResponse h) = 0x23
opcode (TextResponse h) = 0x24
opcode (DataIn h) = 0x25
opcode (LogoutResponse h) = 0x26
opcode (ReadyToTransfer h) = 0x31
opcode (AsyncMessage h) = 0x32
opcode (Reject h) = 0x3f

-- the rows of the field table for a head
abbrev pub rows : Head → List Row
rows (NopOut h) = nop_out h
rows (ScsiCommand h) = scsi_command h
rows (TaskRequest h) = task_request h
rows (LoginRequest h) = login_request h
rows (TextRequest h) = text_request h
rows (DataOut h) = data_out h
rows (LogoutRequest h) = logout_request h
rows (NopIn h) = nop_in h
rows (ScsiResponse h) = scsi_response h
rows (TaskResponse h) = task_response h
rows (LoginResponse h) = login_response h
rows (TextResponse h) = text_response h
rows (DataIn h) = data_in h
rows (LogoutResponse h) = logout_response h
rows (ReadyToTransfer h) = ready_to_transfer h
rows (AsyncMessage h) = async_message h
rows (Reject h) = reject h

-- the free bits that are written 1 (RFC 7143, section 11, for each kind)
abbrev pub ones : Head → List Row
ones (NopOut h) = bit 1 0x80 (always true) ∷ []
ones (ScsiCommand h) = []
ones (TaskRequest h) = bit 1 0x80 (always true) ∷ []
ones (LoginRequest h) = bit 0 0x40 (always true) ∷ []
ones (TextRequest h) = []
ones (DataOut h) = []
ones (LogoutRequest h) = bit 1 0x80 (always true) ∷ []
ones (NopIn h) = bit 1 0x80 (always true) ∷ []
ones (ScsiResponse h) = bit 1 0x80 (always true) ∷ []
ones (TaskResponse h) = bit 1 0x80 (always true) ∷ []
ones (LoginResponse h) = []
ones (TextResponse h) = []
ones (DataIn h) = []
ones (LogoutResponse h) = bit 1 0x80 (always true) ∷ []
ones (ReadyToTransfer h) = bit 1 0x80 (always true) ∷ []
ones (AsyncMessage h) = bit 1 0x80 (always true) ∷ bytes 16 19 (always 0xffff_ffff) ∷ []
ones (Reject h) = bit 1 0x80 (always true) ∷ bytes 16 19 (always 0xffff_ffff) ∷ []

-- bytes 32 to 47 of a SCSI Command, by the table of descriptor blocks (RFC 7143, section 11.3.5)
abbrev pub HasBlock : List ℕ → Head → Type 0
HasBlock b (ScsiCommand h) = cdb.IsRecord (part 32 47 b) h.cdb
HasBlock b _ = Unit {0}

-- the descriptor block of a SCSI Command fits its table
abbrev pub FitsBlock : Head → Type 0
FitsBlock (ScsiCommand h) = cdb.CdbFits h.cdb
FitsBlock _ = Unit {0}

-- the descriptor block of a SCSI Command is read back from its canonical spelling
abbrev pub ReadsBlock : Head → Type 0
ReadsBlock (ScsiCommand h) = cdb.IsRecord (cdb.canonical h.cdb) h.cdb
ReadsBlock _ = Unit {0}

-- the row of a SCSI Command's descriptor block
abbrev pub blocks : Head → List Row
blocks (ScsiCommand h) = block_rows h.cdb
blocks _ = []

-- what every header has: the opcode, no additional headers, the length of the segment (RFC 7143,
-- sections 11.2.1.2, 11.2.1.5, 11.2.1.6)
abbrev pub frame : ℕ → ℕ → List Row
frame op len = bits 0 0x3f (always op) ∷ bytes 4 4 (always 0) ∷ bytes 5 7 (always len) ∷ []

-- a Login Request or Login Response
abbrev pub is_login : ℕ → Bool
is_login op = op == 0x03 || op == 0x23

-- What 48 bytes mean: a head, and the length of the segment behind them. A login segment has at
-- most 8,192 bytes (RFC 7143, section 13.12).
pub record IsHeader (b : List ℕ) (h : Head) (len : ℕ) : Type 0 where
  pub size : length b ≡ 48
  pub frame : RowsHold b (frame (opcode h) len)
  pub rows : RowsHold b (rows h)
  pub block : HasBlock b h
  pub login : OnTrue (is_login (opcode h)) (len ≤ 8192)

-- The head fits the table: each field is there exactly under its condition, and its mask has room
-- for it.
pub record HeadFits (h : Head) : Type 0 where
  pub filled : AreFilled (rows h)
  pub block : FitsBlock h

-- The one header of a head and a length: each free bit is 0, but for the ones.
unfoldable pub header : Head → ℕ → List ℕ
header h len =
    put_all (rows h ++ blocks h) (put_all (frame (opcode h) len)
    (put_all (ones h) (replicate 48 0)))

-- how many bytes a segment is padded with (RFC 7143, section 11.1)
abbrev pub padding : ℕ → ℕ
padding len = (4 - len % 4) % 4

-- What whole bytes mean: a head, and the data of the segment (RFC 7143, section 11.1). Padding is
-- free.
pub record Means (b : List ℕ) (h : Head) (d : List ℕ) : Type 0 where
  pub size : length b ≡ 48 + length d + padding (length d)
  pub header : IsHeader (take 48 b) h (length d)
  pub data_is : d ≡ slice_range b 48 (48 + length d)

-- the one spelling of a head and its segment, in which padding is 0
unfoldable pub whole : Head → List ℕ → List ℕ
whole h d = header h (length d) ++ d ++ replicate (padding (length d)) 0

-- each is a byte
abbrev pub AreBytes : List ℕ → Type 0
AreBytes b = (k : ℕ) → slice_index b k < 256

-- the descriptor block of a SCSI Command has room for each field, as it has for each value of the
-- field's type
abbrev pub HasBlockRoom : Head → Type 0
HasBlockRoom (ScsiCommand h) = HaveRoom (cdb.cdb_rows h.cdb)
HasBlockRoom _ = Unit {0}

-- A head that fits the table, with numbers of their types, before a segment that a header can tell
-- the length of.
pub record IsWritable (h : Head) (len : ℕ) : Type 0 where
  pub fits : HeadFits h
  pub room : HaveRoom (rows h)
  pub block_room : HasBlockRoom h
  pub short : len < 2 ^ 24
  pub login : OnTrue (is_login (opcode h)) (len ≤ 8192)

-- ---- refusals

-- the opcodes of the 17 kinds (RFC 7143, section 11.2.1.2)
abbrev pub opcodes : List ℕ
opcodes =
    0x00 ∷ 0x01 ∷ 0x02 ∷ 0x03 ∷ 0x04 ∷ 0x05 ∷ 0x06
    ∷ 0x20 ∷ 0x21 ∷ 0x22 ∷ 0x23 ∷ 0x24 ∷ 0x25 ∷ 0x26
    ∷ 0x31 ∷ 0x32 ∷ 0x3f ∷ []

-- a number is one of them
abbrev pub is_opcode : ℕ → Bool
is_opcode op = list_any (λ n. n == op) opcodes

-- why 48 bytes have no head, the first reason of three; the refusals and their order are own
-- profile
abbrev pub head_fault : List ℕ → Option HeadFault
head_fault b =
    if not (is_opcode (bits_at 0 0x3f b)) then Some UnknownOpcode
    else (if not (number_at 4 4 b == 0) then Some Additional
    else (if is_login (bits_at 0 0x3f b) && nat_lt 8192 (number_at 5 7 b) then Some TooLong
    else None))
