-- What the line of a request asks, and what it sends (own rules). The lines of `loop`'s scripts are among
-- them.
use Rattle.std.specs.Prelude.{ℕ, ◌*◌, ◌^◌, nat_lt, false, if◌then◌else◌, List, [], ◌∷◌, replicate, Option, Some, None, codes}
use Rattle.std.specs.Str.{bytes_eq}
use Rattle.scsi_cdb.specs.declared.cdb.Cdb.{Cdb}
use Rattle.scsi_cdb.specs.declared.cdb.Cdb.TheVariants as cdb
use Rattle.scsi_cdb.specs.Blocks.{canonical}
use Rattle.scsi_cdb.specs.Plain.{flush, reading, writing}
use Rattle.iscsi_job.specs.declared.item.Asked.{Asked}
use Rattle.iscsi_job.specs.declared.item.Asked.TheVariants as asked
use Rattle.iscsi_job.specs.declared.item.Moves.{Moves}
use Rattle.iscsi_job.specs.declared.item.Moves.TheVariants as moves
use Rattle.iscsi_job_text.specs.Words.{Reading, ◌>>=◌, go_on, means, word_as, is_next, is_all_taken, words_behind, line_words, number, optional, byte, Data, no_data, data_before, data_length, lun_of, block_word}

-- What is asked, and the data that are sent with it.
abbrev pub Request : Type 0
Request = Asked × Data

-- ---- lines of scripts

-- which way the data of a command go that may return so many bytes
abbrev pub way_in : ℕ → Moves
way_in expected = if nat_lt 0 expected then moves.In else moves.Nothing

-- which way the data of a write of so many blocks go
abbrev pub way_out : ℕ → Moves
way_out blocks = if nat_lt 0 blocks then moves.Out else moves.Nothing

-- A command to a unit that may return so many bytes; the unit's number is byte 1 of its LUN (SAM-5,
-- section 4.7).
abbrev pub script_data_in : ℕ → Cdb → ℕ → Asked
script_data_in unit block expected =
    asked.Command (unit * 2 ^ 48) (canonical block) (way_in expected) expected

-- A write of blocks of 512 bytes.
abbrev pub script_write_of : ℕ → ℕ → Asked
script_write_of logical_block_address blocks =
    asked.Command 0 (canonical (writing logical_block_address blocks)) (way_out blocks) (512 * blocks)

-- `tur U`
abbrev pub script_unit_ready : Reading Asked
script_unit_ready = do
  unit ← number 255
  means (script_data_in unit (cdb.TestUnitReady 0) 0)

-- `inquiry U A`
abbrev pub script_inquiry : Reading Asked
script_inquiry = do
  unit ← number 255
  size ← number 65535
  means (script_data_in unit (cdb.Inquiry false 0 size 0) size)

-- `read LBA N`
abbrev pub script_read : Reading Asked
script_read = do
  logical_block_address ← number 18446744073709551615
  blocks ← number 8192
  means (script_data_in 0 (reading logical_block_address blocks) (512 * blocks))

-- `sync LBA N`
abbrev pub script_sync : Reading Asked
script_sync = do
  logical_block_address ← number 4294967295
  blocks ← number 65535
  means (script_data_in 0 (flush logical_block_address blocks) 0)

-- `task FF`
abbrev pub task : Reading Asked
task = do
  function ← byte
  means (asked.Task function)

-- `write LBA N BB`: the write, and its bytes, which are all the same.
abbrev pub script_write : Reading (Asked × List ℕ)
script_write = do
  logical_block_address ← number 18446744073709551615
  blocks ← number 8192
  filling ← byte
  means (script_write_of logical_block_address blocks, replicate (512 * blocks) filling)

-- What a request of this name asks, if it sends no bytes.
abbrev pub without_data : List ℕ → Reading Asked
without_data name words =
    if bytes_eq name (codes "tur") then script_unit_ready words
    else (if bytes_eq name (codes "inquiry") then script_inquiry words
    else (if bytes_eq name (codes "capacity") then Some (script_data_in 0 (cdb.Capacity10 0) 8, words)
    else (if bytes_eq name (codes "capacity16") then Some (script_data_in 0 (cdb.Capacity16 32 0) 32, words)
    else (if bytes_eq name (codes "luns") then Some (script_data_in 0 (cdb.ReportLuns 0 16 0) 16, words)
    else (if bytes_eq name (codes "read") then script_read words
    else (if bytes_eq name (codes "sync") then script_sync words
    else (if bytes_eq name (codes "logout") then Some (asked.Logout, words)
    else (if bytes_eq name (codes "task") then task words
    else None))))))))

-- ---- other lines

-- How many bytes a command that sent so many was to send: these, or more of them if `of N` says so.
abbrev pub expected_by : ℕ → Option ℕ → Reading ℕ
expected_by sent None words = Some (sent, words)
expected_by sent (Some n) words = if nat_lt sent n then Some (n, words) else None

abbrev pub expected_of : ℕ → Reading ℕ
expected_of sent words =
    if nat_lt sent 4294967296
    then go_on (optional (codes "of") (number 4294967295) words) (expected_by sent)
    else None

-- Which way the data of a command go, how many bytes are expected, and those that are sent.
abbrev pub Moved : Type 0
Moved = Moves × ℕ × Data

-- `in N`
abbrev pub moved_in : Reading Moved
moved_in = do
  expected ← number 4294967295
  means (moves.In, expected, no_data)

-- `out DATA`, `out DATA of N`
abbrev pub moved_out : Reading Moved
moved_out = do
  sent ← data_before (codes "of")
  expected ← expected_of (data_length sent)
  means (moves.Out, expected, sent)

-- `none`, `in N` or `out ..`
abbrev pub moved_said : Reading Moved
moved_said words =
    if is_next (codes "none") words then Some ((moves.Nothing, 0, no_data), words_behind words)
    else (if is_next (codes "in") words then moved_in (words_behind words)
    else (if is_next (codes "out") words then moved_out (words_behind words)
    else None))

-- `command LUN CDB ..`
abbrev pub command : Reading Request
command = do
  lun ← word_as lun_of
  block ← word_as block_word
  transfer ← moved_said
  means (asked.Command lun block transfer.0 transfer.1, transfer.2)

-- The line of a write of a script.
abbrev pub written : Reading Request
written = do
  blocks ← script_write
  means (blocks.0, record { bytes = blocks.1; stored = None })

-- `ping DATA`, `text DATA`
abbrev pub bytes_request : Asked → Reading Request
bytes_request what = do
  sent ← data_before []
  means (what, sent)

-- A request of a script that sends no bytes, or `task`.
abbrev pub others : List ℕ → Reading Request
others name = do
  what ← without_data name
  means (what, no_data)

-- The request of this name.
abbrev pub request_named : List ℕ → Reading Request
request_named name words =
    if bytes_eq name (codes "command") then command words
    else (if bytes_eq name (codes "write") then written words
    else (if bytes_eq name (codes "ping") then bytes_request asked.Ping words
    else (if bytes_eq name (codes "text") then bytes_request asked.Text words
    else others name words)))

-- The request that the next word names.
abbrev pub request_in : Reading Request
request_in [] = None
request_in (name ∷ words) = request_named name words

-- What was read, if no word is left.
abbrev pub whole_line : {A : Type 0} → Option (A × List (List ℕ)) → Option A
whole_line None = None
whole_line (Some got) = if is_all_taken got.1 then Some got.0 else None

-- What the line of a request asks and sends, if it is one.
abbrev pub request_of : List ℕ → Option Request
request_of line = whole_line (request_in (line_words line))
