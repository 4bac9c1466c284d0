-- What tiles a transfer, and what R2Ts ask for (RFC 7143, sections 11.7 and 11.8).
--
-- `protected` says of the store that it refuses each write.
use Rattle.std.specs.Prelude.{◌≡◌, ℕ, ◌+◌, ◌≤◌, Bool, true, if◌then◌else◌, List, [], ◌∷◌, ◌++◌, length, Option, Some, None, is_some}
use Rattle.std.specs.List.{flat_map, AllByRecursion}
use Rattle.scsi_disk.specs.Disk.{Disk}
use Rattle.scsi_disk.specs.Plan.{plan_of}
use Rattle.scsi_disk.specs.declared.order.Plan.{Plan}
use Rattle.scsi_disk.specs.declared.order.Plan.TheVariants.{Take}
use Rattle.iscsi_pdu.specs.declared.head.data_out.DataOut.{DataOut}
use Rattle.iscsi_pdu.specs.declared.head.Head.{Head}
use Rattle.iscsi_pdu.specs.declared.head.Head.TheVariants as heads
use Rattle.iscsi_stream.specs.Segment.{segment_bytes}
use Rattle.iscsi_stream.specs.Stream.{Message}
use Rattle.iscsi_login.specs.Held.{Held, first_burst, max_burst}
use Rattle.iscsi_target.specs.Write.{Write}
use Rattle.iscsi_target.specs.declared.tasks.Task.{Task}
use Rattle.iscsi_target.specs.declared.tasks.Task.TheVariants.{Data}
use Rattle.iscsi_target.specs.State.{Machine, Execution, TargetStep}
use Rattle.iscsi_target.specs.Execution.{effect_of}
use Rattle.iscsi_stream.specs.Pieces.{Pieces, piece_data, TilesFrom, data_pieces}
use Rattle.iscsi_target.specs.declared.due.Due.{Due}
use Rattle.iscsi_target.specs.declared.due.Due.TheVariants.{Solicited}
use Rattle.iscsi_target.specs.Transfer.{data_out_taken}
use Rattle.iscsi_target.specs.Machine.{write_of, target_step}

-- ---- pieces tile a transfer

-- The offsets ascend from 0, each piece begins where the last ended, and the lengths add up to n
-- (section 11.7.5).
abbrev pub Tiles : Pieces → ℕ → Type 0
Tiles pieces n = TilesFrom 0 pieces n

-- Pieces that tile these bytes (section 11.7.5).
abbrev pub TileBytes : Pieces → List ℕ → Type 0
TileBytes pieces bytes = Tiles pieces (length bytes) × (piece_data pieces ≡ bytes)

-- No Data-In among answers has more than so many bytes (section 13.12).
abbrev pub AreShortDataIn : ℕ → List Message → Type 0
AreShortDataIn most answers = AllByRecursion (λ piece. length piece.1 ≤ most) (data_pieces answers)

-- The tag of a Data-In (section 11.7).
abbrev pub data_in_tag : Head → List ℕ
data_in_tag (heads.DataIn h) = h.initiator_task_tag ∷ []
data_in_tag _ = []

-- The tags of the Data-In among answers (section 11.7).
abbrev pub data_in_tags : List Message → List ℕ
data_in_tags ms = flat_map (λ m. data_in_tag m.head) ms

-- The bytes that a command gave (section 11.7).
abbrev pub bytes_given : Bool → Execution → List ℕ
bytes_given protected e = (effect_of protected e).outcome.bytes

-- These answers have the Data-In of what was executed: they have its tag, and tile these bytes
-- (section 11.7).
pub record GivesTiles (e : Execution) (bytes : List ℕ) (answers : List Message) : Type 0 where
  pub tags : AllByRecursion (λ tag. tag ≡ e.initiator_task_tag) (data_in_tags answers)
  pub tiled : TileBytes (data_pieces answers) bytes

-- The answers are those that have the Data-In of each execution, one after another; behind them
-- there are none (section 11.7).
abbrev pub GiveTiles : (Execution → List ℕ) → List Message → List Execution → Type 0
GiveTiles given answers [] = data_pieces answers ≡ []
GiveTiles given answers (e ∷ es) =
    (own : List Message) × (more : List Message) × (answers ≡ own ++ more)
    × GivesTiles e (given e) own × GiveTiles given more es

-- The Data-In of what a message made the target execute have its tag, and tile what it gave, one
-- execution after another; others there are none (section 11.7).
abbrev pub TilesDataIn : Bool → TargetStep → Type 0
TilesDataIn protected r = GiveTiles (bytes_given protected) r.answers r.executed

-- The pieces of the data of an order tile what it takes, by its plan (section 11.7).
abbrev pub TilesPlan : Plan → Pieces → Type 0
TilesPlan (Take n) pieces = Tiles pieces n
TilesPlan _ pieces = pieces ≡ []

-- The pieces that came for an order tile what it takes (section 11.7).
abbrev pub IsTiled : Execution → Type 0
IsTiled e = TilesPlan (plan_of e.order e.disk.count) e.pieces

-- ---- R2Ts

-- What an R2T asks for: where, and how many bytes (section 11.8.4).
abbrev pub r2t_range : Head → List (ℕ × ℕ)
r2t_range (heads.ReadyToTransfer h) = (h.buffer_offset, h.desired_data_transfer_length) ∷ []
r2t_range _ = []

-- What the R2Ts among answers ask for (section 11.8.4).
abbrev pub r2t_ranges : List Message → List (ℕ × ℕ)
r2t_ranges ms = flat_map (λ m. r2t_range m.head) ms

-- An R2T asks for at most a burst, and for nothing past the transfer (sections 11.8.4 and 13.13).
pub record IsModest (held : Held) (total : ℕ) (range : ℕ × ℕ) : Type 0 where
  pub burst : range.1 ≤ max_burst held
  pub inside : range.0 + range.1 ≤ total

-- How many bytes the first task takes, where it is a write (section 11.3).
abbrev pub total_of : List Task → ℕ
total_of (Data w ∷ more) = w.total
total_of _ = 0

-- The Data-Out is the last that an R2T asked for (section 11.8).
abbrev pub ends_r2t : Due → Bool → ℕ
ends_r2t (Solicited tag data_sn end) true = 1
ends_r2t _ _ = 0

-- How many R2Ts a Data-Out answers, if it is due (section 11.8).
abbrev pub data_answers : ℕ → DataOut → List ℕ → Option Write → ℕ
data_answers first_burst h bytes None = 0
data_answers first_burst h bytes (Some w) =
    if is_some (data_out_taken first_burst w h bytes) then ends_r2t w.due h.is_final else 0

-- How many R2Ts a PDU answers (section 11.8).
abbrev pub pdu_answers : Machine → Message → Head → ℕ
pdu_answers s m (heads.DataOut h) =
    data_answers (first_burst s.session.held) h (segment_bytes m.segment)
    (write_of s.tasks h.initiator_task_tag)
pdu_answers s m _ = 0

-- How many R2Ts are answered by messages (section 11.8).
unfoldable pub r2ts_answered : Bool → Machine → Disk → List Message → ℕ
r2ts_answered protected s disk [] = 0
r2ts_answered protected s disk (m ∷ ms) =
    pdu_answers s m m.head + r2ts_answered protected (target_step protected s disk m).machine
    (target_step protected s disk m).disk ms
