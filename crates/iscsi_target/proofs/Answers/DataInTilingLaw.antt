-- The Data-In of a command tile what it gives.
use Rattle.std.proofs.Common.{◌≡◌, ◌<◌, ℕ, ◌+◌, List, [], ◌∷◌, ◌++◌, Bool, length, refl, sym, ap, ◌∙◌, subst, arith, append_assoc}
use Rattle.std.specs.List.{flat_map}
use Rattle.std.proofs.lemmas.List.{length-append}
use Rattle.scsi_disk.specs.Disk.{Disk}
use Rattle.scsi_disk.specs.Effect.{Effect}
use Rattle.scsi_disk.specs.declared.order.Order.{Order}
use Rattle.iscsi_stream.specs.Segment.{segment_bytes}
use Rattle.iscsi_stream.specs.Stream.{Message}
use Rattle.iscsi_login.specs.Held.{max_burst}
use Rattle.iscsi_target_session.specs.Session.{Session, answer_message, data_in_length}
use Rattle.iscsi_target.specs.State.{Machine, waiting_tasks, unit_of}
use Rattle.iscsi_stream.specs.Pieces.{Pieces, piece_data, chunks, TilesFrom, data_pieces}
use Rattle.iscsi_target.specs.Execution.{Device, execute, marked_parts, sequence_parts, data_in_parts, data_ins, response_head, sense_segment, as_told}
use Rattle.iscsi_target.specs.Tiles.{Tiles, TileBytes}
use Rattle.iscsi_stream.proofs.ChunkLemmas.{joined, joined_chunks}

abbrev pub Parts : Type 0
Parts = List (List ℕ × Bool)

abbrev pub bytes_of : Parts → List ℕ
bytes_of given = flat_map (λ part. part.0) given

bytes_marked : (xs : List (List ℕ)) → bytes_of (marked_parts xs) ≡ joined xs
bytes_marked [] = refl
bytes_marked (x ∷ []) = refl
bytes_marked (x ∷ y ∷ xs) = ap (λ (z : List ℕ). x ++ z) (bytes_marked (y ∷ xs))

bytes_append : (a b : Parts) → bytes_of (a ++ b) ≡ bytes_of a ++ bytes_of b
bytes_append [] b = refl
bytes_append (p ∷ a) b = ap (λ (z : List ℕ). p.0 ++ z) (bytes_append a b) ∙ sym (append_assoc p.0 (bytes_of a) (bytes_of b))

bytes_runs : (s : Session) (runs : List (List ℕ)) → 0 < data_in_length s → bytes_of (flat_map (sequence_parts s) runs) ≡ joined runs
bytes_runs s [] lt = refl
bytes_runs s (run ∷ runs) lt =
    bytes_append (sequence_parts s run) (flat_map (sequence_parts s) runs)
    ∙ ap (λ (z : List ℕ). z ++ bytes_of (flat_map (sequence_parts s) runs)) (bytes_marked (chunks (data_in_length s) run)
    ∙ joined_chunks (data_in_length s) run lt)
    ∙ ap (λ (z : List ℕ). run ++ z) (bytes_runs s runs lt)

pub all_given : (s : Session) (bytes : List ℕ) → 0 < max_burst s.held → 0 < data_in_length s → bytes_of (data_in_parts s bytes) ≡ bytes
all_given s bytes burst most = bytes_runs s (chunks (max_burst s.held) bytes) most ∙ joined_chunks (max_burst s.held) bytes burst

tiles_ins : (s : Session) (waits tag data_sn at : ℕ) (given : Parts) (last : Message) → data_pieces (last ∷ []) ≡ []
    → TilesFrom at (data_pieces (data_ins s waits tag data_sn at given ++ last ∷ [])) (at + length (bytes_of given))
unfolding segment_bytes
tiles_ins s waits tag data_sn at [] last e = subst (λ (ps : Pieces). TilesFrom at ps (at + 0)) (sym e) (omega arith)
tiles_ins s waits tag data_sn at (part ∷ given) last e = (
  refl,
  subst (λ (n : ℕ). TilesFrom (at + length part.0) (data_pieces (data_ins s waits tag (data_sn + 1) (at + length part.0) given ++ last ∷ [])) n)
      (let f = length-append part.0 (bytes_of given) in omega (arith, f)) (tiles_ins s waits tag (data_sn + 1) (at + length part.0) given last e),
)

data_ins_bytes : (s : Session) (waits tag data_sn at : ℕ) (given : Parts) (last : Message) → data_pieces (last ∷ []) ≡ []
    → piece_data (data_pieces (data_ins s waits tag data_sn at given ++ last ∷ [])) ≡ bytes_of given
unfolding segment_bytes
data_ins_bytes s waits tag data_sn at [] last e = ap piece_data e
data_ins_bytes s waits tag data_sn at (part ∷ given) last e = ap (λ (z : List ℕ). part.0 ++ z)
    (data_ins_bytes s waits tag (data_sn + 1) (at + length part.0) given last e)

-- the Data-In of a command tile what it gives
pub execute_tiled : (device : Device) (s : Machine) (disk : Disk) (tag : ℕ) (order : Order) (pieces : Pieces) → 0 < max_burst s.session.held → 0
    < data_in_length s.session
    → TileBytes (data_pieces (execute device s disk tag order pieces).answers)
    (as_told (unit_of s.session) disk.count order (device 0 disk order (piece_data pieces))).outcome.bytes
execute_tiled device s disk tag order pieces burst most =
    let e : Effect = as_told (unit_of s.session) disk.count order (device 0 disk order (piece_data pieces)) in
    let given : Parts = data_in_parts s.session e.outcome.bytes in
    let last : Message = answer_message (response_head s.session (waiting_tasks s.tasks) tag e.outcome (length given)) (sense_segment e.outcome.sense) in
    let all : bytes_of given ≡ e.outcome.bytes = all_given s.session e.outcome.bytes burst most in (
      subst (λ (n : ℕ). Tiles (data_pieces (data_ins s.session (waiting_tasks s.tasks) tag 0 0 given ++ last ∷ [])) n)
          (let f = ap (λ (z : List ℕ). length z) all in omega (arith, f)) (tiles_ins s.session (waiting_tasks s.tasks) tag 0 0 given last refl),
      data_ins_bytes s.session (waiting_tasks s.tasks) tag 0 0 given last refl ∙ all,
    )
