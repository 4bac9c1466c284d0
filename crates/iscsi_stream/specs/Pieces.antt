-- The data of a transfer in pieces: cut into chunks, and laid end to end (RFC 7143, section 11.7).
use Rattle.std.specs.Prelude.{◌≡◌, ℕ, zero, suc, ◌+◌, List, [], ◌∷◌, length, take, drop}
use Rattle.std.specs.List.{flat_map}
use Rattle.iscsi_pdu.specs.declared.head.Head.{Head}
use Rattle.iscsi_pdu.specs.declared.head.Head.TheVariants as heads
use Rattle.iscsi_stream.specs.Segment.{segment_bytes}
use Rattle.iscsi_stream.specs.Stream.{Message}

-- bytes in chunks of at most a size; the first number counts down to no chunk
abbrev pub chunks_within : ℕ → ℕ → List ℕ → List (List ℕ)
chunks_within zero size bytes = []
chunks_within (suc more) size [] = []
chunks_within (suc more) size (byte ∷ bytes) =
    take size (byte ∷ bytes) ∷ chunks_within more size (drop size (byte ∷ bytes))

-- bytes in chunks of a size, of which the last has what is left
abbrev pub chunks : ℕ → List ℕ → List (List ℕ)
chunks size bytes = chunks_within (length bytes) size bytes

-- offsets, and the bytes that stand there (section 11.7.5)
abbrev pub Pieces : Type 0
Pieces = List (ℕ × List ℕ)

-- the bytes of the pieces, one after another
abbrev pub piece_data : Pieces → List ℕ
piece_data pieces = flat_map (λ piece. piece.1) pieces

-- the pieces lie one behind the other from the first offset, and end at the second (section 11.7.5)
abbrev pub TilesFrom : ℕ → Pieces → ℕ → Type 0
TilesFrom at [] end = at ≡ end
TilesFrom at (piece ∷ pieces) end = (piece.0 ≡ at) × TilesFrom (at + length piece.1) pieces end

-- the offset and the bytes of a PDU with data
abbrev pub data_piece : Head → List ℕ → Pieces
data_piece (heads.DataOut h) bytes = (h.buffer_offset, bytes) ∷ []
data_piece (heads.DataIn h) bytes = (h.buffer_offset, bytes) ∷ []
data_piece _ bytes = []

-- the offsets and the bytes of the PDUs with data
abbrev pub data_pieces : List Message → Pieces
data_pieces messages = flat_map (λ m. data_piece m.head (segment_bytes m.segment)) messages
