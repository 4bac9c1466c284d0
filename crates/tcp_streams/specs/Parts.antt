-- Parts that wait, as the pieces that they are.
use Rattle.std.specs.Prelude.{List, map}
use Rattle.tcp_streams.specs.Pieces.{Piece}
use Rattle.tcp_streams.specs.declared.waiting.Part.{Part}

-- a part that waits, as a piece
abbrev pub piece_of : Part → Piece
piece_of part = record { offset = part.offset; bytes = part.bytes.items }

-- parts that wait, as pieces
abbrev pub pieces_of : List Part → List Piece
pieces_of parts = map piece_of parts
