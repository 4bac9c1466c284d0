-- The lines of a capture's connections.
use Rattle.std.specs.Prelude.{◌≡◌, ◌⊎◌, ℕ, suc, List, [], ◌∷◌, ◌++◌, Option, Result, Err, codes, decimal}
use Rattle.std.specs.Io.KnownBytes.{Appends, Keeps}
use Rattle.std.specs.Net.Text.{socket_text}
use Rattle.iscsi_captures.specs.declared.captured.End.TheVariants.{Initiator}
use Rattle.capture_connections.specs.declared.connections.Connection.{Connection}
use Rattle.capture_connections.specs.declared.ends.Side.{Side}
use Rattle.iscsi_captures.specs.declared.fault.CapturesFault.{CapturesFault}
use Rattle.iscsi_captures.specs.declared.fault.CapturesFault.TheVariants as faults
use Rattle.capture_connections.specs.Sides.{address_at, other_side, sent_at}
use Rattle.iscsi_captures.specs.Meant.{IsMeant}
use Rattle.iscsi_captures.specs.Written.{WroteLess}

-- a line before its remarks: the number of a connection, its ends, and how many bytes of each of
-- them are known, with this end first
abbrev pub line_front : ℕ → Connection → Side → List ℕ
line_front k connection side = decimal k
    ++ (codes " " ++ (socket_text (address_at side connection.ends)
    ++ (codes " " ++ (socket_text (address_at (other_side side) connection.ends)
    ++ (codes " " ++ (decimal (sent_at side connection).known
    ++ (codes " " ++ decimal (sent_at (other_side side) connection).known)))))))

-- The line of the connection with this number: who began it comes first, and remarks come last.
abbrev pub IsLineOf : ℕ → Connection → List ℕ → Type 0
IsLineOf k connection line = (side : Side) × IsMeant connection Initiator side × (remarks : List ℕ)
    × (line ≡ line_front k connection side ++ (remarks ++ 10 ∷ []))

-- a line for each connection, in their order, which count from this number
abbrev pub AreLinesFrom : ℕ → List Connection → List ℕ → Type 0
AreLinesFrom k [] lines = lines ≡ []
AreLinesFrom k (connection ∷ connections) lines = (line : List ℕ) × (rest : List ℕ)
    × IsLineOf k connection line × AreLinesFrom (suc k) connections rest × (lines ≡ line ++ rest)

-- Of the lines of some connections all were written.
abbrev pub WroteLines : Option (List ℕ) → Option (List ℕ) → Type 0
WroteLines old new = (connections : List Connection) × (lines : List ℕ)
    × AreLinesFrom 0 connections lines × Appends old new lines

-- What is written of a capture, by how that ends: the lines of its connections. Where memory ran out
-- this is nothing or all of them, and where a write failed a front that is not all.
abbrev pub ListPost : Result (Unit {0}) CapturesFault → Option (List ℕ) → Option (List ℕ) → Type 0
ListPost (Err faults.NoMemory) old new = Keeps old new ⊎ WroteLines old new
ListPost (Err faults.Write) old new = (connections : List Connection) × (lines : List ℕ)
    × AreLinesFrom 0 connections lines × WroteLess old new lines
ListPost _ old new = WroteLines old new
