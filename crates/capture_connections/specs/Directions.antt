-- The bytes of one direction of a connection, by the segments of a whole capture.
use Rattle.std.specs.Prelude.{◌≡◌, ℕ, ◌==◌, ◌&&◌, Bool, true, false, if◌then◌else◌, List, [], ◌∷◌, ◌++◌, slice_get, Option}
use Rattle.tcp_streams.specs.Pieces.{Piece, DeterminesBytes}
use Rattle.tcp_streams.specs.Placing.{Numbered, ArePlaced}
use Rattle.capture_connections.specs.declared.heard.Heard.{Heard}
use Rattle.capture_connections.specs.declared.belonging.Start.{Start}
use Rattle.capture_connections.specs.declared.belonging.Start.TheVariants.{Unknown, Bytes, Syn}
use Rattle.capture_connections.specs.declared.connections.Connection.{Connection}
use Rattle.capture_connections.specs.declared.ends.Side.{Side}
use Rattle.capture_connections.specs.declared.ends.Side.TheVariants.{Lower, Upper}
use Rattle.capture_connections.specs.declared.half.Half.{Half}
use Rattle.capture_connections.specs.Belonging.{start_after}
use Rattle.capture_connections.specs.Sides.{is_side}
use Rattle.capture_connections.specs.Following.{TableStep, KeepsConnections, Table, lower_of, numbered_heard, upper_of}

-- whether there are bytes
abbrev pub has_some : List ℕ → Bool
has_some [] = false
has_some (byte ∷ bytes) = true

-- a segment says that it has bytes, if it has some
abbrev pub SaysSome : Heard → Type 0
SaysSome heard = heard.said.some ≡ has_some heard.bytes.now

-- the segments that an end sent, in their order
abbrev pub sent_by : Side → List Heard → List Heard
sent_by side [] = []
sent_by side (heard ∷ segments) = if is_side side heard.said.side
    then heard ∷ sent_by side segments
    else sent_by side segments

-- where a direction begins after these segments
abbrev pub start_after_all : Start → List Heard → Start
start_after_all start [] = start
start_after_all start (heard ∷ segments) = start_after_all (start_after start heard.said) segments

-- the segment before others, if it has these bytes
abbrev pub if_some : List ℕ → Numbered → List Numbered → List Numbered
if_some [] segment segments = segments
if_some (byte ∷ bytes) segment segments = segment ∷ segments

-- what the segments with bytes say, in their order
abbrev pub with_bytes : List Heard → List Numbered
with_bytes [] = []
with_bytes (heard ∷ segments) = if_some heard.bytes.now (numbered_heard heard) (with_bytes segments)

-- The bytes are those that the segments determine, of a stream whose first byte has this number.
abbrev pub AreDetermined : ℕ → List Numbered → List ℕ → Type 0
AreDetermined first segments given = (pieces : List Piece) × ArePlaced first [] segments pieces
    × DeterminesBytes pieces given

-- the same of a stream that begins so; of one that has not begun no byte is known
abbrev pub AreKnownFrom : Start → List Numbered → List ℕ → Type 0
AreKnownFrom Unknown segments given = given ≡ []
AreKnownFrom (Bytes first) segments given = AreDetermined first segments given
AreKnownFrom (Syn first) segments given = AreDetermined first segments given

-- The bytes are those that these segments of a direction determine, each of them.
abbrev pub AreKnown : List Heard → List ℕ → Type 0
AreKnown segments given =
    AreKnownFrom (start_after_all Unknown segments) (with_bytes segments) given

-- A segment came, and these bytes of its direction are known more. After it directions in which
-- bytes wait may be given up.
pub record TableAdvances (old : Table) (heard : Heard) (number : ℕ) (new : Table) (more : List ℕ)
    : Type 0 where
  pub taken : Table
  pub before : List ℕ
  pub hears : TableStep old heard number taken before (before ++ more)
  pub last : new.last ≡ taken.last
  pub keeps : KeepsConnections taken.connections new.connections

-- the bytes that came with a segment of the connection with this number, if they are of this end of
-- the first
abbrev pub if_of : ℕ → Side → ℕ → Heard → List ℕ → List ℕ
if_of wanted side number heard more =
    if (number == wanted) && is_side side heard.said.side then more else []

-- From one table to the other these segments came in turn. Of what was known more by each segment,
-- these bytes are of this end of the connection with this number.
abbrev pub GathersSide : ℕ → Side → Table → List Heard → Table → List ℕ → Type 0
GathersSide wanted side old [] new given = (old ≡ new) × (given ≡ [])
GathersSide wanted side old (heard ∷ segments) new given =
    (number : ℕ) × (next : Table) × (more : List ℕ) × (rest : List ℕ)
    × TableAdvances old heard number next more × GathersSide wanted side next segments new rest
    × (given ≡ if_of wanted side number heard more ++ rest)

-- what an end of a connection is, if there is one
abbrev pub half_at : Side → Option Connection → Half
half_at Lower connection = lower_of connection
half_at Upper connection = upper_of connection

-- the direction of this end of the connection with this number
abbrev pub direction_of : Table → ℕ → Side → Half
direction_of table number side = half_at side (slice_get table.connections number)
