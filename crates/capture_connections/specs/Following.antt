-- What a direction and a connection do with their segments.
use Rattle.std.specs.Prelude.{◌≡◌, ◌≢◌, ◌⊎◌, ◌<◌, ℕ, ◌+◌, max, min, MatchOption, length, slice_get, List, [], ◌∷◌, Option, Some, None, nat_lt, if◌then◌else◌}
use Rattle.std.specs.Map.{lookup}
use Rattle.tcp_streams.specs.Placing.{Numbered}
use Rattle.tcp_streams.specs.Reassembly.{Taking, held, opening_direction, TakesSegment}
use Rattle.capture_connections.specs.declared.heard.Heard.{Heard}
use Rattle.capture_connections.specs.declared.belonging.Start.{Start}
use Rattle.capture_connections.specs.declared.belonging.Start.TheVariants.{Unknown, Bytes, Syn}
use Rattle.capture_connections.specs.declared.belonging.Last.{Last}
use Rattle.capture_connections.specs.declared.connections.Connection.{Connection}
use Rattle.capture_connections.specs.declared.ends.Ends.{Ends}
use Rattle.capture_connections.specs.declared.ends.Side.{Side}
use Rattle.capture_connections.specs.declared.ends.Side.TheVariants.{Lower, Upper}
use Rattle.capture_connections.specs.declared.half.Half.{Half}
use Rattle.capture_connections.specs.declared.half.Stop.{Stop}
use Rattle.capture_connections.specs.declared.half.Stop.TheVariants.{Gap}
use Rattle.capture_connections.specs.Belonging.{owner_at, start_after}
use Rattle.capture_connections.specs.SameEnds.{same_ends}

-- how much may wait in one direction
abbrev pub most_waiting_in_direction : ℕ
most_waiting_in_direction = 1048576

-- a direction of which nothing was heard
abbrev pub unheard : Half
unheard = record {
  start = Unknown;
  direction = None;
  stop = None;
  known = 0;
  first_byte = None;
  waiting = 0;
  waits_from = 0;
  cut_in = 0;
}

-- how much waits in a direction of which so much was taken, up to what may
abbrev pub waiting_of : Taking → ℕ
waiting_of taking = min (held taking.waiting) most_waiting_in_direction

-- What is counted as waiting in a direction is what it holds.
abbrev pub CountsHeld : Half → Type 0
CountsHeld half = MatchOption half.direction (half.waiting ≡ 0) (λ taking. half.waiting ≡ waiting_of taking)

-- What was taken of a direction that begins so: it opens with its first bytes.
abbrev pub direction_opened : Option Taking → Start → Option Taking
direction_opened (Some taking) start = Some taking
direction_opened None Unknown = None
direction_opened None (Bytes first) = Some (opening_direction first most_waiting_in_direction)
direction_opened None (Syn first) = Some (opening_direction first most_waiting_in_direction)

-- what a segment says, as a numbered list of bytes
abbrev pub numbered_heard : Heard → Numbered
numbered_heard heard = record { sequence = heard.said.first; bytes = heard.bytes.now }

-- Of a direction of which so much was taken, these bytes are known more after the segment.
abbrev pub DirectionStep : Option Taking → Numbered → Option Taking → List ℕ → List ℕ → Type 0
DirectionStep None segment new before after = (new ≡ None) × (after ≡ before)
DirectionStep (Some taking) segment new before after =
    (taken : Taking) × (new ≡ Some taken) × TakesSegment taking segment taken before after

-- the same of a segment that may have no bytes
abbrev pub FeedsSome : Half → Heard → List ℕ → Half → List ℕ → List ℕ → Type 0
FeedsSome old heard [] new before after =
    (new.direction ≡ old.direction) × (after ≡ before)
FeedsSome old heard (byte ∷ bytes) new before after =
    DirectionStep (direction_opened old.direction new.start) (numbered_heard heard) new.direction
    before after

-- A direction took a segment: the beginning of the direction is that of its own segments. As long
-- as the direction is followed, the bytes that are known more are those that its own segments
-- determine. What is counted as waiting stays what the direction holds.
pub record HalfTakes (old : Half) (heard : Heard) (new : Half) (before after : List ℕ) : Type 0 where
  pub start : new.start ≡ start_after old.start heard.said
  pub fed : new.stop ≡ None → (old.stop ≡ None)
      × FeedsSome old heard heard.bytes.now new before after
  pub stopped : old.stop ≢ None → (new.stop ≡ old.stop) × (after ≡ before)
  pub counted : CountsHeld old → CountsHeld new

-- what the lower end's direction is before a segment of the connection
abbrev pub lower_of : Option Connection → Half
lower_of None = unheard
lower_of (Some connection) = connection.lower

-- what the upper end's direction is before it
abbrev pub upper_of : Option Connection → Half
upper_of None = unheard
upper_of (Some connection) = connection.upper

-- the same of the sender's direction, and of the other one
abbrev pub DirectionsStep : Side → Half → Half → Heard → Connection → List ℕ → List ℕ → Type 0
DirectionsStep Lower lower upper heard new before after =
    HalfTakes lower heard new.lower before after × (new.upper ≡ upper)
DirectionsStep Upper lower upper heard new before after =
    HalfTakes upper heard new.upper before after × (new.lower ≡ lower)

-- A connection took one of its segments, which may be its first: the sender's direction took it, and
-- the other one is as it was.
abbrev pub ConnectionStep : Option Connection → Heard → Connection → List ℕ → List ℕ → Type 0
ConnectionStep old heard new before after =
    DirectionsStep heard.said.side (lower_of old) (upper_of old) heard new before after

-- The connections of a capture so far: of any two ends the last one with them, and all of them in the
-- order of their first segments.
pub record Table : Type 0 where
  pub last : List (Ends × Last)
  pub connections : List Connection

-- no connection
abbrev pub no_connections : Table
no_connections = record { last = []; connections = [] }

-- the last connection with these ends
abbrev pub last_with : Table → Ends → Option Last
last_with table ends = lookup (same_ends ends) table.last

-- the connection that a segment belongs to, after it
abbrev pub owner : Table → Heard → Last
owner table heard =
    owner_at (length table.connections) (last_with table heard.ends) heard.said

-- A segment came: the connection that it belongs to took it, and all others are as they were.
pub record TableStep (old : Table) (heard : Heard) (number : ℕ) (new : Table)
    (before after : List ℕ)
    : Type 0 where
  pub belongs : number ≡ (owner old heard).number
  pub last : (ends : Ends) → last_with new ends
      ≡ (if same_ends heard.ends ends then Some (owner old heard) else last_with old ends)
  pub count : length new.connections ≡ max (length old.connections) (number + 1)
  pub own : (connection : Connection) × (slice_get new.connections number ≡ Some connection)
      × ConnectionStep (slice_get old.connections number) heard connection before after
  pub others : (k : ℕ) → k ≢ number → slice_get new.connections k ≡ slice_get old.connections k

-- a direction that is given up for the byte that is missing: nothing is kept but that
abbrev pub direction_given_up : Half → Half
direction_given_up half = record half {
  direction = None;
  stop = Some (Gap half.known half.waits_from);
  waiting = 0;
}

-- why a direction is not followed to its end if the capture ends here
abbrev pub stop_at_end : Option Stop → Half → Option Stop
stop_at_end (Some stop) half = Some stop
stop_at_end None half =
    if nat_lt 0 half.waiting then Some (Gap half.known half.waits_from) else None

-- A direction is as it was, or bytes waited in it and it is given up.
abbrev pub MayEnd : Half → Half → Type 0
MayEnd old new = (new ≡ old) ⊎ ((0 < old.waiting) × (new ≡ direction_given_up old))

-- A connection is as it was, but that directions in which bytes waited may be given up.
pub record KeepsConnection (old new : Connection) : Type 0 where
  pub ends : new.ends ≡ old.ends
  pub first : new.first ≡ old.first
  pub opener : new.opener ≡ old.opener
  pub lower : MayEnd old.lower new.lower
  pub upper : MayEnd old.upper new.upper

-- the same of the connection at a place, if there is one
abbrev pub KeepsConnectionAt : Option Connection → Option Connection → Type 0
KeepsConnectionAt None None = Unit {0}
KeepsConnectionAt None (Some new) = ⊥
KeepsConnectionAt (Some old) None = ⊥
KeepsConnectionAt (Some old) (Some new) = KeepsConnection old new

-- Connections are as they were, but that directions in which bytes waited may be given up.
abbrev pub KeepsConnections : List Connection → List Connection → Type 0
KeepsConnections old new = (k : ℕ) → KeepsConnectionAt (slice_get old k) (slice_get new k)
