-- Which connection of a capture a segment belongs to.
use Rattle.std.specs.Prelude.{ℕ, Bool, true, false, not, ◌&&◌, ◌==◌, if◌then◌else◌, Option, Some, None}
use Rattle.capture_connections.specs.declared.ends.Side.{Side}
use Rattle.capture_connections.specs.declared.ends.Side.TheVariants.{Lower, Upper}
use Rattle.capture_connections.specs.declared.belonging.Start.{Start}
use Rattle.capture_connections.specs.declared.belonging.Start.TheVariants.{Unknown, Bytes, Syn}
use Rattle.capture_connections.specs.declared.heard.Said.{Said}
use Rattle.capture_connections.specs.declared.belonging.Last.{Last}

-- whether a direction is known without a SYN
abbrev pub is_bytes : Start → Bool
is_bytes Unknown = false
is_bytes (Bytes first) = true
is_bytes (Syn first) = false

-- Whether a SYN is not that of its direction, which begins at the first, while the other one begins
-- at the second.
abbrev pub is_other_syn : Start → Start → Said → Bool
is_other_syn Unknown other said = not said.ack && is_bytes other
is_other_syn (Bytes first) other said = not (first == said.first)
is_other_syn (Syn first) other said = not (first == said.first)

-- whether the segment begins a connection anew
abbrev pub begins_anew : Start → Start → Said → Bool
begins_anew own other said = said.syn && is_other_syn own other said

-- where a direction begins that was not known before this segment
abbrev pub start_of : Said → Start
start_of said = if said.syn then Syn said.first else (if said.some then Bytes said.first else Unknown)

-- where a direction begins after this segment
abbrev pub start_after : Start → Said → Start
start_after Unknown said = start_of said
start_after (Bytes first) said = Bytes first
start_after (Syn first) said = Syn first

-- whether the segment begins anew where this connection was the last one
abbrev pub leaves_at : Side → Last → Said → Bool
leaves_at Lower last said = begins_anew last.lower last.upper said
leaves_at Upper last said = begins_anew last.upper last.lower said

abbrev pub leaves : Last → Said → Bool
leaves last said = leaves_at said.side last said

-- the connection with this number, of which this segment is the first
abbrev pub first_at : Side → ℕ → Said → Last
first_at Lower number said = record { number = number; lower = start_of said; upper = Unknown }
first_at Upper number said = record { number = number; lower = Unknown; upper = start_of said }

abbrev pub last_from_first : ℕ → Said → Last
last_from_first number said = first_at said.side number said

-- the connection after one more of its segments
abbrev pub joined_at : Side → Last → Said → Last
joined_at Lower last said =
    record { number = last.number; lower = start_after last.lower said; upper = last.upper }
joined_at Upper last said =
    record { number = last.number; lower = last.lower; upper = start_after last.upper said }

abbrev pub last_with_segment : Last → Said → Last
last_with_segment last said = joined_at said.side last said

-- The connection that a segment belongs to, after it, where so many were before, and this was the last
-- one with its ends.
abbrev pub owner_at : ℕ → Option Last → Said → Last
owner_at count None said = last_from_first count said
owner_at count (Some last) said =
    if leaves last said then last_from_first count said else last_with_segment last said
