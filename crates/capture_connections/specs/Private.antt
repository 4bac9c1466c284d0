-- The segments of one connection, among all of a capture, and what they alone lead to.
use Rattle.std.specs.Prelude.{◌≡◌, ℕ, ◌+◌, max, ◌==◌, length, List, [], ◌∷◌, Option, Some, if◌then◌else◌}
use Rattle.capture_connections.specs.declared.belonging.Last.{Last}
use Rattle.capture_connections.specs.declared.connections.Connection.{Connection}
use Rattle.capture_connections.specs.declared.ends.Ends.{Ends}
use Rattle.capture_connections.specs.declared.heard.Heard.{Heard}
use Rattle.capture_connections.specs.Belonging.{owner_at}
use Rattle.capture_connections.specs.Following.{TableStep, ConnectionStep, Table, last_with}
use Rattle.capture_connections.specs.SameEnds.{same_ends}

-- What tells which connection a segment belongs to: how many there were, and of any two ends the last
-- connection with them.
pub record KnownEnds : Type 0 where
  pub count : ℕ
  pub last : Ends → Option Last

-- what a table knows of it
abbrev pub known_of : Table → KnownEnds
known_of table = record { count = length table.connections; last = last_with table }

-- the connection that a segment belongs to, after it
abbrev pub owner_among : KnownEnds → Heard → Last
owner_among known heard = owner_at known.count (known.last heard.ends) heard.said

-- what is known after a segment
abbrev pub known_after : KnownEnds → Heard → KnownEnds
known_after known heard = record {
  count = max known.count ((owner_among known heard).number + 1);
  last = λ ends. if same_ends heard.ends ends then Some (owner_among known heard) else known.last ends;
}

-- The segments of the connection with this number, in their order. No byte of a segment counts.
abbrev pub own : ℕ → KnownEnds → List Heard → List Heard
own k known [] = []
own k known (heard ∷ segments) = if (owner_among known heard).number == k
    then heard ∷ own k (known_after known heard) segments
    else own k (known_after known heard) segments

-- From one table to the other these segments came in turn.
abbrev pub TableRuns : Table → List Heard → Table → Type 0
TableRuns old [] new = old ≡ new
TableRuns old (heard ∷ segments) new = (number : ℕ) × (next : Table) × (before : List ℕ) × (after : List ℕ)
    × TableStep old heard number next before after × TableRuns next segments new

-- From one state of a connection to the other it took these segments in turn, and nothing else.
abbrev pub ConnectionRuns : Option Connection → List Heard → Option Connection → Type 0
ConnectionRuns old [] new = old ≡ new
ConnectionRuns old (heard ∷ segments) new =
    (next : Connection) × (before : List ℕ) × (after : List ℕ)
    × ConnectionStep old heard next before after × ConnectionRuns (Some next) segments new
