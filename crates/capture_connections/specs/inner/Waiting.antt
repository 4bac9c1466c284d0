-- More of `Waiting`, of which no public contract speaks.
use Rattle.std.specs.Prelude.{◌≡◌, ℕ, max, List, Option, Some, None}
use Rattle.capture_connections.specs.declared.connections.Connection.{Connection}
use Rattle.capture_connections.specs.Waiting.{waiting_in, waiting_in_all}

-- how much waits in a connection, if there is one
abbrev pub connection_waiting : Option Connection → ℕ
connection_waiting None = 0
connection_waiting (Some connection) = waiting_in connection

-- how much waits in that one of its directions in which more does
abbrev pub larger_at : Option Connection → ℕ
larger_at None = 0
larger_at (Some connection) = max connection.lower.waiting connection.upper.waiting

-- So much waits, if it is counted.
abbrev pub IsCounted : Option ℕ → List Connection → Type 0
IsCounted None connections = Unit {0}
IsCounted (Some n) connections = n ≡ waiting_in_all connections
