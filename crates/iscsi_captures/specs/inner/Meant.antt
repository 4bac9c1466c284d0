-- More of `Meant`, of which no public contract speaks.
use Rattle.std.specs.Prelude.{◌≡◌, ℕ, ◌==◌, ◌&&◌, Bool, List, slice_get, IfSome}
use Rattle.capture_connections.specs.declared.connections.Connection.{Connection}
use Rattle.capture_connections.specs.declared.ends.Side.{Side}
use Rattle.capture_connections.specs.declared.heard.Heard.{Heard}
use Rattle.capture_connections.specs.Sides.{is_side}
use Rattle.iscsi_captures.specs.declared.captured.Wanted.{Wanted}
use Rattle.iscsi_captures.specs.Meant.{IsMeant}

-- whether a segment of the connection with this number is of the direction that is wanted
pub record IsFor (list : List Connection) (number : ℕ) (heard : Heard) (wanted : Wanted) (is : Bool)
    : Type 0 where
  pub side : Side
  pub meant : number ≡ wanted.connection
      → IfSome (slice_get list number) (λ c. IsMeant c wanted.end side)
  pub is_it : is ≡ ((number == wanted.connection) && is_side side heard.said.side)
