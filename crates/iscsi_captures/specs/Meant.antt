-- The direction of a capture that is wanted.
use Rattle.std.specs.Prelude.{◌≡◌, ℕ, List, slice_get, IfSome}
use Rattle.capture_connections.specs.declared.connections.Connection.{Connection}
use Rattle.capture_connections.specs.declared.ends.Side.{Side}
use Rattle.capture_connections.specs.declared.heard.Heard.{Heard}
use Rattle.capture_connections.specs.Directions.{TableAdvances, if_of}
use Rattle.capture_connections.specs.Following.{Table}
use Rattle.capture_connections.specs.Sides.{other_side}
use Rattle.iscsi_captures.specs.declared.captured.End.{End}
use Rattle.iscsi_captures.specs.declared.captured.End.TheVariants.{Initiator, Target}
use Rattle.iscsi_captures.specs.declared.captured.Wanted.{Wanted}

-- who is meant, where this end began the connection
abbrev pub side_meant : Side → End → Side
side_meant side Initiator = side
side_meant side Target = other_side side

-- This end of a connection is the one that is meant, if it is known who began it.
abbrev pub IsMeant : Connection → End → Side → Type 0
IsMeant connection end side = IfSome connection.opener (λ opener. side ≡ side_meant opener end)

-- A segment came, and these bytes are known more of the direction that is wanted; none, if it is of
-- another one.
pub record HearsWanted (old : Table) (heard : Heard) (wanted : Wanted) (new : Table)
    (given : List ℕ) : Type 0 where
  pub number : ℕ
  pub side : Side
  pub more : List ℕ
  pub advances : TableAdvances old heard number new more
  pub meant : number ≡ wanted.connection
      → IfSome (slice_get new.connections number) (λ c. IsMeant c wanted.end side)
  pub given_is : given ≡ if_of wanted.connection side number heard more
