-- More of `World`, of which no public contract speaks.
use Rattle.std.specs.Prelude.{List}
use Rattle.iscsi_pair.specs.World.{World, Opening, PairEvent, Reached, IsOpening}

-- ---- what every pair keeps

-- A pair of these is one that came here by some events from a new pair that may be.
pub record HasCome (w : World) : Type 0 where
  pub opening : Opening
  pub events : List PairEvent
  pub is_opening : IsOpening opening
  pub reached : Reached opening events w
