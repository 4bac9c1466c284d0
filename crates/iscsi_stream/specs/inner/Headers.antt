-- More of `Headers`, of which no public contract speaks.
use Rattle.std.specs.Prelude.{ℕ, List, ◌++◌, replicate}
use Rattle.iscsi_stream.specs.Framing.{Framing}

-- The framer with what came of the segment of that PDU, and of its padding, elsewhere.
abbrev pub with_body : Framing → List ℕ → ℕ → Framing
with_body v segment padded = record v { held = v.held ++ (segment ++ replicate padded 0) }
