-- More of `Internet`, of which no public contract speaks.
use Rattle.std.specs.Prelude.{Option, Some, None, Result, Ok, Err}
use Rattle.capture_file.specs.declared.network.Carried.{Carried}
use Rattle.capture_file.specs.declared.fault.PacketFault.{PacketFault}
use Rattle.capture_file.specs.Internet.{Inside}

-- what the code holds of it, with bytes in place of a slice
abbrev pub inside_of : Carried → Inside
inside_of c = record {
  source = c.source;
  destination = c.destination;
  size = c.length;
  bytes = c.bytes.now;
}

-- what a call answers
abbrev pub plain_carried : Result (Option Carried) PacketFault → Result (Option Inside) PacketFault
plain_carried (Ok (Some c)) = Ok (Some (inside_of c))
plain_carried (Ok None) = Ok None
plain_carried (Err fault) = Err fault
