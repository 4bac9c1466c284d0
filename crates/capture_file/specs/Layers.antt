-- How the layers of a packet follow each other.
use Rattle.std.specs.Prelude.{Option, Some, None, Result, Ok, Err}
use Rattle.capture_file.specs.declared.fault.PacketFault.{PacketFault}

-- What a layer has goes on to the next one. If it has nothing, or a fault, that is the answer.
abbrev pub onward : {A B : Type 0} → (A → Result (Option B) PacketFault)
    → Result (Option A) PacketFault → Result (Option B) PacketFault
onward next (Ok (Some inside)) = next inside
onward next (Ok None) = Ok None
onward next (Err fault) = Err fault
