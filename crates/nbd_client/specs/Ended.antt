-- What a medium on a connection shows.
use Rattle.std.specs.Prelude.{Option}
use Rattle.nbd_client.specs.declared.fault.MediumFault.{MediumFault}
use Rattle.nbd_client.specs.declared.medium.NbdMedium.{NbdMedium}

-- its connection
abbrev pub medium_line : {L R : Type 0} → NbdMedium L R → L
medium_line m = m.line

-- why it has ended, if it has
abbrev pub why_ended : {L R : Type 0} → NbdMedium L R → Option MediumFault
why_ended m = m.fault
