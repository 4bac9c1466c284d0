-- Searched for, since a wrong body breaks these goals: 01-serial-before.plain_order_of_serials.
use Rattle.std.proofs.Common.{rules}
use Rattle.iscsi_pdu.proofs.serial.Serial.before.Goals as goal

pub returns-then-distance-gt0 : goal.returns-then-distance-gt0
returns-then-distance-gt0 c = search rules
