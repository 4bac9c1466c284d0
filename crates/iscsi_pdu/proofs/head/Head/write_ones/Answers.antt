-- Searched for, since a wrong body breaks these goals: 01-head-write_ones.keeps_reserved_opcode_bit.
use Rattle.std.proofs.Common.{rules}
use Rattle.iscsi_pdu.proofs.head.Head.write_ones.Goals as goal

pub returns-in-LoginRequest : goal.returns-in-LoginRequest
returns-in-LoginRequest c = search rules
