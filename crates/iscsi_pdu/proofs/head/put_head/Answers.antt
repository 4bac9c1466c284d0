use Rattle.std.proofs.Common.{arith}
use Rattle.iscsi_pdu.proofs.head.put_head.Goals as goal

pub put_number-requires-clause-value : goal.put_number-requires-clause-value
put_number-requires-clause-value c = omega (arith, c.opcode.ensures.small)
