-- Searched for, since a wrong body breaks these goals: 01-data_out-read.keeps_lun_of_reserved_tag.
use Rattle.std.proofs.Common.{rules}
use Rattle.iscsi_pdu.proofs.head.data_out.DataOut.read.Goals as goal

pub returns : goal.returns
returns c = search rules
