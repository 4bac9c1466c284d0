use Rattle.iscsi_initiator.proofs.ReadLaws.{reads_tile}
use Rattle.iscsi_initiator.proofs.laws.reads_tile.Goals as goal

pub returns : goal.returns
returns c = record { tiles = reads_tile }
