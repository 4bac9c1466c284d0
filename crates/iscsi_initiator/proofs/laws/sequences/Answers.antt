use Rattle.iscsi_initiator.proofs.SequenceLaws.{sequence_is}
use Rattle.iscsi_initiator.proofs.laws.sequences.Goals as goal

pub returns : goal.returns
returns c = record { tiles = sequence_is }
