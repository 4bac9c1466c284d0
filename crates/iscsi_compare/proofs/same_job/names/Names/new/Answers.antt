use Rattle.iscsi_compare.proofs.RenamingLemmas.{sound_new}
use Rattle.iscsi_compare.proofs.same_job.names.Names.new.Goals as goal

pub returns-clause-sound : goal.returns-clause-sound
returns-clause-sound g c = sound_new g.K.Ord.cmp c.new.result c.new-2.result c.new.ensures.empty c.new-2.ensures.empty
