use Rattle.iscsi_compare.proofs.RenamingLemmas.{joined_itself}
use Rattle.iscsi_compare.proofs.same_job.names.Names.fixed.Goals as goal

pub returns-clause-said : goal.returns-clause-said
returns-clause-said g c = joined_itself g.K.Ord.cmp c.new-names.result.there c.join.new.self.there c.join.new.self.back c.args.name c.in_ok-join.field-0
    c.new-names.ensures.fresh c.in_ok-join.ensures
