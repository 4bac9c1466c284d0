use Rattle.std.proofs.Common.{sym, ◌∙◌}
use Rattle.iscsi_compare.proofs.RenamingLemmas.{joins_new, joins_taken, none_of}
use Rattle.iscsi_compare.proofs.same_job.names.Names.join.Goals as goal

pub returns-then-contains_key : goal.returns-then-contains_key
returns-then-contains_key g c =
    joins_taken g.K.Ord.cmp c.args.self.now.there c.args.self.now.back c.args.mine c.args.other c.requires.sound (sym c.in_default.ensures.value)
    (sym c.contains_key.ensures ∙ c.if-contains_key.true)

pub returns : goal.returns
returns g c =
    joins_new g.K.Ord.cmp g.met.K.Ord.total c.requires.exact c.args.self.now.there c.args.self.now.back c.insert.new.self c.insert-2.new.self c.args.mine
    c.args.other c.requires.sound
    (sym c.in_default.ensures.value) (none_of _ (sym c.contains_key.ensures ∙ c.if-contains_key.false)) c.in_ok-insert.ensures.updates
    c.in_ok-insert-2.ensures.updates
