use Rattle.std.proofs.Common.{ℕ, sym, ap, ◌∙◌}
use Rattle.std.specs.Prelude.{Option}
use Rattle.iscsi_target.specs.Machine.{is_tag_of}
use Rattle.iscsi_target.proofs.Queue.TaskPlaceLemmas.{none_tagged}
use Rattle.iscsi_target.proofs.machine.Machine.has_tag.Goals as goal

pub returns-in-None : goal.returns-in-None
returns-in-None c = sym (ap (λ (t : Option ℕ). is_tag_of c.args.self.now.tasks t) c.in-None.is ∙ none_tagged c.args.self.now.tasks)
