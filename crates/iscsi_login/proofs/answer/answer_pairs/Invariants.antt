use Rattle.std.proofs.Common.{◌++◌, take}
use Rattle.std.specs.List.{flat_map}
use Rattle.iscsi_text.specs.Text.{ArrangesPairs}
use Rattle.iscsi_text.specs.Shown.{all_shown}
use Rattle.iscsi_login.specs.Answer.{answers_to, declarations}
use Rattle.iscsi_login.proofs.answer.answer_pairs.Given as goal

abbrev pub invariant-loop-offered : goal.invariant-loop-offered
invariant-loop-offered l = ArrangesPairs (declarations l.fn.tag l.fn.max_recv ++ flat_map (answers_to l.session l.preferences)
    (take l.offered-index l.text)) (all_shown l.pairs.items)
