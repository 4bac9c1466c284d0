use Rattle.std.proofs.Common.{◌≡◌, ◌++◌, drop}
use Rattle.iscsi_text.specs.Shown.{all_shown}
use Rattle.iscsi_target_session.specs.TextRequests.{replies}
use Rattle.iscsi_target_session.proofs.session.text_request.replies.Given as goal

abbrev pub invariant-loop-n : goal.invariant-loop-n
invariant-loop-n l = all_shown l.pairs.items ++ replies l.fn.asked (drop l.n l.text) ≡ replies l.fn.asked l.text
