use Rattle.iscsi_target_session.proofs.TextReplyInvariant.{more_shown, none_shown}
use Rattle.iscsi_target_session.proofs.session.text_request.replies.Goals.{in-Some+in_ok-push, in_default}
use Rattle.iscsi_target_session.proofs.session.text_request.replies.Goals as goal

pub loop-n-preserved : goal.loop-n-preserved
loop-n-preserved c = elim c.match-reply_at.branch [
  | in-Some+in_ok-push w ↦ rw w.pairs-is (more_shown c.args.asked c.args.text.now c.loop-n.n c.loop-n.pairs.items w.push.new.self.items w.in-Some.pair
      w.in_ok-push.ensures.items w.in-Some.ensures c.loop-n.invariant)
  | in_default w ↦ rw w.pairs-is (none_shown c.args.asked c.args.text.now c.loop-n.n c.loop-n.pairs.items w.in_default.ensures c.loop-n.invariant)
]
