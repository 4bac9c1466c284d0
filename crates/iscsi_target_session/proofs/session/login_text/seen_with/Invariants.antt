use Rattle.std.proofs.Common.{◌≡◌, ◌++◌, take, drop, length}
use Rattle.iscsi_text.specs.Key.{known_keys}
use Rattle.iscsi_target_session.specs.LoginText.{seen_with}
use Rattle.iscsi_target_session.proofs.session.login_text.seen_with.Given as goal

abbrev pub invariant-loop-n : goal.invariant-loop-n
invariant-loop-n l = (length l.now ≡ length known_keys) × (take l.n l.now ++ seen_with (drop l.n known_keys) (drop l.n l.seen) l.text ≡ seen_with known_keys
    l.seen l.text)
