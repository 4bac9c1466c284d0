use Rattle.std.proofs.Common.{◌≡◌, drop}
use Rattle.iscsi_text.specs.Key.{known_keys}
use Rattle.iscsi_target_session.specs.LoginText.{repeats_key}
use Rattle.iscsi_target_session.proofs.session.login_text.repeats_key.Given as goal

abbrev pub invariant-loop-n : goal.invariant-loop-n
invariant-loop-n l = repeats_key (drop l.n known_keys) (drop l.n l.seen) l.text ≡ repeats_key known_keys l.seen l.text
