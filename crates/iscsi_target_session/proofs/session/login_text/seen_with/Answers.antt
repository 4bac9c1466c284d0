use Rattle.std.proofs.Common.{ℕ, List, get_or, false, ◌∙◌, ap, arith}
use Rattle.std.specs.Prelude.{◌||◌}
use Rattle.std.proofs.lemmas.List.{length-set}
use Rattle.iscsi_text.specs.Reading.{has_key}
use Rattle.iscsi_target_session.proofs.LoginTextLemmas.{seen_more, seen_all}
use Rattle.iscsi_target_session.proofs.session.login_text.seen_with.Goals as goal

pub loop-n-preserved : goal.loop-n-preserved
loop-n-preserved c = (
  length-set c.loop-n.now c.loop-n.n c.is_seen.result ∙ c.loop-n.invariant.0,
  seen_more c.args.seen.now c.loop-n.now c.loop-n.now c.loop-n.n c.args.text.now c.is_seen.result c.loop-n-test.true c.told-seen c.loop-n.invariant.0
      (c.is_seen.ensures ∙ ap (λ (k : List ℕ). get_or c.args.seen.now c.loop-n.n false || has_key k c.args.text.now) c.known_key.ensures.name)
      c.loop-n.invariant.1,
)

pub returns : goal.returns
returns c = seen_all c.args.seen.now c.loop-n.now c.loop-n.n c.args.text.now (omega (arith, c.loop-n-test.false)) c.loop-n.invariant.0 c.loop-n.invariant.1
