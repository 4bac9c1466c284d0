use Rattle.std.proofs.Common.{ℕ, List, get_or, false, sym, ◌∙◌, ap}
use Rattle.iscsi_target_session.proofs.LoginTextLemmas.{repeated, again_found, again_more}
use Rattle.iscsi_target_session.proofs.session.login_text.repeats_key.Goals as goal

pub returns-then-is_repeated : goal.returns-then-is_repeated
returns-then-is_repeated c = sym (again_found c.args.seen.now c.loop-n.n c.args.text.now c.loop-n-test.true c.told-seen
    (ap (λ (k : List ℕ). repeated (get_or c.args.seen.now c.loop-n.n false) k c.args.text.now) (sym c.known_key.ensures.name) ∙ sym c.is_repeated.ensures
    ∙ c.if-is_repeated.true)) ∙ c.loop-n.invariant

pub loop-n-preserved : goal.loop-n-preserved
loop-n-preserved c = again_more c.args.seen.now c.loop-n.n c.args.text.now c.loop-n-test.true c.told-seen
    (ap (λ (k : List ℕ). repeated (get_or c.args.seen.now c.loop-n.n false) k c.args.text.now) (sym c.known_key.ensures.name) ∙ sym c.is_repeated.ensures
    ∙ c.if-is_repeated.false) ∙ c.loop-n.invariant
