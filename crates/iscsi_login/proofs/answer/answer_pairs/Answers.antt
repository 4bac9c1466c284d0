use Rattle.std.proofs.Common.{◌≡◌, ◌++◌, length, take, sym, subst, ap, ◌∙◌, arith}
use Rattle.std.specs.List.{flat_map}
use Rattle.std.proofs.lemmas.List.{take_all, length-map}
use Rattle.iscsi_text.specs.Text.{ArrangesPairs}
use Rattle.iscsi_text.specs.Shown.{shown, all_shown}
use Rattle.iscsi_login.specs.Answer.{answers_to, declarations}
use Rattle.iscsi_login.proofs.AnswerLoopLemmas.{stands_in, no_answer_before, answered_more}
use Rattle.iscsi_text.proofs.OrderLemmas.{arranged_is}
use Rattle.iscsi_login.proofs.answer.answer_pairs.Goals as goal

pub add_answer-requires-clause-new : goal.add_answer-requires-clause-new
add_answer-requires-clause-new c =
    let text = c.pairs-offered-items in
    no_answer_before c.args.session c.args.preferences.now c.args.tag c.args.max_recv c.args.text.now c.loop-offered.offered-index _
    (all_shown c.loop-offered.pairs.items) text.ensures.meaning
    (stands_in text.result.now c.args.text.now c.loop-offered.offered-index _ text.ensures.pairs c.loop-offered-test.true) c.loop-offered.invariant

pub loop-offered-preserved : goal.loop-offered-preserved
loop-offered-preserved c =
    let text = c.pairs-offered-items in
    answered_more c.args.session c.args.preferences.now (declarations c.args.tag c.args.max_recv) c.args.text.now c.loop-offered.offered-index _
    (all_shown c.loop-offered.pairs.items) (all_shown c.add_answer.new.pairs.items)
    (stands_in text.result.now c.args.text.now c.loop-offered.offered-index _ text.ensures.pairs c.loop-offered-test.true) c.loop-offered.invariant
    c.in_ok-add_answer.ensures

pub returns : goal.returns
returns c =
    let text = c.pairs-offered-items in
    let size : length text.result.now ≡ length c.args.text.now = sym (length-map text.result.now shown) ∙ ap length text.ensures.pairs in
    let all : take c.loop-offered.offered-index c.args.text.now ≡ c.args.text.now =
    take_all c.loop-offered.offered-index c.args.text.now (omega (arith, size, c.loop-offered-test.false)) in
    record {
      answer = arranged_is (declarations c.args.tag c.args.max_recv ++ flat_map (answers_to c.args.session c.args.preferences.now) c.args.text.now)
          (all_shown c.loop-offered.pairs.items)
          (subst (λ given. ArrangesPairs (declarations c.args.tag c.args.max_recv ++ flat_map (answers_to c.args.session c.args.preferences.now) given)
          (all_shown c.loop-offered.pairs.items)) all c.loop-offered.invariant);
    }
