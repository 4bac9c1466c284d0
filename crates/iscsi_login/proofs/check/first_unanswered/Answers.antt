use Rattle.std.proofs.Common.{◌≡◌, ℕ, List, true, find, Some, sym, ap, subst, ◌∙◌, rules}
use borrow.Author.Tests.{tests}
use Rattle.std.specs.Option.{option_map, IfSome}
use Rattle.std.proofs.lemmas.Iterator.{YieldsList-from_slice}
use Rattle.std.proofs.lemmas.Iterator.Search.{find_from_yields_List}
use Rattle.iscsi_text.specs.declared.pair.Pair.{Pair}
use Rattle.iscsi_text.specs.Shown.{shown}
use Rattle.iscsi_text.specs.Negotiated.{key_named}
use Rattle.iscsi_login.specs.Check.{is_unanswered}
use Rattle.iscsi_login.proofs.KeyValueLemmas.{find_shown, found_passes}
use Rattle.iscsi_login.proofs.JudgementLemmas.{name_back, unanswered_named}
use Rattle.iscsi_login.proofs.check.first_unanswered.Goals as goal

pub returns : goal.returns
returns c =
    let found : option_map (λ x. x.now) c.find.result ≡ find (λ p. is_unanswered c.args.answer.now (shown p)) c.args.offered.now =
    find_from_yields_List (λ p. is_unanswered c.args.answer.now (shown p)) _ _ c.find.result c.find.ensures.ran (YieldsList-from_slice c.args.offered.now cc)
    (λ x b q k. search (rules, tests)) in
    let there : Some c.in_ok-pair.pair.now ≡ find (λ p. is_unanswered c.args.answer.now (shown p)) c.args.offered.now = rw c.in_ok-pair.was at found in
    let named : key_named c.in_ok-pair.pair.now.key.now ≡ Some c.in_ok-key.key = sym c.named.ensures.key ∙ c.in_ok-key.was in
    ap (λ (k : List ℕ). Some k) (c.name.ensures.name ∙ name_back c.in_ok-pair.pair.now.key.now c.in_ok-key.key named)
    ∙ ap (option_map (λ (p : Pair). p.key.now)) there ∙ find_shown (is_unanswered c.args.answer.now) c.args.offered.now

pub returns-in_err-key : goal.returns-in_err-key
returns-in_err-key c =
    let found : option_map (λ x. x.now) c.find.result ≡ find (λ p. is_unanswered c.args.answer.now (shown p)) c.args.offered.now =
    find_from_yields_List (λ p. is_unanswered c.args.answer.now (shown p)) _ _ c.find.result c.find.ensures.ran (YieldsList-from_slice c.args.offered.now cc)
    (λ x b q k. search (rules, tests)) in
    let there : Some c.in_ok-pair.pair.now ≡ find (λ p. is_unanswered c.args.answer.now (shown p)) c.args.offered.now = rw c.in_ok-pair.was at found in
    let passes : IfSome (Some c.in_ok-pair.pair.now) (λ p. is_unanswered c.args.answer.now (shown p) ≡ true) =
    subst (λ o. IfSome o (λ p. is_unanswered c.args.answer.now (shown p) ≡ true)) (sym there)
    (found_passes (λ p. is_unanswered c.args.answer.now (shown p)) c.args.offered.now) in
    absurd (unanswered_named c.args.answer.now (shown c.in_ok-pair.pair.now) passes (sym c.named.ensures.key ∙ c.in_err-key.was))

pub returns-in_err-pair : goal.returns-in_err-pair
returns-in_err-pair c =
    let found : option_map (λ x. x.now) c.find.result ≡ find (λ p. is_unanswered c.args.answer.now (shown p)) c.args.offered.now =
    find_from_yields_List (λ p. is_unanswered c.args.answer.now (shown p)) _ _ c.find.result c.find.ensures.ran (YieldsList-from_slice c.args.offered.now cc)
    (λ x b q k. search (rules, tests)) in
    rw c.from_residual.ensures (ap (option_map (λ (p : Pair). p.key.now)) (rw c.in_err-pair.was at found)
    ∙ find_shown (is_unanswered c.args.answer.now) c.args.offered.now)
