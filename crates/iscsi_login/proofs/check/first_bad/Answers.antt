use Rattle.std.proofs.Common.{◌≡◌, find, ap, ◌∙◌, rules}
use borrow.Author.Tests.{tests}
use Rattle.std.specs.Option.{option_map}
use Rattle.std.proofs.lemmas.Iterator.{YieldsList-from_slice}
use Rattle.std.proofs.lemmas.Iterator.Search.{find_from_yields_List}
use Rattle.iscsi_text.specs.declared.pair.Pair.{Pair}
use Rattle.iscsi_text.specs.Shown.{shown, all_shown}
use Rattle.iscsi_login.specs.Check.{is_bad}
use Rattle.iscsi_login.proofs.KeyValueLemmas.{find_shown}
use Rattle.iscsi_login.proofs.check.first_bad.Goals as goal

pub returns : goal.returns
returns c =
    let found : option_map (λ x. x.now) c.find.result ≡ find (λ p. is_bad (all_shown c.args.offered.now) (shown p)) c.args.answer.now =
    find_from_yields_List (λ p. is_bad (all_shown c.args.offered.now) (shown p)) _ _ c.find.result c.find.ensures.ran
    (YieldsList-from_slice c.args.answer.now cc) (λ x b q k. search (rules, tests)) in
    ap (option_map (λ (p : Pair). p.key.now)) (rw c.in_ok-pair.was at found) ∙ find_shown (is_bad (all_shown c.args.offered.now)) c.args.answer.now

pub returns-in_err-pair : goal.returns-in_err-pair
returns-in_err-pair c =
    let found : option_map (λ x. x.now) c.find.result ≡ find (λ p. is_bad (all_shown c.args.offered.now) (shown p)) c.args.answer.now =
    find_from_yields_List (λ p. is_bad (all_shown c.args.offered.now) (shown p)) _ _ c.find.result c.find.ensures.ran
    (YieldsList-from_slice c.args.answer.now cc) (λ x b q k. search (rules, tests)) in
    rw c.from_residual.ensures (ap (option_map (λ (p : Pair). p.key.now)) (rw c.in_err-pair.was at found)
    ∙ find_shown (is_bad (all_shown c.args.offered.now)) c.args.answer.now)
