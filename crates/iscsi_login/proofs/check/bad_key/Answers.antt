use Rattle.std.proofs.Common.{◌≡◌, ◌≤◌, length, find, Some, None, sym, ap, subst, ◌∙◌}
use Rattle.std.specs.Option.{option_map, IfSome}
use Rattle.iscsi_text.specs.Shown.{all_shown}
use Rattle.iscsi_login.specs.Check.{bad_key, is_bad, is_unanswered, key_or}
use Rattle.iscsi_login.proofs.KeyValueLemmas.{first_of_two, second_of_two, some_shown}
use Rattle.iscsi_login.proofs.JudgementLemmas.{key_is_short, taken_declares}
use Rattle.iscsi_login.proofs.check.bad_key.Goals as goal

pub returns-in-Some-clause-short : goal.returns-in-Some-clause-short
returns-in-Some-clause-short c =
    let offered = all_shown c.args.offered.now in
    let answer = c.args.answer.now in
    let first : Some c.in-Some.key.now ≡ key_or (find (is_bad offered) answer) None = c.in-Some.ensures
    ∙ ap (λ ps. key_or (find (is_bad offered) ps) None) c.pairs.ensures.pairs in
    let found : Some c.in-Some.key.now ≡ bad_key offered answer = first_of_two (find (is_bad offered) answer) c.in-Some.key.now
    (key_or (find (is_unanswered answer) offered) None) first in
    subst (λ o. IfSome o (λ key. length key ≤ 63)) (sym found) (key_is_short offered answer c.pairs.ensures.meaning)

pub returns-in-None-clause-short : goal.returns-in-None-clause-short
returns-in-None-clause-short c =
    let offered = all_shown c.args.offered.now in
    let answer = c.args.answer.now in
    let found : option_map (λ key. key.now) c.first_unanswered.result ≡ bad_key offered answer =
    second_of_two (find (is_bad offered) answer) (option_map (λ key. key.now) c.first_unanswered.result) (key_or (find (is_unanswered answer) offered) None)
    (c.in-None.ensures ∙ ap (λ ps. key_or (find (is_bad offered) ps) None) c.pairs.ensures.pairs) c.first_unanswered.ensures in
    some_shown (λ key. length key ≤ 63) c.first_unanswered.result (bad_key offered answer) found (key_is_short offered answer c.pairs.ensures.meaning)

pub returns-in-None-clause-declares : goal.returns-in-None-clause-declares
returns-in-None-clause-declares c none =
    let offered = all_shown c.args.offered.now in
    let answer = c.args.answer.now in
    let found : option_map (λ key. key.now) c.first_unanswered.result ≡ bad_key offered answer =
    second_of_two (find (is_bad offered) answer) (option_map (λ key. key.now) c.first_unanswered.result) (key_or (find (is_unanswered answer) offered) None)
    (c.in-None.ensures ∙ ap (λ ps. key_or (find (is_bad offered) ps) None) c.pairs.ensures.pairs) c.first_unanswered.ensures in
    taken_declares offered answer (sym found ∙ ap (option_map (λ key. key.now)) none)
