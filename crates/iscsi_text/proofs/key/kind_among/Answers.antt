use Rattle.std.proofs.Common.{◌≡◌, Bor, List, ℕ, find, ap, ◌∙◌, rules}
use borrow.Author.Tests.{tests}
use Rattle.std.specs.Option.{option_map}
use Rattle.std.specs.Str.{bytes_eq}
use Rattle.std.proofs.lemmas.Iterator.{YieldsList-from_slice}
use Rattle.std.proofs.lemmas.Iterator.Search.{find_from_yields_List}
use Rattle.iscsi_text.specs.declared.key.KeyKind.{KeyKind}
use Rattle.iscsi_text.proofs.KnownKeyLemmas.{find_row}
use Rattle.iscsi_text.proofs.key.kind_among.Goals as goal

pub returns : goal.returns
returns c =
    let found : option_map (λ x. x.now) c.find.result ≡ find (λ row. bytes_eq row.0.now c.args.name.now) c.args.keys.now =
    find_from_yields_List (λ (row : Bor (List ℕ) × KeyKind). bytes_eq row.0.now c.args.name.now) _ _ c.find.result c.find.ensures.ran
    (YieldsList-from_slice c.args.keys.now cc) (λ x b q k. search (rules, tests)) in
    ap (option_map (λ (row : Bor (List ℕ) × KeyKind). row.1)) (rw c.in_ok-found.was at found) ∙ find_row c.args.name.now c.args.keys.now

pub returns-in_err-found : goal.returns-in_err-found
returns-in_err-found c =
    let found : option_map (λ x. x.now) c.find.result ≡ find (λ row. bytes_eq row.0.now c.args.name.now) c.args.keys.now =
    find_from_yields_List (λ (row : Bor (List ℕ) × KeyKind). bytes_eq row.0.now c.args.name.now) _ _ c.find.result c.find.ensures.ran
    (YieldsList-from_slice c.args.keys.now cc) (λ x b q k. search (rules, tests)) in
    rw c.from_residual.ensures (ap (option_map (λ (row : Bor (List ℕ) × KeyKind). row.1)) (rw c.in_err-found.was at found) ∙ find_row c.args.name.now
    c.args.keys.now)
