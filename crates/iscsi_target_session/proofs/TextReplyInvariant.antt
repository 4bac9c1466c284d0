-- The answers to the keys of a text, one after another.
use Rattle.std.proofs.Common.{◌≡◌, ◌∙◌, ℕ, ◌+◌, List, [], ◌∷◌, ◌++◌, Bool, drop, ap, append_assoc}
use Rattle.std.proofs.lemmas.List.{map-append}
use Rattle.iscsi_text.specs.declared.pair.Pair.{Pair}
use Rattle.iscsi_text.specs.Text.{Pairs}
use Rattle.iscsi_text.specs.Shown.{shown, all_shown}
use Rattle.iscsi_target_session.specs.TextRequests.{replies}

pub more_shown : (asked : Bool) (ps : Pairs) (n : ℕ) (old new : List Pair) (pair : Pair) → new ≡ old ++ pair ∷ [] → (shown pair ∷ [])
    ++ replies asked (drop (n + 1) ps) ≡ replies asked (drop n ps)
    → all_shown old ++ replies asked (drop n ps) ≡ replies asked ps → all_shown new ++ replies asked (drop (n + 1) ps) ≡ replies asked ps
more_shown asked ps n old new pair is step before =
    ap (λ (x : List Pair). all_shown x ++ replies asked (drop (n + 1) ps)) is
    ∙ ap (λ (x : Pairs). x ++ replies asked (drop (n + 1) ps)) (map-append shown old (pair ∷ []))
    ∙ append_assoc (all_shown old) (shown pair ∷ []) (replies asked (drop (n + 1) ps))
    ∙ ap (λ (x : Pairs). all_shown old ++ x) step ∙ before

pub none_shown : (asked : Bool) (ps : Pairs) (n : ℕ) (old : List Pair) → [] ++ replies asked (drop (n + 1) ps) ≡ replies asked (drop n ps)
    → all_shown old ++ replies asked (drop n ps) ≡ replies asked ps → all_shown old ++ replies asked (drop (n + 1) ps) ≡ replies asked ps
none_shown asked ps n old step before = ap (λ (x : Pairs). all_shown old ++ x) step ∙ before
