-- A word that is refused ends the reading of words.
use Rattle.std.specs.Prelude.{◌≡◌, refl, ℕ, List, None, fold}
use Rattle.std.proofs.lemmas.List.Folds.{fold_stays}
use Rattle.iscsi_comparison.specs.Program.{with_word}

pub none_stays : (words : List (List ℕ)) → fold with_word None words ≡ None
none_stays words = fold_stays with_word None (λ _. refl) words
