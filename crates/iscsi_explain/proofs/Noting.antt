-- The lines of notes, with one more.
use Rattle.std.proofs.Common.{◌≡◌, ℕ, List, [], ◌∷◌, ◌++◌, sym, ap, ◌∙◌, append-nil, append_assoc}
use Rattle.iscsi_explain.specs.Forms.{note, notes_from}

pub notes_end : (texts : List (List ℕ)) (text : List ℕ)
    → notes_from (texts ++ text ∷ []) ≡ notes_from texts ++ note text
notes_end [] text = append-nil (note text)
notes_end (t ∷ texts) text = ap (λ (x : List ℕ). note t ++ x) (notes_end texts text)
    ∙ sym (append_assoc (note t) (notes_from texts) (note text))

-- some notes were appended
pub record Noted (before after : List ℕ) : Type 0 where
  pub texts : List (List ℕ)
  pub appended : after ≡ before ++ notes_from texts

pub noted_none : (before : List ℕ) → Noted before before
noted_none before = record { texts = []; appended = sym (append-nil before) }

pub noted_more : (before middle after text : List ℕ) → Noted before middle → after ≡ middle ++ note text
    → Noted before after
noted_more before middle after text noted is = record {
  texts = noted.texts ++ text ∷ [];
  appended = is ∙ ap (λ (x : List ℕ). x ++ note text) noted.appended
      ∙ append_assoc before (notes_from noted.texts) (note text)
      ∙ ap (λ (x : List ℕ). before ++ x) (sym (notes_end noted.texts text));
}
