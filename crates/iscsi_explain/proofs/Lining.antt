-- The line of a PDU, whole or with bytes missing.
use Rattle.std.proofs.Common.{◌≡◌, ℕ, ◌-◌, List, [], ◌∷◌, ◌++◌, length, take, refl, sym, ap, subst, ◌∙◌, append-nil, append_assoc, arith}
use Rattle.std.specs.Prelude.{map}
use Rattle.std.proofs.lemmas.List.{length-append}
use Rattle.std.proofs.Math.Seq.{take-append_seam}
use Rattle.iscsi_stream.specs.Shown.{IsShownLine}
use Rattle.iscsi_explain.specs.Forms.{IsEntryLine, IsText, printable}

pub is_whole : (line : List ℕ) → IsShownLine line → IsEntryLine line
is_whole line is = record {
  text = is.text;
  end = [];
  is_line = subst IsShownLine is.ended is;
  whole = is.ended;
}

pub whole_line : (front line entry : List ℕ) → IsShownLine line → entry ≡ map printable front ++ line
    → IsText [] entry
whole_line front line entry is e = record {
  front = front;
  line = line;
  is_line = is_whole line is;
  whole = e ∙ ap (λ (x : List ℕ). map printable front ++ x) (sym (append-nil line));
}

but_last : (line text : List ℕ) → line ≡ text ++ 10 ∷ [] → take (length line - 1) line ≡ text
but_last line text e =
    let n : length line - 1 ≡ length text = omega (arith, ap length e, length-append text (10 ∷ [])) in
    ap (λ (x : ℕ). take x line) n ∙ ap (λ (x : List ℕ). take (length text) x) e
    ∙ take-append_seam text (10 ∷ [])

cut_line_of : (front line end entry : List ℕ) → IsShownLine line
    → entry ≡ ((map printable front ++ take (length line - 1) line) ++ map printable end) ++ 10 ∷ []
    → IsText [] entry
cut_line_of front line end entry is e =
    let text = is.text in
    let cut = text ++ (map printable end ++ 10 ∷ []) in
    record {
      front = front;
      line = cut;
      is_line = record {
        text = text;
        end = end;
        is_line = subst IsShownLine is.ended is;
        whole = refl;
      };
      whole = e
          ∙ ap (λ (x : List ℕ). ((map printable front ++ x) ++ map printable end) ++ 10 ∷ []) (but_last line text is.ended)
          ∙ append_assoc (map printable front ++ text) (map printable end) (10 ∷ [])
          ∙ append_assoc (map printable front) text (map printable end ++ 10 ∷ [])
          ∙ ap (λ (x : List ℕ). map printable front ++ x) (sym (append-nil cut));
    }

pub cut_line : (front line end entry first shown spelled : List ℕ) → IsShownLine line
    → first ≡ map printable front → shown ≡ line → spelled ≡ map printable end
    → entry ≡ ((first ++ take (length shown - 1) shown) ++ spelled) ++ 10 ∷ []
    → IsText [] entry
cut_line front line end entry first shown spelled is f s p e =
    let P : List ℕ → Type 0 = λ x. entry ≡ ((x ++ take (length shown - 1) shown) ++ spelled) ++ 10 ∷ [] in
    let Q : List ℕ → Type 0 = λ x. entry ≡ ((map printable front ++ take (length x - 1) x) ++ spelled) ++ 10 ∷ [] in
    let R : List ℕ → Type 0 = λ x. entry ≡ ((map printable front ++ take (length line - 1) line) ++ x) ++ 10 ∷ [] in
    cut_line_of front line end entry is (subst R p (subst Q s (subst P f e)))
