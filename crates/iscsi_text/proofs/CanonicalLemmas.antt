-- The canonical text of what a text means.
use Rattle.std.proofs.Common.{◌≡◌, ℕ, zero, suc, ◌+◌, ◌<◌, ◌≤◌, List, [], ◌∷◌, ◌++◌, length, map, take, get_or, Option, Some, None, refl, sym, ap, subst, ◌∙◌}
use Rattle.std.proofs.Common.{arith}
use Rattle.std.specs.List.{flat_map, AllByRecursion}
use Rattle.std.proofs.lemmas.List.{append-nil, length-append}
use Rattle.std.proofs.lemmas.List.Concat.{length-flat_map}
use Rattle.std.proofs.lemmas.List.Elements.{All-from_recursion, recursion_from_All}
use Rattle.std.proofs.lemmas.List.Sorted.{sum_by-IsPermutation, All-permutation, IsPermutation-sym}
use Rattle.iscsi_text.specs.declared.pair.Pair.{Pair}
use Rattle.iscsi_text.specs.Key.{kind_of}
use Rattle.iscsi_text.specs.Value.{Typed, value_text}
use Rattle.iscsi_text.specs.Text.{Pairs, values_of, Field, entry_bytes, IsTextEntry, IsSingle, pairs_of, TextMeans, IsPair, IsMeaning}
use Rattle.iscsi_text.specs.Canonical.{pair_text, canonical_text}
use Rattle.iscsi_text.specs.Shown.{shown, all_shown}
use Rattle.iscsi_text.proofs.MeaningLemmas.{stands}
use Rattle.iscsi_text.proofs.ArrangementLemmas.{permuted}

-- the pairs of a row are pairs
each_pair : (entries : List (Option Field)) → AllByRecursion IsTextEntry entries → AllByRecursion IsPair (pairs_of entries)
each_pair [] all = tt
each_pair (None ∷ entries) all = each_pair entries all.1
each_pair (Some f ∷ entries) all = (record { key = all.0.key; bytes = f.bytes; ends = all.0.ends; means = all.0.value }, each_pair entries all.1)

-- what a text means is a meaning
pub is_meaning : (text : List ℕ) (pairs : Pairs) → TextMeans text pairs → IsMeaning pairs
is_meaning text pairs means = record {
  in_order = means.arranges.in_order;
  single = λ key other. subst (λ vs. length vs ≤ 1) (sym (means.arranges.same key)) (means.row.single key other);
  each = recursion_from_All IsPair pairs (All-permutation IsPair (pairs_of means.entries) pairs (IsPermutation-sym pairs (pairs_of means.entries)
      (permuted pairs (pairs_of means.entries) means.arranges.same))
      (All-from_recursion IsPair (pairs_of means.entries) (each_pair means.entries means.row.each)));
}

-- the entries of the canonical text
abbrev canonical_entry : List ℕ × Typed → Option Field
canonical_entry p = Some (record { key = p.0; bytes = value_text p.1; value = p.1 })

pairs_of-canonical : (pairs : Pairs) → pairs_of (map canonical_entry pairs) ≡ pairs
pairs_of-canonical [] = refl
pairs_of-canonical (p ∷ pairs) = ap (λ ps. p ∷ ps) (pairs_of-canonical pairs)

spelled-canonical : (pairs : Pairs) → canonical_text pairs ≡ flat_map entry_bytes (map canonical_entry pairs)
spelled-canonical [] = refl
spelled-canonical (p ∷ pairs) = ap (λ bs. pair_text p ++ bs) (spelled-canonical pairs)

each-canonical : (pairs : Pairs) → AllByRecursion IsPair pairs → AllByRecursion IsTextEntry (map canonical_entry pairs)
each-canonical [] all = tt
each-canonical (p ∷ pairs) all =
    let one = stands (kind_of p.0) all.0.bytes p.1 all.0.means all.0.ends in
    (record { key = all.0.key; ends = one.ends; value = one.means }, each-canonical pairs all.1)

-- the canonical text of a meaning has that meaning
pub canonical_means : (pairs : Pairs) → IsMeaning pairs → TextMeans (canonical_text pairs) pairs
canonical_means pairs is = record {
  entries = map canonical_entry pairs;
  row = record {
    spelled = spelled-canonical pairs ∙ sym (append-nil (flat_map entry_bytes (map canonical_entry pairs)));
    each = each-canonical pairs is.each;
    single = subst IsSingle (sym (pairs_of-canonical pairs)) is.single;
  };
  arranges = record { in_order = is.in_order; same = λ key. ap (values_of key) (sym (pairs_of-canonical pairs)) };
}

-- no row with these pairs is shorter
abbrev text_len : List ℕ × Typed → ℕ
text_len p = length (pair_text p)

row_least : (entries : List (Option Field)) → AllByRecursion IsTextEntry entries → length (canonical_text (pairs_of entries))
    ≤ length (flat_map entry_bytes entries)
row_least [] all = omega arith
row_least (None ∷ entries) all = omega (arith, row_least entries all.1)
row_least (Some f ∷ entries) all =
    let one = stands (kind_of f.key) f.bytes f.value all.0.value all.0.ends in
    omega (
      arith,
      row_least entries all.1,
      one.no_longer,
      length-append (pair_text (f.key, f.value)) (canonical_text (pairs_of entries)),
      length-append (entry_bytes (Some f)) (flat_map entry_bytes entries),
      length-append (f.key ++ 61 ∷ value_text f.value) (0 ∷ []),
      length-append (f.key ++ 61 ∷ f.bytes) (0 ∷ []),
      length-append f.key (61 ∷ value_text f.value),
      length-append f.key (61 ∷ f.bytes),
    )

pub canonical_no_longer : (text : List ℕ) (pairs : Pairs) → TextMeans text pairs → length (canonical_text pairs) ≤ length text
canonical_no_longer text pairs means =
    let row = pairs_of means.entries in
    let same : length (canonical_text row) ≡ length (canonical_text pairs) = length-flat_map pair_text row
    ∙ sum_by-IsPermutation text_len pairs row (permuted pairs row means.arranges.same) ∙ sym (length-flat_map pair_text pairs) in
    omega (arith, same, row_least means.entries means.row.each, ap length (means.row.spelled ∙ append-nil (flat_map entry_bytes means.entries)))

-- one pair of the canonical text, behind those before it
pub canonical_part : (xs : List Pair) (i : ℕ) (d : Pair) → i < length xs → length (canonical_text (all_shown (take i xs)))
    + length (pair_text (shown (get_or xs i d))) ≤ length (canonical_text (all_shown xs))
canonical_part [] i d lt = absurd (omega arith)
canonical_part (x ∷ xs) zero d lt = omega (arith, length-append (pair_text (shown x)) (canonical_text (all_shown xs)))
canonical_part (x ∷ xs) (suc i) d lt = omega (
  arith,
  canonical_part xs i d (omega arith),
  length-append (pair_text (shown x)) (canonical_text (all_shown xs)),
  length-append (pair_text (shown x)) (canonical_text (all_shown (take i xs))),
)
