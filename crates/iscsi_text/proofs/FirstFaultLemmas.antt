-- The first fault of a text, where keys are repeated.
use Rattle.std.proofs.Common.{◌≡◌, ◌≢◌, ℕ, ◌-◌, ◌<◌, Bool, true, false, cond, not, ◌||◌, List, [], ◌∷◌, ◌++◌, length, Option, Some, None, Bor}
use Rattle.std.proofs.Common.{refl, sym, ap, subst, ◌∙◌, inl, inr, append_assoc, arith}
use Rattle.std.specs.Option.{option_map}
use Rattle.std.specs.List.{flat_map}
use Rattle.std.specs.Ordering.{nat_cmp, is_eq}
use Rattle.std.specs.Str.{bytes_eq}
use Rattle.std.specs.declared.cmp.Ordering.TheVariants.{Less, Equal, Greater}
use Rattle.std.proofs.lemmas.Cmp.{nat_list_cmp_total, tied_itself}
use Rattle.std.proofs.lemmas.Bool.{false≢true}
use Rattle.std.proofs.Math.Bool.{or-false}
use Rattle.std.proofs.lemmas.List.Folds.{list_any-append}
use Rattle.std.proofs.lemmas.Map.Lookups.{exact_bytes}
use Rattle.std.specs.Cmp.Lexicographic.{slice_cmp}
use Rattle.std.specs.BTreeSet.{BTreeSet, contains}
use Rattle.std.specs.BTreeMap.{is_at}
use Rattle.std.specs.declared.cmp.Ordering.{Ordering}
use Rattle.std.proofs.lemmas.List.{append-nil, length-append}
use Rattle.iscsi_text.specs.declared.fault.TextFault.{TextFault}
use Rattle.iscsi_text.specs.declared.fault.TextFault.TheVariants.{Repeated}
use Rattle.iscsi_text.specs.Key.{target_address}
use Rattle.iscsi_text.specs.Value.{Typed}
use Rattle.iscsi_text.specs.Text.{Pairs, values_of, Field, entry_bytes, IsTextEntry, IsSingle, IsInOrder, ArrangesPairs, pairs_of, TextMeans}
use Rattle.iscsi_text.specs.Fault.{IsFirstFault}
use Rattle.iscsi_text.specs.inner.Inside.{ReadsEntry, GathersTo, GathersRow}
use Rattle.iscsi_text.specs.Reading.{has_key, in_order}
use Rattle.iscsi_text.proofs.PairLemmas.{values_of-append, key_cases}
use Rattle.iscsi_text.proofs.KeyLemmas.{bytes_eq_same, bytes_eq_other}
use Rattle.iscsi_text.proofs.ReadInvariant.{pairs_of-append, gathers_more, single_more}
use Rattle.iscsi_text.proofs.RowLemmas.{compared, entry_some}
use Rattle.iscsi_text.proofs.OrderLemmas.{in_order_is, values_in_order}
use Rattle.iscsi_text.proofs.ReadingLemmas.{has_decides}
use Rattle.iscsi_text.proofs.FaultLemmas.{field_names}

-- ---- a row in which keys may be repeated

nothing_more : (more : List (Option Field)) (rest : List ℕ) → [] ≡ flat_map entry_bytes more ++ rest → more ≡ []
nothing_more [] rest e = refl
nothing_more (e ∷ more) rest none = absurd (omega (
  arith,
  ap length none,
  entry_some e,
  length-append (entry_bytes e ++ flat_map entry_bytes more) rest,
  length-append (entry_bytes e) (flat_map entry_bytes more),
))

single_front : (xs ys : Pairs) → IsSingle (xs ++ ys) → IsSingle xs
single_front xs ys single key other =
    omega (arith, single key other, ap length (values_of-append key xs ys), length-append (values_of key xs) (values_of key ys))

-- a text that means something repeats no key, however far it was read
pub meaning_single : (bytes rest : List ℕ) (pairs m : Pairs) → GathersTo bytes rest pairs → TextMeans bytes m → IsSingle pairs
meaning_single bytes rest pairs m row means = subst IsSingle (sym row.gathered) (elim (compared row.entries means.entries rest [] row.each means.row.each
    (sym row.spelled ∙ means.row.spelled)) [
      | inl on ↦ single_front (pairs_of row.entries) (pairs_of on.more) (subst IsSingle (ap pairs_of on.whole ∙ pairs_of-append row.entries on.more)
          means.row.single)
      | inr on ↦ subst (λ es. IsSingle (pairs_of es)) (sym (on.whole ∙ ap (λ m. means.entries ++ m) (nothing_more on.more rest on.rest)
          ∙ append-nil means.entries)) means.row.single
    ])

pub same_single : (ps qs : Pairs) → ((key : List ℕ) → values_of key qs ≡ values_of key ps) → IsSingle ps → IsSingle qs
same_single ps qs same single key other = omega (arith, single key other, ap length (same key))

-- all of a text, read to pairs whose keys are in order and single
pub means_sorted : (bytes rest : List ℕ) (pairs sorted : Pairs) → GathersTo bytes rest pairs → rest ≡ [] → ArrangesPairs pairs sorted → IsSingle sorted →
    TextMeans bytes sorted
means_sorted bytes rest pairs sorted row ended arranges single = record {
  entries = row.entries;
  row = record {
    spelled = row.spelled ∙ ap (λ r. flat_map entry_bytes row.entries ++ r) ended;
    each = row.each;
    single = subst IsSingle row.gathered (same_single sorted pairs (λ key. sym (arranges.same key)) single);
  };
  arranges = record { in_order = arranges.in_order; same = λ key. arranges.same key ∙ ap (values_of key) row.gathered };
}

-- a text whose sorted pairs repeat a key means nothing
pub repeats_mean_nothing : (bytes : List ℕ) (pairs sorted : Pairs) (ended_by : Option TextFault) → GathersRow bytes pairs ended_by → ArrangesPairs pairs sorted
    →
    (IsInOrder sorted × IsSingle sorted → ⊥) → (m : Pairs) → TextMeans bytes m → ⊥
repeats_mean_nothing bytes pairs sorted ended_by read arranges never m means =
    never (arranges.in_order, same_single pairs sorted arranges.same (meaning_single bytes read.rest pairs m read.row means))

-- a text without a meaning goes on behind a row that repeats no key
pub goes_on : (bytes rest : List ℕ) (pairs : Pairs) → ((m : Pairs) → TextMeans bytes m → ⊥) → GathersTo bytes rest pairs → IsSingle pairs → rest ≢ []
goes_on bytes rest pairs never row single ended = never (in_order pairs) (means_sorted bytes rest pairs (in_order pairs) row ended
    (record { in_order = in_order_is pairs; same = λ key. values_in_order key pairs })
    (same_single pairs (in_order pairs) (λ key. values_in_order key pairs) single))

-- ---- faults

pub repeated_first : (bytes rest more : List ℕ) (pairs : Pairs) (p : List ℕ × Typed) (at : ℕ) → GathersTo bytes rest pairs → IsSingle pairs → at
    ≡ length bytes - length rest → ReadsEntry rest (Some p) more → p.0 ≢ target_address → has_key p.0 pairs ≡ true → IsFirstFault bytes (Repeated at)
repeated_first bytes rest more pairs p at row single is next other there = by next.entry next.spelled next.good next.shows
  where
    by : (e : Option Field) → rest ≡ entry_bytes e ++ more → IsTextEntry e → Some p ≡ option_map (λ f. (f.key, f.value)) e → IsFirstFault bytes (Repeated at)
    by None spelled good shows = cc
    by (Some f) spelled good shows =
        let key : p.0 ≡ f.key = cc in
        record {
          entries = row.entries;
          rest = rest;
          row = record { spelled = row.spelled; each = row.each; single = subst IsSingle row.gathered single };
          place = omega (arith, is, ap length row.spelled, length-append (flat_map entry_bytes row.entries) rest);
          faulty = record {
            key = f.key;
            first = field_names f rest more good (spelled ∙ append_assoc (f.key ++ 61 ∷ f.bytes) (0 ∷ []) more);
            good = good.key;
            other = subst (λ k. k ≢ target_address) key other;
            again = subst (λ k. 0 < length (values_of k (pairs_of row.entries))) key
                (subst (λ ps. 0 < length (values_of p.0 ps)) row.gathered ((has_decides p.0 pairs).0 there));
          };
        }

-- ---- the keys seen so far

abbrev key_cmp : Bor (List ℕ) → Bor (List ℕ) → Ordering
key_cmp x y = slice_cmp nat_cmp x.now y.now

-- the row so far repeats no key, and the set has those keys of it that may not be repeated
pub record Seen (bytes rest : List ℕ) (keys : BTreeSet (Bor (List ℕ))) : Type 0 where
  pub pairs : Pairs
  pub row : GathersTo bytes rest pairs
  pub single : IsSingle pairs
  pub holds : (q : Bor (List ℕ)) → q.now ≢ target_address → contains key_cmp keys q ≡ has_key q.now pairs

at_key : (a b : List ℕ) → is_eq (slice_cmp nat_cmp a b) ≡ bytes_eq a b
at_key a b = elim (key_cases a b) [
  | inl same ↦ ap is_eq (subst (λ k. slice_cmp nat_cmp a k ≡ Equal) same (tied_itself nat_list_cmp_total a)) ∙ sym (bytes_eq_same a b same)
  | inr apart ↦ other (slice_cmp nat_cmp a b) (λ e. apart (exact_bytes a b e)) ∙ sym (bytes_eq_other a b apart)
]
  where
    other : (r : Ordering) → (r ≡ Equal → ⊥) → is_eq r ≡ false
    other Less never = refl
    other Equal never = absurd (never refl)
    other Greater never = refl

has_more : (key : List ℕ) (ps : Pairs) (p : List ℕ × Typed) → has_key key (ps ++ p ∷ []) ≡ (has_key key ps || bytes_eq p.0 key)
has_more key ps p = list_any-append (λ q. bytes_eq q.0 key) ps (p ∷ []) ∙ ap (λ b. has_key key ps || b) (or-false (bytes_eq p.0 key))

-- a spare byte
pub seen_spare : (bytes rest more : List ℕ) (keys : BTreeSet (Bor (List ℕ))) → Seen bytes rest keys → ReadsEntry rest None more → Seen bytes more keys
seen_spare bytes rest more keys seen next = record {
  pairs = seen.pairs;
  row = subst (GathersTo bytes more) (append-nil seen.pairs) (gathers_more bytes rest more seen.pairs None seen.row next);
  single = seen.single;
  holds = seen.holds;
}

-- an address, which is no key of the set
pub seen_address : (bytes rest more : List ℕ) (keys : BTreeSet (Bor (List ℕ))) (p : List ℕ × Typed) → Seen bytes rest keys → ReadsEntry rest (Some p) more →
    p.0 ≡ target_address → Seen bytes more keys
seen_address bytes rest more keys p seen next is = record {
  pairs = seen.pairs ++ p ∷ [];
  row = gathers_more bytes rest more seen.pairs (Some p) seen.row next;
  single = single_more seen.pairs p seen.single (λ other. absurd (other is));
  holds = λ q other. seen.holds q other ∙ sym (has_more q.now seen.pairs p
      ∙ ap (λ b. has_key q.now seen.pairs || b) (bytes_eq_other p.0 q.now (λ same. other (sym same ∙ is))) ∙ or-false (has_key q.now seen.pairs));
}

no_values : (vs : List Typed) → (0 < length vs → ⊥) → vs ≡ []
no_values [] none = refl
no_values (v ∷ vs) none = absurd (none (omega arith))

absent : (key : List ℕ) (ps : Pairs) → has_key key ps ≡ false → values_of key ps ≡ []
absent key ps none = no_values (values_of key ps) (λ some. false≢true (sym none ∙ (has_decides key ps).1 some))

set_or : (a b : Bool) → cond a true b ≡ (b || a)
set_or true true = refl
set_or true false = refl
set_or false true = refl
set_or false false = refl

-- a new key, which the set takes
pub seen_key : (bytes rest more : List ℕ) (keys new : BTreeSet (Bor (List ℕ))) (key : Bor (List ℕ)) (v : Typed) → Seen bytes rest keys →
    ReadsEntry rest (Some (key.now, v)) more → key.now ≢ target_address → contains key_cmp keys key ≡ false
    → ((q : Bor (List ℕ)) → contains key_cmp new q ≡ cond (is_at (key_cmp key) q) true (contains key_cmp keys q)) → Seen bytes more new
seen_key bytes rest more keys new key v seen next other none updates =
    let p : List ℕ × Typed = (key.now, v) in
    record {
      pairs = seen.pairs ++ p ∷ [];
      row = gathers_more bytes rest more seen.pairs (Some p) seen.row next;
      single = single_more seen.pairs p seen.single (λ _. absent key.now seen.pairs (sym (seen.holds key other) ∙ none));
      holds = λ q apart. updates q ∙ ap (λ b. cond b true (contains key_cmp keys q)) (at_key key.now q.now)
          ∙ ap (λ b. cond (bytes_eq key.now q.now) true b) (seen.holds q apart) ∙ set_or (bytes_eq key.now q.now) (has_key q.now seen.pairs)
          ∙ sym (has_more q.now seen.pairs p);
    }

-- what an insert answers
pub was_new : (there added : Bool) → added ≡ not there → added ≡ true → there ≡ false
was_new true added is new = absurd (false≢true (sym is ∙ new))
was_new false added is new = refl

pub was_there : (there added : Bool) → added ≡ not there → added ≡ false → there ≡ true
was_there true added is old = refl
was_there false added is old = absurd (false≢true (sym old ∙ is))

-- ---- the faults behind what was seen

pub seen_repeated : (bytes rest more : List ℕ) (keys : BTreeSet (Bor (List ℕ))) (key : Bor (List ℕ)) (v : Typed) → Seen bytes rest keys →
    ReadsEntry rest (Some (key.now, v)) more → key.now ≢ target_address → contains key_cmp keys key ≡ true →
    IsFirstFault bytes (Repeated (length bytes - length rest))
seen_repeated bytes rest more keys key v seen next other there =
    repeated_first bytes rest more seen.pairs (key.now, v) (length bytes - length rest) seen.row seen.single refl next other
    (sym (seen.holds key other) ∙ there)

pub seen_goes_on : (bytes rest : List ℕ) (keys : BTreeSet (Bor (List ℕ))) → ((m : Pairs) → TextMeans bytes m → ⊥) → Seen bytes rest keys → rest ≢ []
seen_goes_on bytes rest keys never seen = goes_on bytes rest seen.pairs never seen.row seen.single
