-- A text has a meaning or one first fault, and not both.
use Rattle.std.proofs.Common.{◌≡◌, ◌≢◌, ℕ, ◌<◌, ◌≤◌, List, [], ◌∷◌, ◌++◌, length, inl, inr, Option, Some, None, refl, sym, ap, subst, ◌∙◌, append_assoc, arith}
use Rattle.std.specs.List.{flat_map, AllByRecursion}
use Rattle.std.proofs.lemmas.List.{append-nil, length-append}
use Rattle.std.proofs.lemmas.List.Elements.{All-from_recursion, recursion_from_All}
use Rattle.iscsi_text.specs.declared.fault.TextFault.{TextFault}
use Rattle.iscsi_text.specs.declared.fault.TextFault.TheVariants.{NoMemory, Unterminated, NoEquals, BadKey, Repeated}
use Rattle.iscsi_text.specs.Key.{IsKey, target_address}
use Rattle.iscsi_text.specs.Text.{Pairs, values_of, Field, entry_bytes, HasNo, IsTextEntry, IsField, IsSingle, pairs_of, TextMeans}
use Rattle.iscsi_text.specs.Fault.{LacksEquals, NamesFirst, IsFaulty, place_of, IsFirstFault}
use Rattle.iscsi_text.proofs.PairLemmas.{values_of-append, values_of-same}
use Rattle.iscsi_text.proofs.ReadInvariant.{no_back, pairs_of-append}
use Rattle.iscsi_text.proofs.RowLemmas.{cut, no_append, key_no_zero, key_no_equals, GoesOn, compared}

-- bytes with a 0 among them
has_zero : (rest front more : List ℕ) → HasNo 0 rest → rest ≡ front ++ 0 ∷ more → ⊥
has_zero rest front more none is = (recursion_from_All (λ b. b ≢ 0) (0 ∷ more) (no_back 0 front (0 ∷ more) (subst (HasNo 0) is none))).0 refl

-- an entry with `=` in it
has_equals : (entry key bytes : List ℕ) → HasNo 61 entry → entry ≡ key ++ 61 ∷ bytes → ⊥
has_equals entry key bytes none is = (recursion_from_All (λ b. b ≢ 61) (61 ∷ bytes) (no_back 61 key (61 ∷ bytes) (subst (HasNo 61) is none))).0 refl

-- an entry that isn't empty doesn't begin with 0
zero_first : (entry more rest : List ℕ) → 0 < length entry → HasNo 0 entry → entry ++ 0 ∷ more ≡ 0 ∷ rest → ⊥
zero_first [] more rest some none e = omega arith
zero_first (c ∷ entry) more rest some none e = (recursion_from_All (λ b. b ≢ 0) (c ∷ entry) none).0 (let h : c ≡ 0 = cc in h)

some_entry : (entry : List ℕ) → entry ≢ [] → 0 < length entry
some_entry [] isnt = absurd (isnt refl)
some_entry (c ∷ entry) isnt = omega arith

some_field : (key bytes : List ℕ) → 0 < length (key ++ 61 ∷ bytes)
some_field key bytes = omega (arith, length-append key (61 ∷ bytes))

no_zero_field : (key bytes : List ℕ) → HasNo 0 key → HasNo 0 bytes → HasNo 0 (key ++ 61 ∷ bytes)
no_zero_field key bytes none none' = no_append 0 key (61 ∷ bytes) none (no_append 0 (61 ∷ []) bytes (All-from_recursion (λ b. b ≢ 0) (61 ∷ [])
    ((λ e. omega arith), tt)) none')

-- a named pair, as an entry and what is behind it
named_no_zero : (key rest : List ℕ) (n : NamesFirst key rest) → HasNo 0 (key ++ 61 ∷ n.bytes)
named_no_zero key rest n = no_zero_field key n.bytes n.key_ends n.bytes_end

named_some : (key rest : List ℕ) → NamesFirst key rest → 0 < length rest
named_some key rest n = omega (arith, ap length n.whole, length-append (key ++ 61 ∷ n.bytes) (0 ∷ n.more))

rest_some : (ps : Pairs) (rest : List ℕ) (f : TextFault) → IsFaulty ps rest f → 0 < length rest
rest_some ps rest NoMemory faulty = absurd faulty
rest_some ps rest (Unterminated at) faulty = some_entry rest faulty.some
rest_some ps rest (NoEquals at) faulty = omega (arith, ap length faulty.whole, length-append faulty.pair (0 ∷ faulty.more))
rest_some ps rest (BadKey at) faulty = named_some faulty.key rest faulty.first
rest_some ps rest (Repeated at) faulty = named_some faulty.key rest faulty.first

-- a fault is no empty entry
named_not_empty : (key rest y : List ℕ) → NamesFirst key rest → rest ≡ 0 ∷ y → ⊥
named_not_empty key rest y n is = zero_first (key ++ 61 ∷ n.bytes) n.more y (some_field key n.bytes) (named_no_zero key rest n) (sym n.whole ∙ is)

not_empty : (ps : Pairs) (rest y : List ℕ) (f : TextFault) → IsFaulty ps rest f → rest ≡ 0 ∷ y → ⊥
not_empty ps rest y NoMemory faulty is = faulty
not_empty ps rest y (Unterminated at) faulty is = has_zero rest [] y faulty.no_end is
not_empty ps rest y (NoEquals at) faulty is = zero_first faulty.pair faulty.more y (some_entry faulty.pair faulty.some) faulty.no_end (sym faulty.whole ∙ is)
not_empty ps rest y (BadKey at) faulty is = named_not_empty faulty.key rest y faulty.first is
not_empty ps rest y (Repeated at) faulty is = named_not_empty faulty.key rest y faulty.first is

-- a pair has one key
one_key : (key key' rest : List ℕ) → NamesFirst key rest → NamesFirst key' rest → key ≡ key'
one_key key key' rest n n' =
    let entries = cut 0 (key ++ 61 ∷ n.bytes) (key' ++ 61 ∷ n'.bytes) n.more n'.more (named_no_zero key rest n) (named_no_zero key' rest n')
    (sym n.whole ∙ n'.whole) in
    (cut 61 key key' n.bytes n'.bytes n.no_equals n'.no_equals entries.0).0

-- what a field of the row names
pub field_names : (g : Field) (rest y : List ℕ) → IsField g → rest ≡ (g.key ++ 61 ∷ g.bytes) ++ 0 ∷ y → NamesFirst g.key rest
field_names g rest y is same = record {
  bytes = g.bytes;
  more = y;
  whole = same;
  no_equals = key_no_equals g.key is.key;
  key_ends = key_no_zero g.key is.key;
  bytes_end = is.ends;
}

-- a named pair is ended, and has `=`
named_ends : (key rest : List ℕ) → NamesFirst key rest → HasNo 0 rest → ⊥
named_ends key rest n none = has_zero rest (key ++ 61 ∷ n.bytes) n.more none n.whole

named_equals : (key rest : List ℕ) → NamesFirst key rest → LacksEquals rest → ⊥
named_equals key rest n lacks = has_equals lacks.pair key n.bytes lacks.no_equals
    (cut 0 lacks.pair (key ++ 61 ∷ n.bytes) lacks.more n.more lacks.no_end (named_no_zero key rest n) (sym lacks.whole ∙ n.whole)).0

-- and no field that the row could go on with
not_field : (ps : Pairs) (rest y : List ℕ) (g : Field) (f : TextFault) → IsField g → (g.key ≢ target_address → length (values_of g.key ps) ≤ 0) →
    IsFaulty ps rest f → rest ≡ (g.key ++ 61 ∷ g.bytes) ++ 0 ∷ y → ⊥
not_field ps rest y g NoMemory is new faulty same = faulty
not_field ps rest y g (Unterminated at) is new faulty same = named_ends g.key rest (field_names g rest y is same) faulty.no_end
not_field ps rest y g (NoEquals at) is new faulty same = named_equals g.key rest (field_names g rest y is same) faulty
not_field ps rest y g (BadKey at) is new faulty same = faulty.bad (subst IsKey (one_key g.key faulty.key rest (field_names g rest y is same) faulty.first)
    is.key)
not_field ps rest y g (Repeated at) is new faulty same =
    let keys = one_key faulty.key g.key rest faulty.first (field_names g rest y is same) in
    omega (arith, faulty.again, subst (λ k. length (values_of k ps) ≤ 0) (sym keys) (new (λ t. faulty.other (keys ∙ t))))

-- so no row goes on where a fault is
stops : (es more : List (Option Field)) (rest y : List ℕ) (f : TextFault) → IsFaulty (pairs_of es) rest f → AllByRecursion IsTextEntry more →
    IsSingle (pairs_of (es ++ more)) → rest ≡ flat_map entry_bytes more ++ y → more ≡ []
stops es [] rest y f faulty each single is = refl
stops es (None ∷ more) rest y f faulty each single is = absurd (not_empty (pairs_of es) rest (flat_map entry_bytes more ++ y) f faulty is)
stops es (Some g ∷ more) rest y f faulty each single is =
    let new : g.key ≢ target_address → length (values_of g.key (pairs_of es)) ≤ 0 = λ other.
    let whole = pairs_of-append es (Some g ∷ more) in
    let values = ap (values_of g.key) whole ∙ values_of-append g.key (pairs_of es) (pairs_of (Some g ∷ more))
    ∙ ap (λ vs. values_of g.key (pairs_of es) ++ vs) (values_of-same g.key (g.key, g.value) (pairs_of more) refl) in
    omega (arith, single g.key other, ap length values, length-append (values_of g.key (pairs_of es)) (g.value ∷ values_of g.key (pairs_of more))) in
    absurd (not_field (pairs_of es) rest (flat_map entry_bytes more ++ y) g f each.0 new faulty
    (is ∙ append_assoc (entry_bytes (Some g)) (flat_map entry_bytes more) y ∙ append_assoc (g.key ++ 61 ∷ g.bytes) (0 ∷ []) (flat_map entry_bytes more ++ y)))

-- a text that means something has no fault
pub no_fault : (text : List ℕ) (ps : Pairs) (f : TextFault) → TextMeans text ps → IsFirstFault text f → ⊥
no_fault text ps f means first = elim (compared means.entries first.entries [] first.rest means.row.each first.row.each (sym means.row.spelled
    ∙ first.row.spelled)) [
      | inl on ↦ omega (
        arith,
        rest_some (pairs_of first.entries) first.rest f first.faulty,
        ap length on.rest,
        length-append (flat_map entry_bytes on.more) first.rest,
      )
      | inr on ↦
          let none = stops first.entries on.more first.rest [] f first.faulty on.each (subst (λ es. IsSingle (pairs_of es)) on.whole means.row.single) on.rest
          in
          omega (arith, rest_some (pairs_of first.entries) first.rest f first.faulty, ap length (on.rest ∙ ap (λ m. flat_map entry_bytes m ++ []) none))
    ]

-- nor has a text with a fault a meaning
pub no_meaning : (text : List ℕ) (f : TextFault) → IsFirstFault text f → (ps : Pairs) → TextMeans text ps → ⊥
no_meaning text f first ps means = no_fault text ps f means first

-- one place has one fault
same_fault : (ps : Pairs) (rest : List ℕ) (f g : TextFault) → IsFaulty ps rest f → IsFaulty ps rest g → place_of f ≡ place_of g → f ≡ g
same_fault ps rest (Unterminated i) (Unterminated j) a b e = ap Unterminated e
same_fault ps rest (NoEquals i) (NoEquals j) a b e = ap NoEquals e
same_fault ps rest (BadKey i) (BadKey j) a b e = ap BadKey e
same_fault ps rest (Repeated i) (Repeated j) a b e = ap Repeated e
same_fault ps rest (Unterminated i) (NoEquals j) a b e = absurd (has_zero rest b.pair b.more a.no_end b.whole)
same_fault ps rest (Unterminated i) (BadKey j) a b e = absurd (named_ends b.key rest b.first a.no_end)
same_fault ps rest (Unterminated i) (Repeated j) a b e = absurd (named_ends b.key rest b.first a.no_end)
same_fault ps rest (NoEquals i) (Unterminated j) a b e = absurd (has_zero rest a.pair a.more b.no_end a.whole)
same_fault ps rest (BadKey i) (Unterminated j) a b e = absurd (named_ends a.key rest a.first b.no_end)
same_fault ps rest (Repeated i) (Unterminated j) a b e = absurd (named_ends a.key rest a.first b.no_end)
same_fault ps rest (NoEquals i) (BadKey j) a b e = absurd (named_equals b.key rest b.first a)
same_fault ps rest (NoEquals i) (Repeated j) a b e = absurd (named_equals b.key rest b.first a)
same_fault ps rest (BadKey i) (NoEquals j) a b e = absurd (named_equals a.key rest a.first b)
same_fault ps rest (Repeated i) (NoEquals j) a b e = absurd (named_equals a.key rest a.first b)
same_fault ps rest (BadKey i) (Repeated j) a b e = absurd (a.bad (subst IsKey (one_key b.key a.key rest b.first a.first) b.good))
same_fault ps rest (Repeated i) (BadKey j) a b e = absurd (b.bad (subst IsKey (one_key a.key b.key rest a.first b.first) a.good))
same_fault ps rest NoMemory g a b e = absurd a
same_fault ps rest f NoMemory a b e = absurd b

-- where a row of one goes on behind the other's, nothing goes on
alike : (text : List ℕ) (f g : TextFault) (a : IsFirstFault text f) (b : IsFirstFault text g) → GoesOn a.entries b.entries a.rest b.rest → f ≡ g
alike text f g a b on =
    let none = stops a.entries on.more a.rest b.rest f a.faulty on.each (subst (λ r. IsSingle (pairs_of r)) on.whole b.row.single) on.rest in
    let rows : b.entries ≡ a.entries = on.whole ∙ ap (λ m. a.entries ++ m) none ∙ append-nil a.entries in
    let rests : b.rest ≡ a.rest = sym (on.rest ∙ ap (λ m. flat_map entry_bytes m ++ b.rest) none) in
    same_fault (pairs_of a.entries) a.rest f g a.faulty (subst (λ r. IsFaulty (pairs_of r) a.rest g) rows
    (subst (λ z. IsFaulty (pairs_of b.entries) z g) rests b.faulty))
    (a.place ∙ ap (λ r. length (flat_map entry_bytes r)) (sym rows) ∙ sym b.place)

-- a text has one first fault at most
pub one_fault : (text : List ℕ) (f g : TextFault) → IsFirstFault text f → IsFirstFault text g → f ≡ g
one_fault text f g a b = elim (compared a.entries b.entries a.rest b.rest a.row.each b.row.each (sym a.row.spelled ∙ b.row.spelled)) [
  | inl on ↦ alike text f g a b on
  | inr on ↦ sym (alike text g f b a on)
]
