-- The laws of texts, for crates above: each is also the contract of a function of `laws`.
use Rattle.std.proofs.Common.{◌≡◌, ℕ, ◌≤◌, List, length, Option, Some, None, Result, Ok, Err, refl, sym, ap, subst, ◌∙◌, ◌↔◌}
use Rattle.std.specs.Prelude.{IfOk, OnOk}
use Rattle.iscsi_text.specs.Text.{Pairs, TextMeans, IsMeaning}
use Rattle.iscsi_text.specs.declared.fault.TextFault.{TextFault}
use Rattle.iscsi_text.specs.declared.fault.TextFault.TheVariants.{NoMemory}
use Rattle.iscsi_text.specs.Fault.{IsFirstFault}
use Rattle.iscsi_text.specs.Canonical.{canonical_text}
use Rattle.iscsi_text.specs.Reading.{text_in}
use Rattle.iscsi_text.proofs.CanonicalLemmas as canonical
use Rattle.iscsi_text.proofs.ReadingLemmas as computed
use Rattle.iscsi_text.proofs.FaultLemmas.{no_meaning}
use Rattle.iscsi_text.proofs.RowLemmas as rows

-- bytes mean one map at most
pub one_meaning : (bytes : List ℕ) (m n : Pairs) → TextMeans bytes m → TextMeans bytes n → m ≡ n
one_meaning = rows.one_meaning

-- what bytes mean is a meaning
pub is_meaning : (bytes : List ℕ) (m : Pairs) → TextMeans bytes m → IsMeaning m
is_meaning = canonical.is_meaning

-- the canonical text of a meaning means it
pub canonical_means : (m : Pairs) → IsMeaning m → TextMeans (canonical_text m) m
canonical_means = canonical.canonical_means

-- and so does that of what bytes mean
pub canonical_same : (bytes : List ℕ) (m : Pairs) → TextMeans bytes m → TextMeans (canonical_text m) m
canonical_same bytes m means = canonical.canonical_means m (canonical.is_meaning bytes m means)

-- it is no longer than the bytes
pub canonical_no_longer : (bytes : List ℕ) (m : Pairs) → TextMeans bytes m → length (canonical_text m) ≤ length bytes
canonical_no_longer = canonical.canonical_no_longer

-- and its own canonical text
pub canonical_once : (bytes : List ℕ) (m n : Pairs) → TextMeans bytes m → TextMeans (canonical_text m) n → canonical_text n ≡ canonical_text m
canonical_once bytes m n means again = ap canonical_text (rows.one_meaning (canonical_text m) n m again (canonical_same bytes m means))

-- equal maps, equal canonical texts
pub equal_texts : (s t : List ℕ) (m n : Pairs) → TextMeans s m → TextMeans t n → (m ≡ n) ↔ (canonical_text m ≡ canonical_text n)
equal_texts s t m n means means' = (
  ap canonical_text,
  λ same. rows.one_meaning (canonical_text m) m n (canonical_same s m means) (subst (λ bytes. TextMeans bytes n) (sym same) (canonical_same t n means')),
)

-- the computed reading is the meaning
pub reading_some : (bytes : List ℕ) (m : Pairs) → (text_in bytes ≡ Some m) ↔ TextMeans bytes m
reading_some bytes m = (computed.read_means bytes m, computed.means_read bytes m)

pub reading_none : (bytes : List ℕ) → (text_in bytes ≡ None) ↔ ((m : Pairs) → TextMeans bytes m → ⊥)
reading_none bytes = (
  λ none m means. subst computed.IsThere none (subst computed.IsThere (sym (computed.means_read bytes m means)) tt),
  λ never. by (text_in bytes) (λ m read. never m (computed.read_means bytes m read)),
)
  where
    by : (r : Option Pairs) → ((m : Pairs) → r ≡ Some m → ⊥) → r ≡ None
    by None never = refl
    by (Some m) never = absurd (never m refl)

-- none where there is a fault
pub fault_none : (bytes : List ℕ) (f : TextFault) → IsFirstFault bytes f → text_in bytes ≡ None
fault_none bytes f first = (reading_none bytes).1 (no_meaning bytes f first)

-- reading the canonical text of what was read gives it again
pub canonical_read : (bytes : List ℕ) (m : Pairs) → text_in bytes ≡ Some m → text_in (canonical_text m) ≡ Some m
canonical_read bytes m read = computed.means_read (canonical_text m) m (canonical_same bytes m (computed.read_means bytes m read))

-- from no more bytes
pub read_no_longer : (bytes : List ℕ) (m : Pairs) → text_in bytes ≡ Some m → length (canonical_text m) ≤ length bytes
read_no_longer bytes m read = canonical.canonical_no_longer bytes m (computed.read_means bytes m read)

-- ---- a text, if bytes mean one

pub read_is : (bytes : List ℕ) (m : Pairs) → TextMeans bytes m → Some m ≡ text_in bytes
read_is bytes m means = sym ((reading_some bytes m).1 means)

pub refused_is : {E : Type 0} (bytes : List ℕ) (fault : TextFault) (r : Result (Option Pairs) E)
    → ((fault ≡ NoMemory → ⊥) → (m : Pairs) → TextMeans bytes m → ⊥) → IfOk r (λ text. text ≡ None) → OnOk r (fault ≡ NoMemory → ⊥) →
    IfOk r (λ text. text ≡ text_in bytes)
refused_is bytes fault (Ok text) never none other = none ∙ sym ((reading_none bytes).1 (never other))
refused_is bytes fault (Err e) never none other = tt
