-- What streams need of headers.
use Rattle.std.proofs.Common.{◌≡◌, ℕ, ◌+◌, ◌-◌, ◌<◌, ◌≤◌, Bool, true, false, List, length, get_or, take, drop, Some, None, sym, ap, ◌∙◌, arith, inl, inr}
use Rattle.std.specs.Bool.{OnTrue}
use Rattle.std.proofs.lemmas.Bool.{cases_lt}
use Rattle.std.proofs.lemmas.List.{get_or-take, get_or_past, take-take, length-take}
use Rattle.scsi_cdb.specs.Layout.{number_at}
use Rattle.iscsi_pdu.specs.declared.head.Head.{Head}
use Rattle.iscsi_pdu.specs.declared.head.HeadFault.{HeadFault}
use Rattle.iscsi_pdu.specs.Meaning.{IsHeader, Means, head_fault, is_login, opcode, whole, AreBytes}
use Rattle.iscsi_pdu.proofs.HeaderLemmas.{IsHeader-room, IsHeader-reads, IsHeader-short, IsHeader-faultless, whole-means}
use Rattle.iscsi_stream.specs.Stream.{pdu_len}
use Rattle.iscsi_stream.specs.Framing.{length_at}

-- ---- the length that a header says

-- lists with the same front have the same bytes there
pub same_byte : (n : ℕ) (a b : List ℕ) (i : ℕ) → take n a ≡ take n b → i < n → get_or a i 0 ≡ get_or b i 0
same_byte n a b i e lt = sym (get_or-take n a i 0 lt) ∙ ap (λ (xs : List ℕ). get_or xs i 0) e ∙ get_or-take n b i 0 lt

pub length_at-same : (a b : List ℕ) → take 48 a ≡ take 48 b → length_at a ≡ length_at b
unfolding number_at
length_at-same a b e =
    let five = same_byte 48 a b 5 e (omega arith) in
    let six = same_byte 48 a b 6 e (omega arith) in
    let seven = same_byte 48 a b 7 e (omega arith) in
    omega arith

pub header-length : (b : List ℕ) (h : Head) (n : ℕ) → IsHeader b h n → n ≡ length_at b
header-length b h n r = cc (r.frame.1.1.0)

-- the same, where the header is the front of more bytes
pub front-length : (b : List ℕ) (h : Head) (n : ℕ) → IsHeader (take 48 b) h n → n ≡ length_at b
front-length b h n r = header-length (take 48 b) h n r ∙ length_at-same (take 48 b) b (take-take 48 48 b (omega arith))

-- ---- whole PDUs

pub means-length : (b : List ℕ) (h : Head) (d : List ℕ) → Means b h d → length d ≡ length_at b
means-length b h d m = front-length b h (length d) m.header

past : (n : ℕ) → 48 + n - 48 ≡ n
past n = omega arith

pub means-data : (b : List ℕ) (h : Head) (d : List ℕ) → Means b h d → take (length d) (drop 48 b) ≡ d
means-data b h d m = sym (m.data_is ∙ ap (λ (n : ℕ). take n (drop 48 b)) (past (length d)))

pub means_of : (b : List ℕ) (h : Head) (d : List ℕ) → IsHeader (take 48 b) h (length d) → length b ≡ pdu_len (length d) → take (length d) (drop 48 b) ≡ d →
    Means b h d
means_of b h d front size is = record {
  size = size;
  header = front;
  data_is = sym is ∙ ap (λ (n : ℕ). take n (drop 48 b)) (sym (past (length d)));
}

-- ---- the canonical form

OnTrue-less : (b : Bool) (m n : ℕ) → m ≤ n → OnTrue b (n ≤ 8192) → OnTrue b (m ≤ 8192)
OnTrue-less true m n le p = omega (arith, p)
OnTrue-less false m n le p = tt

pub AreBytes-take : (n : ℕ) (bytes : List ℕ) → AreBytes bytes → AreBytes (take n bytes)
AreBytes-take n bytes h i =
    elim (cases_lt i n) [
      | inl lt ↦ rw (get_or-take n bytes i 0 lt) (h i)
      | inr le ↦ rw (get_or_past (take n bytes) i 0 (omega (arith, length-take n bytes))) (omega arith)
    ]

-- A head that bytes have, with data that are no longer, has a canonical form, which means them.
pub whole-again : (b : List ℕ) (h : Head) (d e : List ℕ) → AreBytes b → Means b h d → length e ≤ length d → Means (whole h e) h e
whole-again b h d e bytes m le =
    let front = AreBytes-take 48 b bytes in
    whole-means h e (IsHeader-room (take 48 b) h (length d) front m.header) (IsHeader-reads (take 48 b) h (length d) front m.header)
    (omega (arith, IsHeader-short (take 48 b) h (length d) front m.header, le)) (OnTrue-less (is_login (opcode h)) (length e) (length d) le m.header.login)

-- ---- refusals

some_not_none : (f : HeadFault) → Some f ≡ None → ⊥
some_not_none f e = absurd cc

pub bad_header : (b : List ℕ) (h : Head) (n : ℕ) (f : HeadFault) → IsHeader b h n → head_fault b ≡ Some f → ⊥
bad_header b h n f r bad = some_not_none f (sym bad ∙ IsHeader-faultless b h n r)
