-- Bytes whose padding is not kept are read as the bytes themselves.
use Rattle.std.proofs.Common.{◌≡◌, ℕ, ◌+◌, ◌-◌, ◌≤◌, List, ◌++◌, length, take, drop, replicate, refl, sym, ap, subst, ◌∙◌, arith, inl, inr, append-nil}
use Rattle.std.specs.Prelude.{◌&&◌, not, nat_lt, ◌==◌}
use Rattle.std.proofs.lemmas.Bool.{cases_lt}
use Rattle.std.proofs.lemmas.List.{length-append, length-take, length-replicate, take-take, take_all, take-append-le, drop-take}
use Rattle.iscsi_pdu.specs.declared.head.Head.{Head}
use Rattle.iscsi_pdu.specs.Meaning.{IsHeader, Means}
use Rattle.iscsi_stream.specs.Stream.{pdu_len}
use Rattle.iscsi_stream.specs.Framing.{length_at, content_len, settled, is_whole_pdu, IsBegun}
use Rattle.iscsi_stream.proofs.HeadLemmas.{length_at-same, means-length, means-data, means_of}

pub settled-short : (b : List ℕ) → length b ≤ content_len b → settled b ≡ b
unfolding settled
settled-short b le =
    let none : length b - content_len b ≡ 0 = omega arith in
    rw (none, take_all (content_len b) b le) (append-nil b)

pub length-settled : (b : List ℕ) → length (settled b) ≡ length b
unfolding settled
length-settled b = omega (
  arith,
  length-append (take (content_len b) b) (replicate (length b - content_len b) 0),
  length-take (content_len b) b,
  length-replicate {A = ℕ} (length b - content_len b) 0,
)

pub take-settled : (j : ℕ) (b : List ℕ) → j ≤ content_len b → take j (settled b) ≡ take j b
unfolding settled
take-settled j b le =
    elim (cases_lt (length b) j) [
      | inl lt ↦ ap (take j) (settled-short b (omega arith))
      | inr ge ↦ take-append-le j (take (content_len b) b) (replicate (length b - content_len b) 0) (omega (arith, length-take (content_len b) b))
          ∙ take-take j (content_len b) b le
    ]

pub take48-settled : (b : List ℕ) → take 48 (settled b) ≡ take 48 b
take48-settled b = take-settled 48 b (omega arith)

pub length_at-settled : (b : List ℕ) → length_at (settled b) ≡ length_at b
length_at-settled b = length_at-same (settled b) b (take48-settled b)

pair_is : (a b c d : ℕ) → a ≡ b → c ≡ d → (let p : ℕ × ℕ = (a, c) in p ≡ (b, d))
pair_is a b c d p q = cc

pub is_whole-settled : (b : List ℕ) → is_whole_pdu (settled b) ≡ is_whole_pdu b
unfolding is_whole_pdu
is_whole-settled b = ap (λ (x : ℕ × ℕ). not (nat_lt x.0 48) && (x.0 == pdu_len x.1))
    (pair_is (length (settled b)) (length b) (length_at (settled b)) (length_at b) (length-settled b) (length_at-settled b))

-- more bytes after settled ones
pub settled-append : (b p : List ℕ) → settled (settled b ++ p) ≡ settled (b ++ p)
unfolding settled
settled-append b p =
    elim (cases_lt (content_len b) (length b)) [
      | inr le ↦ ap (λ (x : List ℕ). settled (x ++ p)) (settled-short b le)
      | inl lt ↦
          let k = content_len b in
          let front : take 48 (settled b ++ p) ≡ take 48 b = take-append-le 48 (settled b) p (omega (arith, length-settled b)) ∙ take48-settled b in
          let front2 : take 48 (b ++ p) ≡ take 48 b = take-append-le 48 b p (omega arith) in
          let at1 : content_len (settled b ++ p) ≡ k = ap (λ n. 48 + n) (length_at-same (settled b ++ p) b front) in
          let at2 : content_len (b ++ p) ≡ k = ap (λ n. 48 + n) (length_at-same (b ++ p) b front2) in
          let whole : take k (settled b ++ p) ≡ take k (b ++ p) =
          take-append-le k (settled b) p (omega (arith, length-settled b)) ∙ take-settled k b (omega arith) ∙ sym (take-append-le k b p (omega arith)) in
          let len : length (settled b ++ p) ≡ length (b ++ p) = omega (arith, length-append (settled b) p, length-append b p, length-settled b) in
          rw (at1, at2, whole, len) refl
    ]

-- the same front and length are begun as well as each other
pub IsBegun-same : (limit : ℕ) (a b : List ℕ) → take 48 a ≡ take 48 b → length a ≡ length b → IsBegun limit a → IsBegun limit b
IsBegun-same limit a b front len begun long =
    let good = begun (omega arith) in
    let at = length_at-same a b front in (
      good.0,
      record {
        header = subst (λ (x : List ℕ). IsHeader x good.0 (length_at b)) front (subst (λ (n : ℕ). IsHeader (take 48 a) good.0 n) at good.1.header);
        within = omega (arith, good.1.within);
        no_more = omega (arith, good.1.no_more, ap pdu_len at);
      },
    )

pub IsBegun-from_settled : (limit : ℕ) (b : List ℕ) → IsBegun limit (settled b) → IsBegun limit b
IsBegun-from_settled limit b = IsBegun-same limit (settled b) b (take48-settled b) (length-settled b)

-- the data are the same bytes
data-settled : (b : List ℕ) → take (length_at b) (drop 48 (settled b)) ≡ take (length_at b) (drop 48 b)
data-settled b =
    sym (drop-take 48 (length_at b) (settled b)) ∙ ap (drop 48) (take-settled (content_len b) b (omega arith)) ∙ drop-take 48 (length_at b) b

pub Means-from_settled : (b : List ℕ) (h : Head) (d : List ℕ) → Means (settled b) h d → Means b h d
Means-from_settled b h d m =
    let n : length d ≡ length_at b = means-length (settled b) h d m ∙ length_at-settled b in
    means_of b h d (subst (λ (x : List ℕ). IsHeader x h (length d)) (take48-settled b) m.header) (sym (length-settled b) ∙ m.size)
    (ap (λ k. take k (drop 48 b)) n ∙ sym (data-settled b) ∙ ap (λ k. take k (drop 48 (settled b))) (sym n) ∙ means-data (settled b) h d m)
