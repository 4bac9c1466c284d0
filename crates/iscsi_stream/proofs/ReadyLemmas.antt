-- When a PDU is ready, and what it is.
use Rattle.std.proofs.Common.{◌≡◌, ℕ, ◌+◌, ◌<◌, ◌≤◌, Bool, true, false, List, [], ◌++◌, length, take, min, replicate, refl, sym, ap, subst, ◌∙◌, arith}
use Rattle.std.specs.Prelude.{not, ◌&&◌, nat_lt, ◌==◌, IsTrue}
use Rattle.std.proofs.lemmas.Bool.{eqb-true, ltb-false}
use Rattle.std.proofs.lemmas.List.{take_at, drop_at}
use Rattle.iscsi_pdu.specs.declared.head.Head.{Head}
use Rattle.iscsi_pdu.specs.Meaning.{IsHeader, Means, padding}
use Rattle.iscsi_stream.specs.declared.logins.Logins.{Logins}
use Rattle.iscsi_stream.specs.Segment.{logins_after}
use Rattle.iscsi_stream.specs.Stream.{pdu_len}
use Rattle.iscsi_stream.specs.Framing.{Framing, length_at, is_whole_pdu, is_ready, pdu_given_up, last_place}
use Rattle.iscsi_stream.specs.inner.Gathering.{filling, IsBody}
use Rattle.iscsi_stream.proofs.HeadLemmas.{means_of}
use Rattle.iscsi_stream.proofs.GatheringLemmas.{is_full, length-body, length_at-front}

pub apart : {b : Bool} → b ≡ true → b ≡ false → ⊥
apart p q = absurd cc

pub both_true : (a b : Bool) → (a && b) ≡ true → (a ≡ true) × (b ≡ true)
both_true true b e = (refl, e)
both_true false b e = absurd cc

pub and_left : (a b : Bool) → (a && b) ≡ true → a ≡ true
and_left a b e = (both_true a b e).0

pub and_right : (a b : Bool) → (a && b) ≡ true → b ≡ true
and_right a b e = (both_true a b e).1

not_true : (a : Bool) → not a ≡ true → a ≡ false
not_true true e = absurd cc
not_true false e = refl

pub is_whole-is : (b : List ℕ) → is_whole_pdu b ≡ true → (48 ≤ length b) × (length b ≡ pdu_len (length_at b))
unfolding is_whole_pdu
is_whole-is b e =
    let both = both_true (not (nat_lt (length b) 48)) (length b == pdu_len (length_at b)) e in
    (ltb-false _ _ (not_true (nat_lt (length b) 48) both.0), eqb-true _ _ both.1)

pub short_not : (b : List ℕ) → length b < 48 → is_whole_pdu b ≡ true → ⊥
short_not b lt e = omega (arith, (is_whole-is b e).0)

pub not_whole-nil : is_whole_pdu [] ≡ false
unfolding is_whole_pdu
not_whole-nil = refl

-- ---- a body

-- a body that lacks some of its segment or its padding
pub body_not : (limit : ℕ) (header segment : List ℕ) (room : ℕ) (h : Head) (len padded : ℕ) → length header ≡ 48 →
    IsBody limit header (filling segment padded) room h len
    → length segment + padded < len + padding len
    → is_whole_pdu (header ++ (segment ++ replicate padded 0)) ≡ true → ⊥
body_not limit header segment room h len padded size body lt e =
    omega (
      arith,
      (is_whole-is (header ++ (segment ++ replicate padded 0)) e).1,
      length-body header segment padded size,
      ap pdu_len (length_at-front header (segment ++ replicate padded 0) h len size body.says),
    )

pub body_whole : (limit : ℕ) (header segment : List ℕ) (room : ℕ) (h : Head) (len padded : ℕ) → length header ≡ 48 →
    IsBody limit header (filling segment padded) room h len → len ≤ length segment → padding len ≤ padded
    → is_whole_pdu (header ++ (segment ++ replicate padded 0)) ≡ true
body_whole limit header segment room h len padded size body full all =
    let at = length_at-front header (segment ++ replicate padded 0) h len size body.says in
    is_full (header ++ (segment ++ replicate padded 0)) (omega (arith, length-body header segment padded size))
    (omega (arith, length-body header segment padded size, ap pdu_len at, body.no_more, body.no_more_padding))

pub body_means : (limit : ℕ) (header segment : List ℕ) (room : ℕ) (h : Head) (len padded : ℕ) → length header ≡ 48 →
    IsBody limit header (filling segment padded) room h len → len ≤ length segment → padding len ≤ padded
    → Means (header ++ (segment ++ replicate padded 0)) h segment
body_means limit header segment room h len padded size body full all =
    let behind = segment ++ replicate padded 0 in
    let same : len ≡ length segment = omega (arith, body.no_more) in
    means_of (header ++ behind) h segment
    (subst (λ (x : List ℕ). IsHeader x h (length segment)) (sym (take_at header behind 48 size)) (subst (λ (n : ℕ). IsHeader header h n) same body.says))
    (omega (arith, length-body header segment padded size, body.no_more_padding, ap padding same))
    (ap (take (length segment)) (drop_at header behind 48 size) ∙ take_at segment (replicate padded 0) (length segment) refl)

-- ---- readiness

pub ready_of : (failed : Bool) (held : List ℕ) → failed ≡ false → is_whole_pdu held ≡ true → (not failed && is_whole_pdu held) ≡ true
ready_of failed held live whole = rw (live, whole) refl

pub whole_of : (failed : Bool) (held : List ℕ) → (not failed && is_whole_pdu held) ≡ true → is_whole_pdu held ≡ true
whole_of failed held e = (both_true (not failed) (is_whole_pdu held) e).1

pub live_of : (failed : Bool) (held : List ℕ) → (not failed && is_whole_pdu held) ≡ true → failed ≡ false
live_of failed held e = not_true failed (both_true (not failed) (is_whole_pdu held) e).0

pub false_if : (b : Bool) → (b ≡ true → ⊥) → b ≡ false
false_if true f = absurd (f refl)
false_if false f = refl

pub unready_of : (failed : Bool) (held : List ℕ) → failed ≡ false → (not failed && is_whole_pdu held) ≡ false → is_whole_pdu held ≡ false
unready_of failed held live e = false_if (is_whole_pdu held) (λ whole. apart (ready_of failed held live whole) e)

pub none_not : {P : Type 0} → (let f : Bool = false in f ≡ true) → P
none_not e = absurd (apart {b = false} e refl)

-- where no PDU is lent none is ready
pub unready_if : (v : Framing) → (IsTrue (is_ready v) → (let f : Bool = false in f ≡ true)) → is_ready v ≡ false
unready_if v f = false_if (is_ready v) (λ e. none_not (f e))

-- what is left of a framer that gives a PDU up
pub given_up-is : (v : Framing) (limit place : ℕ) (logins : Logins) (room : ℕ) (h : Head) → limit ≡ v.limit → place ≡ min (v.place + length v.held) last_place →
    logins ≡ logins_after v.logins h → room ≡ v.room → v.failed ≡ false
    → (let w : Framing = record { limit = limit; place = place; logins = logins; held = []; room = room; failed = false } in w ≡ pdu_given_up v h)
given_up-is v limit place logins room h a b c d e = rw (a, b, c, d, e) refl
