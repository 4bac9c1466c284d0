-- A framer that takes bytes and gives PDUs up, whichever pieces the bytes came in.
use Rattle.std.proofs.Common.{◌≡◌, ℕ, ◌≤◌, Bool, false, List, [], ◌∷◌, ◌++◌, length, take, drop, refl, sym, ap, subst, ◌∙◌, arith, inl, inr, max, append-nil}
use Rattle.std.proofs.Common.{append_assoc}
use Rattle.std.proofs.lemmas.Bool.{cases_lt}
use Rattle.std.proofs.lemmas.List.{length-append, take-append-drop, take-append-le, drop_at}
use Rattle.iscsi_pdu.specs.declared.head.Head.{Head}
use Rattle.iscsi_pdu.specs.Meaning.{Means}
use Rattle.iscsi_stream.specs.declared.logins.Logins.{Logins}
use Rattle.iscsi_stream.specs.Segment.{no_login, continues, logins_after, segment_of}
use Rattle.iscsi_stream.specs.Stream.{Message, ReadsAs, logins_after_all, SplitsStream, pdu_len}
use Rattle.iscsi_stream.specs.Framing.{Framing, opening_framing, settled, is_whole_pdu, length_at, begun_len, longest_of, IsBegun, FramerTakes, HasTaken, FramerMoves, pdu_given_up}
use Rattle.iscsi_stream.specs.Framing.{message_of}
use Rattle.iscsi_stream.proofs.HeadLemmas.{length_at-same, means-length}
use Rattle.iscsi_stream.proofs.GatheringLemmas.{begun_len-short, begun_len-long}
use Rattle.iscsi_stream.proofs.SettledBytesLemmas.{settled-short, settled-append, length-settled, length_at-settled, is_whole-settled, IsBegun-from_settled}
use Rattle.iscsi_stream.proofs.SettledBytesLemmas.{Means-from_settled}
use Rattle.iscsi_stream.proofs.OneMeaningLaw.{reads_one_more, after_all-snoc, no_pdu_begun}

settled-nil : settled [] ≡ []
settled-nil = settled-short [] (omega arith)

-- ---- the room of its buffer

-- the padding says no other length
pub begun_len-settled : (bytes : List ℕ) → begun_len (settled bytes) ≡ begun_len bytes
begun_len-settled bytes =
    elim (cases_lt (length bytes) 48) [
      | inl lt ↦ begun_len-short (settled bytes) (omega (arith, length-settled bytes)) ∙ sym (begun_len-short bytes lt)
      | inr ge ↦ begun_len-long (settled bytes) (omega (arith, length-settled bytes)) ∙ length_at-settled bytes ∙ sym (begun_len-long bytes ge)
    ]

-- the length that a front says is that of the whole
pub length_at-front : (front rest : List ℕ) → 48 ≤ length front → length_at (front ++ rest) ≡ length_at front
length_at-front front rest long = length_at-same (front ++ rest) front (take-append-le 48 front rest long)

-- more bytes say no less
pub begun_len-more : (bytes more : List ℕ) → begun_len bytes ≤ begun_len (bytes ++ more)
begun_len-more bytes more =
    elim (cases_lt (length bytes) 48) [
      | inl lt ↦ omega (arith, begun_len-short bytes lt)
      | inr ge ↦
          omega (arith, begun_len-long bytes ge, begun_len-long (bytes ++ more) (omega (arith, length-append bytes more)), length_at-front bytes more ge)
    ]

-- room for a rest and then for more of it
room-more : (room longest : ℕ) (held rest more : List ℕ) → room ≡ max longest (begun_len rest) → settled (held ++ more) ≡ settled (rest ++ more)
    → max room (begun_len (settled (held ++ more))) ≡ max longest (begun_len (rest ++ more))
room-more room longest held rest more is same =
    omega (arith, is, ap begun_len same, begun_len-settled (rest ++ more), begun_len-more rest more)

-- one more PDU
longest-snoc : (limit : ℕ) (logins : Logins) (given : List ℕ) (ms : List Message) (rest : List ℕ) (m : Message) → ReadsAs limit logins given ms
    → longest_of (ms ++ m ∷ []) (given ++ rest) ≡ max (longest_of ms given) (length_at rest)
unfolding ReadsAs longest_of
longest-snoc limit logins given [] rest m reads =
    let same : length_at (given ++ rest) ≡ length_at rest = ap (λ (x : List ℕ). length_at (x ++ rest)) reads in
    omega (arith, same)
longest-snoc limit logins given (k ∷ ms) rest m reads =
    let b = reads.0 in
    let bytes = b.bytes in
    let long : 48 ≤ length bytes = omega (arith, b.means.size) in
    let n : length_at bytes ≡ length b.segment = sym (means-length bytes k.head b.segment b.means) in
    let size : pdu_len (length_at bytes) ≡ length bytes = ap pdu_len n ∙ sym b.means.size in
    let first : length_at given ≡ length_at bytes = ap length_at b.whole ∙ length_at-front bytes b.rest long in
    let whole : given ++ rest ≡ bytes ++ (b.rest ++ rest) = ap (λ (x : List ℕ). x ++ rest) b.whole ∙ append_assoc bytes b.rest rest in
    let first' : length_at (given ++ rest) ≡ length_at bytes = ap length_at whole ∙ length_at-front bytes (b.rest ++ rest) long in
    let behind : drop (pdu_len (length_at given)) given ≡ b.rest =
    ap (λ (j : ℕ). drop (pdu_len j) given) first ∙ ap (λ (j : ℕ). drop j given) size ∙ ap (drop (length bytes)) b.whole
    ∙ drop_at bytes b.rest (length bytes) refl in
    let behind' : drop (pdu_len (length_at (given ++ rest))) (given ++ rest) ≡ b.rest ++ rest =
    ap (λ (j : ℕ). drop (pdu_len j) (given ++ rest)) first' ∙ ap (λ (j : ℕ). drop j (given ++ rest)) size ∙ ap (drop (length bytes)) whole
    ∙ drop_at bytes (b.rest ++ rest) (length bytes) refl in
    let more = longest-snoc limit (logins_after logins k.head) b.rest ms rest m reads.1 in
    omega (arith, first, first', ap (longest_of ms) behind, ap (longest_of (ms ++ m ∷ [])) behind', more)

-- ---- what it takes and gives up

pub at_opening : (limit : ℕ) → HasTaken [] [] (opening_framing limit)
unfolding ReadsAs longest_of begun_len
at_opening limit = record {
  given = [];
  rest = [];
  whole = refl;
  reads = refl;
  place = refl;
  logins = refl;
  held = sym settled-nil;
  room = refl;
  begun = λ long. absurd (omega arith);
  live = refl;
}

pub fed : (s : List ℕ) (ms : List Message) (v : Framing) (p : List ℕ) (n : ℕ) (w : Framing) → HasTaken s ms v → FramerTakes v p n w
    → HasTaken (s ++ take n p) ms w
fed s ms v p n w h t =
    let q = take n p in
    let held : settled (v.held ++ q) ≡ settled (h.rest ++ q) = ap (λ (x : List ℕ). settled (x ++ q)) h.held ∙ settled-append h.rest q in
    let begun_at : (u : Framing) → w ≡ u → IsBegun u.limit u.held = λ u e. subst (λ (x : Framing). IsBegun x.limit x.held) e t.begun in
    subst (HasTaken (s ++ q) ms) (sym t.gathered) (record {
      given = h.given;
      rest = h.rest ++ q;
      whole = ap (λ (x : List ℕ). x ++ q) h.whole ∙ append_assoc h.given h.rest q;
      reads = h.reads;
      place = h.place;
      logins = h.logins;
      held = held;
      room = room-more v.room (longest_of ms h.given) v.held h.rest q h.room held;
      begun = IsBegun-from_settled v.limit (h.rest ++ q) (subst (IsBegun v.limit) held (begun_at _ t.gathered));
      live = h.live;
    })

pub gave : (s : List ℕ) (ms : List Message) (v : Framing) (h : Head) (d : List ℕ) → HasTaken s ms v → Means v.held h d →
    HasTaken s (ms ++ message_of v h d ∷ []) (pdu_given_up v h)
gave s ms v h d t m =
    let means = Means-from_settled t.rest h d (subst (λ (x : List ℕ). Means x h d) t.held m) in
    let good = (t.begun (omega (arith, means.size))).1 in
    let within : length d ≤ v.limit = omega (arith, means-length t.rest h d means, good.within) in
    let flag : continues (logins_after_all no_login ms) h ≡ continues v.logins h = ap (λ (x : Logins). continues x h) (sym t.logins) in
    let held : length v.held ≡ length t.rest = ap length t.held ∙ length-settled t.rest in
    record {
      given = t.given ++ t.rest;
      rest = [];
      whole = t.whole ∙ sym (append-nil (t.given ++ t.rest));
      reads = subst (λ (c : Bool). ReadsAs v.limit no_login (t.given ++ t.rest) (ms ++ record { head = h; segment = segment_of c h d } ∷ [])) flag
          (reads_one_more v.limit no_login t.given ms t.rest h d t.reads means within);
      place = omega (arith, t.place, held, length-append t.given t.rest);
      logins = ap (λ (x : Logins). logins_after x h) t.logins ∙ sym (after_all-snoc no_login ms (message_of v h d));
      held = sym settled-nil;
      room = omega (
        arith,
        t.room,
        begun_len-long t.rest (omega (arith, means.size)),
        longest-snoc v.limit no_login t.given ms t.rest (message_of v h d) t.reads,
        begun_len-short [] (omega arith),
      );
      begun = λ long. absurd (omega arith);
      live = t.live;
    }

pub taken_at : (s s' : List ℕ) (ms ms' : List Message) (v : Framing) → s ≡ s' → ms ≡ ms' → HasTaken s ms v → HasTaken s' ms' v
taken_at s s' ms ms' v p q t = subst (λ (x : List ℕ). HasTaken x ms' v) p (subst (λ (x : List Message). HasTaken s x v) q t)

pub moves_none : (v : Framing) → FramerMoves v v [] []
moves_none v s ms t = taken_at s (s ++ []) ms (ms ++ []) v (sym (append-nil s)) (sym (append-nil ms)) t

pub moves_fed : (v : Framing) (p : List ℕ) (n : ℕ) (w : Framing) → FramerTakes v p n w → FramerMoves v w (take n p) []
moves_fed v p n w takes s ms t = taken_at (s ++ take n p) (s ++ take n p) ms (ms ++ []) w refl (sym (append-nil ms)) (fed s ms v p n w t takes)

pub moves_gave : (v : Framing) (h : Head) (d : List ℕ) → Means v.held h d → FramerMoves v (pdu_given_up v h) [] (message_of v h d ∷ [])
moves_gave v h d means s ms t = taken_at s (s ++ []) (ms ++ message_of v h d ∷ []) (ms ++ message_of v h d ∷ []) (pdu_given_up v h)
    (sym (append-nil s)) refl (gave s ms v h d t means)

pub moves_then : (a b c : Framing) (x y : List ℕ) (ms ns : List Message) → FramerMoves a b x ms → FramerMoves b c y ns → FramerMoves a c (x ++ y) (ms ++ ns)
moves_then a b c x y ms ns p q s ks t =
    taken_at ((s ++ x) ++ y) (s ++ (x ++ y)) ((ks ++ ms) ++ ns) (ks ++ (ms ++ ns)) c (append_assoc s x y) (append_assoc ks ms ns)
    (q (s ++ x) (ks ++ ms) (p s ks t))

-- where no PDU is ready, the bytes taken split where the framer says
pub splits_taken : (s : List ℕ) (ms : List Message) (v : Framing) (t : HasTaken s ms v) → is_whole_pdu v.held ≡ false → SplitsStream v.limit s ms t.given t.rest
splits_taken s ms v t part = record {
  reaches = record { whole = t.whole; reads = t.reads };
  no_more = no_pdu_begun v.limit t.rest t.begun (sym (is_whole-settled t.rest) ∙ ap is_whole_pdu (sym t.held) ∙ part);
}

-- ---- bytes that complete no PDU

pub taken_more : (piece front rest : List ℕ) (n : ℕ) → piece ≡ front ++ rest → piece ≡ (front ++ take n rest) ++ drop n rest
taken_more piece front rest n e = e ∙ ap (λ (x : List ℕ). front ++ x) (sym (take-append-drop n rest)) ∙ sym (append_assoc front (take n rest) (drop n rest))

pub moves_taken : (a b c : Framing) (x : List ℕ) (n : ℕ) (rest : List ℕ) (ms : List Message) → FramerMoves a b x ms → FramerTakes b rest n c →
    FramerMoves a c (x ++ take n rest) ms
moves_taken a b c x n rest ms p t = subst (λ (ks : List Message). FramerMoves a c (x ++ take n rest) ks) (append-nil ms)
    (moves_then a b c x (take n rest) ms [] p (moves_fed b rest n c t))
