-- A framer that stops at the end of a header, and whose caller takes the rest of the PDU.
use Rattle.std.proofs.Common.{◌≡◌, ℕ, ◌+◌, ◌-◌, ◌<◌, ◌≤◌, Bool, false, true, List, [], ◌++◌, length, take, drop, min, max, replicate, refl, sym, ap, subst, ◌∙◌, arith, inl, inr}
use Rattle.std.proofs.Common.{append_assoc}
use Rattle.std.specs.Prelude.{Result, Ok, Err, IfOk, IfErr}
use Rattle.std.proofs.lemmas.Bool.{cases_lt}
use Rattle.std.proofs.lemmas.List.{length-append, length-take, length-drop, take-append-drop, take-append-le, take_all}
use Rattle.iscsi_pdu.specs.declared.head.Head.{Head}
use Rattle.iscsi_pdu.specs.Meaning.{IsHeader, Means, padding}
use Rattle.iscsi_stream.specs.declared.fault.StreamFault.{StreamFault}
use Rattle.iscsi_stream.specs.declared.fault.StreamFault.TheVariants as faults
use Rattle.iscsi_stream.specs.declared.logins.Logins.{Logins}
use Rattle.iscsi_stream.specs.Segment.{logins_after}
use Rattle.iscsi_stream.specs.Stream.{pdu_len}
use Rattle.iscsi_stream.specs.Framing.{Framing, FramerTakes, FramerFeedFails, ReachesHeader, settled, begun_len, is_whole_pdu, is_ready, pdu_given_up, last_place}
use Rattle.iscsi_stream.specs.inner.Gathering.{filling, IsBody, FillsBody}
use Rattle.iscsi_stream.specs.Headers.{TakesHeader, skipped}
use Rattle.iscsi_stream.specs.inner.Headers.{with_body}
use Rattle.iscsi_stream.proofs.SettledBytesLemmas.{length-settled, settled-append}
use Rattle.iscsi_stream.proofs.GatheringLemmas.{gathers_body, take-add, room-body, length-body}
use Rattle.iscsi_stream.proofs.TakingLemmas.{begun_len-settled, begun_len-more}
use Rattle.iscsi_stream.proofs.ReadyLemmas.{is_whole-is, false_if, body_not, body_whole, body_means, ready_of}

-- ---- up to the end of a header

-- all of the bytes that reach no farther than the end of a header are taken
all_taken : (v : Framing) (k n : ℕ) (piece : List ℕ) (w : Framing) → k ≡ min (length piece) (48 - length v.held) → FramerTakes v (take k piece) n w → n ≡ k
all_taken v k n piece w is t =
    let size : length (take k piece) ≡ k = omega (arith, length-take k piece, is) in
    elim (cases_lt n k) [
      | inl lt ↦
          let held : length w.held ≡ length v.held + n = ap (λ (x : Framing). length x.held) t.gathered ∙ length-settled (v.held ++ take n (take k piece))
          ∙ omega (arith, length-append v.held (take n (take k piece)), length-take n (take k piece), size, lt) in
          absurd (omega (arith, (is_whole-is w.held (t.stops (omega (arith, size)))).0, held, is))
      | inr ge ↦ omega (arith, t.bound, size)
    ]

pub takes_header : (v : Framing) (k n : ℕ) (piece : List ℕ) (w : Framing) → k ≡ min (length piece) (48 - length v.held) → FramerTakes v (take k piece) n w →
    TakesHeader v piece n w
takes_header v k n piece w is t =
    let same = all_taken v k n piece w is t in
    let size : length (take k piece) ≡ k = omega (arith, length-take k piece, is) in
    let held : length w.held ≡ length v.held + n = ap (λ (x : Framing). length x.held) t.gathered ∙ length-settled (v.held ++ take n (take k piece))
    ∙ omega (arith, length-append v.held (take n (take k piece)), length-take n (take k piece), size, same) in
    record {
      bound = omega (arith, same, is);
      takes = subst (λ (j : ℕ). FramerTakes v (take j piece) n w) (sym same) t;
      no_more = omega (arith, same, is);
      stops = λ lt. omega (arith, held, is, same);
    }

-- bytes that reach the end of a header do so with more behind them
reaches_more : (held piece : List ℕ) (k : ℕ) → ReachesHeader held (take k piece) →
    ReachesHeader held piece × (take 48 (held ++ take k piece) ≡ take 48 (held ++ piece))
reaches_more held piece k r =
    let whole : (held ++ take k piece) ++ drop k piece ≡ held ++ piece = append_assoc held (take k piece) (drop k piece)
    ∙ ap (λ (x : List ℕ). held ++ x) (take-append-drop k piece) in (
      record {
        before = r.before;
        reached = omega (arith, r.reached, ap length whole, length-append (held ++ take k piece) (drop k piece));
      },
      sym (take-append-le 48 (held ++ take k piece) (drop k piece) r.reached) ∙ ap (take 48) whole,
    )

pub fails_header : (v : Framing) (piece : List ℕ) (k : ℕ) (e : StreamFault) → FramerFeedFails v (take k piece) e → FramerFeedFails v piece e
fails_header v piece k faults.NoMemory f =
    let more = reaches_more v.held piece k f.1.2.reaches in
    (f.0, (f.1.0, f.1.1, record { reaches = more.0; header = subst (λ (b : List ℕ). IsHeader b f.1.0 f.1.1) more.1 f.1.2.header }, f.1.3, f.1.4))
fails_header v piece k (faults.Head fault place) f = let more = reaches_more v.held piece k f.1 in (f.0, more.0, rw (← more.1) f.2, f.3)
fails_header v piece k (faults.OverLimit place) f =
    let more = reaches_more v.held piece k f.1.2.reaches in
    (f.0, (f.1.0, f.1.1, record { reaches = more.0; header = subst (λ (b : List ℕ). IsHeader b f.1.0 f.1.1) more.1 f.1.2.header }, f.1.3), f.2)
fails_header v piece k (faults.Truncated place) f = absurd f
fails_header v piece k faults.Failed f = f

pub if_ok : {A E : Type 0} (P Q : A → Type 0) (r : Result A E) → ((x : A) → P x → Q x) → IfOk r P → IfOk r Q
if_ok P Q (Ok x) f h = f x h
if_ok P Q (Err e) f h = tt

pub if_err : {A E : Type 0} (P Q : E → Type 0) (r : Result A E) → ((e : E) → P e → Q e) → IfErr r P → IfErr r Q
if_err P Q (Ok x) f h = tt
if_err P Q (Err e) f h = f e h

-- framings by their parts
framing_is : (limit limit' place place' : ℕ) (logins logins' : Logins) (held held' : List ℕ) (room room' : ℕ) (failed failed' : Bool) →
    limit ≡ limit' → place ≡ place' → logins ≡ logins' → held ≡ held' → room ≡ room' → failed ≡ failed' →
    (let x : Framing = record { limit = limit; place = place; logins = logins; held = held; room = room; failed = failed } in
    let y : Framing = record { limit = limit'; place = place'; logins = logins'; held = held'; room = room'; failed = failed' } in x ≡ y)
framing_is limit limit' place place' logins logins' held held' room room' failed failed' a b c d e f = rw (a, b, c, d, e, f) refl

-- a header, and then more bytes
pub takes_both : (old mid new : Framing) (piece rest : List ℕ) (n m : ℕ) → rest ≡ drop n piece → TakesHeader old piece n mid → FramerTakes mid rest m new →
    FramerTakes old piece (n + m) new
takes_both old mid new piece rest n m is h t =
    let size : length rest ≡ length piece - n = ap length is ∙ length-drop n piece in
    let front : take n (take n piece) ≡ take n piece = take_all n (take n piece) (omega (arith, length-take n piece)) in
    let held : mid.held ≡ settled (old.held ++ take n piece) = ap (λ (x : Framing). x.held) h.takes.gathered
    ∙ ap (λ (x : List ℕ). settled (old.held ++ x)) front in
    let bytes : (old.held ++ take n piece) ++ take m rest ≡ old.held ++ take (n + m) piece = append_assoc old.held (take n piece) (take m rest)
    ∙ ap (λ (x : List ℕ). old.held ++ (take n piece ++ take m x)) is ∙ ap (λ (x : List ℕ). old.held ++ x) (sym (take-add n m piece)) in
    let all : settled (mid.held ++ take m rest) ≡ settled (old.held ++ take (n + m) piece) =
    ap (λ (x : List ℕ). settled (x ++ take m rest)) held ∙ settled-append (old.held ++ take n piece) (take m rest) ∙ ap settled bytes in
    let more : begun_len (settled (old.held ++ take n piece)) ≤ begun_len (settled (old.held ++ take (n + m) piece)) = omega (
      arith,
      begun_len-settled (old.held ++ take n piece),
      begun_len-settled (old.held ++ take (n + m) piece),
      begun_len-more (old.held ++ take n piece) (take m rest),
      ap begun_len bytes,
    ) in
    let room : max mid.room (begun_len (settled (mid.held ++ take m rest))) ≡ max old.room (begun_len (settled (old.held ++ take (n + m) piece))) =
    omega (arith, ap (λ (x : Framing). x.room) h.takes.gathered, ap (λ (x : List ℕ). begun_len (settled (old.held ++ x))) front, ap begun_len all, more) in
    record {
      live = h.takes.live;
      bound = omega (arith, h.bound, t.bound, size);
      gathered = t.gathered ∙ framing_is mid.limit old.limit mid.place old.place mid.logins old.logins (settled (mid.held ++ take m rest))
          (settled (old.held ++ take (n + m) piece)) (max mid.room (begun_len (settled (mid.held ++ take m rest))))
          (max old.room (begun_len (settled (old.held ++ take (n + m) piece)))) mid.failed old.failed
          (ap (λ (x : Framing). x.limit) h.takes.gathered) (ap (λ (x : Framing). x.place) h.takes.gathered)
          (ap (λ (x : Framing). x.logins) h.takes.gathered) all room (ap (λ (x : Framing). x.failed) h.takes.gathered);
      begun = t.begun;
      stops = λ lt. t.stops (omega (arith, size));
    }

-- ---- a PDU that is given up at its header

pub skipped_is : (v : Framing) (limit place : ℕ) (logins : Logins) (room : ℕ) (h : Head) (len : ℕ) → limit ≡ v.limit → place ≡ min (v.place + pdu_len len)
    last_place →
    logins ≡ logins_after v.logins h → room ≡ v.room → v.failed ≡ false
    → (let w : Framing = record { limit = limit; place = place; logins = logins; held = []; room = room; failed = false } in w ≡ skipped v h len)
skipped_is v limit place logins room h len a b c d e = rw (a, b, c, d, e) refl

-- ---- a body that is taken elsewhere

-- bytes that go to it are taken as the framer takes them
pub fills : (v : Framing) (segment : List ℕ) (padded : ℕ) (h : Head) (len : ℕ) (piece : List ℕ) (n : ℕ) (segment_new : List ℕ) (padded_new : ℕ) →
    v.failed ≡ false → IsBody v.limit v.held (filling segment padded) v.room h len → FillsBody len (filling segment padded) piece n
    (filling segment_new padded_new) →
    FramerTakes (with_body v segment padded) piece n (with_body v segment_new padded_new) × IsBody v.limit v.held (filling segment_new padded_new) v.room h len
fills v segment padded h len piece n segment_new padded_new live body f =
    let both = gathers_body v.limit v.held segment v.room h len padded piece n segment_new v.room padded_new body.says.size body f body.has_room in
    let room : v.room ≡ max v.room (begun_len (v.held ++ (segment_new ++ replicate padded_new 0))) =
    room-body v.room v.held (segment_new ++ replicate padded_new 0) h len body.says.size body.says body.has_room in (
      record {
        live = live;
        bound = both.0.bound;
        gathered = framing_is v.limit v.limit v.place v.place v.logins v.logins (v.held ++ (segment_new ++ replicate padded_new 0))
            (settled ((v.held ++ (segment ++ replicate padded 0)) ++ take n piece)) v.room
            (max v.room (begun_len (settled ((v.held ++ (segment ++ replicate padded 0)) ++ take n piece)))) v.failed v.failed refl refl refl both.0.gathered
            (room ∙ ap (λ (x : List ℕ). max v.room (begun_len x)) both.0.gathered) refl;
        begun = both.0.begun;
        stops = both.0.stops;
      },
      both.1,
    )

pub body_ready : (v : Framing) (segment : List ℕ) (padded : ℕ) (h : Head) (len : ℕ) → v.failed ≡ false → IsBody v.limit v.held (filling segment padded)
    v.room h len →
    len ≤ length segment → padding len ≤ padded → is_ready (with_body v segment padded) ≡ true
body_ready v segment padded h len live body full all =
    ready_of v.failed (v.held ++ (segment ++ replicate padded 0)) live (body_whole v.limit v.held segment v.room h len padded body.says.size body full all)

pub body_unready : (v : Framing) (segment : List ℕ) (padded : ℕ) (h : Head) (len : ℕ) → IsBody v.limit v.held (filling segment padded) v.room h len →
    length segment + padded < len + padding len → is_whole_pdu (with_body v segment padded).held ≡ false
body_unready v segment padded h len body lt =
    false_if (is_whole_pdu (v.held ++ (segment ++ replicate padded 0))) (body_not v.limit v.held segment v.room h len padded body.says.size body lt)

pub body_stands : (v : Framing) (segment : List ℕ) (padded : ℕ) (h : Head) (len : ℕ) → IsBody v.limit v.held (filling segment padded) v.room h len →
    len ≤ length segment → padding len ≤ padded → Means (with_body v segment padded).held h segment
body_stands v segment padded h len body full all = body_means v.limit v.held segment v.room h len padded body.says.size body full all

-- given up whole it is given up as at its header
pub given_up-skipped : (v : Framing) (segment : List ℕ) (padded : ℕ) (h : Head) (len : ℕ) → IsBody v.limit v.held (filling segment padded) v.room h len →
    len ≤ length segment → padding len ≤ padded → skipped v h len ≡ pdu_given_up (with_body v segment padded) h
given_up-skipped v segment padded h len body full all =
    let size : pdu_len len ≡ length (v.held ++ (segment ++ replicate padded 0)) =
    omega (arith, length-body v.held segment padded body.says.size, body.no_more, body.no_more_padding, full, all) in
    rw size refl
