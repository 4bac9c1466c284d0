-- What one side of a comparison has read, and how it goes on.
use Rattle.std.proofs.Common.{◌≡◌, ℕ, zero, suc, ◌+◌, ◌-◌, ◌<◌, ◌≤◌, ◌^◌, min, Bool, true, false, List, [], ◌∷◌, ◌++◌, length, take, drop, Option, refl, sym}
use Rattle.std.proofs.Common.{ap, subst, ◌∙◌, arith, append-nil, append_assoc, ◌⊎◌, inl, inr}
use Rattle.std.specs.Prelude.{IsTrue}
use Rattle.std.specs.Io.KnownBytes.{Consumes, Keeps, IsAtEnd}
use Rattle.std.proofs.KnownBytes.{Consumes-nil, Consumes-trans, Consumes-kept}
use Rattle.std.proofs.lemmas.List.{length-append, length-take, take-append-drop, drop-take, drop_all, nil_from_length}
use Rattle.iscsi_pdu.specs.declared.head.Head.{Head}
use Rattle.iscsi_pdu.specs.Meaning.{Means, AreBytes}
use Rattle.iscsi_pdu.proofs.HeaderLemmas.{IsHeader-short}
use Rattle.iscsi_stream.specs.declared.fault.StreamFault.{StreamFault}
use Rattle.iscsi_stream.specs.declared.fault.StreamFault.TheVariants as stream
use Rattle.iscsi_stream.specs.Segment.{no_login}
use Rattle.iscsi_stream.specs.Stream.{Message, longest_segment, BeginsWithPdus, SplitsStream, ReadsAs}
use Rattle.iscsi_stream.specs.Framing.{Framing, opening_framing, is_whole_pdu, is_ready, IsBegun, FramerTakes, FramerFeedFails, FinishFails, pdu_given_up, message_of, last_place}
use Rattle.iscsi_stream.proofs.HeadLemmas.{AreBytes-take}
use Rattle.iscsi_stream.proofs.SettledBytesLemmas.{length-settled}
use Rattle.iscsi_stream.proofs.ReadyLemmas.{apart, unready_of}
use Rattle.iscsi_stream.proofs.OneMeaningLaw.{AreBytes-back}
use Rattle.iscsi_stream.proofs.PassingLemmas.{header_splits, limit_splits}
use Rattle.iscsi_stream.proofs.TakingLemmas.{at_opening, fed, gave, splits_taken}
use Rattle.iscsi_stream.proofs.NormalisingLemmas.{AreBytes-append}
use Rattle.iscsi_compare.specs.declared.fault.Which.{Which}
use Rattle.iscsi_compare.specs.declared.fault.CompareFault.TheVariants as fault
use Rattle.iscsi_compare.specs.declared.side.Side.{Side}
use Rattle.iscsi_compare.specs.Comparing.{ReadInput, BeginsWithMessages, NoPduFollows, StandsAtPlace, MeansAll}
use Rattle.iscsi_compare.specs.inner.Comparing.{input_of}
use Rattle.iscsi_compare.specs.inner.Inside.{compare_fault, pending, fuel, SideHasRead, SideFails, PdusGivenUp, HasRead, SideReadsOn}

-- ---- what is pending

drop-drop : (m n : ℕ) (xs : List ℕ) → drop n (drop m xs) ≡ drop (m + n) xs
drop-drop zero n xs = (let on : zero + n ≡ n = omega arith in ap (λ k. drop k xs) (sym on))
drop-drop (suc m) n [] = drop_all n [] (omega arith) ∙ sym (drop_all (suc m + n) [] (omega arith))
drop-drop (suc m) n (x ∷ xs) = (let on : suc m + n ≡ suc (m + n) = omega arith in drop-drop m n xs ∙ ap (λ k. drop k (x ∷ xs)) (sym on))

pub pending_after : (from to n : ℕ) (piece : List ℕ) → from + n ≤ to → drop n (take (to - from) (drop from piece))
    ≡ take (to - (from + n)) (drop (from + n) piece)
pending_after from to n piece le =
    let parts : to - from ≡ n + (to - (from + n)) = omega arith in
    ap (λ k. drop n (take k (drop from piece))) parts ∙ drop-take n (to - (from + n)) (drop from piece) ∙ ap (take (to - (from + n))) (drop-drop from n piece)

-- ---- how it goes on

pub read_none : PdusGivenUp [] [] (opening_framing longest_segment) [] 0
read_none = record {
  front = [];
  whole = refl;
  taken = at_opening longest_segment;
  bytes = λ k. omega arith;
  limit = refl;
  small = omega arith;
  counted = omega arith;
}

pub read_fed : (read : List ℕ) (ms : List Message) (v w : Framing) (rest : List ℕ) (n k : ℕ) → PdusGivenUp read ms v rest k → FramerTakes v rest n w →
    PdusGivenUp read ms w (drop n rest) k
read_fed read ms v w rest n k r takes = record {
  front = r.front ++ take n rest;
  whole = r.whole ∙ ap (λ (x : List ℕ). r.front ++ x) (sym (take-append-drop n rest)) ∙ sym (append_assoc r.front (take n rest) (drop n rest));
  taken = fed r.front ms v rest n w r.taken takes;
  bytes = r.bytes;
  limit = ap (λ (x : Framing). x.limit) takes.gathered ∙ r.limit;
  small = r.small;
  counted = r.counted;
}

pub read_given : (read : List ℕ) (ms : List Message) (v : Framing) (rest : List ℕ) (k : ℕ) (h : Head) (d : List ℕ) → PdusGivenUp read ms v rest k
    → Means v.held h d
    → PdusGivenUp read (ms ++ message_of v h d ∷ []) (pdu_given_up v h) rest k
read_given read ms v rest k h d r means = record {
  front = r.front;
  whole = r.whole;
  taken = gave r.front ms v h d r.taken means;
  bytes = r.bytes;
  limit = r.limit;
  small = r.small;
  counted = r.counted;
}

pub read_more : (read piece : List ℕ) (ms : List Message) (v : Framing) (k : ℕ) → PdusGivenUp read ms v [] k → AreBytes piece → length piece ≤ 4096
    → k < 16777216 →
    PdusGivenUp (read ++ piece) ms v piece (k + 1)
read_more read piece ms v k r bytes short few = record {
  front = r.front;
  whole = ap (λ (x : List ℕ). x ++ piece) (r.whole ∙ append-nil r.front);
  taken = r.taken;
  bytes = AreBytes-append read piece r.bytes bytes;
  limit = r.limit;
  small = omega (arith, r.small, length-append read piece);
  counted = omega arith;
}

-- ---- what it says of the stream

reads_given : (read : List ℕ) (ms : List Message) (v : Framing) (rest : List ℕ) (k : ℕ) (r : PdusGivenUp read ms v rest k) →
    ReadsAs longest_segment no_login r.taken.given ms
reads_given read ms v rest k r = subst (λ (n : ℕ). ReadsAs n no_login r.taken.given ms) r.limit r.taken.reads

whole_given : (read : List ℕ) (ms : List Message) (v : Framing) (rest : List ℕ) (k : ℕ) (r : PdusGivenUp read ms v rest k) → read ≡ r.taken.given
    ++ (r.taken.rest ++ rest)
whole_given read ms v rest k r = r.whole ∙ ap (λ (x : List ℕ). x ++ rest) r.taken.whole ∙ append_assoc r.taken.given r.taken.rest rest

pub reaches : (read : List ℕ) (ms : List Message) (v : Framing) (rest : List ℕ) (k : ℕ) (r : PdusGivenUp read ms v rest k) →
    BeginsWithPdus longest_segment read ms r.taken.given (r.taken.rest ++ rest)
reaches read ms v rest k r = record { whole = whole_given read ms v rest k r; reads = reads_given read ms v rest k r }

pub begins : (read : List ℕ) (ms : List Message) (v : Framing) (rest : List ℕ) (k : ℕ) (left : Option (List ℕ)) → PdusGivenUp read ms v rest k →
    BeginsWithMessages (input_of read left) ms
begins read ms v rest k left r = (r.taken.given, r.taken.rest ++ rest, reaches read ms v rest k r)

short_given : (read : List ℕ) (ms : List Message) (v : Framing) (rest : List ℕ) (k : ℕ) (r : PdusGivenUp read ms v rest k) → length r.taken.given < 2 ^ 64 - 1
short_given read ms v rest k r = omega (
  arith,
  ap length (whole_given read ms v rest k r),
  length-append r.taken.given (r.taken.rest ++ rest),
  r.small,
  r.counted,
)

pub stands_at : (read : List ℕ) (ms : List Message) (v : Framing) (rest : List ℕ) (k : ℕ) (left : Option (List ℕ)) → PdusGivenUp read ms v rest k →
    StandsAtPlace (input_of read left) ms v.place
stands_at read ms v rest k left r =
    (r.taken.given, r.taken.rest ++ rest, reaches read ms v rest k r, omega (arith, r.taken.place, short_given read ms v rest k r))

-- where all is taken
splits : (read : List ℕ) (ms : List Message) (v : Framing) (k : ℕ) (r : PdusGivenUp read ms v [] k) → is_whole_pdu v.held ≡ false →
    SplitsStream longest_segment read ms r.taken.given r.taken.rest
splits read ms v k r part =
    let at : SplitsStream v.limit r.front ms r.taken.given r.taken.rest = splits_taken r.front ms v r.taken part in
    subst (λ (x : List ℕ). SplitsStream longest_segment x ms r.taken.given r.taken.rest) (sym (append-nil r.front) ∙ sym r.whole)
    (subst (λ (n : ℕ). SplitsStream n r.front ms r.taken.given r.taken.rest) r.limit at)

pub stops : (read : List ℕ) (ms : List Message) (v : Framing) (k : ℕ) (left : Option (List ℕ)) → PdusGivenUp read ms v [] k → is_ready v ≡ false →
    NoPduFollows (input_of read left) ms
stops read ms v k left r unready = (r.taken.given, r.taken.rest, splits read ms v k r (unready_of v.failed v.held r.taken.live unready))

pub means_all : (read : List ℕ) (ms : List Message) (v : Framing) (k : ℕ) (left : Option (List ℕ)) → PdusGivenUp read ms v [] k → v.held ≡ [] → IsAtEnd left →
    MeansAll (input_of read left) ms
means_all read ms v k left r none end =
    let t = r.taken in
    let rest : t.rest ≡ [] = nil_from_length t.rest (sym (length-settled t.rest) ∙ ap length (sym t.held ∙ none)) in
    let whole : t.given ≡ read = sym (r.whole ∙ append-nil r.front ∙ t.whole ∙ ap (λ (x : List ℕ). t.given ++ x) rest ∙ append-nil t.given) in
    (subst (λ (x : List ℕ). ReadsAs longest_segment no_login x ms) whole (reads_given read ms v [] k r), end)

-- ---- faults

-- a split of what a framer took and of what is pending is one of what was read
splits_read : (read : List ℕ) (ms : List Message) (v : Framing) (rest : List ℕ) (k : ℕ) (given behind : List ℕ) (r : PdusGivenUp read ms v rest k) →
    SplitsStream v.limit (r.front ++ rest) ms given behind
    → SplitsStream longest_segment read ms given behind
splits_read read ms v rest k given behind r s =
    subst (λ (x : List ℕ). SplitsStream longest_segment x ms given behind) (sym r.whole)
    (subst (λ (n : ℕ). SplitsStream n (r.front ++ rest) ms given behind) r.limit s)

place_given : (read : List ℕ) (ms : List Message) (v : Framing) (rest : List ℕ) (k : ℕ) (given behind : List ℕ) (place : ℕ) → PdusGivenUp read ms v rest k →
    SplitsStream longest_segment read ms given behind → place ≡ min (length given) last_place
    → place ≡ length given
place_given read ms v rest k given behind place r s is = omega (arith, is, ap length s.reaches.whole, length-append given behind, r.small, r.counted)

pub feed_fails : (e : StreamFault) (which : Which) (read : List ℕ) (ms : List Message) (v : Framing) (rest : List ℕ) (k : ℕ) (left : Option (List ℕ)) →
    PdusGivenUp read ms v rest k → FramerFeedFails v rest e
    → SideFails (compare_fault which e) which (input_of read left) ms
feed_fails stream.NoMemory which read ms v rest k left r fails = begins read ms v rest k left r
feed_fails (stream.Head f place) which read ms v rest k left r fails =
    let x = header_splits r.front rest ms f place v r.taken fails in
    let s = splits_read read ms v rest k x.0 x.1 r x.2 in
    (refl, (x.0, x.1, s, (x.3, x.4, place_given read ms v rest k x.0 x.1 place r s x.5), tt))
feed_fails (stream.OverLimit place) which read ms v rest k left r fails =
    let x = limit_splits r.front rest ms place v r.taken fails in
    let s = splits_read read ms v rest k x.0 x.1 r x.2 in
    let over = x.4 in
    let bytes : AreBytes x.1 = AreBytes-back x.0 x.1 (subst AreBytes s.reaches.whole r.bytes) in
    absurd (omega (arith, IsHeader-short (take 48 x.1) over.0 over.1 (AreBytes-take 48 x.1 bytes) over.2, over.3, r.limit))
feed_fails (stream.Truncated place) which read ms v rest k left r fails = absurd fails
feed_fails stream.Failed which read ms v rest k left r fails = absurd (apart fails r.taken.live)

pub finish_fails : (e : StreamFault) (which : Which) (read : List ℕ) (ms : List Message) (v : Framing) (k : ℕ) (left : Option (List ℕ))
    → PdusGivenUp read ms v [] k
    → FinishFails v e → IsAtEnd left
    → SideFails (compare_fault which e) which (input_of read left) ms
finish_fails stream.NoMemory which read ms v k left r fails end = absurd fails
finish_fails (stream.Head f place) which read ms v k left r fails end = absurd fails
finish_fails (stream.OverLimit place) which read ms v k left r fails end = absurd fails
finish_fails (stream.Truncated place) which read ms v k left r fails end =
    let t = r.taken in
    let s = splits read ms v k r fails.2 in
    let some : 0 < length t.rest = omega (arith, fails.1, ap length t.held, length-settled t.rest) in (
      refl,
      (
        t.given,
        t.rest,
        s,
        (
          some,
          subst (λ (n : ℕ). IsBegun n t.rest) r.limit t.begun,
          place_given read ms v [] k t.given t.rest place r s (fails.3 ∙ t.place),
        ),
        end,
      ),
    )
finish_fails stream.Failed which read ms v k left r fails end = absurd (apart fails r.taken.live)

-- ---- what feeding leaves

pub held_more : (v w : Framing) (rest : List ℕ) (n : ℕ) → FramerTakes v rest n w → length w.held ≡ length v.held + n
held_more v w rest n takes =
    omega (
      arith,
      ap (λ (x : Framing). length x.held) takes.gathered,
      length-settled (v.held ++ take n rest),
      length-append v.held (take n rest),
      length-take n rest,
      takes.bound,
    )

-- ---- what reading leaves

pub reads_then : (s t : Side) (a b c : Option (List ℕ)) (Holds : ReadInput → List Message → Type 0) → SideReadsOn s a b (λ x ms. HasRead x.read ms t) →
    SideReadsOn t b c Holds → SideReadsOn s a c Holds
reads_then s t a b c Holds p q read ms r =
    let one = p read ms r in
    let two = q (read ++ one.0) ms one.3 in
    let whole : (read ++ one.0) ++ two.0 ≡ read ++ (one.0 ++ two.0) = append_assoc read one.0 two.0 in (
      one.0 ++ two.0,
      Consumes-trans a b c one.0 two.0 one.1 two.1,
      subst AreBytes whole two.2,
      subst (λ (x : List ℕ). Holds (input_of x c) ms) whole two.3,
    )

pub reads_and : (s t : Side) (a b : Option (List ℕ)) (Holds : ReadInput → List Message → Type 0) → SideReadsOn s a b (λ x ms. HasRead x.read ms t)
    → ((read : List ℕ) (ms : List Message) (left : Option (List ℕ)) → HasRead read ms t → Holds (input_of read left) ms) → SideReadsOn s a b Holds
reads_and s t a b Holds p so read ms r =
    let one = p read ms r in
    (one.0, one.1, one.2, so (read ++ one.0) ms b one.3)

-- where nothing is pending
pub nothing_more : (side : Side) (read : List ℕ) (ms : List Message) → side.to ≡ side.from → HasRead read ms side
    → PdusGivenUp read ms side.framer [] side.reads
nothing_more side read ms none r =
    let nil : pending side ≡ [] = (let zero : side.to - side.from ≡ 0 = omega arith in ap (λ n. take n (drop side.from side.piece)) zero) in
    subst (λ (x : List ℕ). PdusGivenUp read ms side.framer x side.reads) nil r

-- nothing more is read, or nothing more comes
pub no_piece : (side : Side) (a b : Option (List ℕ)) (Holds : ReadInput → List Message → Type 0) → side.to ≡ side.from → Consumes a b []
    → ((read : List ℕ) (ms : List Message) → PdusGivenUp read ms side.framer [] side.reads → Holds (input_of read b) ms) → SideReadsOn side a b Holds
no_piece side a b Holds none consumed so read ms r = (
  [],
  consumed,
  subst AreBytes (sym (append-nil read)) r.bytes,
  subst (λ (x : List ℕ). Holds (input_of x b) ms) (sym (append-nil read)) (so read ms (nothing_more side read ms none r)),
)

-- a piece comes
pub a_piece : (side : Side) (a b : Option (List ℕ)) (piece : List ℕ) (n : ℕ) (Holds : ReadInput → List Message → Type 0) → side.to ≡ side.from →
    Consumes a b (take n piece) → AreBytes piece → n ≤ 4096 → side.reads < 16777216
    → ((read : List ℕ) (ms : List Message) → PdusGivenUp read ms side.framer (take n piece) (side.reads + 1) → Holds (input_of read b) ms)
    → SideReadsOn side a b Holds
a_piece side a b piece n Holds none consumed bytes short few so read ms r =
    let more : PdusGivenUp (read ++ take n piece) ms side.framer (take n piece) (side.reads + 1) =
    read_more read (take n piece) ms side.framer side.reads (nothing_more side read ms none r) (AreBytes-take n piece bytes)
    (omega (arith, length-take n piece)) few in
    (take n piece, consumed, more.bytes, so (read ++ take n piece) ms more)

-- ---- the steps of a side

min_left : (a b n : ℕ) → n ≤ min a b → n ≤ a
min_left a b n le = omega arith

-- no more is taken than is pending
within_pending : (side : Side) (w : Framing) (n : ℕ) → side.from ≤ side.to → FramerTakes side.framer (pending side) n w → side.from + n ≤ side.to
within_pending side w n order takes =
    let le : n ≤ side.to - side.from = min_left (side.to - side.from) (length (drop side.from side.piece)) n
    (omega (arith, takes.bound, length-take (side.to - side.from) (drop side.from side.piece))) in
    omega (arith, le, order)

pub fed_side : (side : Side) (w : Framing) (n : ℕ) (read : List ℕ) (ms : List Message) → side.from ≤ side.to → HasRead read ms side →
    FramerTakes side.framer (pending side) n w
    → (let new : Side = record side { framer = w; from = side.from + n } in HasRead read ms new)
fed_side side w n read ms order r takes =
    subst (λ (x : List ℕ). PdusGivenUp read ms w x side.reads) (pending_after side.from side.to n side.piece (within_pending side w n order takes))
    (read_fed read ms side.framer w (pending side) n side.reads r takes)

pub fed_fuel : (side : Side) (w : Framing) (n : ℕ) → side.from ≤ side.to → FramerTakes side.framer (pending side) n w →
    (let new : Side = record side { framer = w; from = side.from + n } in fuel new ≤ fuel side)
fed_fuel side w n order takes = omega (arith, within_pending side w n order takes, held_more side.framer w (pending side) n takes)

-- the stream has ended behind the PDUs
pub at_end : (side : Side) (w : Framing) (piece : List ℕ) (a b : Option (List ℕ)) → side.to ≡ side.from → Consumes a b [] → IsAtEnd b → is_ready side.framer
    ≡ false → (side.framer.held ≡ []) ⊎ IsTrue (is_ready side.framer) → w ≡ side.framer
    → (let new : Side = record side { framer = w; piece = piece } in SideReadsOn side a b (SideHasRead false new))
at_end side w piece a b none consumed end unready (inr ready) same = absurd (apart ready unready)
at_end side w piece a b none consumed end unready (inl held) same =
    let new : Side = record side { framer = w; piece = piece } in
    let nil : pending new ≡ [] = (let zero : side.to - side.from ≡ 0 = omega arith in ap (λ n. take n (drop side.from piece)) zero) in
    no_piece side a b (SideHasRead false new) none consumed (λ read ms r. (
      subst (λ (x : List ℕ). PdusGivenUp read ms w x side.reads) (sym nil) (subst (λ (v : Framing). PdusGivenUp read ms v [] side.reads) (sym same) r),
      means_all read ms side.framer side.reads b r held end,
    ))

pub at_piece : (side : Side) (piece : List ℕ) (n : ℕ) (a b : Option (List ℕ)) → side.to ≡ side.from → Consumes a b (take n piece) → AreBytes piece → n ≤ 4096 →
    side.reads < 16777216
    → (let new : Side = record side { piece = piece; from = 0; to = n; reads = side.reads + 1 } in SideReadsOn side a b (SideHasRead true new))
at_piece side piece n a b none consumed bytes short few =
    let new : Side = record side { piece = piece; from = 0; to = n; reads = side.reads + 1 } in
    let same : n ≡ n - 0 = omega arith in
    a_piece side a b piece n (SideHasRead true new) none consumed bytes short few (λ read ms r. subst (λ (k : ℕ). PdusGivenUp read ms side.framer (take k piece)
    (side.reads + 1)) same r)

pub cannot_read : (side : Side) (a b : Option (List ℕ)) → side.to ≡ side.from → Keeps a b → is_ready side.framer ≡ false →
    SideReadsOn side a b (SideFails (fault.Read side.which) side.which)
cannot_read side a b none kept unready =
    no_piece side a b (SideFails (fault.Read side.which) side.which) none (Consumes-kept a a b [] (Consumes-nil a) kept)
    (λ read ms r. (refl, stops read ms side.framer side.reads b r unready))

pub cannot_end : (side : Side) (e : StreamFault) (a b : Option (List ℕ)) → side.to ≡ side.from → Consumes a b [] → IsAtEnd b → FinishFails side.framer e →
    SideReadsOn side a b (SideFails (compare_fault side.which e) side.which)
cannot_end side e a b none consumed end fails =
    no_piece side a b (SideFails (compare_fault side.which e) side.which) none consumed
    (λ read ms r. finish_fails e side.which read ms side.framer side.reads b r fails end)

pub at_most : (a b c : ℕ) → a ≤ b → b ≤ c → a ≤ c
at_most a b c p q = omega arith

pub less : (a b c : ℕ) → a < b → b ≤ c → a < c
less a b c p q = omega arith

pub reads_begun : (some : Bool) (side new : Side) (a b : Option (List ℕ)) (which : Which) → SideReadsOn side a b (SideHasRead some new) →
    SideReadsOn side a b (SideFails fault.NoMemory which)
reads_begun true side new a b which p read ms r = (let one = p read ms r in (
  one.0,
  one.1,
  one.2,
  begins (read ++ one.0) ms new.framer (pending new) new.reads b one.3,
))
reads_begun false side new a b which p read ms r = (let one = p read ms r in (
  one.0,
  one.1,
  one.2,
  begins (read ++ one.0) ms new.framer (pending new) new.reads b one.3.0,
))

pub taken_fuel : (side : Side) (w : Framing) (h : Head) (d : List ℕ) → Means side.framer.held h d → w ≡ pdu_given_up side.framer h →
    (let new : Side = record side { framer = w } in fuel new < fuel side)
taken_fuel side w h d means is = omega (arith, means.size, ap (λ (x : Framing). length x.held) is)
