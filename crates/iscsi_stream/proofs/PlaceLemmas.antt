-- Where in the stream a PDU stands, and where the stream ends.
use Rattle.std.proofs.Common.{◌≡◌, ℕ, ◌+◌, ◌<◌, min, true, false, List, [], ◌++◌, length, take, drop, refl, sym, ap, subst, ◌∙◌, arith, append-nil}
use Rattle.std.proofs.lemmas.List.{length-append, length-take, length-drop, drop_at, take_at, drop-drop}
use Rattle.iscsi_pdu.specs.declared.head.Head.{Head}
use Rattle.iscsi_pdu.specs.Meaning.{IsHeader, Means}
use Rattle.iscsi_stream.specs.declared.fault.StreamFault.TheVariants as faults
use Rattle.iscsi_stream.specs.declared.logins.Logins.{Logins}
use Rattle.iscsi_stream.specs.Segment.{no_login, continues}
use Rattle.iscsi_stream.specs.Stream.{pdu_len, Message, ReadsAs, logins_after_all, SplitsStream}
use Rattle.iscsi_stream.specs.Framing.{Framing, length_at, is_whole_pdu, HasTaken, FinishFails, last_place}
use Rattle.iscsi_stream.proofs.HeadLemmas.{means-data, means_of}
use Rattle.iscsi_stream.proofs.SettledBytesLemmas.{length-settled, is_whole-settled, Means-from_settled}
use Rattle.iscsi_stream.proofs.ReadyLemmas.{is_whole-is, false_if}
use Rattle.iscsi_stream.proofs.OneMeaningLaw.{reads_one_more, longest, same_split}
use Rattle.iscsi_stream.proofs.TakingLemmas.{splits_taken}

pub stands_at : (stream segment : List ℕ) (ms : List Message) (head : Head) (v : Framing) → HasTaken stream ms v → Means v.held head segment
    → (place : ℕ) × (v.place ≡ min place last_place) × ReadsAs v.limit no_login (take place stream) ms
    × IsHeader (take 48 (drop place stream)) head (length segment)
    × (segment ≡ take (length segment) (drop (place + 48) stream)) × (continues v.logins head ≡ continues (logins_after_all no_login ms) head)
stands_at stream segment ms head v t m =
    let means = Means-from_settled t.rest head segment (subst (λ (x : List ℕ). Means x head segment) t.held m) in
    let place = length t.given in
    let front : take place stream ≡ t.given = ap (take place) t.whole ∙ take_at t.given t.rest place refl in
    let behind : drop place stream ≡ t.rest = ap (drop place) t.whole ∙ drop_at t.given t.rest place refl in
    let behind_header : drop (place + 48) stream ≡ drop 48 t.rest = sym (drop-drop 48 place stream) ∙ ap (drop 48) behind in (
      place,
      t.place,
      subst (λ (x : List ℕ). ReadsAs v.limit no_login x ms) (sym front) t.reads,
      subst (λ (x : List ℕ). IsHeader (take 48 x) head (length segment)) (sym behind) means.header,
      sym (ap (take (length segment)) behind_header ∙ means-data t.rest head segment means),
      ap (λ (x : Logins). continues x head) t.logins,
    )

-- ---- the end

abbrev EndsWithin : List ℕ → List Message → ℕ → ℕ → Type 0
EndsWithin stream ms place limit =
    (given : List ℕ) × (rest : List ℕ) × SplitsStream limit stream ms given rest × (0 < length rest) × (place ≡ min (length given) last_place)

pub end_is : (stream : List ℕ) (ms : List Message) (place : ℕ) (v : Framing) → HasTaken stream ms v → FinishFails v (faults.Truncated place) →
    EndsWithin stream ms place v.limit
end_is stream ms place v t fails =
    (t.given, t.rest, splits_taken stream ms v t fails.2, omega (arith, fails.1, ap length t.held, length-settled t.rest), fails.3 ∙ t.place)

-- a PDU that is ready is the stream's next, so the bytes before the rest are not all
ready_not : (stream : List ℕ) (ms : List Message) (v : Framing) (t : HasTaken stream ms v) (given rest : List ℕ) → SplitsStream v.limit stream ms given rest → 0
    < length rest → is_whole_pdu t.rest ≡ true → ⊥
ready_not stream ms v t given rest s some whole =
    let is = is_whole-is t.rest whole in
    let good = t.begun is.0 in
    let n = length_at t.rest in
    let segment = take n (drop 48 t.rest) in
    let size : length segment ≡ n = omega (arith, length-take n (drop 48 t.rest), length-drop 48 t.rest, is.1) in
    let header : IsHeader (take 48 t.rest) good.0 (length segment) = subst (λ (k : ℕ). IsHeader (take 48 t.rest) good.0 k) (sym size) good.1.header in
    let means = means_of t.rest good.0 segment header (is.1 ∙ ap pdu_len (sym size)) (ap (λ (k : ℕ). take k (drop 48 t.rest)) size) in
    let reads = reads_one_more v.limit no_login t.given ms t.rest good.0 segment t.reads means (omega (arith, size, good.1.within)) in
    let all = longest v.limit no_login given ms rest (t.given ++ t.rest) _ [] s.reaches.reads s.no_more reads (sym s.reaches.whole ∙ t.whole
    ∙ sym (append-nil (t.given ++ t.rest))) in
    omega (arith, all, some, ap length t.whole, ap length s.reaches.whole, length-append given rest)

pub is_end : (stream : List ℕ) (ms : List Message) (place : ℕ) (v : Framing) → HasTaken stream ms v → EndsWithin stream ms place v.limit →
    FinishFails v (faults.Truncated place)
is_end stream ms place v t ends =
    let s = ends.2 in
    let part : is_whole_pdu v.held ≡ false = ap is_whole_pdu t.held ∙ is_whole-settled t.rest
    ∙ false_if (is_whole_pdu t.rest) (ready_not stream ms v t ends.0 ends.1 s ends.3) in
    let mine = splits_taken stream ms v t part in
    let same : t.given ≡ ends.0 = (same_split v.limit no_login t.given ms t.rest ends.0 ms ends.1 t.reads mine.no_more s.reaches.reads s.no_more (sym t.whole
    ∙ s.reaches.whole)).1 in
    let some : 0 < length v.held = omega (
      arith,
      ends.3,
      ap length same,
      ap length t.whole,
      ap length s.reaches.whole,
      length-append t.given t.rest,
      length-append ends.0 ends.1,
      ap length t.held,
      length-settled t.rest,
    ) in
    (t.live, some, part, ends.4 ∙ ap (λ (x : List ℕ). min (length x) last_place) (sym same) ∙ sym t.place)
