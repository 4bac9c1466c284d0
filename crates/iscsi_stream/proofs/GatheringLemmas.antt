-- What a framer's parts keep.
use Rattle.std.proofs.Common.{◌≡◌, ℕ, ◌+◌, ◌-◌, ◌<◌, ◌≤◌, true, max, List, [], ◌++◌, length, take, drop, replicate, sym, ap, subst, ◌∙◌, arith, inl, inr}
use Rattle.std.proofs.Common.{append_assoc, append-nil, refl}
use Rattle.std.proofs.lemmas.Bool.{cases_lt, lt-ltb, le-ltb}
use Rattle.std.proofs.lemmas.Bool.Decides.{nat_tests}
use Rattle.std.proofs.lemmas.List.{length-append, length-take, length-drop, length-replicate, take-take, take_all, take_at, drop_at, take-append-drop}
use Rattle.std.proofs.lemmas.List.{nil_from_length, drop-take}
use Rattle.iscsi_pdu.specs.declared.head.Head.{Head}
use Rattle.iscsi_pdu.specs.Meaning.{IsHeader, padding}
use Rattle.iscsi_stream.specs.declared.fault.StreamFault.{StreamFault}
use Rattle.iscsi_stream.specs.declared.fault.StreamFault.TheVariants as faults
use Rattle.iscsi_stream.specs.Stream.{pdu_len}
use Rattle.iscsi_stream.specs.Framing.{length_at, content_len, settled, is_whole_pdu, begun_len, IsBegun, ReachesHeader}
use Rattle.iscsi_stream.specs.inner.Gathering.{Filling, filling, IsBody, GathersPdu, FillsBody, HeaderFails, GatherFails}
use Rattle.iscsi_stream.proofs.HeadLemmas.{length_at-same, header-length}
use Rattle.iscsi_stream.proofs.SettledBytesLemmas.{settled-short}

-- n elements and then m more
pub take-add : (n m : ℕ) (xs : List ℕ) → take (n + m) xs ≡ take n xs ++ take m (drop n xs)
take-add n m xs =
    sym (take-append-drop n (take (n + m) xs)) ∙ ap (λ (l : List ℕ). l ++ drop n (take (n + m) xs)) (take-take n (n + m) xs (omega arith))
    ∙ ap (λ (l : List ℕ). take n xs ++ l) (drop-take n m xs)

pub is_full : (bytes : List ℕ) → 48 ≤ length bytes → length bytes ≡ pdu_len (length_at bytes) → is_whole_pdu bytes ≡ true
unfolding is_whole_pdu
is_full bytes long e = grind (arith, nat_tests)

pub short_begun : (limit : ℕ) (bytes : List ℕ) → length bytes < 48 → IsBegun limit bytes
short_begun limit bytes lt long = absurd (omega arith)

-- ---- a body

pub length-body : (header segment : List ℕ) (padded : ℕ) → length header ≡ 48 → length (header ++ (segment ++ replicate padded 0)) ≡ 48 + length segment
    + padded
length-body header segment padded size = omega (
  arith,
  size,
  length-append header (segment ++ replicate padded 0),
  length-append segment (replicate padded 0),
  length-replicate {A = ℕ} padded 0,
)

-- the length that a header with bytes behind it says
pub length_at-front : (header rest : List ℕ) (h : Head) (len : ℕ) → length header ≡ 48 → IsHeader header h len → length_at (header ++ rest) ≡ len
length_at-front header rest h len size r =
    let front : take 48 (header ++ rest) ≡ take 48 header = take_at header rest 48 size ∙ sym (take_all 48 header (omega arith)) in
    length_at-same (header ++ rest) header front ∙ sym (header-length header h len r)

-- ---- the length that a begun PDU says

pub begun_len-short : (bytes : List ℕ) → length bytes < 48 → begun_len bytes ≡ 0
unfolding begun_len
begun_len-short bytes lt = rw (lt-ltb (length bytes) 48 lt) refl

pub begun_len-long : (bytes : List ℕ) → 48 ≤ length bytes → begun_len bytes ≡ length_at bytes
unfolding begun_len
begun_len-long bytes le = rw (le-ltb (length bytes) 48 le) refl

pub begun_len-body : (header rest : List ℕ) (h : Head) (len : ℕ) → length header ≡ 48 → IsHeader header h len → begun_len (header ++ rest) ≡ len
begun_len-body header rest h len size r = begun_len-long (header ++ rest) (omega (arith, length-append header rest, size))
    ∙ length_at-front header rest h len size r

-- a header that isn't whole asks for no room
pub room-short : (room : ℕ) (bytes : List ℕ) → length bytes < 48 → room ≡ max room (begun_len bytes)
room-short room bytes lt = omega (arith, begun_len-short bytes lt)

-- nor does a body that has room
pub room-body : (room : ℕ) (header rest : List ℕ) (h : Head) (len : ℕ) → length header ≡ 48 → IsHeader header h len → len ≤ room → room
    ≡ max room (begun_len (header ++ rest))
room-body room header rest h len size r le = omega (arith, begun_len-body header rest h len size r, le)

-- ---- more of a body

-- bytes behind a header, of which those past the segment are told as 0
pub settled-body : (header rest : List ℕ) (h : Head) (len : ℕ) → length header ≡ 48 → IsHeader header h len
    → settled (header ++ rest) ≡ header ++ (take len rest ++ replicate (length rest - len) 0)
unfolding settled
settled-body header rest h len size r =
    let at : content_len (header ++ rest) ≡ 48 + len = ap (λ n. 48 + n) (length_at-front header rest h len size r) in
    let more : length (header ++ rest) - (48 + len) ≡ length rest - len = omega (arith, length-append header rest, size) in
    let front : take (48 + len) (header ++ rest) ≡ header ++ take len rest =
    take-add 48 len (header ++ rest) ∙ ap (λ (x : List ℕ). x ++ take len (drop 48 (header ++ rest))) (take_at header rest 48 size)
    ∙ ap (λ (x : List ℕ). header ++ take len x) (drop_at header rest 48 size) in
    rw (at, front, more) (append_assoc header (take len rest) (replicate (length rest - len) 0))

pub begun_body : (limit : ℕ) (header segment : List ℕ) (room padded len : ℕ) (h : Head) → length header ≡ 48 →
    IsBody limit header (filling segment padded) room h len →
    IsBegun limit (header ++ (segment ++ replicate padded 0))
begun_body limit header segment room padded len h size body long =
    let at = length_at-front header (segment ++ replicate padded 0) h len size body.says in (
      h,
      record {
        header = subst (λ (x : List ℕ). IsHeader x h (length_at (header ++ (segment ++ replicate padded 0))))
            (sym (take_at header (segment ++ replicate padded 0) 48 size)) (subst (λ (n : ℕ). IsHeader header h n) (sym at) body.says);
        within = omega (arith, at, body.within);
        no_more = omega (arith, length-body header segment padded size, ap pdu_len at, body.no_more, body.no_more_padding);
      },
    )

whole_body : (header segment : List ℕ) (padded len : ℕ) (h : Head) → length header ≡ 48 → IsHeader header h len → length segment ≡ len → padded ≡ padding len →
    is_whole_pdu (header ++ (segment ++ replicate padded 0)) ≡ true
whole_body header segment padded len h size r full all =
    let at = length_at-front header (segment ++ replicate padded 0) h len size r in
    is_full (header ++ (segment ++ replicate padded 0)) (omega (arith, length-body header segment padded size))
    (omega (arith, length-body header segment padded size, ap pdu_len at, all))

rest_is : (a b : ℕ) → a ≤ b → b ≡ a + (b - a)
rest_is a b le = omega arith

-- some zeros follow the segment, which is full then
front_padded : (len : ℕ) (segment : List ℕ) (padded : ℕ) (more piece : List ℕ) (count : ℕ) → length segment ≡ len → count ≡ 0
    → take len ((segment ++ replicate padded 0) ++ more) ≡ segment ++ take count piece
front_padded len segment padded more piece count full none =
    ap (take len) (append_assoc segment (replicate padded 0) more) ∙ take_at segment (replicate padded 0 ++ more) len full ∙ sym (append-nil segment)
    ∙ ap (λ (k : ℕ). segment ++ take k piece) (sym none)

-- no zeros follow it, and the bytes fill it and go on
front_past : (len : ℕ) (segment piece : List ℕ) (n count : ℕ) → count ≤ n → n ≤ length piece → length segment + count ≡ len → take len (segment ++ take n piece)
    ≡ segment ++ take count piece
front_past len segment piece n count le bound full =
    let split : take n piece ≡ take count piece ++ take (n - count) (drop count piece) = ap (λ (k : ℕ). take k piece) (rest_is count n le)
    ∙ take-add count (n - count) piece in
    ap (λ (x : List ℕ). take len (segment ++ x)) split ∙ ap (take len) (sym (append_assoc segment (take count piece) (take (n - count) (drop count piece))))
    ∙ take_at (segment ++ take count piece) (take (n - count) (drop count piece)) len
    (omega (arith, length-append segment (take count piece), length-take count piece))

-- no zeros follow it, and all the bytes have room in it
front_within : (len : ℕ) (segment piece : List ℕ) (n count : ℕ) → n ≡ count → n ≤ length piece → length segment + count ≤ len →
    take len (segment ++ take n piece) ≡ segment ++ take count piece
front_within len segment piece n count same bound room =
    ap (λ (k : ℕ). take len (segment ++ take k piece)) same ∙ take_all len (segment ++ take count piece)
    (omega (arith, length-append segment (take count piece), length-take count piece))

-- the segment and the zeros of the padding, and then more bytes
front_of : (len : ℕ) (segment : List ℕ) (padded : ℕ) (piece : List ℕ) (n : ℕ) (count : ℕ) → count ≤ n → n ≤ length piece → length segment + count ≤ len →
    (0 < padded → length segment ≡ len) → (count < n → length segment + count ≡ len)
    → take len ((segment ++ replicate padded 0) ++ take n piece) ≡ segment ++ take count piece
front_of len segment padded piece n count le bound room order past =
    elim (cases_lt 0 padded) [
      | inl some ↦ (let full = order some in front_padded len segment padded (take n piece) piece count full (omega arith))
      | inr none ↦
          let no_zeros : replicate padded 0 ≡ [] = nil_from_length (replicate padded 0) (omega (arith, length-replicate {A = ℕ} padded 0)) in
          let plain : (segment ++ replicate padded 0) ++ take n piece ≡ segment ++ take n piece =
          ap (λ (x : List ℕ). x ++ take n piece) (ap (λ (x : List ℕ). segment ++ x) no_zeros ∙ append-nil segment) in
          ap (take len) plain ∙ elim (cases_lt count n) [
            | inl lt ↦ front_past len segment piece n count le bound (past lt)
            | inr ge ↦ front_within len segment piece n count (omega arith) bound room
          ]
    ]

zeros_of : (s p n d q len t r : ℕ) → r ≡ s + p + n → t ≡ s + d → n + p ≡ d + q → t ≤ len → (0 < q → t ≡ len) → r - len ≡ q
zeros_of s p n d q len t r a b c le order =
    elim (cases_lt 0 q) [
      | inl some ↦ (let full = order some in omega arith)
      | inr none ↦ omega arith
    ]

-- bytes of a piece that go to a body
pub gathers_body : (limit : ℕ) (header segment : List ℕ) (room : ℕ) (h : Head) (len padded : ℕ) (piece : List ℕ) (n : ℕ) (segment_new : List ℕ)
    (room_new padded_new : ℕ) → length header ≡ 48
    → IsBody limit header (filling segment padded) room h len → FillsBody len (filling segment padded) piece n (filling segment_new padded_new) → len ≤ room_new
    → GathersPdu limit (header ++ (segment ++ replicate padded 0)) piece n (header ++ (segment_new ++ replicate padded_new 0))
    × IsBody limit header (filling segment_new padded_new) room_new h len
gathers_body limit header segment room h len padded piece n segment_new room_new padded_new size body fills fit =
    let body_new : IsBody limit header (filling segment_new padded_new) room_new h len = record {
      says = body.says;
      fits = body.fits;
      within = body.within;
      has_room = fit;
      no_more = fills.no_more;
      no_more_padding = fills.no_more_padding;
      order = fills.order;
    } in
    let new_size : length segment_new ≡ length segment + fills.count = omega (
      arith,
      ap length fills.appended,
      length-append segment (take fills.count piece),
      length-take fills.count piece,
      fills.count_bound,
      fills.bound,
    ) in
    let rest = (segment ++ replicate padded 0) ++ take n piece in
    let front : take len rest ≡ segment_new = front_of len segment padded piece n fills.count fills.count_bound fills.bound (omega (arith, fills.no_more))
    body.order (λ lt. omega (arith, fills.order (omega (arith, fills.parts)))) ∙ sym fills.appended in
    let rest_size : length rest ≡ length segment + padded + n = omega (
      arith,
      length-append (segment ++ replicate padded 0) (take n piece),
      length-append segment (replicate padded 0),
      length-replicate {A = ℕ} padded 0,
      length-take n piece,
      fills.bound,
    ) in
    let zeros : length rest - len ≡ padded_new = zeros_of (length segment) padded n fills.count padded_new len (length segment_new)
    (length rest) rest_size new_size fills.parts fills.no_more fills.order in
    let same : header ++ (segment_new ++ replicate padded_new 0) ≡ settled ((header ++ (segment ++ replicate padded 0)) ++ take n piece) =
    sym (ap settled (append_assoc header (segment ++ replicate padded 0) (take n piece)) ∙ settled-body header rest h len size body.says
    ∙ ap (λ (x : List ℕ). header ++ (x ++ replicate (length rest - len) 0)) front ∙ ap (λ (k : ℕ). header ++ (segment_new ++ replicate k 0)) zeros) in (
      record {
        bound = fills.bound;
        gathered = same;
        begun = begun_body limit header segment_new room_new padded_new len h size body_new;
        stops = λ lt. whole_body header segment_new padded_new len h size body.says (fills.stops lt).0 (fills.stops lt).1;
      },
      body_new,
    )

-- ---- a header

-- the header is not whole yet
pub gathers_header : (limit : ℕ) (header header_new : List ℕ) (filled : ℕ) (piece : List ℕ) (n : ℕ) → length header ≡ 48 → length header_new ≡ 48 → filled + n
    < 48 → n ≤ length piece
    → take (filled + n) header_new ≡ take filled header ++ take n piece → (n < length piece → filled + n ≡ 48)
    → GathersPdu limit (take filled header) piece n (take (filled + n) header_new)
gathers_header limit header header_new filled piece n size size_new short bound taken stops =
    let len : length (take (filled + n) header_new) ≡ filled + n = omega (arith, length-take (filled + n) header_new) in
    record {
      bound = bound;
      gathered = taken ∙ sym (settled-short (take filled header ++ take n piece) (omega (arith, len, ap length taken)));
      begun = short_begun limit (take (filled + n) header_new) (omega arith);
      stops = λ lt. absurd (omega (arith, stops lt));
    }

-- the whole header is the front of what is there
pub header_front : (header header_new : List ℕ) (filled : ℕ) (piece : List ℕ) (n : ℕ) → length header ≡ 48 → length header_new ≡ 48 → filled < 48 → filled + n
    ≡ 48 → n ≤ length piece
    → take (filled + n) header_new ≡ take filled header ++ take n piece
    → (header_new ≡ take 48 (take filled header ++ piece)) × ReachesHeader (take filled header) piece
header_front header header_new filled piece n size size_new short full bound taken =
    let old = take filled header in
    let old_size : length old ≡ filled = omega (arith, length-take filled header) in
    let whole : header_new ≡ old ++ take n piece = sym (take_all (filled + n) header_new (omega arith)) ∙ taken in
    let all : header_new ++ drop n piece ≡ old ++ piece = ap (λ (x : List ℕ). x ++ drop n piece) whole ∙ append_assoc old (take n piece) (drop n piece)
    ∙ ap (λ (x : List ℕ). old ++ x) (take-append-drop n piece) in (
      sym (take_at header_new (drop n piece) 48 size_new) ∙ ap (take 48) all,
      record { before = omega arith; reached = omega (arith, length-append old piece) },
    )

pub header_fails : (e : StreamFault) (limit place room : ℕ) (header held piece : List ℕ) → header ≡ take 48 (held ++ piece) → ReachesHeader held piece →
    HeaderFails header limit place room e → GatherFails limit place room held piece e
header_fails faults.NoMemory limit place room header held piece is reaches h =
    (h.0, h.1, record { reaches = reaches; header = subst (λ (b : List ℕ). IsHeader b h.0 h.1) is h.2 }, h.3, h.4)
header_fails (faults.Head f p) limit place room header held piece is reaches h = (reaches, rw (← is) h.0, h.1)
header_fails (faults.OverLimit p) limit place room header held piece is reaches h =
    ((h.0.0, h.0.1, record { reaches = reaches; header = subst (λ (b : List ℕ). IsHeader b h.0.0 h.0.1) is h.0.2 }, h.0.3), h.1)
header_fails (faults.Truncated p) limit place room header held piece is reaches h = absurd h
header_fails faults.Failed limit place room header held piece is reaches h = absurd h

-- what a header says: the head, and the length of the segment
pub record Announced : Type 0 where
  pub head : Head
  pub len : ℕ

-- a header that becomes whole, and then bytes of its body
pub gathers_both : (limit : ℕ) (header header_new : List ℕ) (filled : ℕ) (piece rest : List ℕ) (n : ℕ) (said : Announced) (room m : ℕ) (into : Filling)
    (room_new : ℕ)
    → length header ≡ 48 → length header_new ≡ 48 → filled < 48 → filled + n ≡ 48 → n ≤ length piece → take (filled + n) header_new ≡ take filled header
    ++ take n piece → rest ≡ drop n piece
    → IsBody limit header_new (filling [] 0) room said.head said.len → FillsBody said.len (filling [] 0) rest m into → said.len ≤ room_new
    → GathersPdu limit (take filled header) piece (n + m) (header_new ++ (into.segment ++ replicate into.padded 0))
    × IsBody limit header_new into room_new said.head said.len
gathers_both limit header header_new filled piece rest n said room m into room_new size size_new short full bound taken is body fills fit =
    let both = gathers_body limit header_new [] room said.head said.len 0 rest m into.segment room_new into.padded size_new body fills fit in
    let old = take filled header in
    let whole : header_new ≡ old ++ take n piece = sym (take_all (filled + n) header_new (omega arith)) ∙ taken in
    let rest_size : length rest ≡ length piece - n = ap length is ∙ length-drop n piece in
    let same : (header_new ++ []) ++ take m rest ≡ old ++ take (n + m) piece =
    ap (λ (x : List ℕ). x ++ take m rest) (append-nil header_new ∙ whole) ∙ append_assoc old (take n piece) (take m rest)
    ∙ ap (λ (x : List ℕ). old ++ (take n piece ++ take m x)) is ∙ ap (λ (x : List ℕ). old ++ x) (sym (take-add n m piece)) in (
      record {
        bound = omega (arith, both.0.bound, rest_size);
        gathered = both.0.gathered ∙ ap settled same;
        begun = both.0.begun;
        stops = λ lt. both.0.stops (omega (arith, rest_size));
      },
      both.1,
    )
