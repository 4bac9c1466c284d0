-- What a stream means: one list of messages, which its canonical stream means too.
use Rattle.std.proofs.Common.{◌≡◌, ℕ, ◌+◌, ◌<◌, ◌≤◌, Bool, true, false, List, [], ◌∷◌, ◌++◌, length, take, drop, refl, sym, ap, subst, ◌∙◌, arith, append-nil}
use Rattle.std.proofs.Common.{append_assoc, inl, inr}
use Rattle.std.specs.Prelude.{Option, Some, None, not, ◌&&◌}
use Rattle.iscsi_text.specs.Text.{Pairs}
use Rattle.iscsi_text.specs.Canonical.{canonical_text}
use Rattle.iscsi_text.specs.Reading.{text_in}
use Rattle.iscsi_text.proofs.TextLaws.{canonical_read, read_no_longer}
use Rattle.std.proofs.lemmas.Bool.{cases_lt}
use Rattle.std.proofs.lemmas.List.{length-append, take-append-le, take_at, drop_at, get_or_past, get_or_append_left, get_or-append-add, nil_from_length}
use Rattle.std.proofs.lemmas.List.Concat.{flat_map-cons}
use Rattle.iscsi_pdu.specs.declared.head.Head.{Head}
use Rattle.iscsi_pdu.specs.declared.head.HeadFault.{HeadFault}
use Rattle.iscsi_pdu.specs.Meaning.{IsHeader, Means, head_fault, AreBytes}
use Rattle.iscsi_pdu.proofs.HeaderLemmas.{IsHeader-unique}
use Rattle.iscsi_stream.specs.declared.logins.Logins.{Logins}
use Rattle.iscsi_stream.specs.Segment.{Segment, no_login, continues, logins_after, is_last_login_pdu, text_or_bytes, segment_if, segment_of, segment_bytes}
use Rattle.iscsi_stream.specs.Stream.{pdu_len, Message, BeginsWithPdu, ReadsAs, StreamMeans, logins_after_all, NoPdu, SplitsStream, longest_segment}
use Rattle.iscsi_stream.specs.Canonical.{canonical_bytes, canon}
use Rattle.iscsi_stream.specs.Framing.{length_at, is_whole_pdu, IsBegun}
use Rattle.iscsi_stream.proofs.HeadLemmas.{front-length, means-data, whole-again, bad_header}
use Rattle.iscsi_stream.proofs.GatheringLemmas.{is_full}
use Rattle.iscsi_stream.proofs.ReadyLemmas.{apart}

-- ---- one more PDU

pub reads_one_more : (limit : ℕ) (logins : Logins) (given : List ℕ) (ms : List Message) (rest : List ℕ) (h : Head) (d : List ℕ) → ReadsAs limit logins given ms
    → Means rest h d → length d ≤ limit
    → ReadsAs limit logins (given ++ rest) (ms ++ record { head = h; segment = segment_of (continues (logins_after_all logins ms) h) h d } ∷ [])
unfolding ReadsAs
reads_one_more limit logins given [] rest h d reads means le = (
  record {
    bytes = rest;
    segment = d;
    rest = [];
    whole = ap (λ (x : List ℕ). x ++ rest) reads ∙ sym (append-nil rest);
    means = means;
    within = le;
    meaning = refl;
  },
  refl,
)
reads_one_more limit logins given (m ∷ ms) rest h d reads means le =
    let begins = reads.0 in (
      record {
        bytes = begins.bytes;
        segment = begins.segment;
        rest = begins.rest ++ rest;
        whole = ap (λ (x : List ℕ). x ++ rest) begins.whole ∙ append_assoc begins.bytes begins.rest rest;
        means = begins.means;
        within = begins.within;
        meaning = begins.meaning;
      },
      reads_one_more limit (logins_after logins m.head) begins.rest ms rest h d reads.1 means le,
    )

pub after_all-snoc : (logins : Logins) (ms : List Message) (m : Message) → logins_after_all logins (ms ++ m ∷ [])
    ≡ logins_after (logins_after_all logins ms) m.head
after_all-snoc logins [] m = refl
after_all-snoc logins (k ∷ ms) m = after_all-snoc (logins_after logins k.head) ms m

-- ---- what begins a stream

long_form : (b : List ℕ) (h : Head) (d : List ℕ) → Means b h d → 48 ≤ length b
long_form b h d m = omega (arith, m.size)

pub starts : (rest b more : List ℕ) (h : Head) (d : List ℕ) → rest ≡ b ++ more → Means b h d → IsHeader (take 48 rest) h (length d)
    × (pdu_len (length d) ≤ length rest)
starts rest b more h d e m = (
  subst (λ (x : List ℕ). IsHeader x h (length d)) (sym (ap (take 48) e ∙ take-append-le 48 b more (long_form b h d m))) m.header,
  omega (arith, ap length e, length-append b more, m.size),
)

pub no_pdu_begun : (limit : ℕ) (rest : List ℕ) → IsBegun limit rest → is_whole_pdu rest ≡ false → NoPdu limit rest
no_pdu_begun limit rest begun part b d more h e m le =
    let s = starts rest b more h d e m in
    let long : 48 ≤ length rest = omega (arith, s.1) in
    let good = (begun long).1 in
    let n : length d ≡ length_at rest = front-length rest h (length d) s.0 in
    apart (is_full rest long (omega (arith, good.no_more, s.1, ap pdu_len n))) part

pub no_pdu_bad : (limit : ℕ) (rest : List ℕ) (f : HeadFault) → head_fault (take 48 rest) ≡ Some f → NoPdu limit rest
no_pdu_bad limit rest f bad b d more h e m le = bad_header (take 48 rest) h (length d) f (starts rest b more h d e m).0 bad

pub no_pdu_over : (limit : ℕ) (rest : List ℕ) (h : Head) (n : ℕ) → IsHeader (take 48 rest) h n → limit < n → NoPdu limit rest
no_pdu_over limit rest h n over lt b d more k e m le =
    omega (arith, (IsHeader-unique (take 48 rest) k h (length d) n (starts rest b more k d e m).0 over).1)

pub no_pdu_none : (limit : ℕ) → NoPdu limit []
no_pdu_none limit b d more h e m le =
    let none : length b + length more ≡ 0 = sym (length-append b more) ∙ ap length (sym e) in
    omega (arith, m.size)

-- ---- one meaning

-- the bytes of a PDU at the front of a stream, those of its segment, and the rest of the stream
pub record Front : Type 0 where
  pub bytes : List ℕ
  pub segment : List ℕ
  pub rest : List ℕ

-- these three together
abbrev pub front : List ℕ → List ℕ → List ℕ → Front
front bytes segment rest = record { bytes = bytes; segment = segment; rest = rest }

-- these PDUs, with these heads, are one, and so are their rests
pub record SameBegin (one other : Head) (x y : Front) : Type 0 where
  pub head : one ≡ other
  pub bytes : x.bytes ≡ y.bytes
  pub segment : x.segment ≡ y.segment
  pub rest : x.rest ≡ y.rest

pub same_begin : (b more b' more' : List ℕ) (h h' : Head) (d d' : List ℕ) → b ++ more ≡ b' ++ more' → Means b h d → Means b' h' d' →
    SameBegin h h' (front b d more) (front b' d' more')
same_begin b more b' more' h h' d d' e m m' =
    let s = starts (b ++ more) b more h d refl m in
    let s' = starts (b ++ more) b' more' h' d' e m' in
    let pair = IsHeader-unique (take 48 (b ++ more)) h h' (length d) (length d') s.0 s'.0 in
    let len : length b ≡ length b' = m.size ∙ ap pdu_len pair.1 ∙ sym m'.size in
    let bytes : b ≡ b' = sym (take_at b more (length b) refl) ∙ ap (take (length b)) e ∙ take_at b' more' (length b) (sym len) in
    record {
      head = pair.0;
      bytes = bytes;
      segment = sym (means-data b h d m) ∙ ap (λ n. take n (drop 48 b)) pair.1 ∙ ap (λ (x : List ℕ). take (length d') (drop 48 x)) bytes
          ∙ means-data b' h' d' m';
      rest = sym (drop_at b more (length b) refl) ∙ ap (drop (length b)) e ∙ drop_at b' more' (length b) (sym len);
    }

pub same_message : (m n : Message) → m.head ≡ n.head → m.segment ≡ n.segment → m ≡ n
same_message m n p q =
    ap (λ (h : Head). let r : Message = record { head = h; segment = m.segment } in r) p
    ∙ ap (λ (x : Segment). let r : Message = record { head = n.head; segment = x } in r) q

pub same_split : (limit : ℕ) (logins : Logins) (given : List ℕ) (ms : List Message) (rest given' : List ℕ) (ns : List Message) (rest' : List ℕ)
    → ReadsAs limit logins given ms → NoPdu limit rest → ReadsAs limit logins given' ns → NoPdu limit rest' → given ++ rest ≡ given' ++ rest' → (ms ≡ ns)
    × (given ≡ given')
unfolding ReadsAs
same_split limit logins given [] rest given' [] rest' p ends p' ends' e = (refl, p ∙ sym p')
same_split limit logins given [] rest given' (n ∷ ns) rest' p ends p' ends' e =
    let begins = p'.0 in
    absurd (ends begins.bytes begins.segment (begins.rest ++ rest') n.head (ap (λ (x : List ℕ). x ++ rest) (sym p) ∙ e
    ∙ ap (λ (x : List ℕ). x ++ rest') begins.whole
    ∙ append_assoc begins.bytes begins.rest rest') begins.means begins.within)
same_split limit logins given (m ∷ ms) rest given' [] rest' p ends p' ends' e =
    let begins = p.0 in
    absurd (ends' begins.bytes begins.segment (begins.rest ++ rest) m.head (ap (λ (x : List ℕ). x ++ rest') (sym p') ∙ sym e
    ∙ ap (λ (x : List ℕ). x ++ rest) begins.whole
    ∙ append_assoc begins.bytes begins.rest rest) begins.means begins.within)
same_split limit logins given (m ∷ ms) rest given' (n ∷ ns) rest' p ends p' ends' e =
    let begins = p.0 in
    let begins' = p'.0 in
    let whole : begins.bytes ++ (begins.rest ++ rest) ≡ begins'.bytes ++ (begins'.rest ++ rest') =
    sym (append_assoc begins.bytes begins.rest rest) ∙ ap (λ (x : List ℕ). x ++ rest) (sym begins.whole) ∙ e ∙ ap (λ (x : List ℕ). x ++ rest') begins'.whole
    ∙ append_assoc begins'.bytes begins'.rest rest' in
    let same = same_begin begins.bytes (begins.rest ++ rest) begins'.bytes (begins'.rest ++ rest') m.head n.head begins.segment begins'.segment whole
    begins.means begins'.means in
    let more = same_split limit (logins_after logins m.head) begins.rest ms rest begins'.rest ns rest' p.1 ends
    (subst (λ (h : Head). ReadsAs limit (logins_after logins h) begins'.rest ns)
    (sym same.head) p'.1) ends' same.rest in
    let segment : m.segment ≡ n.segment =
    begins.meaning ∙ ap (λ (h : Head). segment_of (continues logins h) h begins.segment) same.head ∙ ap (segment_of (continues logins n.head) n.head)
    same.segment
    ∙ sym begins'.meaning in
    let first = same_message m n same.head segment in (
      ap (λ (x : Message). x ∷ ms) first ∙ ap (λ (xs : List Message). n ∷ xs) more.0,
      begins.whole ∙ ap (λ (x : List ℕ). x ++ begins.rest) same.bytes ∙ ap (λ (x : List ℕ). begins'.bytes ++ x) more.1 ∙ sym begins'.whole,
    )

pub one_meaning : (limit : ℕ) (logins : Logins) (s : List ℕ) (ms ns : List Message) → ReadsAs limit logins s ms → ReadsAs limit logins s ns → ms ≡ ns
one_meaning limit logins s ms ns p q = (same_split limit logins s ms [] s ns [] p (no_pdu_none limit) q (no_pdu_none limit) refl).0

pub longest : (limit : ℕ) (logins : Logins) (given : List ℕ) (ms : List Message) (rest p : List ℕ) (ns : List Message) (q : List ℕ)
    → ReadsAs limit logins given ms → NoPdu limit rest → ReadsAs limit logins p ns → given ++ rest ≡ p ++ q → length p ≤ length given
unfolding ReadsAs
longest limit logins given [] rest p [] q g ends r e = omega (arith, ap length r)
longest limit logins given (m ∷ ms) rest p [] q g ends r e = omega (arith, ap length r)
longest limit logins given [] rest p (n ∷ ns) q g ends r e =
    let begins = r.0 in
    absurd (ends begins.bytes begins.segment (begins.rest ++ q) n.head (ap (λ (x : List ℕ). x ++ rest) (sym g) ∙ e ∙ ap (λ (x : List ℕ). x ++ q) begins.whole
    ∙ append_assoc begins.bytes begins.rest q) begins.means begins.within)
longest limit logins given (m ∷ ms) rest p (n ∷ ns) q g ends r e =
    let begins = g.0 in
    let begins' = r.0 in
    let whole : begins.bytes ++ (begins.rest ++ rest) ≡ begins'.bytes ++ (begins'.rest ++ q) =
    sym (append_assoc begins.bytes begins.rest rest) ∙ ap (λ (x : List ℕ). x ++ rest) (sym begins.whole) ∙ e ∙ ap (λ (x : List ℕ). x ++ q) begins'.whole
    ∙ append_assoc begins'.bytes begins'.rest q in
    let same = same_begin begins.bytes (begins.rest ++ rest) begins'.bytes (begins'.rest ++ q) m.head n.head begins.segment begins'.segment whole
    begins.means begins'.means in
    let more = longest limit (logins_after logins m.head) begins.rest ms rest begins'.rest ns q g.1 ends
    (subst (λ (h : Head). ReadsAs limit (logins_after logins h) begins'.rest ns)
    (sym same.head) r.1) same.rest in
    omega (
      arith,
      more,
      ap length begins.whole,
      length-append begins.bytes begins.rest,
      ap length begins'.whole,
      length-append begins'.bytes begins'.rest,
      ap length same.bytes,
    )

-- A header that is refused stays so, whatever follows.
pub splits_more : (limit : ℕ) (stream more : List ℕ) (ms : List Message) (given rest : List ℕ) (f : HeadFault) → SplitsStream limit stream ms given rest → 48
    ≤ length rest → head_fault (take 48 rest) ≡ Some f
    → SplitsStream limit (stream ++ more) ms given (rest ++ more) × (48 ≤ length (rest ++ more)) × (head_fault (take 48 (rest ++ more)) ≡ Some f)
splits_more limit stream more ms given rest f s long bad =
    let front : head_fault (take 48 (rest ++ more)) ≡ Some f = ap head_fault (take-append-le 48 rest more long) ∙ bad in (
      record {
        reaches = record {
          whole = ap (λ (x : List ℕ). x ++ more) s.reaches.whole ∙ append_assoc given rest more;
          reads = s.reaches.reads;
        };
        no_more = no_pdu_bad limit (rest ++ more) f front;
      },
      omega (arith, length-append rest more),
      front,
    )

-- ---- the canonical stream

text_again : (r : Option Pairs) (d : List ℕ) → text_in d ≡ r → segment_if true (segment_bytes (text_or_bytes r d)) ≡ text_or_bytes r d
unfolding segment_bytes
text_again None d none = ap (λ (r : Option Pairs). text_or_bytes r d) none
text_again (Some m) d some = ap (λ (r : Option Pairs). text_or_bytes r (canonical_text m)) (canonical_read d m some)

segment_if-again : (whole : Bool) (d : List ℕ) → segment_if whole (segment_bytes (segment_if whole d)) ≡ segment_if whole d
unfolding segment_bytes
segment_if-again true d = text_again (text_in d) d refl
segment_if-again false d = refl

-- what stands for a segment means it
pub segment_again : (c : Bool) (h : Head) (d : List ℕ) → segment_of c h (segment_bytes (segment_of c h d)) ≡ segment_of c h d
unfolding segment_of
segment_again c h d = segment_if-again (not c && is_last_login_pdu h) d

text-shorter : (r : Option Pairs) (d : List ℕ) → text_in d ≡ r → length (segment_bytes (text_or_bytes r d)) ≤ length d
unfolding segment_bytes
text-shorter None d none = omega arith
text-shorter (Some m) d some = read_no_longer d m some

segment_if-shorter : (whole : Bool) (d : List ℕ) → length (segment_bytes (segment_if whole d)) ≤ length d
unfolding segment_bytes
segment_if-shorter true d = text-shorter (text_in d) d refl
segment_if-shorter false d = omega arith

-- and is no longer
pub segment-shorter : (c : Bool) (h : Head) (d : List ℕ) → length (segment_bytes (segment_of c h d)) ≤ length d
unfolding segment_of
segment-shorter c h d = segment_if-shorter (not c && is_last_login_pdu h) d

pub AreBytes-front : (a b : List ℕ) → AreBytes (a ++ b) → AreBytes a
AreBytes-front a b bytes i =
    elim (cases_lt i (length a)) [
      | inl lt ↦ subst (λ (x : ℕ). x < 256) (get_or_append_left a b 0 i lt) (bytes i)
      | inr le ↦ rw (get_or_past a i 0 le) (omega arith)
    ]

pub AreBytes-back : (a b : List ℕ) → AreBytes (a ++ b) → AreBytes b
AreBytes-back a b bytes i = subst (λ (x : ℕ). x < 256) (get_or-append-add a b i 0) (bytes (length a + i))

-- a message's canonical form means it
again : (logins : Logins) (limit : ℕ) (stream : List ℕ) (m : Message) (b : BeginsWithPdu limit logins stream m) → AreBytes b.bytes
    → (length (segment_bytes m.segment) ≤ length b.segment) × Means (canonical_bytes m) m.head (segment_bytes m.segment)
again logins limit stream m b are =
    let shorter : length (segment_bytes m.segment) ≤ length b.segment = omega (
      arith,
      ap (λ (x : Segment). length (segment_bytes x)) b.meaning,
      segment-shorter (continues logins m.head) m.head b.segment,
    ) in
    (shorter, whole-again b.bytes m.head b.segment (segment_bytes m.segment) are b.means shorter)

pub canon_again : (limit : ℕ) (logins : Logins) (s : List ℕ) (ms : List Message) → AreBytes s → ReadsAs limit logins s ms → ReadsAs limit logins (canon ms) ms
unfolding ReadsAs
canon_again limit logins s [] bytes reads = refl
canon_again limit logins s (m ∷ ms) bytes reads =
    let begins = reads.0 in
    let both = subst AreBytes begins.whole bytes in
    let one = again logins limit s m begins (AreBytes-front begins.bytes begins.rest both) in
    let c = continues logins m.head in (
      record {
        bytes = canonical_bytes m;
        segment = segment_bytes m.segment;
        rest = canon ms;
        whole = flat_map-cons canonical_bytes m ms;
        means = one.1;
        within = omega (arith, begins.within, one.0);
        meaning = begins.meaning ∙ sym (segment_again c m.head begins.segment) ∙ ap (λ (x : Segment). segment_of c m.head (segment_bytes x))
            (sym begins.meaning);
      },
      canon_again limit (logins_after logins m.head) begins.rest ms (AreBytes-back begins.bytes begins.rest both) reads.1,
    )

pdu_len-le : (m n : ℕ) → m ≤ n → pdu_len m ≤ pdu_len n
pdu_len-le m n le = omega arith

pub canon-shorter : (limit : ℕ) (logins : Logins) (s : List ℕ) (ms : List Message) → AreBytes s → ReadsAs limit logins s ms → length (canon ms) ≤ length s
unfolding ReadsAs
canon-shorter limit logins s [] bytes reads = omega arith
canon-shorter limit logins s (m ∷ ms) bytes reads =
    let begins = reads.0 in
    let both = subst AreBytes begins.whole bytes in
    let one = again logins limit s m begins (AreBytes-front begins.bytes begins.rest both) in
    let more = canon-shorter limit (logins_after logins m.head) begins.rest ms (AreBytes-back begins.bytes begins.rest both) reads.1 in
    omega (
      arith,
      ap length (flat_map-cons canonical_bytes m ms),
      length-append (canonical_bytes m) (canon ms),
      one.1.size,
      pdu_len-le _ _ one.0,
      begins.means.size,
      ap length begins.whole,
      length-append begins.bytes begins.rest,
      more,
    )

-- a stream of the profile leaves no rest
pub all_given : (stream given rest : List ℕ) (ms ns : List Message) → StreamMeans stream ns → SplitsStream longest_segment stream ms given rest → rest ≡ []
all_given stream given rest ms ns means s =
    let same = (same_split longest_segment no_login stream ns [] given ms rest means (no_pdu_none longest_segment) s.reaches.reads s.no_more (append-nil stream
    ∙ s.reaches.whole)).1 in
    nil_from_length rest (omega (arith, ap length same, ap length s.reaches.whole, length-append given rest))

-- as many messages as fit
pub count-shorter : (limit : ℕ) (logins : Logins) (s : List ℕ) (ms : List Message) → ReadsAs limit logins s ms → length ms ≤ length s
unfolding ReadsAs
count-shorter limit logins s [] reads = omega arith
count-shorter limit logins s (m ∷ ms) reads =
    omega (
      arith,
      reads.0.means.size,
      ap length reads.0.whole,
      length-append reads.0.bytes reads.0.rest,
      count-shorter limit (logins_after logins m.head) reads.0.rest ms reads.1,
    )
