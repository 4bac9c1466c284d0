-- The messages of a stream begin with those that were taken of it.
use Rattle.std.proofs.Common.{◌≡◌, ◌<◌, ◌≤◌, ℕ, Bool, true, false, List, [], ◌∷◌, ◌++◌, length, take, Some, refl, sym, ap, subst, ◌∙◌, arith, append_assoc, ◌⊎◌}
use Rattle.std.proofs.Common.{inl, inr}
use Rattle.std.proofs.lemmas.List.{length-append, take-append-le}
use Rattle.std.specs.Bool.{OnTrue}
use Rattle.iscsi_pdu.specs.declared.head.Head.{Head}
use Rattle.iscsi_pdu.specs.declared.head.Head.TheVariants.{LoginRequest, LoginResponse}
use Rattle.iscsi_pdu.specs.declared.head.HeadFault.{HeadFault}
use Rattle.iscsi_pdu.specs.Meaning.{IsHeader, head_fault, opcode, is_login}
use Rattle.iscsi_stream.specs.declared.logins.Logins.{Logins}
use Rattle.iscsi_stream.specs.Segment.{Bytes, continues, logins_after, segment_of}
use Rattle.iscsi_stream.specs.Stream.{Message, ReadsAs, logins_after_all, longest_segment, pdu_len, NoPdu}
use Rattle.iscsi_stream.specs.Framing.{IsBegun, is_whole_pdu}
use Rattle.iscsi_stream.proofs.OneMeaningLaw.{same_begin, starts, no_pdu_none, same_message}
use Rattle.iscsi_stream.proofs.HeadLemmas.{bad_header, front-length}
use Rattle.iscsi_stream.proofs.GatheringLemmas.{is_full}

-- what is left of the messages of a stream, behind those of its front
pub record Rests (logins : Logins) (first ms : List Message) (rest : List ℕ) : Type 0 where
  pub more : List Message
  pub whole : ms ≡ first ++ more
  pub reads : ReadsAs longest_segment (logins_after_all logins first) rest more

rests_on : (logins : Logins) (m n : Message) (first ms : List Message) (rest : List ℕ) → m ≡ n → Rests (logins_after logins m.head) first ms rest →
    Rests logins (m ∷ first) (n ∷ ms) rest
rests_on logins m n first ms rest one r =
    record { more = r.more; whole = ap (λ (x : Message). x ∷ ms) (sym one) ∙ ap (λ (xs : List Message). m ∷ xs) r.whole; reads = r.reads }

pub prefix_of : (limit : ℕ) (logins : Logins) (given : List ℕ) (first : List Message) (rest : List ℕ) (ms : List Message)
    → ReadsAs limit logins given first → ReadsAs longest_segment logins (given ++ rest) ms → Rests logins first ms rest
unfolding ReadsAs
prefix_of limit logins given [] rest ms p q =
    record { more = ms; whole = refl; reads = subst (λ (x : List ℕ). ReadsAs longest_segment logins x ms) (ap (λ (x : List ℕ). x ++ rest) p) q }
prefix_of limit logins given (m ∷ first) rest [] p q =
    let b = p.0 in
    absurd (no_pdu_none limit b.bytes b.segment (b.rest ++ rest) m.head (sym q ∙ ap (λ (x : List ℕ). x ++ rest) b.whole
    ∙ append_assoc b.bytes b.rest rest) b.means b.within)
prefix_of limit logins given (m ∷ first) rest (n ∷ ms) p q =
    let b = p.0 in
    let c = q.0 in
    let whole : b.bytes ++ (b.rest ++ rest) ≡ c.bytes ++ c.rest = sym (append_assoc b.bytes b.rest rest) ∙ ap (λ (x : List ℕ). x ++ rest) (sym b.whole) ∙
    c.whole in
    let same = same_begin b.bytes (b.rest ++ rest) c.bytes c.rest m.head n.head b.segment c.segment whole b.means c.means in
    let segment : m.segment ≡ n.segment =
    b.meaning ∙ ap (λ (h : Head). segment_of (continues logins h) h b.segment) same.head ∙ ap (segment_of (continues logins n.head) n.head) same.segment
    ∙ sym c.meaning in
    let one : m ≡ n = same_message m n same.head segment in
    let q' : ReadsAs longest_segment (logins_after logins m.head) (b.rest ++ rest) ms =
    subst (λ (x : List ℕ). ReadsAs longest_segment (logins_after logins m.head) x ms) (sym same.rest)
    (subst (λ (h : Head). ReadsAs longest_segment (logins_after logins h) c.rest ms) (sym same.head) q.1) in
    let r : Rests (logins_after logins m.head) first ms rest = prefix_of limit (logins_after logins m.head) b.rest first rest ms p.1 q' in
    rests_on logins m n first ms rest one r

-- a stream that begins with a header has a PDU with that header
pub record Heads (logins : Logins) (ms : List Message) (header : List ℕ) : Type 0 where
  pub m : Message
  pub more : List Message
  pub is : ms ≡ m ∷ more
  pub segment : List ℕ
  pub says : IsHeader header m.head (length segment)
  pub meaning : m.segment ≡ segment_of (continues logins m.head) m.head segment

pub begins_with : (logins : Logins) (rest more : List ℕ) (ms : List Message) → 48 ≤ length rest → ReadsAs longest_segment logins (rest ++ more) ms →
    Heads logins ms (take 48 rest)
unfolding ReadsAs
begins_with logins rest more [] le q = absurd (omega (arith, le, ap (λ (x : List ℕ). length x) q, length-append rest more))
begins_with logins rest more (n ∷ ms) le q =
    let c = q.0 in
    record {
      m = n;
      more = ms;
      is = refl;
      segment = c.segment;
      says = subst (λ (x : List ℕ). IsHeader x n.head (length c.segment)) (take-append-le 48 rest more le)
          (starts (rest ++ more) c.bytes c.rest n.head c.segment c.whole c.means).0;
      meaning = c.meaning;
    }

-- a header that is refused begins no PDU
pub no_bad_header : (logins : Logins) (rest more : List ℕ) (ms : List Message) (f : HeadFault) → 48 ≤ length rest → head_fault (take 48 rest) ≡ Some f
    → ReadsAs longest_segment logins (rest ++ more) ms → ⊥
no_bad_header logins rest more ms f le bad q =
    let h : Heads logins ms (take 48 rest) = begins_with logins rest more ms le q in
    bad_header (take 48 rest) h.m.head (length h.segment) f h.says bad

-- no PDU is whole in what is not ready
pub none_whole : (limit : ℕ) (logins : Logins) (rest : List ℕ) (ms : List Message) → IsBegun limit rest → is_whole_pdu rest ≡ false →
    ReadsAs longest_segment logins rest ms → ms ≡ []
unfolding ReadsAs
none_whole limit logins rest [] begun part q = refl
none_whole limit logins rest (n ∷ ms) begun part q =
    let c = q.0 in
    let s = starts rest c.bytes c.rest n.head c.segment c.whole c.means in
    let long : 48 ≤ length rest = omega (arith, s.1) in
    let good = (begun long).1 in
    let k = front-length rest n.head (length c.segment) s.0 in
    let e : true ≡ false = sym (is_full rest long (omega (arith, good.no_more, s.1, ap pdu_len k))) ∙ part in
    absurd cc

-- a segment longer than any of a login means its bytes
pub long_bytes : (continued : Bool) (head : Head) (bytes : List ℕ) → OnTrue (is_login (opcode head)) (length bytes ≤ 8192) → 8192 < length bytes
    → segment_of continued head bytes ≡ Bytes bytes
unfolding segment_of
long_bytes continued (LoginRequest h) bytes o lt = absurd (omega (arith, o, lt))
long_bytes continued (LoginResponse h) bytes o lt = absurd (omega (arith, o, lt))
long_bytes true head bytes o lt = refl
long_bytes false head bytes o lt = refl

-- ---- a stream that isn't all PDUs

-- what is left of the messages of a stream's longest prefix
pub record Leaves (logins : Logins) (first ms : List Message) (bytes rest : List ℕ) : Type 0 where
  pub more : List Message
  pub whole : ms ≡ first ++ more
  pub given : List ℕ
  pub reads : ReadsAs longest_segment (logins_after_all logins first) given more
  pub bytes_are : bytes ≡ given ++ rest

leaves_on : (logins : Logins) (m n : Message) (first ms : List Message) (bytes rest : List ℕ) → m ≡ n → Leaves (logins_after logins m.head) first ms bytes rest
    →
    Leaves logins (m ∷ first) (n ∷ ms) bytes rest
leaves_on logins m n first ms bytes rest one r = record {
  more = r.more;
  whole = ap (λ (x : Message). x ∷ ms) (sym one) ∙ ap (λ (xs : List Message). m ∷ xs) r.whole;
  given = r.given;
  reads = r.reads;
  bytes_are = r.bytes_are;
}

pub prefix_split : (limit : ℕ) (logins : Logins) (front : List ℕ) (first : List Message) (bytes given : List ℕ) (ms : List Message) (rest : List ℕ) → limit
    ≤ longest_segment
    → ReadsAs limit logins front first → ReadsAs longest_segment logins given ms → NoPdu longest_segment rest → front ++ bytes ≡ given ++ rest →
    Leaves logins first ms bytes rest
unfolding ReadsAs
prefix_split limit logins front [] bytes given ms rest le p q none e =
    record { more = ms; whole = refl; given = given; reads = q; bytes_are = ap (λ (x : List ℕ). x ++ bytes) (sym p) ∙ e }
prefix_split limit logins front (m ∷ first) bytes given [] rest le p q none e =
    let b = p.0 in
    let start : front ++ bytes ≡ b.bytes ++ (b.rest ++ bytes) = ap (λ (x : List ℕ). x ++ bytes) b.whole ∙ append_assoc b.bytes b.rest bytes in
    let all : front ++ bytes ≡ rest = e ∙ ap (λ (x : List ℕ). x ++ rest) q in
    absurd (none b.bytes b.segment (b.rest ++ bytes) m.head (sym all ∙ start) b.means (omega (arith, b.within, le)))
prefix_split limit logins front (m ∷ first) bytes given (n ∷ ms) rest le p q none e =
    let b = p.0 in
    let c = q.0 in
    let start : front ++ bytes ≡ b.bytes ++ (b.rest ++ bytes) = ap (λ (x : List ℕ). x ++ bytes) b.whole ∙ append_assoc b.bytes b.rest bytes in
    let end : given ++ rest ≡ c.bytes ++ (c.rest ++ rest) = ap (λ (x : List ℕ). x ++ rest) c.whole ∙ append_assoc c.bytes c.rest rest in
    let whole : b.bytes ++ (b.rest ++ bytes) ≡ c.bytes ++ (c.rest ++ rest) = sym start ∙ e ∙ end in
    let same = same_begin b.bytes (b.rest ++ bytes) c.bytes (c.rest ++ rest) m.head n.head b.segment c.segment whole b.means c.means in
    let segment : m.segment ≡ n.segment =
    b.meaning ∙ ap (λ (h : Head). segment_of (continues logins h) h b.segment) same.head ∙ ap (segment_of (continues logins n.head) n.head) same.segment
    ∙ sym c.meaning in
    let one : m ≡ n = same_message m n same.head segment in
    let q' : ReadsAs longest_segment (logins_after logins m.head) c.rest ms = subst (λ (h : Head). ReadsAs longest_segment (logins_after logins h) c.rest ms)
    (sym same.head) q.1 in
    let r : Leaves (logins_after logins m.head) first ms bytes rest = prefix_split limit (logins_after logins m.head) b.rest first bytes c.rest ms rest le p.1
    q' none
    same.rest in
    leaves_on logins m n first ms bytes rest one r

-- bytes that begin with a header begin with no whole PDU, or with one of that header
pub header_or_none : (logins : Logins) (front more given rest : List ℕ) (ms : List Message) → 48 ≤ length front → ReadsAs longest_segment logins given ms →
    front ++ more ≡ given ++ rest
    → (ms ≡ []) ⊎ Heads logins ms (take 48 front)
unfolding ReadsAs
header_or_none logins front more given rest [] le q e = inl refl
header_or_none logins front more given rest (n ∷ ms) le q e =
    let c = q.0 in
    let whole : front ++ more ≡ c.bytes ++ (c.rest ++ rest) = e ∙ ap (λ (x : List ℕ). x ++ rest) c.whole ∙ append_assoc c.bytes c.rest rest in
    inr (record {
      m = n;
      more = ms;
      is = refl;
      segment = c.segment;
      says = subst (λ (x : List ℕ). IsHeader x n.head (length c.segment)) (take-append-le 48 front more le)
          (starts (front ++ more) c.bytes (c.rest ++ rest) n.head c.segment whole c.means).0;
      meaning = c.meaning;
    })

-- no PDU is whole in what is not ready
pub none_begun : (limit : ℕ) (logins : Logins) (bytes given rest : List ℕ) (ms : List Message) → IsBegun limit bytes → is_whole_pdu bytes ≡ false →
    ReadsAs longest_segment logins given ms
    → bytes ≡ given ++ rest → ms ≡ []
unfolding ReadsAs
none_begun limit logins bytes given rest [] begun part q e = refl
none_begun limit logins bytes given rest (n ∷ ms) begun part q e =
    let c = q.0 in
    let whole : bytes ≡ c.bytes ++ (c.rest ++ rest) = e ∙ ap (λ (x : List ℕ). x ++ rest) c.whole ∙ append_assoc c.bytes c.rest rest in
    let s = starts bytes c.bytes (c.rest ++ rest) n.head c.segment whole c.means in
    let long : 48 ≤ length bytes = omega (arith, s.1) in
    let good = (begun long).1 in
    let k = front-length bytes n.head (length c.segment) s.0 in
    let f : true ≡ false = sym (is_full bytes long (omega (arith, good.no_more, s.1, ap pdu_len k))) ∙ part in
    absurd cc
