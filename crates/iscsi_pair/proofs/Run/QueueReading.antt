-- What is on its way to one end, read in parts, however the bytes are cut.
use Rattle.std.proofs.Common.{◌≡◌, ◌≢◌, ◌≤◌, ◌⊎◌, inl, inr, ℕ, Bool, true, false, List, [], ◌∷◌, ◌++◌, length, take, refl, sym, ap, ◌∙◌, subst, append_assoc}
use Rattle.std.proofs.Common.{arith}
use Rattle.std.proofs.lemmas.List.{append-nil, append_cancel_left, length-append}
use Rattle.std.proofs.lemmas.List.Concat.{flat_map-cons}
use Rattle.iscsi_pdu.specs.declared.head.Head.{Head}
use Rattle.iscsi_pdu.specs.Meaning.{IsHeader, head_fault}
use Rattle.iscsi_pdu.proofs.HeaderLemmas.{IsHeader-unique}
use Rattle.iscsi_stream.specs.declared.fault.StreamFault.{StreamFault}
use Rattle.iscsi_stream.specs.declared.fault.StreamFault.TheVariants as stream
use Rattle.iscsi_stream.specs.declared.logins.Logins.{Logins}
use Rattle.iscsi_stream.specs.Segment.{no_login, continues, logins_after, segment_of, segment_bytes}
use Rattle.iscsi_stream.specs.Stream.{Message, ReadsAs, logins_after_all, NoPdu}
use Rattle.iscsi_stream.specs.Canonical.{canon, canonical_bytes}
use Rattle.iscsi_stream.specs.Framing.{Framing, HasTaken, FramerFeedFails, is_ready}
use Rattle.iscsi_stream.proofs.OneMeaningLaw.{same_begin, same_message, starts}
use Rattle.iscsi_stream.proofs.HeadLemmas.{bad_header}
use Rattle.iscsi_stream.proofs.TakingLemmas.{splits_taken, taken_at}
use Rattle.iscsi_stream.proofs.ReadyLemmas.{apart, unready_of}
use Rattle.iscsi_pair.proofs.Login.NoFailure.{both_none}
use Rattle.iscsi_pair.proofs.Login.NoEarlyFailureLaw.{front_of}
use Rattle.iscsi_pair.proofs.Request.Invariant.{AreWritten}

-- ---- streams in two parts

-- what the login PDUs say of two parts
pub after_all_append : (logins : Logins) (a b : List Message) → logins_after_all logins (a ++ b) ≡ logins_after_all (logins_after_all logins a) b
after_all_append logins [] b = refl
after_all_append logins (m ∷ a) b = after_all_append (logins_after logins m.head) a b

-- what is left of the messages of a stream, behind those of its front
record ReadsBehind (limit : ℕ) (logins : Logins) (ms ns : List Message) (rest : List ℕ) : Type 0 where
  more : List Message
  whole : ns ≡ ms ++ more
  reads : ReadsAs limit (logins_after_all logins ms) rest more

-- one message more in front
behind_on : (limit : ℕ) (logins : Logins) (m n : Message) (ms ns : List Message) (rest : List ℕ) → m ≡ n
    → ReadsBehind limit (logins_after logins m.head) ms ns rest
    → ReadsBehind limit logins (m ∷ ms) (n ∷ ns) rest
behind_on limit logins m n ms ns rest one r =
    record { more = r.more; whole = ap (λ (x : Message). x ∷ ns) (sym one) ∙ ap (λ (xs : List Message). m ∷ xs) r.whole; reads = r.reads }

-- both begin with the same messages
reads_behind : (limit : ℕ) (logins : Logins) (given : List ℕ) (ms : List Message) (rest whole : List ℕ) (ns : List Message)
    → ReadsAs limit logins given ms → ReadsAs limit logins whole ns → whole ≡ given ++ rest → ReadsBehind limit logins ms ns rest
unfolding ReadsAs
reads_behind limit logins given [] rest whole ns p q e =
    record { more = ns; whole = refl; reads = subst (λ (x : List ℕ). ReadsAs limit logins x ns) (e ∙ ap (λ (x : List ℕ). x ++ rest) p) q }
reads_behind limit logins given (m ∷ ms) rest whole [] p q e =
    absurd (omega (arith, p.0.means.size, ap length p.0.whole, length-append p.0.bytes p.0.rest, ap length e, length-append given rest, ap length q))
reads_behind limit logins given (m ∷ ms) rest whole (n ∷ ns) p q e =
    let b = p.0 in
    let c = q.0 in
    let both : b.bytes ++ (b.rest ++ rest) ≡ c.bytes ++ c.rest = sym (append_assoc b.bytes b.rest rest) ∙ ap (λ (x : List ℕ). x ++ rest) (sym b.whole) ∙ sym
    e ∙ c.whole in
    let same = same_begin b.bytes (b.rest ++ rest) c.bytes c.rest m.head n.head b.segment c.segment both b.means c.means in
    let segment : m.segment ≡ n.segment =
    b.meaning ∙ ap (λ (h : Head). segment_of (continues logins h) h b.segment) same.head ∙ ap (segment_of (continues logins n.head) n.head) same.segment
    ∙ sym c.meaning in
    behind_on limit logins m n ms ns rest (same_message m n same.head segment)
    (reads_behind limit (logins_after logins m.head) b.rest ms rest c.rest ns p.1
    (subst (λ (h : Head). ReadsAs limit (logins_after logins h) c.rest ns) (sym same.head) q.1)
    (sym same.rest))

-- two streams, one behind the other
pub reads_joined : (limit : ℕ) (logins : Logins) (a : List ℕ) (ms : List Message) (b : List ℕ) (ns : List Message) → ReadsAs limit logins a ms
    → ReadsAs limit (logins_after_all logins ms) b ns → ReadsAs limit logins (a ++ b) (ms ++ ns)
unfolding ReadsAs
reads_joined limit logins a [] b ns p q = subst (λ (x : List ℕ). ReadsAs limit logins (x ++ b) ns) (sym p) q
reads_joined limit logins a (m ∷ ms) b ns p q =
    let begins = p.0 in (
      record {
        bytes = begins.bytes;
        segment = begins.segment;
        rest = begins.rest ++ b;
        whole = ap (λ (x : List ℕ). x ++ b) begins.whole ∙ append_assoc begins.bytes begins.rest b;
        means = begins.means;
        within = begins.within;
        meaning = begins.meaning;
      },
      reads_joined limit (logins_after logins m.head) begins.rest ms b ns p.1 q,
    )

-- what was written so is read
pub written_reads : (limit : ℕ) (logins : Logins) (ms : List Message) → AreWritten limit logins ms → ReadsAs limit logins (canon ms) ms
unfolding ReadsAs
written_reads limit logins [] w = refl
written_reads limit logins (m ∷ ms) w = (
  record {
    bytes = canonical_bytes m;
    segment = segment_bytes m.segment;
    rest = canon ms;
    whole = flat_map-cons canonical_bytes m ms;
    means = w.0.readable.means;
    within = w.0.short;
    meaning = w.0.readable.meaning;
  },
  written_reads limit (logins_after logins m.head) ms w.1,
)

-- each of two parts is written so where both are
pub written_parts : (most : ℕ) (logins : Logins) (a b : List Message) → AreWritten most logins (a ++ b)
    → AreWritten most logins a × AreWritten most (logins_after_all logins a) b
written_parts most logins [] b p = (tt, p)
written_parts most logins (m ∷ a) b p = (let q = written_parts most (logins_after logins m.head) a b p.1 in ((p.0, q.0), q.1))

-- where a header stands that is whole, it is that of a PDU within the limit
record HasHeader (limit : ℕ) (bytes : List ℕ) : Type 0 where
  head : Head
  len : ℕ
  header : IsHeader (take 48 bytes) head len
  within : len ≤ limit

-- it has one
has_header : (limit : ℕ) (logins : Logins) (bytes : List ℕ) (ms : List Message) → ReadsAs limit logins bytes ms → 48 ≤ length bytes → HasHeader limit bytes
unfolding ReadsAs
has_header limit logins bytes [] p long = absurd (omega (arith, long, ap length p))
has_header limit logins bytes (m ∷ ms) p long =
    record { head = m.head; len = length p.0.segment; header = (starts bytes p.0.bytes p.0.rest m.head p.0.segment p.0.whole p.0.means).0; within = p.0.within }

-- a framer refuses nothing of what reads as messages
pub refuses_nothing : (fault : StreamFault) (v : Framing) (front : List ℕ) (received : List Message) (piece bytes behind : List ℕ) (logins : Logins)
    (ms : List Message) → (h : HasTaken front received v) → fault ≢ stream.NoMemory
    → FramerFeedFails v piece fault → bytes ≡ h.rest ++ (piece ++ behind) → ReadsAs v.limit logins bytes ms → ⊥
refuses_nothing stream.NoMemory v front received piece bytes behind logins ms h some f b p = some refl
refuses_nothing (stream.Head fault place) v front received piece bytes behind logins ms h some f b p =
    let e = front_of v.held h.rest piece bytes behind h.held f.1.before f.1.reached b in
    let g : HasHeader v.limit bytes = has_header v.limit logins bytes ms p e.1 in
    bad_header (take 48 bytes) g.head g.len fault g.header (ap head_fault e.0 ∙ f.2)
refuses_nothing (stream.OverLimit place) v front received piece bytes behind logins ms h some f b p =
    let head : Head = f.1.0 in
    let len : ℕ = f.1.1 in
    let c = f.1.2 in
    let over = f.1.3 in
    let e = front_of v.held h.rest piece bytes behind h.held c.reaches.before c.reaches.reached b in
    let g : HasHeader v.limit bytes = has_header v.limit logins bytes ms p e.1 in
    let u = (IsHeader-unique (take 48 bytes) g.head head g.len len g.header (subst (λ (x : List ℕ). IsHeader x head len) (sym e.0) c.header)).1 in
    let within = g.within in
    omega (arith, u, over, within)
refuses_nothing (stream.Truncated place) v front received piece bytes behind logins ms h some f b p = f
refuses_nothing stream.Failed v front received piece bytes behind logins ms h some f b p = apart f h.live

-- ---- what is on its way to one end

-- what is on its way to one end: what was read so far, and what still comes
pub record Unread (limit : ℕ) (framing : Framing) (queue : List ℕ) (waits : List Message) (logins : Logins) : Type 0 where
  pub stream : List ℕ
  pub received : List Message
  pub taken : HasTaken stream received framing
  pub limit_is : framing.limit ≡ limit
  pub unready : is_ready framing ≡ false
  pub reads : ReadsAs limit no_login (stream ++ queue) (received ++ waits)
  pub logins_is : logins ≡ logins_after_all no_login (received ++ waits)

-- an end whose session is over has nothing on its way to it
abbrev pub Way : Bool → ℕ → Framing → List ℕ → List Message → Logins → Type 0
Way over limit framing queue waits logins = ((over ≡ false) × Unread limit framing queue waits logins) ⊎ ((over ≡ true) × (queue ≡ []) × (waits ≡ []))

-- what is left on its way behind what a call read
pub record MovesOn (limit : ℕ) (received waits new : List Message) (rest more : List ℕ) : Type 0 where
  pub left : List Message
  pub whole : waits ≡ new ++ left
  pub reads : ReadsAs limit (logins_after_all no_login (received ++ new)) (rest ++ more) left

-- a call that read some messages leaves the others
pub moves_on : (limit : ℕ) (v : Framing) (queue : List ℕ) (waits : List Message) (logins : Logins) (piece more : List ℕ) (new : List Message) (w : Framing)
    → (u : Unread limit v queue waits logins) → queue ≡ piece ++ more → (t : HasTaken (u.stream ++ piece) (u.received ++ new) w) → w.limit ≡ limit
    → MovesOn limit u.received waits new t.rest more
moves_on limit v queue waits logins piece more new w u q t bound =
    let r : ReadsBehind limit no_login (u.received ++ new) (u.received ++ waits) (t.rest ++ more) =
    reads_behind limit no_login t.given (u.received ++ new) (t.rest ++ more) (u.stream ++ queue) (u.received ++ waits)
    (subst (λ (n : ℕ). ReadsAs n no_login t.given (u.received ++ new)) bound t.reads) u.reads
    (ap (λ (x : List ℕ). u.stream ++ x) q ∙ sym (append_assoc u.stream piece more) ∙ ap (λ (x : List ℕ). x ++ more) t.whole
    ∙ append_assoc t.given t.rest more) in
    record { left = r.more; whole = append_cancel_left u.received waits (new ++ r.more) (r.whole ∙ append_assoc u.received new r.more); reads = r.reads }

-- the end waits for what is left
pub still_unread : (limit : ℕ) (v : Framing) (queue : List ℕ) (waits : List Message) (logins : Logins) (piece more : List ℕ) (new left : List Message)
    (w : Framing)
    → (u : Unread limit v queue waits logins) → queue ≡ piece ++ more → HasTaken (u.stream ++ piece) (u.received ++ new) w → w.limit ≡ limit → is_ready w ≡
    false
    → waits ≡ new ++ left
    → Unread limit w more left logins
still_unread limit v queue waits logins piece more new left w u q t bound ready whole =
    let bytes : u.stream ++ queue ≡ (u.stream ++ piece) ++ more = ap (λ (x : List ℕ). u.stream ++ x) q ∙ sym (append_assoc u.stream piece more) in
    let messages : u.received ++ waits ≡ (u.received ++ new) ++ left = ap (λ (x : List Message). u.received ++ x) whole ∙ sym (append_assoc u.received new
    left) in
    record {
      stream = u.stream ++ piece;
      received = u.received ++ new;
      taken = t;
      limit_is = bound;
      unready = ready;
      reads = subst (λ (x : List ℕ). ReadsAs limit no_login x ((u.received ++ new) ++ left)) bytes
          (subst (λ (x : List Message). ReadsAs limit no_login (u.stream ++ queue) x) messages u.reads);
      logins_is = u.logins_is ∙ ap (logins_after_all no_login) messages;
    }

-- where no message is left there are no bytes
pub none_more : (limit : ℕ) (received waits new : List Message) (rest more : List ℕ) → (m : MovesOn limit received waits new rest more) → m.left ≡ [] → more ≡
    []
unfolding ReadsAs
none_more limit received waits new rest more m e =
    let none : ReadsAs limit (logins_after_all no_login (received ++ new)) (rest ++ more) [] =
    subst (λ (x : List Message). ReadsAs limit (logins_after_all no_login (received ++ new)) (rest ++ more) x) e m.reads in
    (both_none rest more none).1

-- more is sent behind what is on its way
pub way_sends : (over : Bool) (limit : ℕ) (v : Framing) (queue : List ℕ) (waits : List Message) (logins : Logins) (ms : List Message)
    → Way over limit v queue waits logins → AreWritten limit logins ms → (over ≡ true → ms ≡ [])
    → Way over limit v (queue ++ canon ms) (waits ++ ms) (logins_after_all logins ms)
way_sends over limit v queue waits logins ms way w none =
    elim way [
      | inl on ↦
          (let u : Unread limit v queue waits logins = on.1 in
          let here : AreWritten limit (logins_after_all no_login (u.received ++ waits)) ms = subst (λ (l : Logins). AreWritten limit l ms) u.logins_is w in
          inl (
            on.0,
            record {
              stream = u.stream;
              received = u.received;
              taken = u.taken;
              limit_is = u.limit_is;
              unready = u.unready;
              reads = subst (λ (x : List ℕ). ReadsAs limit no_login x (u.received ++ (waits ++ ms))) (append_assoc u.stream queue (canon ms))
                  (subst (λ (x : List Message). ReadsAs limit no_login ((u.stream ++ queue) ++ canon ms) x) (append_assoc u.received waits ms)
                  (reads_joined limit no_login (u.stream ++ queue) (u.received ++ waits) (canon ms) ms u.reads
                  (written_reads limit (logins_after_all no_login (u.received ++ waits)) ms here)));
              logins_is = ap (λ (l : Logins). logins_after_all l ms) u.logins_is ∙ sym (after_all_append no_login (u.received ++ waits) ms)
                  ∙ ap (logins_after_all no_login) (append_assoc u.received waits ms);
            },
          ))
      | inr ended ↦
          (let e : ms ≡ [] = none ended.0 in
          inr (ended.0, ap (λ (x : List ℕ). x ++ canon ms) ended.1 ∙ ap canon e, ap (λ (x : List Message). x ++ ms) ended.2 ∙ e))
    ]

-- a framer with which no PDU is ready holds none, so none waits where nothing is queued
nothing_behind : (limit : ℕ) (rest more : List ℕ) (logins : Logins) (waits : List Message) → NoPdu limit rest
    → more ≡ [] → ReadsAs limit logins (rest ++ more) waits → waits ≡ []
unfolding ReadsAs
nothing_behind limit rest more logins [] none nil p = refl
nothing_behind limit rest more logins (m ∷ ms) none nil p =
    absurd (none p.0.bytes p.0.segment p.0.rest m.head (sym (append-nil rest) ∙ ap (λ (x : List ℕ). rest ++ x) (sym nil) ∙ p.0.whole) p.0.means p.0.within)

-- all that was queued was read
unread_none : (limit : ℕ) (v : Framing) (queue : List ℕ) (waits : List Message) (logins : Logins) → Unread limit v queue waits logins → queue ≡ [] → waits ≡ []
unread_none limit v queue waits logins u none =
    let bytes : u.stream ≡ u.stream ++ [] = sym (append-nil u.stream) in
    let messages : u.received ≡ u.received ++ [] = sym (append-nil u.received) in
    let t : HasTaken (u.stream ++ []) (u.received ++ []) v = taken_at u.stream (u.stream ++ []) u.received (u.received ++ []) v bytes messages u.taken in
    let m : MovesOn limit u.received waits [] t.rest queue = moves_on limit v queue waits logins [] queue [] v u refl t u.limit_is in
    m.whole ∙ nothing_behind limit t.rest queue (logins_after_all no_login (u.received ++ [])) m.left
    (subst (λ (n : ℕ). NoPdu n t.rest) u.limit_is (splits_taken (u.stream ++ []) (u.received ++ []) v t (unready_of v.failed v.held t.live u.unready)).no_more)
    none m.reads

-- where nothing is queued nothing waits
pub way_none : (over : Bool) (limit : ℕ) (v : Framing) (queue : List ℕ) (waits : List Message) (logins : Logins) → Way over limit v queue waits logins
    → queue ≡ [] → waits ≡ []
way_none over limit v queue waits logins way none = elim way [
  | inl on ↦ unread_none limit v queue waits logins on.1 none
  | inr ended ↦ ended.2
]

-- what was queued is what waits
unread_empty : (limit : ℕ) (v : Framing) (queue : List ℕ) (waits : List Message) (logins : Logins) → Unread limit v queue waits logins → waits ≡ [] → queue ≡ []
unread_empty limit v queue waits logins u none =
    let bytes : u.stream ≡ u.stream ++ [] = sym (append-nil u.stream) in
    let messages : u.received ≡ u.received ++ [] = sym (append-nil u.received) in
    let t : HasTaken (u.stream ++ []) (u.received ++ []) v = taken_at u.stream (u.stream ++ []) u.received (u.received ++ []) v bytes messages u.taken in
    let m : MovesOn limit u.received waits [] t.rest queue = moves_on limit v queue waits logins [] queue [] v u refl t u.limit_is in
    none_more limit u.received waits [] t.rest queue m (sym m.whole ∙ none)

-- where nothing waits nothing is queued
pub way_empty : (over : Bool) (limit : ℕ) (v : Framing) (queue : List ℕ) (waits : List Message) (logins : Logins) → Way over limit v queue waits logins
    → waits ≡ [] → queue ≡ []
way_empty over limit v queue waits logins way none = elim way [
  | inl on ↦ unread_empty limit v queue waits logins on.1 none
  | inr ended ↦ ended.1
]
