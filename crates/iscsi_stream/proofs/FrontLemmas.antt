-- PDUs that were received of one stream: those that are fewer are the front of the others.
use Rattle.std.proofs.Common.{◌≡◌, ◌⊎◌, inl, inr, ◌<◌, ◌≤◌, ℕ, Bool, true, false, List, [], ◌∷◌, ◌++◌, length, take, min, max, Some, refl, sym, ap, subst, ◌∙◌}
use Rattle.std.proofs.Common.{arith, append_assoc}
use Rattle.std.proofs.lemmas.List.{append-nil, append_cancel_left}
use Rattle.iscsi_pdu.specs.declared.head.Head.{Head}
use Rattle.iscsi_pdu.specs.Meaning.{IsHeader, head_fault}
use Rattle.iscsi_pdu.proofs.HeaderLemmas.{IsHeader-unique}
use Rattle.iscsi_stream.specs.declared.fault.StreamFault.{StreamFault}
use Rattle.iscsi_stream.specs.declared.fault.StreamFault.TheVariants as faults
use Rattle.iscsi_stream.specs.declared.logins.Logins.{Logins}
use Rattle.iscsi_stream.specs.Segment.{no_login, continues, logins_after, segment_of}
use Rattle.iscsi_stream.specs.Stream.{Message, ReadsAs, NoPdu, logins_after_all}
use Rattle.iscsi_stream.specs.Framing.{Framing, HasTaken, FramerFeedFails, IsBegun, is_ready, is_whole_pdu, length_at, begun_len, longest_of, settled, last_place}
use Rattle.iscsi_stream.proofs.HeadLemmas.{bad_header}
use Rattle.iscsi_stream.proofs.SettledBytesLemmas.{settled-short, length-settled, is_whole-settled}
use Rattle.iscsi_stream.proofs.ReadyLemmas.{apart, unready_of}
use Rattle.iscsi_stream.proofs.OneMeaningLaw.{same_begin, no_pdu_bad, no_pdu_over, no_pdu_begun, same_split, same_message}

-- ---- two lists of PDUs that begin one stream

-- the first are the front of the second
pub record IsFront (ms ns : List Message) : Type 0 where
  pub more : List Message
  pub whole : ns ≡ ms ++ more

-- the second are fewer, so a PDU begins what is behind them
record IsBehind (limit : ℕ) (ms ns : List Message) (rest : List ℕ) : Type 0 where
  front : IsFront ns ms
  pdu : NoPdu limit rest → ⊥

front_on : (m n : Message) (ms ns : List Message) → m ≡ n → IsFront ms ns → IsFront (m ∷ ms) (n ∷ ns)
front_on m n ms ns one f = record { more = f.more; whole = ap (λ (x : Message). x ∷ ns) (sym one) ∙ ap (λ (xs : List Message). m ∷ xs) f.whole }

one_is_front : (limit : ℕ) (logins : Logins) (given : List ℕ) (ms : List Message) (rest given' : List ℕ) (ns : List Message) (rest' : List ℕ)
    → ReadsAs limit logins given ms → ReadsAs limit logins given' ns → given ++ rest ≡ given' ++ rest' → IsFront ms ns ⊎ IsBehind limit ms ns rest'
unfolding ReadsAs
one_is_front limit logins given [] rest given' ns rest' p q e = inl (record { more = ns; whole = refl })
one_is_front limit logins given (m ∷ ms) rest given' [] rest' p q e =
    let b = p.0 in
    inr (record {
      front = record { more = m ∷ ms; whole = refl };
      pdu = λ none. none b.bytes b.segment (b.rest ++ rest) m.head (ap (λ (x : List ℕ). x ++ rest') (sym q) ∙ sym e ∙ ap (λ (x : List ℕ). x ++ rest) b.whole
          ∙ append_assoc b.bytes b.rest rest) b.means b.within;
    })
one_is_front limit logins given (m ∷ ms) rest given' (n ∷ ns) rest' p q e =
    let b = p.0 in
    let c = q.0 in
    let whole : b.bytes ++ (b.rest ++ rest) ≡ c.bytes ++ (c.rest ++ rest') =
    sym (append_assoc b.bytes b.rest rest) ∙ ap (λ (x : List ℕ). x ++ rest) (sym b.whole) ∙ e ∙ ap (λ (x : List ℕ). x ++ rest') c.whole ∙ append_assoc
    c.bytes c.rest rest' in
    let same = same_begin b.bytes (b.rest ++ rest) c.bytes (c.rest ++ rest') m.head n.head b.segment c.segment whole b.means c.means in
    let segment : m.segment ≡ n.segment =
    b.meaning ∙ ap (λ (h : Head). segment_of (continues logins h) h b.segment) same.head ∙ ap (segment_of (continues logins n.head) n.head) same.segment
    ∙ sym c.meaning in
    let one : m ≡ n = same_message m n same.head segment in
    elim (one_is_front limit (logins_after logins m.head) b.rest ms rest c.rest ns rest' p.1
    (subst (λ (h : Head). ReadsAs limit (logins_after logins h) c.rest ns)
    (sym same.head) q.1) same.rest) [
      | inl f ↦ inl (front_on m n ms ns one f)
      | inr f ↦ inr (record { front = front_on n m ns ms (sym one) f.front; pdu = f.pdu })
    ]

-- ---- what they lead to

-- What messages lead to, where some lead to an end behind which none counts.
pub record Receiver (R : Type 0) : Type 0 where
  pub to : List Message → R
  pub over : R → Bool
  pub stays : (first more : List Message) → over (to first) ≡ true → to (first ++ more) ≡ to first

-- What was received of a stream: the PDUs, the longest of their segments, where the next one stands, and the bytes from there
-- on.
pub record Sight : Type 0 where
  pub limit : ℕ
  pub place : ℕ
  pub received : List Message
  pub longest : ℕ
  pub rest : List ℕ

-- PDUs were received of a stream, up to an end, or all that it has.
pub record ReceivesUpTo {R : Type 0} (c : Receiver R) (limit : ℕ) (stream : List ℕ) (before more : List Message) (x : Sight) : Type 0 where
  pub given : List ℕ
  pub whole : stream ≡ given ++ x.rest
  pub limit_is : x.limit ≡ limit
  pub place_is : x.place ≡ min (length given) last_place
  pub received_is : x.received ≡ before ++ more
  pub longest_is : x.longest ≡ longest_of (before ++ more) given
  pub reads : ReadsAs limit no_login given (before ++ more)
  pub end : (c.over (c.to more) ≡ true) ⊎ NoPdu limit x.rest

-- Both received the same, as far as it counts.
pub record ReceiveAlike {R : Type 0} (c : Receiver R) (ms ns : List Message) (x y : Sight) : Type 0 where
  pub same : c.to ns ≡ c.to ms
  pub sight : c.over (c.to ms) ≡ false → y ≡ x

-- the fewer led to the end, so the others do
front_leads : {R : Type 0} (c : Receiver R) (before ms ns : List Message) → IsFront (before ++ ms) (before ++ ns) → c.over (c.to ms) ≡ true → c.to ns ≡ c.to ms
front_leads c before ms ns f over =
    ap c.to (append_cancel_left before ns (ms ++ f.more) (f.whole ∙ append_assoc before ms f.more)) ∙ c.stays ms f.more over

both_over : {R : Type 0} (c : Receiver R) (ms ns : List Message) (x y : Sight) → c.over (c.to ms) ≡ true → c.to ns ≡ c.to ms → ReceiveAlike c ms ns x y
both_over c ms ns x y over e = record { same = e; sight = λ live. absurd (apart over live) }

-- those that received all have received the same
all_alike : {R : Type 0} (c : Receiver R) (limit : ℕ) (stream : List ℕ) (before ms ns : List Message) (x y : Sight) → ReceivesUpTo c limit stream before ms x →
    ReceivesUpTo c limit stream before ns y
    → NoPdu limit x.rest → NoPdu limit y.rest → ReceiveAlike c ms ns x y
all_alike c limit stream before ms ns x y a b none none' =
    let e : a.given ++ x.rest ≡ b.given ++ y.rest = sym a.whole ∙ b.whole in
    let same = same_split limit no_login a.given (before ++ ms) x.rest b.given (before ++ ns) y.rest a.reads none b.reads none' e in
    let messages : ns ≡ ms = append_cancel_left before ns ms (sym same.0) in
    let rest : y.rest ≡ x.rest = append_cancel_left a.given y.rest x.rest (ap (λ (z : List ℕ). z ++ y.rest) same.1 ∙ sym e) in
    record {
      same = ap c.to messages;
      sight = λ live i. record {
        limit = (b.limit_is ∙ sym a.limit_is) i;
        place = (b.place_is ∙ ap (λ (z : List ℕ). min (length z) last_place) (sym same.1) ∙ sym a.place_is) i;
        received = (b.received_is ∙ ap (λ (z : List Message). before ++ z) messages ∙ sym a.received_is) i;
        longest = (b.longest_is ∙ ap (λ (z : List Message). longest_of (before ++ z) b.given) messages ∙ ap (longest_of (before ++ ms)) (sym same.1)
            ∙ sym a.longest_is) i;
        rest = rest i;
      };
    }

pub receive_alike : {R : Type 0} (c : Receiver R) (limit : ℕ) (stream : List ℕ) (before ms ns : List Message) (x y : Sight) → ReceivesUpTo c limit stream
    before ms x →
    ReceivesUpTo c limit stream before ns y
    → ReceiveAlike c ms ns x y
receive_alike c limit stream before ms ns x y a b =
    let e : a.given ++ x.rest ≡ b.given ++ y.rest = sym a.whole ∙ b.whole in
    elim a.end [
      | inl over ↦
          elim (one_is_front limit no_login a.given (before ++ ms) x.rest b.given (before ++ ns) y.rest a.reads b.reads e) [
            | inl f ↦ both_over c ms ns x y over (front_leads c before ms ns f over)
            | inr f ↦
                elim b.end [
                  | inl late ↦ both_over c ms ns x y over (sym (front_leads c before ns ms f.front late))
                  | inr none ↦ absurd (f.pdu none)
                ]
          ]
      | inr none ↦
          elim b.end [
            | inl over ↦
                elim (one_is_front limit no_login b.given (before ++ ns) y.rest a.given (before ++ ms) x.rest b.reads a.reads (sym e)) [
                  | inl f ↦ (let same = front_leads c before ns ms f over in both_over c ms ns x y (ap c.over same ∙ over) (sym same))
                  | inr f ↦ absurd (f.pdu none)
                ]
            | inr none' ↦ all_alike c limit stream before ms ns x y a b none none'
          ]
    ]

-- ---- what is refused behind them

-- Why the bytes behind the PDUs are refused.
abbrev pub IsRefused : Sight → StreamFault → Type 0
IsRefused x (faults.Head fault place) = (head_fault (take 48 x.rest) ≡ Some fault) × (place ≡ x.place) × (48 ≤ length x.rest)
IsRefused x (faults.OverLimit place) = ((head : Head) × (len : ℕ) × IsHeader (take 48 x.rest) head len × (x.limit < len)) × (place ≡ x.place)
    × (48 ≤ length x.rest)
IsRefused x faults.NoMemory = ⊥
IsRefused x (faults.Truncated place) = ⊥
IsRefused x faults.Failed = ⊥

-- for one reason
pub refused_once : (x : Sight) (a b : StreamFault) → IsRefused x a → IsRefused x b → a ≡ b
refused_once x (faults.Head f p) (faults.Head g q) a b = (let h : f ≡ g = cc in let r : p ≡ q = a.1 ∙ sym b.1 in cc)
refused_once x (faults.Head f p) (faults.OverLimit q) a b = absurd (bad_header (take 48 x.rest) b.0.0 b.0.1 f b.0.2 a.0)
refused_once x (faults.OverLimit p) (faults.Head g q) a b = absurd (bad_header (take 48 x.rest) a.0.0 a.0.1 g a.0.2 b.0)
refused_once x (faults.OverLimit p) (faults.OverLimit q) a b = (let r : p ≡ q = a.1 ∙ sym b.1 in cc)
refused_once x faults.NoMemory b p q = absurd p
refused_once x (faults.Truncated n) b p q = absurd p
refused_once x faults.Failed b p q = absurd p
refused_once x (faults.Head f n) faults.NoMemory p q = absurd q
refused_once x (faults.Head f n) (faults.Truncated m) p q = absurd q
refused_once x (faults.Head f n) faults.Failed p q = absurd q
refused_once x (faults.OverLimit n) faults.NoMemory p q = absurd q
refused_once x (faults.OverLimit n) (faults.Truncated m) p q = absurd q
refused_once x (faults.OverLimit n) faults.Failed p q = absurd q

-- no PDU stands there
pub refused_none : (x : Sight) (fault : StreamFault) → IsRefused x fault → NoPdu x.limit x.rest
refused_none x (faults.Head f p) r = no_pdu_bad x.limit x.rest f r.0
refused_none x (faults.OverLimit p) r = no_pdu_over x.limit x.rest r.0.0 r.0.1 r.0.2 r.0.3
refused_none x faults.NoMemory r = absurd r
refused_none x (faults.Truncated p) r = absurd r
refused_none x faults.Failed r = absurd r

-- nor has a good one begun
pub begun_or_refused : (x : Sight) (fault : StreamFault) → IsBegun x.limit x.rest → IsRefused x fault → ⊥
begun_or_refused x (faults.Head f p) begun r =
    let good = begun r.2 in bad_header (take 48 x.rest) good.0 (length_at x.rest) f good.1.header r.0
begun_or_refused x (faults.OverLimit p) begun r =
    let good = begun r.2 in
    let len : length_at x.rest ≡ r.0.1 = (IsHeader-unique (take 48 x.rest) good.0 r.0.0 (length_at x.rest) r.0.1 good.1.header r.0.2).1 in
    omega (arith, len, good.1.within, r.0.3)
begun_or_refused x faults.NoMemory begun r = absurd r
begun_or_refused x (faults.Truncated p) begun r = absurd r
begun_or_refused x faults.Failed begun r = absurd r

-- ---- a framer that received them

-- what it came to, before these bytes
pub sight : (s : List ℕ) (ms : List Message) (v : Framing) → HasTaken s ms v → List ℕ → Sight
sight s ms v t behind = record { limit = v.limit; place = v.place; received = ms; longest = longest_of ms t.given; rest = t.rest ++ behind }

pub framer_receives : {R : Type 0} (c : Receiver R) (limit : ℕ) (stream s behind : List ℕ) (before more : List Message) (v : Framing)
    (t : HasTaken s (before ++ more) v)
    → v.limit ≡ limit → stream ≡ s ++ behind → (let x = sight s (before ++ more) v t behind in (c.over (c.to more) ≡ true) ⊎ NoPdu x.limit x.rest →
    ReceivesUpTo c limit stream before more x)
unfolding sight
framer_receives c limit stream s behind before more v t is whole end = record {
  given = t.given;
  whole = whole ∙ ap (λ (x : List ℕ). x ++ behind) t.whole ∙ append_assoc t.given t.rest behind;
  limit_is = is;
  place_is = t.place;
  received_is = refl;
  longest_is = refl;
  reads = subst (λ (n : ℕ). ReadsAs n no_login t.given (before ++ more)) is t.reads;
  end = subst (λ (n : ℕ). (c.over (c.to more) ≡ true) ⊎ NoPdu n (t.rest ++ behind)) is end;
}

-- where a header isn't whole, what is held is the rest
pub held_is : (s : List ℕ) (ms : List Message) (v : Framing) → (t : HasTaken s ms v) → length v.held < 48 → v.held ≡ t.rest
held_is s ms v t lt =
    let n : length v.held ≡ length t.rest = ap (λ (x : List ℕ). length x) t.held ∙ length-settled t.rest in
    t.held ∙ settled-short t.rest (omega (arith, n, lt))

-- what it refuses is refused
pub framer_refuses : (s : List ℕ) (ms : List Message) (v : Framing) (piece : List ℕ) (fault : StreamFault) → (t : HasTaken s ms v) →
    (fault ≡ faults.NoMemory → ⊥) → FramerFeedFails v piece fault
    → IsRefused (sight s ms v t piece) fault
unfolding sight
framer_refuses s ms v piece (faults.Head f p) t none fails =
    let held = held_is s ms v t fails.1.before in (
      subst (λ (x : List ℕ). head_fault (take 48 (x ++ piece)) ≡ Some f) held fails.2,
      fails.3,
      subst (λ (x : List ℕ). 48 ≤ length (x ++ piece)) held fails.1.reached,
    )
framer_refuses s ms v piece (faults.OverLimit p) t none fails =
    let over = fails.1 in
    let held = held_is s ms v t over.2.reaches.before in (
      (over.0, over.1, subst (λ (x : List ℕ). IsHeader (take 48 (x ++ piece)) over.0 over.1) held over.2.header, over.3),
      fails.2,
      subst (λ (x : List ℕ). 48 ≤ length (x ++ piece)) held over.2.reaches.reached,
    )
framer_refuses s ms v piece faults.NoMemory t none fails = absurd (none refl)
framer_refuses s ms v piece (faults.Truncated p) t none fails = absurd fails
framer_refuses s ms v piece faults.Failed t none fails = absurd (apart fails t.live)

-- a framer that came to this
pub framer : Sight → Framing
framer x = record {
  limit = x.limit;
  place = x.place;
  logins = logins_after_all no_login x.received;
  held = settled x.rest;
  room = max x.longest (begun_len x.rest);
  failed = false;
}

-- Nothing is wrong with the rest, no PDU stands there, and the framer has it all.
pub record IsLeft (x : Sight) (v : Framing) : Type 0 where
  pub begun : IsBegun x.limit x.rest
  pub none : NoPdu x.limit x.rest
  pub is : v ≡ framer x

pub framer_leaves : (s : List ℕ) (ms : List Message) (v : Framing) (behind : List ℕ) → (t : HasTaken s ms v) → is_ready v ≡ false → behind ≡ [] →
    IsLeft (sight s ms v t behind) v
unfolding sight framer
framer_leaves s ms v behind t unready nil =
    let all : t.rest ≡ t.rest ++ behind = sym (append-nil t.rest) ∙ ap (λ (x : List ℕ). t.rest ++ x) (sym nil) in
    let part : is_whole_pdu t.rest ≡ false = sym (is_whole-settled t.rest) ∙ ap is_whole_pdu (sym t.held) ∙ unready_of v.failed v.held t.live unready in
    record {
      begun = subst (IsBegun v.limit) all t.begun;
      none = subst (NoPdu v.limit) all (no_pdu_begun v.limit t.rest t.begun part);
      is = λ i. record {
        limit = v.limit;
        place = v.place;
        logins = t.logins i;
        held = (t.held ∙ ap settled all) i;
        room = (t.room ∙ ap (λ (x : List ℕ). max (longest_of ms t.given) (begun_len x)) all) i;
        failed = t.live i;
      };
    }
