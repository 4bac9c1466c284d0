-- What passing PDUs on leaves.
use Rattle.std.proofs.Common.{◌≡◌, ℕ, ◌+◌, ◌-◌, ◌<◌, ◌≤◌, ◌^◌, min, max, Bool, true, false, List, [], ◌∷◌, ◌++◌, length, take, drop, refl, sym, ap, subst, ◌∙◌}
use Rattle.std.proofs.Common.{arith, append-nil, append_assoc, inl, inr}
use Rattle.std.specs.Prelude.{not, ◌&&◌, Some}
use Rattle.std.proofs.lemmas.Bool.{cases_lt}
use Rattle.std.proofs.lemmas.List.{length-append, length-take, take_all, take-append-drop, take_rest}
use Rattle.iscsi_pdu.specs.declared.head.Head.{Head}
use Rattle.iscsi_pdu.specs.declared.head.HeadFault.{HeadFault}
use Rattle.iscsi_pdu.specs.Meaning.{IsHeader, Means, head_fault, AreBytes}
use Rattle.iscsi_pdu.proofs.HeaderLemmas.{IsHeader-short}
use Rattle.iscsi_stream.specs.declared.fault.StreamFault.{StreamFault}
use Rattle.iscsi_stream.specs.declared.fault.StreamFault.TheVariants as stream
use Rattle.iscsi_stream.specs.declared.counts.Counts.{Counts}
use Rattle.iscsi_stream.specs.Faults.{tool_fault}
use Rattle.iscsi_stream.specs.Segment.{no_login}
use Rattle.iscsi_stream.specs.Stream.{Message, pdu_len, longest_segment, SplitsStream, ReadsAs}
use Rattle.iscsi_stream.specs.declared.normalising.Form.{Form}
use Rattle.iscsi_stream.specs.Framing.{Framing, holding, length_at, begun_len, is_whole_pdu, is_ready, settled, FramerTakes, FramerFeedFails, HasTaken, FramerMoves, pdu_given_up, message_of, last_place}
use Rattle.iscsi_stream.specs.Headers.{skipped}
use Rattle.iscsi_stream.specs.inner.Passing.{PassingProgress, IsDueOutput, passing_progress, PassesOn, CountedMore, AppendedDue, PassFails}
use Rattle.iscsi_stream.proofs.GatheringLemmas.{begun_len-long, is_full}
use Rattle.iscsi_stream.proofs.HeadLemmas.{AreBytes-take, header-length, means-length, means_of}
use Rattle.iscsi_stream.proofs.SettledBytesLemmas.{settled-short, length-settled, is_whole-settled}
use Rattle.iscsi_stream.proofs.ReadyLemmas.{apart, not_whole-nil}
use Rattle.iscsi_stream.proofs.OneMeaningLaw.{AreBytes-back, no_pdu_bad, no_pdu_over}
use Rattle.iscsi_stream.proofs.TakingLemmas.{moves_none, moves_fed, moves_gave, moves_then, taken_at}
use Rattle.iscsi_stream.proofs.DueLemmas.{due_none, due_append}
use Rattle.iscsi_stream.proofs.LoopInvariants.{PassedUpTo}

pub unready_after : (v : Framing) (h : Head) → is_ready (pdu_given_up v h) ≡ false
unready_after v h = elim v.failed as (λ b. (not b && is_whole_pdu []) ≡ false) [ true ↦ refl | false ↦ not_whole-nil ]

-- ---- one PDU

pub pass_none : (form : Form) (v : Framing) (out : List ℕ) (k : Counts) → is_ready v ≡ false
    → PassesOn form (passing_progress v out k) (passing_progress v out k) [] []
pass_none form v out k unready = record {
  moves = moves_none v;
  limit = refl;
  unready = unready;
  out = [];
  due = due_none form;
  appended = sym (append-nil out);
  counted = record { pdus = λ _. omega arith; bytes_in = refl; bytes_out = λ _. omega arith };
}

pub pass_one : (form : Form) (v w : Framing) (h : Head) (d before after bytes : List ℕ) (k n : Counts) → Means v.held h d → w ≡ pdu_given_up v h → after
    ≡ before
    ++ bytes → IsDueOutput form (message_of v h d ∷ []) bytes
    → n.pdus ≡ min (k.pdus + 1) (2 ^ 64 - 1) → n.bytes_in ≡ k.bytes_in → n.bytes_out ≡ min (k.bytes_out + length bytes) (2 ^ 64 - 1) →
    PassesOn form (passing_progress v before k) (passing_progress w after n) [] (message_of v h d ∷ [])
pass_one form v w h d before after bytes k n means is appended due pdus bytes_in bytes_out =
    let m = message_of v h d in
    record {
      moves = subst (λ (x : Framing). FramerMoves v x [] (m ∷ [])) (sym is) (moves_gave v h d means);
      limit = ap (λ (x : Framing). x.limit) is;
      unready = ap is_ready is ∙ unready_after v h;
      out = bytes;
      due = due;
      appended = appended;
      counted = record { pdus = λ lt. omega (arith, pdus); bytes_in = bytes_in; bytes_out = λ lt. omega (arith, bytes_out) };
    }

-- ---- a PDU that has no segment

-- its bytes, which come at once
bare_means : (bytes : List ℕ) (h : Head) → length bytes ≡ 48 → IsHeader (take 48 bytes) h 0 → Means bytes h []
bare_means bytes h size header = means_of bytes h [] header size refl

-- Where nothing is held the framer takes them, and then a PDU is ready.
pub bare_taken : (v : Framing) (piece : List ℕ) (h : Head) → v.failed ≡ false → v.held ≡ [] → 48 ≤ length piece → IsHeader (take 48 piece) h 0 →
    FramerTakes v piece 48 (holding v (take 48 piece)) × Means (take 48 piece) h []
bare_taken v piece h live empty long header =
    let bytes = take 48 piece in
    let size : length bytes ≡ 48 = omega (arith, length-take 48 piece, long) in
    let same : take 48 bytes ≡ bytes = take_all 48 bytes (omega (arith, size)) in
    let len : 0 ≡ length_at bytes = header-length bytes h 0 header in
    let says : IsHeader (take 48 bytes) h 0 = subst (λ (x : List ℕ). IsHeader x h 0) (sym same) header in
    let held : settled (v.held ++ bytes) ≡ bytes = ap (λ (x : List ℕ). settled (x ++ bytes)) empty ∙ settled-short bytes (omega (arith, size)) in (
      record {
        live = live;
        bound = long;
        gathered = ap (holding v) (sym held);
        begun = λ _. (
          h,
          record {
            header = subst (λ (n : ℕ). IsHeader (take 48 bytes) h n) len says;
            within = omega (arith, len);
            no_more = omega (arith, size);
          },
        );
        stops = λ _. is_full bytes (omega (arith, size)) (omega (arith, size, ap pdu_len len));
      },
      bare_means bytes h size says,
    )

-- given up whole it is passed by
pub bare_passed : (v : Framing) (bytes : List ℕ) (h : Head) → v.held ≡ [] → Means bytes h [] → skipped v h 0 ≡ pdu_given_up (holding v bytes) h
bare_passed v bytes h empty means =
    let len : 0 ≡ length_at bytes = means-length bytes h [] means in
    let size : pdu_len 0 ≡ length bytes = sym means.size in
    let room : v.room ≡ max v.room (begun_len bytes) = omega (arith, begun_len-long bytes (omega (arith, means.size)), len) in
    rw (← size, ← room) refl

-- ---- a piece

counted_then : (k m n : Counts) (xs ys : List Message) (a b : List ℕ) → CountedMore k m xs a → CountedMore m n ys b → CountedMore k n (xs ++ ys) (a ++ b)
counted_then k m n xs ys a b p q =
    let more = length-append a b in
    let count = length-append xs ys in
    record {
      pdus = λ lt. (let one = p.pdus (omega arith) in let two = q.pdus (omega arith) in omega arith);
      bytes_in = q.bytes_in ∙ p.bytes_in;
      bytes_out = λ lt. (let one = p.bytes_out (omega arith) in let two = q.bytes_out (omega arith) in omega arith);
    }

passes_then : (form : Form) (first second third : PassingProgress) (x y : List ℕ) (ms ns : List Message) →
    PassesOn form first second x ms →
    PassesOn form second third y ns → PassesOn form first third (x ++ y) (ms ++ ns)
passes_then form first second third x y ms ns p q = record {
  moves = moves_then first.framing second.framing third.framing x y ms ns p.moves q.moves;
  limit = q.limit ∙ p.limit;
  unready = q.unready;
  out = p.out ++ q.out;
  due = due_append form ms ns p.out q.out p.due q.due;
  appended = q.appended ∙ ap (λ (z : List ℕ). z ++ q.out) p.appended ∙ append_assoc first.appended p.out q.out;
  counted = counted_then first.counts second.counts third.counts ms ns p.out q.out p.counted q.counted;
}

-- feed and then the ready PDU
pub passed_more : (form : Form) (piece rest : List ℕ) (from here : PassingProgress) (u : Framing) (to : PassingProgress) (taken : ℕ) (more : List Message) →
    PassedUpTo form piece rest from here → FramerTakes here.framing rest taken u
    → PassesOn form (passing_progress u here.appended here.counts) to [] more
    → PassedUpTo form piece (take (length rest - taken) (drop taken rest)) from to
passed_more form piece rest from here u to taken more upto takes one = record {
  before = upto.before ++ take taken rest;
  more = upto.more ++ more;
  parts = upto.parts ∙ ap (λ (x : List ℕ). upto.before ++ x) (sym (take-append-drop taken rest)
      ∙ ap (λ (x : List ℕ). take taken rest ++ x) (sym (take_rest rest taken))) ∙
      sym (append_assoc upto.before (take taken rest) (take (length rest - taken) (drop taken rest)));
  passes = passes_then form from here to upto.before (take taken rest) upto.more more upto.passes (record {
    moves = λ s ms t. taken_at ((s ++ take taken rest) ++ []) (s ++ take taken rest) ((ms ++ []) ++ more) (ms ++ more) to.framing
        (append-nil (s ++ take taken rest))
        (ap (λ (x : List Message). x ++ more) (append-nil ms)) (one.moves (s ++ take taken rest) (ms ++ []) (moves_fed here.framing rest taken u takes s ms t));
    limit = one.limit ∙ ap (λ (x : Framing). x.limit) takes.gathered;
    unready = one.unready;
    out = one.out;
    due = one.due;
    appended = one.appended;
    counted = one.counted;
  });
}

-- a framer in which no PDU is ready takes a byte at least
pub takes_some : (v : Framing) (rest : List ℕ) (n : ℕ) (u : Framing) → is_ready v ≡ false → FramerTakes v rest n u → 0 < length rest → 0 < n
takes_some v rest n u unready takes some =
    elim (cases_lt 0 n) [
      | inl lt ↦ lt
      | inr le ↦
          let none : n ≡ 0 = omega arith in
          let same : u.held ≡ settled v.held = ap (λ (x : Framing). x.held) takes.gathered ∙ ap (λ (k : ℕ). settled (v.held ++ take k rest)) none
          ∙ ap settled (append-nil v.held) in
          let whole : is_whole_pdu v.held ≡ true = sym (is_whole-settled v.held) ∙ ap is_whole_pdu (sym same) ∙ takes.stops (omega arith) in
          absurd (apart (ap (λ (b : Bool). not b && is_whole_pdu v.held) takes.live ∙ whole) unready)
    ]

pub passed_none : (form : Form) (piece : List ℕ) (v : Framing) (out : List ℕ) (k : Counts) → is_ready v ≡ false →
    PassedUpTo form piece piece (passing_progress v out k) (passing_progress v out k)
passed_none form piece v out k unready = record { before = []; more = []; parts = refl; passes = pass_none form v out k unready }

-- ---- where it stops

whole_is : (form : Form) (piece rest : List ℕ) (from here : PassingProgress)
    (upto : PassedUpTo form piece rest from here) (s : List ℕ)
    (ms : List Message) (now : HasTaken (s ++ upto.before) ms here.framing) → s ++ piece ≡ now.given ++ (now.rest ++ rest)
whole_is form piece rest from here upto s ms now =
    ap (λ (x : List ℕ). s ++ x) upto.parts ∙ sym (append_assoc s upto.before rest) ∙ ap (λ (x : List ℕ). x ++ rest) now.whole
    ∙ append_assoc now.given now.rest rest

now_reads : (s : List ℕ) (ms : List Message) (v : Framing) (now : HasTaken s ms v) → v.limit ≡ longest_segment → ReadsAs longest_segment no_login now.given ms
now_reads s ms v now limit = subst (λ (n : ℕ). ReadsAs n no_login now.given ms) limit now.reads

-- what is passed on so far begins the whole
pub passed_part : (form : Form) (piece rest : List ℕ) (old v : Framing) (a b c : List ℕ) (k m : Counts) →
    PassedUpTo form piece rest (passing_progress old a k) (passing_progress v b m) → old.limit
    ≡ longest_segment → c ≡ b → AppendedDue form old piece a c
passed_part form piece rest old v a b c k m upto limit same = record {
  more = upto.more;
  out = upto.passes.out;
  due = upto.passes.due;
  appended = same ∙ upto.passes.appended;
  reaches = λ s ms t. (let now = upto.passes.moves s ms t in (
    now.given,
    now.rest ++ rest,
    record {
      whole = whole_is form piece rest (passing_progress old a k) (passing_progress v b m) upto s (ms ++ upto.more) now;
      reads = now_reads (s ++ upto.before) (ms ++ upto.more) v now (upto.passes.limit ∙ limit);
    },
  ));
}

-- the bytes before a header that is refused
refused : (v : Framing) (rest s : List ℕ) (ms : List Message) (t : HasTaken s ms v) → length v.held < 48 → take 48 (v.held ++ rest) ≡ take 48 (t.rest ++ rest)
refused v rest s ms t short =
    ap (λ (x : List ℕ). take 48 (x ++ rest)) (t.held ∙ settled-short t.rest (omega (arith, ap length t.held, length-settled t.rest)))

place_is : (p : ℕ) (v : Framing) (s : List ℕ) (ms : List Message) (now : HasTaken s ms v) (all rest : List ℕ) → p ≡ v.place → all ≡ now.given ++ rest →
    length all < 2 ^ 64 → p ≡ length now.given
place_is p v s ms now all rest at whole lt = omega (arith, at, now.place, ap length whole, length-append now.given rest)

long_rest : (v : Framing) (rest s : List ℕ) (ms : List Message) (now : HasTaken s ms v) → 48 ≤ length (v.held ++ rest) → 48 ≤ length (now.rest ++ rest)
long_rest v rest s ms now le = omega (arith, length-append v.held rest, length-append now.rest rest, ap length now.held, length-settled now.rest)

-- a framer's fault of a header, of the bytes that it took and the piece
pub header_splits : (s p : List ℕ) (ms : List Message) (f : HeadFault) (place : ℕ) (v : Framing) → HasTaken s ms v → FramerFeedFails v p (stream.Head f place)
    → (given : List ℕ) × (rest : List ℕ) × SplitsStream v.limit (s ++ p) ms given rest × (48 ≤ length rest) × (head_fault (take 48 rest) ≡ Some f)
    × (place ≡ min (length given) last_place)
header_splits s p ms f place v t fails =
    let bad = ap head_fault (sym (refused v p s ms t fails.1.before)) ∙ fails.2 in (
      t.given,
      t.rest ++ p,
      record {
        reaches = record {
          whole = ap (λ (x : List ℕ). x ++ p) t.whole ∙ append_assoc t.given t.rest p;
          reads = t.reads;
        };
        no_more = no_pdu_bad v.limit (t.rest ++ p) f bad;
      },
      long_rest v p s ms t fails.1.reached,
      bad,
      fails.3 ∙ t.place,
    )

-- the same of a segment that is over the limit
pub limit_splits : (s p : List ℕ) (ms : List Message) (place : ℕ) (v : Framing) → HasTaken s ms v → FramerFeedFails v p (stream.OverLimit place)
    → (given : List ℕ) × (rest : List ℕ) × SplitsStream v.limit (s ++ p) ms given rest × (48 ≤ length rest)
    × ((head : Head) × (len : ℕ) × IsHeader (take 48 rest) head len × (v.limit < len)) × (place ≡ min (length given) last_place)
limit_splits s p ms place v t fails =
    let over = fails.1 in
    let r : IsHeader (take 48 (t.rest ++ p)) over.0 over.1 = subst (λ (x : List ℕ). IsHeader x over.0 over.1)
    (refused v p s ms t over.2.reaches.before) over.2.header in (
      t.given,
      t.rest ++ p,
      record {
        reaches = record {
          whole = ap (λ (x : List ℕ). x ++ p) t.whole ∙ append_assoc t.given t.rest p;
          reads = t.reads;
        };
        no_more = no_pdu_over v.limit (t.rest ++ p) over.0 over.1 r over.3;
      },
      long_rest v p s ms t over.2.reaches.reached,
      (over.0, over.1, r, over.3),
      fails.2
          ∙ t.place,
    )

-- no segment is longer than a header can say
never_over : (form : Form) (piece rest : List ℕ) (from here : PassingProgress)
    (upto : PassedUpTo form piece rest from here) (s : List ℕ)
    (ms : List Message) (now : HasTaken (s ++ upto.before) ms here.framing) (h : Head) (n : ℕ)
    → AreBytes (s ++ piece) → IsHeader (take 48 (now.rest ++ rest)) h n → longest_segment < n → ⊥
never_over form piece rest from here upto s ms now h n bytes r lt =
    let behind = AreBytes-back now.given (now.rest ++ rest) (subst AreBytes (whole_is form piece rest from here upto s ms now) bytes) in
    omega (arith, lt, IsHeader-short (take 48 (now.rest ++ rest)) h n (AreBytes-take 48 (now.rest ++ rest) behind) r)

pub feed_stops : (e : StreamFault) (form : Form) (piece rest : List ℕ) (old v : Framing) (a b : List ℕ) (k m : Counts) →
    PassedUpTo form piece rest (passing_progress old a k) (passing_progress v b m) → old.limit ≡ longest_segment → FramerFeedFails v rest e
    → PassFails form old piece a b (tool_fault e)
feed_stops stream.NoMemory form piece rest old v a b k m upto limit fails = tt
feed_stops (stream.Head f p) form piece rest old v a b k m upto limit fails = record {
  more = upto.more;
  out = upto.passes.out;
  due = upto.passes.due;
  appended = upto.passes.appended;
  stops = λ s ms t bytes lt. (
      let now = upto.passes.moves s ms t in
      let front = refused v rest (s ++ upto.before) (ms ++ upto.more) now fails.1.before in
      let whole = whole_is form piece rest (passing_progress old a k) (passing_progress v b m) upto s (ms ++ upto.more) now in
      let bad = ap head_fault (sym front) ∙ fails.2 in (
        now.given,
        now.rest ++ rest,
        record { whole = whole; reads = now_reads (s ++ upto.before) (ms ++ upto.more) v now (upto.passes.limit ∙ limit) },
        no_pdu_bad longest_segment (now.rest ++ rest) f bad,
        (
          long_rest v rest (s ++ upto.before) (ms ++ upto.more) now fails.1.reached,
          bad,
          place_is p v (s ++ upto.before) (ms ++ upto.more) now (s ++ piece) (now.rest ++ rest) fails.3 whole lt,
        ),
      ));
}
feed_stops (stream.OverLimit p) form piece rest old v a b k m upto limit fails = record {
  more = upto.more;
  out = upto.passes.out;
  due = upto.passes.due;
  appended = upto.passes.appended;
  stops = λ s ms t bytes lt. (
      let now = upto.passes.moves s ms t in
      let over = fails.1 in
      let front = refused v rest (s ++ upto.before) (ms ++ upto.more) now over.2.reaches.before in
      absurd (never_over form piece rest (passing_progress old a k) (passing_progress v b m) upto s (ms ++ upto.more) now over.0 over.1 bytes
      (subst (λ (x : List ℕ). IsHeader x over.0 over.1) front over.2.header) (omega (arith, over.3, upto.passes.limit, limit))));
}
feed_stops (stream.Truncated p) form piece rest old v a b k m upto limit fails = absurd fails
feed_stops stream.Failed form piece rest old v a b k m upto limit fails = record {
  more = upto.more;
  out = upto.passes.out;
  due = upto.passes.due;
  appended = upto.passes.appended;
  stops = λ s ms t bytes lt. absurd (apart fails (upto.passes.moves s ms t).live);
}
