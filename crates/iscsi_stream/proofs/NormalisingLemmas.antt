-- What writing a stream keeps from read to read, and what it leaves at each answer.
use Rattle.std.proofs.Common.{◌≡◌, ℕ, ◌+◌, ◌-◌, ◌<◌, ◌≤◌, ◌^◌, min, false, List, [], ◌++◌, length, take, drop, Option, Result, Err, refl, sym, ap, subst, ◌∙◌}
use Rattle.std.proofs.Common.{arith, append-nil, inl, inr}
use Rattle.std.specs.Prelude.{IsTrue, ◌⊎◌}
use Rattle.std.specs.Io.KnownBytes.{Appends, Consumes, Keeps}
use Rattle.std.proofs.KnownBytes.{Appends-trans, Appends-nil, Consumes-trans, Consumes-kept, Consumes-nil}
use Rattle.std.proofs.lemmas.Bool.{cases_lt}
use Rattle.std.proofs.lemmas.List.{length-append, nil_from_length, take_at, drop_at, get_or_append_left, get_or-append_right, get_or_past}
use Rattle.iscsi_stream.specs.declared.fault.StreamFault.{StreamFault}
use Rattle.iscsi_stream.specs.declared.fault.StreamFault.TheVariants as stream
use Rattle.iscsi_stream.specs.declared.fault.ToolFault.{ToolFault}
use Rattle.iscsi_stream.specs.declared.fault.ToolFault.TheVariants as tool
use Rattle.iscsi_stream.specs.declared.counts.Counts.{Counts}
use Rattle.iscsi_stream.specs.Faults.{tool_fault}
use Rattle.iscsi_stream.specs.Segment.{no_login}
use Rattle.iscsi_stream.specs.Stream.{Message, StreamMeans, ReadsAs, longest_segment, SplitsStream}
use Rattle.iscsi_pdu.specs.Meaning.{AreBytes}
use Rattle.iscsi_stream.specs.declared.normalising.Form.{Form}
use Rattle.iscsi_stream.specs.Framing.{Framing, opening_framing, is_ready, IsBegun, HasTaken, FinishFails}
use Rattle.iscsi_stream.specs.Normalising.{StreamRestFails, AreCounts, WritesUntil, AtEnd, WroteFront}
use Rattle.iscsi_stream.specs.inner.Passing.{PassingProgress, IsDueOutput, passing_progress, PassesOn, AppendedDue, PassingStops, PassFails}
use Rattle.iscsi_stream.proofs.SettledBytesLemmas.{length-settled}
use Rattle.iscsi_stream.proofs.ReadyLemmas.{apart, unready_of, not_whole-nil}
use Rattle.iscsi_stream.proofs.GatheringLemmas.{take-add}
use Rattle.iscsi_stream.proofs.OneMeaningLaw.{AreBytes-front, count-shorter}
use Rattle.iscsi_stream.proofs.TakingLemmas.{at_opening, splits_taken}
use Rattle.iscsi_stream.proofs.DueLemmas.{due_none, due_append, due_short}
use Rattle.iscsi_stream.proofs.LoopInvariants.{Sides, WrittenUpTo, sides}

pub AreBytes-append : (xs ys : List ℕ) → AreBytes xs → AreBytes ys → AreBytes (xs ++ ys)
AreBytes-append xs ys p q i =
    elim (cases_lt i (length xs)) [
      | inl lt ↦ rw (get_or_append_left xs ys 0 i lt) (p i)
      | inr le ↦ rw (get_or-append_right xs ys (length xs) i 0 refl le) (q (i - length xs))
    ]

AreBytes-nil : AreBytes []
AreBytes-nil i = subst (λ (n : ℕ). n < 256) (sym (get_or_past [] i 0 (omega arith))) (omega arith)

take_past : (xs ys : List ℕ) (n : ℕ) → take (length xs + n) (xs ++ ys) ≡ xs ++ take n ys
take_past xs ys n =
    take-add (length xs) n (xs ++ ys) ∙ ap (λ (x : List ℕ). x ++ take n (drop (length xs) (xs ++ ys))) (take_at xs ys (length xs) refl)
    ∙ ap (λ (x : List ℕ). xs ++ take n x) (drop_at xs ys (length xs) refl)

pub at_start : (form : Form) (a b : Option (List ℕ)) → (let k : Counts = record { pdus = 0; bytes_in = 0; bytes_out = 0 } in
    WrittenUpTo form (opening_framing longest_segment) k 0 (sides a b) (sides a b))
at_start form a b = record {
  read = [];
  ms = [];
  out = [];
  bytes = AreBytes-nil;
  taken = at_opening longest_segment;
  limit = refl;
  unready = not_whole-nil;
  due = due_none form;
  consumed = Consumes-nil a;
  written = Appends-nil b;
  small = omega arith;
  pdus = refl;
  bytes_in = refl;
  bytes_out = refl;
}

-- what a call has read and written
abbrev pub Answered : Option (List ℕ) → Option (List ℕ) → Option (List ℕ) → Option (List ℕ) → (List ℕ → List ℕ → Type 0) → Type 0
Answered r0 r1 w0 w1 P = (read : List ℕ) × (written : List ℕ) × AreBytes read × Consumes r0 r1 read × Appends w0 w1 written × P read written

splits_at : (v : Framing) (s : List ℕ) (ms : List Message) (t : HasTaken s ms v) → v.limit ≡ longest_segment → is_ready v ≡ false →
    SplitsStream longest_segment s ms t.given t.rest
splits_at v s ms t limit unready =
    subst (λ (n : ℕ). SplitsStream n s ms t.given t.rest) limit (splits_taken s ms v t (unready_of v.failed v.held t.live unready))

pub read_stops : (form : Form) (v : Framing) (k : Counts) (i : ℕ) (r0 r1 r2 w0 w1 : Option (List ℕ))
    → WrittenUpTo form v k i (sides r0 w0) (sides r1 w1) → Keeps r1 r2 →
    Answered r0 r2 w0 w1 (WritesUntil (IsDueOutput form) tool.Read)
read_stops form v k i r0 r1 r2 w0 w1 up kept = (
  up.read,
  up.out,
  up.bytes,
  Consumes-kept r0 r1 r2 up.read up.consumed kept,
  up.written,
  (let s = splits_at v up.read up.ms up.taken up.limit up.unready in (up.ms, up.taken.given, up.taken.rest, s.reaches, (s.no_more, up.due))),
)

consumed_none : (r0 r1 r2 : Option (List ℕ)) (read : List ℕ) → Consumes r0 r1 read → Consumes r1 r2 [] → Consumes r0 r2 read
consumed_none r0 r1 r2 read p q = subst (Consumes r0 r2) (append-nil read) (Consumes-trans r0 r1 r2 read [] p q)

pub finish_stops : (e : StreamFault) (form : Form) (v : Framing) (k : Counts) (i : ℕ) (r0 r1 r2 w0 w1 : Option (List ℕ)) → i < 16777216 →
    WrittenUpTo form v k i (sides r0 w0) (sides r1 w1) → Consumes r1 r2 [] → FinishFails v e
    → Answered r0 r2 w0 w1 (WritesUntil (IsDueOutput form) (tool_fault e))
finish_stops stream.NoMemory form v k i r0 r1 r2 w0 w1 lt up read fails = absurd fails
finish_stops (stream.Head f p) form v k i r0 r1 r2 w0 w1 lt up read fails = absurd fails
finish_stops (stream.OverLimit p) form v k i r0 r1 r2 w0 w1 lt up read fails = absurd fails
finish_stops (stream.Truncated p) form v k i r0 r1 r2 w0 w1 lt up read fails =
    let t = up.taken in
    let s = splits_at v up.read up.ms t up.limit up.unready in
    let some : 0 < length t.rest = omega (arith, fails.1, ap length t.held, length-settled t.rest) in
    let place : p ≡ length t.given = omega (arith, fails.3, t.place, ap length t.whole, length-append t.given t.rest, up.small) in (
      up.read,
      up.out,
      up.bytes,
      consumed_none r0 r1 r2 up.read up.consumed read,
      up.written,
      (
        up.ms,
        t.given,
        t.rest,
        s.reaches,
        (s.no_more, up.due, (some, subst (λ (n : ℕ). IsBegun n t.rest) up.limit t.begun, place)),
      ),
    )
finish_stops stream.Failed form v k i r0 r1 r2 w0 w1 lt up read fails = absurd (apart fails up.taken.live)

pub finish_done : (form : Form) (v : Framing) (k : Counts) (i : ℕ) (r0 r1 r2 w0 w1 : Option (List ℕ))
    → WrittenUpTo form v k i (sides r0 w0) (sides r1 w1) → Consumes r1 r2 [] →
    (v.held ≡ []) ⊎ IsTrue (is_ready v)
    → Answered r0 r2 w0 w1 (λ read written. (ms : List Message) × StreamMeans read ms × IsDueOutput form ms written × AreCounts k ms read written)
finish_done form v k i r0 r1 r2 w0 w1 up read (inr ready) = absurd (apart ready up.unready)
finish_done form v k i r0 r1 r2 w0 w1 up read (inl none) =
    let t = up.taken in
    let rest : t.rest ≡ [] = nil_from_length t.rest (sym (length-settled t.rest) ∙ ap length (sym t.held ∙ none)) in
    let whole : t.given ≡ up.read = sym (t.whole ∙ ap (λ (x : List ℕ). t.given ++ x) rest ∙ append-nil t.given) in
    let means : StreamMeans up.read up.ms = subst (λ (x : List ℕ). ReadsAs longest_segment no_login x up.ms) whole
    (subst (λ (n : ℕ). ReadsAs n no_login t.given up.ms) up.limit t.reads) in (
      up.read,
      up.out,
      up.bytes,
      consumed_none r0 r1 r2 up.read up.consumed read,
      up.written,
      (up.ms, means, up.due, record { pdus = up.pdus; bytes_in = up.bytes_in; bytes_out = up.bytes_out }),
    )

-- what was passed on of a piece goes on what was written
wrote_on : (w0 w1 w2 : Option (List ℕ)) (before more out : List ℕ) → Appends w0 w1 before → out ≡ more → Appends w1 w2 out → Appends w0 w2 (before ++ more)
wrote_on w0 w1 w2 before more out first is after = Appends-trans w0 w1 w2 before more first (subst (Appends w1 w2) is after)

stop_of : (f : StreamFault) (form : Form) (v : Framing) (piece before after : List ℕ) → PassFails form v piece before after (tool.Stream f) →
    PassingStops form v piece before after (StreamRestFails f)
stop_of (stream.Truncated p) form v piece before after fails = absurd fails
stop_of stream.NoMemory form v piece before after fails = fails
stop_of (stream.Head f p) form v piece before after fails = fails
stop_of (stream.OverLimit p) form v piece before after fails = fails
stop_of stream.Failed form v piece before after fails = fails

-- a piece is never refused for its end
pub not_truncated : (e : ToolFault) (form : Form) (v : Framing) (piece before after : List ℕ) (Ended : Type 0) → PassFails form v piece before after e →
    (let r : Result Counts ToolFault = Err e in AtEnd r Ended)
not_truncated tool.NoMemory form v piece before after Ended fails = tt
not_truncated (tool.Stream (stream.Truncated p)) form v piece before after Ended fails = absurd fails
not_truncated (tool.Stream stream.NoMemory) form v piece before after Ended fails = tt
not_truncated (tool.Stream (stream.Head f p)) form v piece before after Ended fails = tt
not_truncated (tool.Stream (stream.OverLimit p)) form v piece before after Ended fails = tt
not_truncated (tool.Stream stream.Failed) form v piece before after Ended fails = tt
not_truncated tool.Read form v piece before after Ended fails = tt
not_truncated tool.Write form v piece before after Ended fails = tt
not_truncated (tool.Text f) form v piece before after Ended fails = tt
not_truncated tool.TextTooLong form v piece before after Ended fails = tt
not_truncated tool.NotHex form v piece before after Ended fails = tt
not_truncated (tool.Protocol rule) form v piece before after Ended fails = tt

pub pass_stops : (e : ToolFault) (form : Form) (v : Framing) (k : Counts) (i : ℕ) (from here to : Sides) (piece out : List ℕ) → i < 16777216 →
    length piece ≤ 4096 → AreBytes piece → WrittenUpTo form v k i from here → Consumes here.remaining to.remaining piece
    → AppendedDue form v piece [] out → PassFails form v piece [] out e → Appends here.contents to.contents out → Answered from.remaining to.remaining
    from.contents to.contents (WritesUntil (IsDueOutput form) e)
pass_stops tool.NoMemory form v k i from here to piece out lt le bytes up read part fails wrote =
    let r = part.reaches up.read up.ms up.taken in (
      up.read ++ piece,
      up.out ++ part.out,
      AreBytes-append up.read piece up.bytes bytes,
      Consumes-trans from.remaining here.remaining to.remaining up.read piece up.consumed read,
      wrote_on from.contents here.contents to.contents up.out part.out out up.written part.appended wrote,
      (up.ms ++ part.more, r.0, r.1, r.2, due_append form up.ms part.more up.out part.out up.due part.due),
    )
pass_stops (tool.Stream f) form v k i from here to piece out lt le bytes up read part fails wrote =
    let all = AreBytes-append up.read piece up.bytes bytes in
    let stop = stop_of f form v piece [] out fails in
    let r = stop.stops up.read up.ms up.taken all (omega (arith, up.small, length-append up.read piece)) in (
      up.read ++ piece,
      up.out ++ stop.out,
      all,
      Consumes-trans from.remaining here.remaining to.remaining up.read piece up.consumed read,
      wrote_on from.contents here.contents to.contents up.out stop.out out up.written stop.appended wrote,
      (
        up.ms ++ stop.more,
        r.0,
        r.1,
        r.2,
        (r.3, due_append form up.ms stop.more up.out stop.out up.due stop.due, r.4),
      ),
    )
pass_stops tool.Read form v k i from here to piece out lt le bytes up read part fails wrote = absurd fails
pass_stops tool.Write form v k i from here to piece out lt le bytes up read part fails wrote = absurd fails
pass_stops (tool.Text f) form v k i from here to piece out lt le bytes up read part fails wrote = absurd fails
pass_stops tool.TextTooLong form v k i from here to piece out lt le bytes up read part fails wrote = absurd fails
pass_stops tool.NotHex form v k i from here to piece out lt le bytes up read part fails wrote = absurd fails
pass_stops (tool.Protocol rule) form v k i from here to piece out lt le bytes up read part fails wrote = absurd fails

pub write_stops : (e : ToolFault) (form : Form) (v : Framing) (k : Counts) (i : ℕ) (from here to : Sides) (piece out : List ℕ) → AreBytes piece →
    WrittenUpTo form v k i from here → Consumes here.remaining to.remaining piece
    → AppendedDue form v piece [] out → e ≡ tool.Write → WroteFront here.contents to.contents out → Answered from.remaining to.remaining from.contents
    to.contents (WritesUntil (IsDueOutput form) e)
write_stops e form v k i from here to piece out bytes up read part is front =
    let r = part.reaches up.read up.ms up.taken in
    let n = front.0 in
    subst (λ (f : ToolFault). Answered from.remaining to.remaining from.contents to.contents (WritesUntil (IsDueOutput form) f)) (sym is) (
      up.read ++ piece,
      up.out ++ take n out,
      AreBytes-append up.read piece up.bytes bytes,
      Consumes-trans from.remaining here.remaining to.remaining up.read piece up.consumed read,
      Appends-trans from.contents here.contents to.contents up.out (take n out) up.written front.1,
      (
        up.ms ++ part.more,
        r.0,
        r.1,
        r.2,
        (
          up.out ++ part.out,
          length up.out + n,
          due_append form up.ms part.more up.out part.out up.due part.due,
          ap (λ (x : List ℕ). up.out ++ take n x) part.appended ∙ sym (take_past up.out part.out n),
        ),
      ),
    )

pub read_more : (form : Form) (v : Framing) (done : PassingProgress) (k : Counts) (i sum : ℕ) (from here to : Sides) (piece : List ℕ) (more : List Message) → i
    < 16777216 → length piece ≤ 4096 → AreBytes piece → WrittenUpTo form v k i from here → Consumes here.remaining to.remaining piece
    → sum ≡ min (k.bytes_in + length piece) (2 ^ 64 - 1)
    → (let m : Counts = record k { bytes_in = sum } in PassesOn form (passing_progress v [] m) done piece more) →
    Appends here.contents to.contents done.appended → WrittenUpTo form done.framing done.counts (i + 1) from to
read_more form v done k i sum from here to piece more lt le bytes up read sum-is passes wrote =
    let taken = passes.moves up.read up.ms up.taken in
    let all = AreBytes-append up.read piece up.bytes bytes in
    let front = AreBytes-front taken.given taken.rest (subst AreBytes taken.whole all) in
    let due = due_append form up.ms more up.out passes.out up.due passes.due in
    let len = length-append up.read piece in
    let given : length taken.given ≤ length (up.read ++ piece) = omega (arith, ap length taken.whole, length-append taken.given taken.rest) in
    let short = due_short form done.framing.limit no_login taken.given (up.ms ++ more) (up.out ++ passes.out) front taken.reads due in
    let fewer = count-shorter done.framing.limit no_login taken.given (up.ms ++ more) taken.reads in
    let count : length (up.ms ++ more) ≡ length up.ms + length more = length-append up.ms more in
    let size : length (up.out ++ passes.out) ≡ length up.out + length passes.out = length-append up.out passes.out in
    record {
      read = up.read ++ piece;
      ms = up.ms ++ more;
      out = up.out ++ passes.out;
      bytes = all;
      taken = taken;
      limit = passes.limit ∙ up.limit;
      unready = passes.unready;
      due = due;
      consumed = Consumes-trans from.remaining here.remaining to.remaining up.read piece up.consumed read;
      written = wrote_on from.contents here.contents to.contents up.out passes.out done.appended up.written passes.appended wrote;
      small = omega (arith, up.small, len);
      pdus = (let one = passes.counted.pdus (omega (arith, up.pdus, up.small)) in omega (arith, one, up.pdus));
      bytes_in = omega (arith, passes.counted.bytes_in, sum-is, up.bytes_in, up.small, len);
      bytes_out = (let one = passes.counted.bytes_out (omega (arith, up.bytes_out, up.small)) in omega (arith, one, up.bytes_out));
    }
