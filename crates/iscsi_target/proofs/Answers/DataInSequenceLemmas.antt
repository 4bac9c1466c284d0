-- Data in Data-In PDUs.
use Rattle.std.proofs.Common.{◌≡◌, ◌<◌, ◌≤◌, inl, inr, ℕ, zero, suc, ◌+◌, ◌-◌, List, [], ◌∷◌, ◌++◌, Bool, true, false, min, length, take, drop, refl, sym, ap}
use Rattle.std.proofs.Common.{◌∙◌, arith, append_assoc}
use Rattle.std.specs.Prelude.{◌==◌}
use Rattle.std.specs.List.{flat_map}
use Rattle.std.proofs.lemmas.Bool.{cases_lt, eqb-true, eqb-false}
use Rattle.std.proofs.lemmas.List.{length-append, length-drop, length-take, take-append-drop, take_all, drop_all, take_at}
use Rattle.std.proofs.lemmas.List.Concat.{flat_map-cons, flat_map-append}
use Rattle.iscsi_pdu.specs.Meaning.{whole}
use Rattle.iscsi_pdu.specs.declared.head.Head.{Head}
use Rattle.iscsi_stream.specs.Segment.{segment_bytes}
use Rattle.iscsi_stream.specs.Stream.{Message}
use Rattle.iscsi_stream.specs.Canonical.{canon, canonical_bytes}
use Rattle.iscsi_login.specs.Held.{max_burst}
use Rattle.iscsi_target_session.specs.Session.{Session, answer_message, data_in_length}
use Rattle.iscsi_target.specs.State.{Machine, waiting_tasks}
use Rattle.iscsi_target.specs.Execution.{marked_parts, sequence_parts, data_in_parts, data_ins, data_in_head}
use Rattle.iscsi_stream.specs.Pieces.{chunks_within, chunks}
use Rattle.iscsi_target.specs.declared.machine.data_in.Sent.{Sent}
use Rattle.iscsi_stream.proofs.ChunkLemmas.{chunks_step}

-- bytes that go out, behind those that were sent
pub record Unsent : Type 0 where
  pub sent : Sent
  pub bytes : List ℕ

-- these bytes behind those that were sent
abbrev pub unsent : Sent → List ℕ → Unsent
unsent sent bytes = record { sent = sent; bytes = bytes }

-- of a run the bytes before those that are left went out
pub record GaveUpTo (s : Machine) (tag : ℕ) (run left : Unsent) (old new : List ℕ) : Type 0 where
  pub written : new ++ canon (data_ins s.session (waiting_tasks s.tasks) tag left.sent.count left.sent.bytes (sequence_parts s.session left.bytes)) ≡ old
      ++ canon (data_ins s.session (waiting_tasks s.tasks) tag run.sent.count run.sent.bytes (sequence_parts s.session run.bytes))
  pub count : left.sent.count + length (sequence_parts s.session left.bytes) ≡ run.sent.count + length (sequence_parts s.session run.bytes)
  pub carried : left.sent.bytes + length left.bytes ≡ run.sent.bytes + length run.bytes
  pub few : left.sent.count ≤ left.sent.bytes
  pub front : take (length old) new ≡ old

-- those before the ones that are left went out
pub record GaveRuns (s : Machine) (tag : ℕ) (bytes : List ℕ) (left : Unsent) (old new : List ℕ) : Type 0 where
  pub written : new ++ canon (data_ins s.session (waiting_tasks s.tasks) tag left.sent.count left.sent.bytes (data_in_parts s.session left.bytes)) ≡ old
      ++ canon (data_ins s.session (waiting_tasks s.tasks) tag 0 0 (data_in_parts s.session bytes))
  pub count : left.sent.count + length (data_in_parts s.session left.bytes) ≡ length (data_in_parts s.session bytes)
  pub carried : left.sent.bytes + length left.bytes ≡ length bytes
  pub few : left.sent.count ≤ left.sent.bytes
  pub front : take (length old) new ≡ old

-- ---- parts

mark_step : (size : ℕ) (part rest : List ℕ) (last : Bool) → 0 < size → (last ≡ true → length rest ≡ 0) → (last ≡ false → 0 < length rest) →
    marked_parts (part ∷ chunks size rest) ≡ (part, last) ∷ marked_parts (chunks size rest)
mark_step size part [] true lt yes_ no_ = refl
mark_step size part [] false lt yes_ no_ = absurd (omega (arith, no_ refl))
mark_step size part (b ∷ rest) true lt yes_ no_ = absurd (omega (arith, yes_ refl))
mark_step size part (b ∷ rest) false lt yes_ no_ = refl

take_min : (most n : ℕ) (all : List ℕ) → n ≡ min most (length all) → take most all ≡ take n all
take_min most n all is = elim (cases_lt most (length all)) [
  | inl lt ↦ ap (λ (k : ℕ). take k all) (omega (arith, is, lt))
  | inr ge ↦ take_all most all ge ∙ sym (take_all n all (omega (arith, is, ge)))
]

drop_min : (most n : ℕ) (all : List ℕ) → n ≡ min most (length all) → drop most all ≡ drop n all
drop_min most n all is = elim (cases_lt most (length all)) [
  | inl lt ↦ ap (λ (k : ℕ). drop k all) (omega (arith, is, lt))
  | inr ge ↦ drop_all most all ge ∙ sym (drop_all n all (omega (arith, is, ge)))
]

-- the next part of a run
pub run_step : (s : Session) (rest : List ℕ) (n : ℕ) (last : Bool) → 0 < length rest → 0 < data_in_length s → n
    ≡ min (data_in_length s) (length rest) → last ≡ (n == length rest)
    → sequence_parts s rest ≡ (take n rest, last) ∷ sequence_parts s (drop n rest)
run_step s [] n last some lt is is_last = absurd (omega (arith, some))
run_step s (b ∷ rest) n last some lt is is_last =
    let most : ℕ = data_in_length s in
    let all : List ℕ = b ∷ rest in
    let same_take : take most all ≡ take n all = take_min most n all is in
    let same_drop : drop most all ≡ drop n all = drop_min most n all is in
    let step : sequence_parts s all ≡ marked_parts (take n all ∷ chunks most (drop n all)) =
    ap marked_parts (chunks_step most b rest lt ∙ (λ i. same_take i ∷ chunks most (same_drop i))) in
    step ∙ mark_step most (take n all) (drop n all) last lt
    (λ e. (let f : n ≡ length all = eqb-true n (length all) (sym is_last ∙ e) in omega (arith, f, length-drop n all)))
    (λ e. (let f = eqb-false n (length all) (sym is_last ∙ e) in omega (arith, f, is, length-drop n all)))

one_more : (m : Message) (ms : List Message) → canon (m ∷ ms) ≡ canonical_bytes m ++ canon ms
one_more m ms = flat_map-cons canonical_bytes m ms

said : (head : Head) (bytes : List ℕ) → canonical_bytes (answer_message head bytes) ≡ whole head bytes
unfolding segment_bytes
said head bytes = refl

pub front_kept : (old new more now : List ℕ) → now ≡ new ++ more → take (length old) new ≡ old → take (length old) now ≡ old
front_kept old new more now is front =
    let e : new ≡ old ++ drop (length old) new = sym (take-append-drop (length old) new) ∙ ap (λ (x : List ℕ). x ++ drop (length old) new) front in
    ap (take (length old)) (is ∙ ap (λ (x : List ℕ). x ++ more) e ∙ append_assoc old (drop (length old) new) more)
    ∙ take_at old (drop (length old) new ++ more) (length old) refl

one_longer : (x : List ℕ × Bool) (xs : List (List ℕ × Bool)) → length (x ∷ xs) ≡ 1 + length xs
one_longer x xs = omega arith

pub gave_more : (s : Machine) (tag : ℕ) (before : Sent) (run rest : List ℕ) (sent : Sent) (old new : List ℕ) (n : ℕ) (now after : List ℕ)
    → 0 < data_in_length s.session → 0 < length rest → n ≡ min (data_in_length s.session) (length rest)
    → now ≡ new ++ whole (data_in_head s.session (waiting_tasks s.tasks) tag sent.count sent.bytes (n == length rest)) (take n rest) → after ≡ drop n rest
    → GaveUpTo s tag (unsent before run) (unsent sent rest) old new
    → GaveUpTo s tag (unsent before run) (unsent (record { count = sent.count + 1; bytes = sent.bytes + n }) after) old now
gave_more s tag before run rest sent old new n now after most some is is_now is_after g =
    let step = run_step s.session rest n (n == length rest) some most is refl in
    let len : length (take n rest) ≡ n = omega (arith, length-take n rest, is) in
    let more : List Message = data_ins s.session (waiting_tasks s.tasks) tag (sent.count + 1) (sent.bytes + n) (sequence_parts s.session after) in
    let head : Head = data_in_head s.session (waiting_tasks s.tasks) tag sent.count sent.bytes (n == length rest) in
    let split : canon (data_ins s.session (waiting_tasks s.tasks) tag sent.count sent.bytes (sequence_parts s.session rest)) ≡ whole head (take n rest)
    ++ canon more =
    ap (λ (x : List (List ℕ × Bool)). canon (data_ins s.session (waiting_tasks s.tasks) tag sent.count sent.bytes x)) step
    ∙ one_more (answer_message head (take n rest)) (data_ins s.session (waiting_tasks s.tasks) tag (sent.count + 1) (sent.bytes + length (take n rest))
    (sequence_parts s.session (drop n rest)))
    ∙ ap (λ (x : List ℕ). x ++ canon (data_ins s.session (waiting_tasks s.tasks) tag (sent.count + 1) (sent.bytes + length (take n rest))
    (sequence_parts s.session (drop n rest)))) (said head (take n rest))
    ∙ ap (λ (k : ℕ). whole head (take n rest) ++ canon (data_ins s.session (waiting_tasks s.tasks) tag (sent.count + 1) (sent.bytes + k)
    (sequence_parts s.session (drop n rest)))) len
    ∙ ap (λ (x : List ℕ). whole head (take n rest) ++ canon (data_ins s.session (waiting_tasks s.tasks) tag (sent.count + 1) (sent.bytes + n)
    (sequence_parts s.session x))) (sym is_after) in
    let count : length (sequence_parts s.session rest) ≡ 1 + length (sequence_parts s.session after) =
    ap (λ (x : List (List ℕ × Bool)). length x) step ∙ one_longer (take n rest, n == length rest) (sequence_parts s.session (drop n rest))
    ∙ ap (λ (x : List ℕ). 1 + length (sequence_parts s.session x)) (sym is_after) in
    let behind : length after ≡ length rest - n = ap length is_after ∙ length-drop n rest in
    record {
      written = ap (λ (x : List ℕ). x ++ canon more) is_now ∙ append_assoc new (whole head (take n rest)) (canon more)
          ∙ ap (λ (x : List ℕ). new ++ x) (sym split) ∙ g.written;
      count = omega (arith, g.count, count);
      carried = omega (arith, g.carried, behind, is);
      few = omega (arith, g.few, is, most, some);
      front = front_kept old new (whole head (take n rest)) now is_now g.front;
    }

-- ---- runs

abbrev size_of : List (List ℕ × Bool) → ℕ
size_of [] = 0
size_of (part ∷ more) = length part.0 + size_of more

ins_append : (s : Machine) (tag count at : ℕ) (xs ys : List (List ℕ × Bool)) → data_ins s.session (waiting_tasks s.tasks) tag count at (xs ++ ys)
    ≡ data_ins s.session (waiting_tasks s.tasks) tag count at xs ++ data_ins s.session (waiting_tasks s.tasks) tag (count + length xs) (at + size_of xs) ys
ins_append s tag count at [] ys = λ i. data_ins s.session (waiting_tasks s.tasks) tag (same_count i) (same_at i) ys
  where
    same_count : count ≡ count + 0
    same_count = omega arith

    same_at : at ≡ at + 0
    same_at = omega arith
ins_append s tag count at (x ∷ xs) ys =
    let e : (count + 1) + length xs ≡ count + length (x ∷ xs) = omega arith in
    let f : (at + length x.0) + size_of xs ≡ at + (length x.0 + size_of xs) = omega arith in
    ap (λ (ms : List Message). answer_message (data_in_head s.session (waiting_tasks s.tasks) tag count at x.1) x.0 ∷ ms)
    (ins_append s tag (count + 1) (at + length x.0) xs ys
    ∙ (λ i. data_ins s.session (waiting_tasks s.tasks) tag (count + 1) (at + length x.0) xs ++ data_ins s.session (waiting_tasks s.tasks) tag (e i) (f i) ys))

abbrev sizes : List (List ℕ) → ℕ
sizes [] = 0
sizes (part ∷ more) = length part + sizes more

size_marked : (xs : List (List ℕ)) → size_of (marked_parts xs) ≡ sizes xs
size_marked [] = refl
size_marked (x ∷ []) = refl
size_marked (x ∷ y ∷ xs) = ap (λ (k : ℕ). length x + k) (size_marked (y ∷ xs))

sizes_within : (fuel size : ℕ) (bytes : List ℕ) → 0 < size → length bytes ≤ fuel → sizes (chunks_within fuel size bytes) ≡ length bytes
sizes_within zero size [] lt le = refl
sizes_within zero size (b ∷ bytes) lt le = absurd (omega (arith, le))
sizes_within (suc more) size [] lt le = refl
sizes_within (suc more) size (b ∷ bytes) lt le =
    let e = sizes_within more size (drop size (b ∷ bytes)) lt (omega (arith, length-drop size (b ∷ bytes), lt, le)) in
    omega (arith, e, length-drop size (b ∷ bytes), length-take size (b ∷ bytes))

size_run : (s : Session) (run : List ℕ) → 0 < data_in_length s → size_of (sequence_parts s run) ≡ length run
size_run s run lt = size_marked (chunks (data_in_length s) run) ∙ sizes_within (length run) (data_in_length s) run lt (omega arith)

runs_step : (s : Session) (rest : List ℕ) (n : ℕ) → 0 < length rest → 0 < max_burst s.held → n ≡ min (max_burst s.held) (length rest)
    → data_in_parts s rest ≡ sequence_parts s (take n rest) ++ data_in_parts s (drop n rest)
runs_step s [] n some lt is = absurd (omega (arith, some))
runs_step s (b ∷ rest) n some lt is =
    let burst : ℕ = max_burst s.held in
    let all : List ℕ = b ∷ rest in
    ap (flat_map (sequence_parts s)) (chunks_step burst b rest lt)
    ∙ flat_map-cons (sequence_parts s) (take burst all) (chunks burst (drop burst all))
    ∙ (λ i. sequence_parts s (take_min burst n all is i) ++ data_in_parts s (drop_min burst n all is i))

pub gave_run : (s : Machine) (tag : ℕ) (bytes rest : List ℕ) (sent next : Sent) (old new now after : List ℕ) (n : ℕ)
    → 0 < data_in_length s.session → 0 < max_burst s.session.held → 0 < length rest → n ≡ min (max_burst s.session.held) (length rest)
    → next.count ≡ sent.count + length (sequence_parts s.session (take n rest)) → next.bytes ≡ sent.bytes + length (take n rest) → next.count ≤ next.bytes
    → now ≡ new ++ canon (data_ins s.session (waiting_tasks s.tasks) tag sent.count sent.bytes (sequence_parts s.session (take n rest))) → after
    ≡ drop n rest
    → GaveRuns s tag bytes (unsent sent rest) old new → GaveRuns s tag bytes (unsent next after) old now
gave_run s tag bytes rest sent next old new now after n most burst some is is_count is_bytes few is_now is_after g =
    let run : List (List ℕ × Bool) = sequence_parts s.session (take n rest) in
    let step = runs_step s.session rest n some burst is in
    let size : size_of run ≡ length (take n rest) = size_run s.session (take n rest) most in
    let tail : List Message = data_ins s.session (waiting_tasks s.tasks) tag next.count next.bytes (data_in_parts s.session after) in
    let at_count : sent.count + length run ≡ next.count = sym is_count in
    let at_bytes : sent.bytes + size_of run ≡ next.bytes = omega (arith, size, is_bytes) in
    let all : data_ins s.session (waiting_tasks s.tasks) tag sent.count sent.bytes (data_in_parts s.session rest)
    ≡ data_ins s.session (waiting_tasks s.tasks) tag sent.count sent.bytes run ++ tail =
    ap (data_ins s.session (waiting_tasks s.tasks) tag sent.count sent.bytes) step ∙ ins_append s tag sent.count sent.bytes run
    (data_in_parts s.session (drop n rest))
    ∙ (λ i. data_ins s.session (waiting_tasks s.tasks) tag sent.count sent.bytes run ++
    data_ins s.session (waiting_tasks s.tasks) tag (at_count i) (at_bytes i) (data_in_parts s.session (drop n rest)))
    ∙ ap (λ (x : List ℕ). data_ins s.session (waiting_tasks s.tasks) tag sent.count sent.bytes run
    ++ data_ins s.session (waiting_tasks s.tasks) tag next.count next.bytes (data_in_parts s.session x)) (sym is_after) in
    let split : canon (data_ins s.session (waiting_tasks s.tasks) tag sent.count sent.bytes (data_in_parts s.session rest))
    ≡ canon (data_ins s.session (waiting_tasks s.tasks) tag sent.count sent.bytes run) ++ canon tail =
    ap canon all ∙ flat_map-append canonical_bytes (data_ins s.session (waiting_tasks s.tasks) tag sent.count sent.bytes run) tail in
    let count : length (data_in_parts s.session rest) ≡ length run + length (data_in_parts s.session after) =
    ap (λ (x : List (List ℕ × Bool)). length x) step ∙ length-append run (data_in_parts s.session (drop n rest))
    ∙ ap (λ (x : List ℕ). length run + length (data_in_parts s.session x)) (sym is_after) in
    let behind : length after ≡ length rest - n = ap length is_after ∙ length-drop n rest in
    let len : length (take n rest) ≡ n = omega (arith, length-take n rest, is) in
    record {
      written = ap (λ (x : List ℕ). x ++ canon tail) is_now ∙ append_assoc new
          (canon (data_ins s.session (waiting_tasks s.tasks) tag sent.count sent.bytes run))
          (canon tail) ∙ ap (λ (x : List ℕ). new ++ x) (sym split) ∙ g.written;
      count = omega (arith, g.count, count, is_count);
      carried = omega (arith, g.carried, behind, is, len, is_bytes);
      few = few;
      front = front_kept old new (canon (data_ins s.session (waiting_tasks s.tasks) tag sent.count sent.bytes run)) now is_now g.front;
    }
