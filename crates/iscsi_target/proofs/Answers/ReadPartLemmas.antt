-- Data that go out part by part, from bytes or from blocks that are read.
use Rattle.std.proofs.Common.{Bool, ◌≡◌, ◌<◌, ◌≤◌, ℕ, ◌+◌, ◌-◌, ◌*◌, ◌/◌, ◌%◌, List, [], ◌++◌, min, length, take, drop, replicate, refl, sym, ap, ◌∙◌, subst, arith}
use Rattle.std.proofs.Common.{append_assoc, Result, Ok, Err, OnOk}
use Rattle.std.specs.Prelude.{◌==◌}
use Rattle.std.proofs.lemmas.Bool.Decides.{nat_tests}
use Rattle.std.proofs.lemmas.List.{append-nil, drop_at, drop-drop, length-append, take_all, take_at}
use Rattle.std.proofs.Math.Seq.{take-add}
use Rattle.scsi_cdb.specs.declared.sense.Sense.TheVariants.{ReadError}
use Rattle.scsi_disk.specs.Disk.{AppendsBytes, Disk, IsDisk, StoreTellsFailures, blocks_from}
use Rattle.scsi_disk.specs.declared.store.StoreFault.{StoreFault}
use Rattle.scsi_disk.specs.Effect.{check_condition, good_outcome}
use Rattle.scsi_disk.specs.Plan.{wanted_length}
use Rattle.scsi_disk.specs.inner.Reading.{WereRead}
use Rattle.scsi_disk.specs.declared.order.Order.{Order}
use Rattle.scsi_disk.specs.declared.order.Outcome.{Outcome}
use Rattle.scsi_disk.specs.declared.reading.BlockRange.{BlockRange}
use Rattle.scsi_disk.proofs.ReadingLemmas.{IsWhole, appended_read, executed, none_read, not_executed, read_more}
use Rattle.iscsi_pdu.specs.Meaning.{header, padding, whole}
use Rattle.iscsi_stream.proofs.PaddingLemmas.{whole_is}
use Rattle.iscsi_pdu.specs.declared.head.Head.{Head}
use Rattle.iscsi_stream.specs.Canonical.{canon}
use Rattle.iscsi_login.specs.Held.{max_burst}
use Rattle.iscsi_target_session.specs.Session.{data_in_length}
use Rattle.iscsi_target.specs.State.{Machine, waiting_tasks}
use Rattle.iscsi_target.specs.Feed.{Store}
use Rattle.iscsi_target.specs.Advances.{store_of}
use Rattle.iscsi_target.specs.Execution.{data_in_head, data_in_parts, data_ins, response_head, sense_segment, sequence_parts}
use Rattle.iscsi_target.specs.inner.Reads.{AnswersRead, CanBeCut, GivenSource, HasPart, IsGivenPart, IsPart, ReadReply, SendsAnswers, SendsData, SendsPart, SendsSequence, given_by_source, reply, source_len}
use Rattle.iscsi_target.specs.declared.machine.data_in.Sent.{Sent}
use Rattle.iscsi_target.specs.declared.machine.source.Source.{Source}
use Rattle.iscsi_target.specs.declared.machine.source.Source.TheVariants.{Bytes, Blocks}
use Rattle.iscsi_target.proofs.Answers.DataInSequenceLemmas.{GaveRuns, GaveUpTo, front_kept, gave_more, gave_run, unsent}
use Rattle.iscsi_target.proofs.Answers.CommandLemmas.{told_order}

-- ---- parts of a source

-- no bytes
pub no_part : (source : Source) (disk : Disk) (blocks n at left : ℕ) → HasPart source blocks at left → IsPart source disk n n at 0 []
no_part (Bytes all) disk blocks n at left has = (refl, refl, refl)
no_part (Blocks range) disk blocks n at left has = (has.0, refl, none_read disk (range.first + at / 512) n)

pub part_size : (source : Source) (disk : Disk) (before after at n : ℕ) (bytes : List ℕ) → IsPart source disk before after at n bytes → length bytes ≡ n
part_size (Bytes all) disk before after at n bytes is = is.1
part_size (Blocks range) disk before after at n bytes is = omega (arith, is.1, is.2.size)

-- the bytes before, between and behind two steps
pub record Outputs : Type 0 where
  pub before : List ℕ
  pub between : List ℕ
  pub after : List ℕ

-- how many failures were counted before, between and behind them
pub record Counted : Type 0 where
  pub before : ℕ
  pub between : ℕ
  pub after : ℕ

-- one part behind another
pub part_more : (source : Source) (disk : Disk) (before mid after at a b : ℕ) (x y : List ℕ) → before ≤ mid → mid ≤ after
    → IsPart source disk before mid at a x → IsPart source disk mid after (at + a) b y → IsPart source disk before after at (a + b) (x ++ y)
part_more (Bytes all) disk before mid after at a b x y low high p q = (
  q.0 ∙ p.0,
  omega (arith, length-append x y, p.1, q.1),
  (λ i. p.2 i ++ q.2 i) ∙ ap (λ (t : List ℕ). take a (drop at all.now) ++ take b t) (sym (drop-drop a at all.now))
      ∙ sym (take-add a b (drop at all.now)),
)
part_more (Blocks range) disk before mid after at a b x y low high p q =
    let here : range.first + (at + a) / 512 ≡ range.first + at / 512 + a / 512 = omega (arith, p.0, p.1) in
    let sum : a / 512 + b / 512 ≡ (a + b) / 512 = omega (arith, p.1, q.1) in
    let next : WereRead disk (range.first + at / 512 + a / 512) (b / 512) mid after y =
    subst (λ (k : ℕ). WereRead disk k (b / 512) mid after y) here q.2 in (
      p.0,
      omega (arith, p.1, q.1),
      subst (λ (k : ℕ). WereRead disk (range.first + at / 512) k before after (x ++ y)) sum
          (read_more disk (range.first + at / 512) (a / 512) (b / 512) before mid after x y low high p.2 next),
    )

-- what is left behind the first n bytes of them, where they can be cut there
pub part_left : (source : Source) (blocks at end most n : ℕ) → CanBeCut source most → at ≤ end → n ≡ min most (end - at) → HasPart source blocks at (end - at)
    → HasPart source blocks (at + n) (end - (at + n))
part_left (Bytes all) blocks at end most n cut low is has = omega (arith, low, is, has)
part_left (Blocks range) blocks at end most n cut low is has = (
  omega (arith, is, cut, has.0, has.1),
  omega (arith, is, cut, has.0, has.1, low),
  omega (arith, is, has.2, low),
  has.3,
  has.4,
)

-- a part on a disk that is the same
on_disk : (source : Source) (disk mid : Disk) (before after at n : ℕ) (bytes : List ℕ) → mid ≡ disk → IsPart source mid before after at n bytes
    → IsPart source disk before after at n bytes
on_disk source disk mid before after at n bytes same is = subst (λ (d : Disk). IsPart source d before after at n bytes) same is

-- ---- a part

no_padding : (n : ℕ) → n % 512 ≡ 0 → replicate {A = ℕ} (padding n) 0 ≡ []
no_padding n is = ap (λ (m : ℕ). replicate {A = ℕ} m 0) (let none : padding n ≡ 0 = omega (arith, is) in none)

-- blocks were read behind the head
pub blocks_sent : {T : Type 0} (r : Result T StoreFault) (head : Head) (disk : Disk) (range : BlockRange) (before after ub ua at from n : ℕ)
    (old mid new : List ℕ)
    → at % 512 ≡ 0 → n % 512 ≡ 0 → from ≡ at / 512 → mid ≡ old ++ header head n → OnOk r
    (after ≡ before → new ≡ mid ++ blocks_from disk (range.first + from) (n / 512))
    → OnOk r (AppendsBytes (512 * (n / 512)) mid new) → StoreTellsFailures disk.tells before after ub ua r → OnOk r
    (SendsPart head (given_by_source (Blocks range) disk before after) at n old new)
blocks_sent (Ok x) head disk range before after ub ua at from n old mid new even cut is_from is works a tells =
    let size : length a.bytes ≡ n = omega (arith, a.size, cut) in
    record {
      bytes = a.bytes;
      is_of = (
        even,
        cut,
        appended_read disk (range.first + at / 512) (n / 512) before after ub ua x mid new tells
            (λ same. works same ∙ ap (λ (k : ℕ). mid ++ blocks_from disk (range.first + k) (n / 512)) is_from) a,
      );
      output = a.behind ∙ ap (λ (t : List ℕ). t ++ a.bytes) is ∙ append_assoc old (header head n) a.bytes
          ∙ ap (λ (k : ℕ). old ++ (header head k ++ a.bytes)) (sym size)
          ∙ ap (λ (t : List ℕ). old ++ t) (sym (append-nil (header head (length a.bytes) ++ a.bytes))
          ∙ ap (λ (t : List ℕ). header head (length a.bytes) ++ a.bytes ++ t) (sym (no_padding (length a.bytes) (omega (arith, size, cut))))
          ∙ sym (whole_is head a.bytes));
    }
blocks_sent (Err f) head disk range before after ub ua at from n old mid new even cut is_from is works a tells = tt

-- ---- a sequence

-- of a sequence the bytes before those that are left went out
pub record PartsOut (to : ReadReply) (from : GivenSource) (before sent : Sent) (end : ℕ) : Type 0 where
  pub bytes : List ℕ
  pub is_of : IsGivenPart from before.bytes (sent.bytes - before.bytes) bytes
  pub low : before.bytes ≤ sent.bytes
  pub high : sent.bytes ≤ end
  pub few : sent.count ≤ sent.bytes
  pub front : take (length to.old) to.new ≡ to.old
  pub gave : (more : List ℕ) → length more ≡ end - sent.bytes
      → GaveUpTo to.machine to.tag (unsent before (bytes ++ more)) (unsent sent more) to.old to.new

pub parts_none : (s : Machine) (tag : ℕ) (source : Source) (disk : Disk) (blocks n end : ℕ) (before : Sent) (old : List ℕ) → before.count ≤ before.bytes
    → before.bytes ≤ end → HasPart source blocks before.bytes (end - before.bytes)
    → PartsOut (reply s tag old old) (given_by_source source disk n n) before before end
parts_none s tag source disk blocks n end before old few low has =
    let none : 0 ≡ before.bytes - before.bytes = omega arith in
    record {
      bytes = [];
      is_of = subst (λ (k : ℕ). IsPart source disk n n before.bytes k []) none (no_part source disk blocks n before.bytes (end - before.bytes) has);
      low = omega arith;
      high = low;
      few = few;
      front = take_all (length old) old (omega arith);
      gave = λ more long. record {
        written = refl;
        count = refl;
        carried = refl;
        few = few;
        front = take_all (length old) old (omega arith);
      };
    }

same_test : (n at end left : ℕ) → at ≤ end → left ≡ end - at → (n == left) ≡ (at + n == end)
same_test n at end left low is = grind (arith, nat_tests)

-- what is a part from where the others end is behind them
behind : (source : Source) (disk : Disk) (fm fa start at n : ℕ) (bytes : List ℕ) → start ≤ at → IsPart source disk fm fa at n bytes
    → IsPart source disk fm fa (start + (at - start)) n bytes
behind source disk fm fa start at n bytes low is =
    let same : at ≡ start + (at - start) = omega (arith, low) in subst (λ (k : ℕ). IsPart source disk fm fa k n bytes) same is

-- and with them goes on to its own end
joined : (source : Source) (disk : Disk) (fb fm fa start at n : ℕ) (x y : List ℕ) → start ≤ at → fb ≤ fm → fm ≤ fa → IsPart source disk fb fm start
    (at - start) x
    → IsPart source disk fm fa at n y → IsPart source disk fb fa start (at + n - start) (x ++ y)
joined source disk fb fm fa start at n x y low up high p q =
    let sum : (at - start) + n ≡ at + n - start = omega (arith, low) in
    subst (λ (k : ℕ). IsPart source disk fb fa start k (x ++ y)) sum
    (part_more source disk fb fm fa start (at - start) n x y up high p (behind source disk fm fa start at n y low q))

pub parts_next : (s : Machine) (tag : ℕ) (source : Source) (disk mid : Disk) (counted : Counted) (n end : ℕ) (before sent : Sent) (head : Head)
    (bytes : Outputs) → 0 < data_in_length s.session → sent.bytes < end → n ≡ min (data_in_length s.session) (end - sent.bytes)
    → head ≡ data_in_head s.session (waiting_tasks s.tasks) tag sent.count sent.bytes (sent.bytes + n == end) → mid ≡ disk
    → SendsPart head (given_by_source source mid counted.between counted.after) sent.bytes n bytes.between bytes.after → counted.before ≤ counted.between →
    counted.between ≤ counted.after
    → PartsOut (reply s tag bytes.before bytes.between) (given_by_source source disk counted.before counted.between) before sent end
    → PartsOut (reply s tag bytes.before bytes.after) (given_by_source source disk counted.before counted.after) before
    (record { count = sent.count + 1; bytes = sent.bytes + n }) end
parts_next s tag source disk mid counted n end before sent head bytes some left is_n is_head same part up high g =
    let x : List ℕ = part.bytes in
    let size : length x ≡ n = part_size source mid counted.between counted.after sent.bytes n x part.is_of in
    record {
      bytes = g.bytes ++ x;
      is_of = joined source disk counted.before counted.between counted.after before.bytes sent.bytes n g.bytes x g.low up high g.is_of
          (on_disk source disk mid counted.between counted.after sent.bytes n x same part.is_of);
      low = omega (arith, g.low);
      high = omega (arith, is_n, left);
      few = omega (arith, g.few, is_n, some, left);
      front = front_kept bytes.before bytes.between (whole head x) bytes.after part.output g.front;
      gave = λ more long.
          (let rest : List ℕ = x ++ more in
          let rest_long : length rest ≡ end - sent.bytes = omega (arith, length-append x more, size, long, is_n, left) in
          let test : (n == length rest) ≡ (sent.bytes + n == end) = same_test n sent.bytes end (length rest) (omega (arith, left)) rest_long in
          let front : take n rest ≡ x = take_at x more n size in
          let back : more ≡ drop n rest = sym (drop_at x more n size) in
          let is_now : bytes.after ≡ bytes.between ++ whole (data_in_head s.session (waiting_tasks s.tasks) tag sent.count sent.bytes (n == length rest))
          (take n rest) =
          part.output ∙ ap (λ (h : Head). bytes.between ++ whole h x) is_head
          ∙ (λ i. bytes.between ++ whole (data_in_head s.session (waiting_tasks s.tasks) tag sent.count sent.bytes (sym test i)) (sym front i)) in
          subst (λ (run_bytes : List ℕ). GaveUpTo s tag (unsent before run_bytes)
          (unsent (record { count = sent.count + 1; bytes = sent.bytes + n }) more) bytes.before bytes.after) (sym (append_assoc g.bytes x more))
          (gave_more s tag before (g.bytes ++ rest) rest sent bytes.before bytes.between n bytes.after more some (omega (arith, rest_long, left))
          (omega (arith, is_n, rest_long))
          is_now back (g.gave rest rest_long)));
    }

pub parts_all : (s : Machine) (tag : ℕ) (from : GivenSource) (before sent : Sent) (end : ℕ) (old new : List ℕ) → end ≤ sent.bytes
    → PartsOut (reply s tag old new) from before sent end → SendsSequence (reply s tag old new) from before sent end
parts_all s tag from before sent end old new none g =
    let all : sent.bytes ≡ end = omega (arith, g.high, none) in
    let last = g.gave [] (omega (arith, none)) in
    let same : g.bytes ++ [] ≡ g.bytes = append-nil g.bytes in
    record {
      bytes = g.bytes;
      is_of = subst (λ (k : ℕ). IsGivenPart from before.bytes (k - before.bytes) g.bytes) all g.is_of;
      count = omega (arith, last.count, ap (λ (b : List ℕ). length (sequence_parts s.session b)) same);
      carried = all;
      few = g.few;
      output = sym (append-nil new) ∙ last.written ∙ ap (λ (b : List ℕ). old ++ canon (data_ins s.session (waiting_tasks s.tasks) tag before.count before.bytes
          (sequence_parts s.session b))) same;
    }

-- ---- sequences

-- the bytes before those that are left went out
pub record SequencesOut (to : ReadReply) (from : GivenSource) (sent : Sent) : Type 0 where
  pub bytes : List ℕ
  pub is_of : IsGivenPart from 0 sent.bytes bytes
  pub high : sent.bytes ≤ source_len from.source
  pub few : sent.count ≤ sent.bytes
  pub front : take (length to.old) to.new ≡ to.old
  pub gave : (more : List ℕ) → length more ≡ source_len from.source - sent.bytes
      → GaveRuns to.machine to.tag (bytes ++ more) (unsent sent more) to.old to.new

pub sequences_none : (s : Machine) (tag : ℕ) (source : Source) (disk : Disk) (blocks n : ℕ) (old new : List ℕ) → HasPart source blocks 0 (source_len source)
    → new ≡ old → SequencesOut (reply s tag old new) (given_by_source source disk n n) (record { count = 0; bytes = 0 })
sequences_none s tag source disk blocks n old new has same = record {
  bytes = [];
  is_of = no_part source disk blocks n 0 (source_len source) has;
  high = omega arith;
  few = omega arith;
  front = ap (take (length old)) same ∙ take_all (length old) old (omega arith);
  gave = λ more long. record {
    written = ap (λ (t : List ℕ). t ++ canon (data_ins s.session (waiting_tasks s.tasks) tag 0 0 (data_in_parts s.session more))) same;
    count = omega arith;
    carried = omega arith;
    few = omega arith;
    front = ap (take (length old)) same ∙ take_all (length old) old (omega arith);
  };
}

pub sequences_next : (s : Machine) (tag : ℕ) (source : Source) (disk mid : Disk) (counted : Counted) (n end : ℕ) (sent after : Sent) (bytes : Outputs)
    → 0 < max_burst s.session.held → 0 < data_in_length s.session → sent.bytes < source_len source
    → n ≡ min (max_burst s.session.held) (source_len source - sent.bytes) → end ≡ sent.bytes + n → mid ≡ disk
    → SendsSequence (reply s tag bytes.between bytes.after) (given_by_source source mid counted.between counted.after) sent after end → counted.before ≤
    counted.between → counted.between ≤ counted.after
    → SequencesOut (reply s tag bytes.before bytes.between) (given_by_source source disk counted.before counted.between) sent → SequencesOut
    (reply s tag bytes.before bytes.after) (given_by_source source disk counted.before counted.after) after
sequences_next s tag source disk mid counted n end sent after bytes some takes left is_n is_end same run low high g =
    let x : List ℕ = run.bytes in
    let k : end - sent.bytes ≡ n = omega (arith, is_end) in
    let here : IsPart source disk counted.between counted.after sent.bytes n x =
    on_disk source disk mid counted.between counted.after sent.bytes n x same
    (subst (λ (m : ℕ). IsPart source mid counted.between counted.after sent.bytes m x) k run.is_of) in
    let size : length x ≡ n = part_size source disk counted.between counted.after sent.bytes n x here in
    let zero : sent.bytes ≡ 0 + sent.bytes = omega arith in
    let reached : sent.bytes + n ≡ after.bytes = sym is_end ∙ sym run.carried in
    let carried : after.bytes ≡ sent.bytes + n = sym reached in
    record {
      bytes = g.bytes ++ x;
      is_of = subst (λ (m : ℕ). IsPart source disk counted.before counted.after 0 m (g.bytes ++ x)) reached
          (part_more source disk counted.before counted.between counted.after 0 sent.bytes n g.bytes x low high g.is_of
          (subst (λ (m : ℕ). IsPart source disk counted.between counted.after m n x) zero here));
      high = omega (arith, carried, is_n, left);
      few = run.few;
      front = front_kept bytes.before bytes.between (canon (data_ins s.session (waiting_tasks s.tasks) tag sent.count sent.bytes
          (sequence_parts s.session x))) bytes.after run.output
          g.front;
      gave = λ more long.
          (let rest : List ℕ = x ++ more in
          let rest_long : length rest ≡ source_len source - sent.bytes = omega (arith, length-append x more, size, long, carried, is_n, left) in
          let front : x ≡ take n rest = sym (take_at x more n size) in
          let back : more ≡ drop n rest = sym (drop_at x more n size) in
          let counted : after.count ≡ sent.count + length (sequence_parts s.session (take n rest)) =
          run.count ∙ ap (λ (b : List ℕ). sent.count + length (sequence_parts s.session b)) front in
          let is_bytes : after.bytes ≡ sent.bytes + length (take n rest) =
          carried ∙ ap (λ (m : ℕ). sent.bytes + m) (sym size ∙ ap length front) in
          let is_now : bytes.after ≡ bytes.between ++ canon (data_ins s.session (waiting_tasks s.tasks) tag sent.count sent.bytes
          (sequence_parts s.session (take n rest))) =
          run.output ∙ ap (λ (b : List ℕ). bytes.between ++ canon (data_ins s.session (waiting_tasks s.tasks) tag sent.count sent.bytes
          (sequence_parts s.session b))) front in
          subst (λ (all : List ℕ). GaveRuns s tag all (unsent after more) bytes.before bytes.after) (sym (append_assoc g.bytes x more))
          (gave_run s tag (g.bytes ++ rest) rest sent after bytes.before bytes.between bytes.after more n takes some (omega (arith, rest_long, left))
          (omega (arith, is_n, rest_long))
          counted is_bytes run.few is_now back (g.gave rest rest_long)));
    }

pub sequences_all : (s : Machine) (tag : ℕ) (from : GivenSource) (sent : Sent) (old new : List ℕ) → source_len from.source ≤ sent.bytes
    → SequencesOut (reply s tag old new) from sent → SendsData (reply s tag old new) from sent.count
sequences_all s tag from sent old new none g =
    let all : sent.bytes ≡ source_len from.source = omega (arith, g.high, none) in
    let last = g.gave [] (omega (arith, none)) in
    let same : g.bytes ++ [] ≡ g.bytes = append-nil g.bytes in
    record {
      bytes = g.bytes;
      is_of = subst (λ (k : ℕ). IsGivenPart from 0 k g.bytes) all g.is_of;
      counted = omega (arith, last.count, ap (λ (b : List ℕ). length (data_in_parts s.session b)) same);
      output = sym (append-nil new) ∙ last.written ∙ ap (λ (b : List ℕ). old ++ canon (data_ins s.session (waiting_tasks s.tasks) tag 0 0
          (data_in_parts s.session b))) same;
    }

-- ---- the answers

-- the data of a command and its response
pub answers_sent : (s : Machine) (tag : ℕ) (outcome : Outcome) (from : GivenSource) (count : ℕ) (head : Head) (old new now : List ℕ)
    → SendsData (reply s tag old new) from count → head ≡ response_head s.session (waiting_tasks s.tasks) tag outcome count
    → now ≡ new ++ whole head (sense_segment outcome.sense) → SendsAnswers (reply s tag old now) outcome from
answers_sent s tag outcome from count head old new now out is_head is_now = record {
  bytes = out.bytes;
  is_of = out.is_of;
  output = told_order s tag (record outcome { bytes = out.bytes }) out.bytes count head old new now refl out.counted out.output is_head is_now;
}

-- a READ whose blocks were sent
pub answers_read : (protected : Bool) (s : Machine) (tag : ℕ) (order : Order) (disk now_disk : Disk) (range : BlockRange) (fb fa : ℕ)
    (old now : List ℕ) → IsWhole disk order range → IsDisk disk → now_disk ≡ disk → fb ≤ fa
    → SendsAnswers (reply s tag old now) (good_outcome order (wanted_length order disk.count) []) (given_by_source (Blocks range) disk fb fa)
    → AnswersRead protected (reply s tag old now) order (store_of disk fb) (store_of now_disk fa)
answers_read protected s tag order disk now_disk range fb fa old now is is_disk same rises out =
    let outcome : Outcome = good_outcome order (wanted_length order disk.count) out.bytes in
    let first : range.first + 0 / 512 ≡ range.first = omega arith in
    let count : 512 * range.count / 512 ≡ range.count = omega arith in
    let were : WereRead disk range.first range.count fb fa out.bytes =
    subst (λ (k : ℕ). WereRead disk k range.count fb fa out.bytes) first
    (subst (λ (k : ℕ). WereRead disk (range.first + 0 / 512) k fb fa out.bytes) count out.is_of.2) in
    record {
      outcome = outcome;
      executes = executed protected disk now_disk order range fb fa out.bytes is is_disk same rises were;
      output = out.output;
    }

-- a READ that failed
pub answers_failed : (protected : Bool) (s : Machine) (tag : ℕ) (order : Order) (from to : Store) (range : BlockRange)
    (outcome : Outcome) (head : Head)
    (old mid now : List ℕ) → IsWhole from.disk order range → to.disk ≡ from.disk → from.failures < to.failures → outcome ≡ check_condition order ReadError →
    mid ≡ old
    → head ≡ response_head s.session (waiting_tasks s.tasks) tag outcome 0 → now ≡ mid ++ whole head (sense_segment outcome.sense)
    → AnswersRead protected (reply s tag old now) order from to
answers_failed protected s tag order from to range outcome head old mid now is same rose told is_mid is_head is_now =
    let none : [] ≡ outcome.bytes = ap (λ (o : Outcome). o.bytes) (sym told) in
    record {
      outcome = outcome;
      executes = not_executed protected from.disk to.disk order range from.failures to.failures outcome is same rose told;
      output = told_order s tag outcome [] 0 head old mid now none (omega arith) (is_mid ∙ sym (append-nil old)) is_head is_now;
    }
