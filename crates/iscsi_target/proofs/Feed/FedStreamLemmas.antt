-- A target that was fed a stream of whole PDUs, in any pieces.
use Rattle.std.proofs.Common.{◌≡◌, ◌<◌, ◌≤◌, ◌⊎◌, inl, inr, ℕ, Bool, true, false, List, [], ◌∷◌, ◌++◌, length, take, drop, Some, Result, Ok, Err}
use Rattle.std.proofs.Common.{refl, sym, ap, subst, ◌∙◌, arith, append_assoc}
use Rattle.std.specs.Prelude.{nat_lt}
use Rattle.std.specs.List.{flat_map}
use Rattle.std.proofs.lemmas.Bool.{lt-ltb}
use Rattle.std.proofs.lemmas.List.{append-nil, take-append-drop, take_all}
use Rattle.scsi_disk.specs.Disk.{Disk}
use Rattle.iscsi_pdu.specs.Meaning.{IsHeader, head_fault}
use Rattle.iscsi_pdu.proofs.HeaderLemmas.{IsHeader-unique}
use Rattle.iscsi_stream.specs.declared.fault.StreamFault.{StreamFault}
use Rattle.iscsi_stream.specs.declared.fault.StreamFault.TheVariants as stream
use Rattle.iscsi_stream.specs.Segment.{Segment, Bytes, no_login, continues}
use Rattle.iscsi_stream.specs.Stream.{Message, ReadsAs, StreamMeans, logins_after_all, longest_segment}
use Rattle.iscsi_stream.specs.Canonical.{canon}
use Rattle.iscsi_stream.specs.Framing.{Framing, HasTaken, FramerFeedFails, is_ready, is_whole_pdu}
use Rattle.iscsi_stream.proofs.SettledBytesLemmas.{is_whole-settled}
use Rattle.iscsi_stream.proofs.ReadyLemmas.{unready_of, not_whole-nil, apart}
use Rattle.iscsi_stream.proofs.TakingLemmas.{taken_at, at_opening}
use Rattle.iscsi_stream.proofs.FrontLemmas.{held_is}
use Rattle.iscsi_login.specs.declared.phase.Phase.{Phase}
use Rattle.iscsi_target.specs.declared.fault.TargetFault.{TargetFault}
use Rattle.iscsi_target.specs.declared.fault.TargetFault.TheVariants as faults
use Rattle.iscsi_target_session.specs.Configured.{TargetSettings}
use Rattle.iscsi_target_session.specs.Session.{target_limit}
use Rattle.iscsi_target.specs.State.{Machine, TargetStep, closed_machine, opening_machine, unchanged, shut_down}
use Rattle.iscsi_target.specs.State.{writes_joined}
use Rattle.iscsi_target.specs.Machine.{is_machine_closed, is_over_limit, target_step, answers, then_stepped}
use Rattle.iscsi_target.specs.Laws.{joined_stepped}
use Rattle.iscsi_target.specs.Feed.{Scene, TargetConnection, Store, AnswersPdus, OutputStands, CallLeaves, CallEnds, FeedsFirstBytes, TargetFeedPost, HasAnswered, GoesWell, FeedsAllPieces, FeedPostIfClosed, ClosedTargetStays, TargetReaches}
use Rattle.iscsi_target.specs.Feed.{Beginning, answers_from, beginning, opening_target, call_progress, remainder, scene}
use Rattle.iscsi_target.proofs.Steps.NumberLaws.{closed_answers, answers_settings}
use Rattle.iscsi_target.proofs.Steps.AppendLemmas.{answers_append}
use Rattle.iscsi_target.proofs.Steps.ClosingLemmas.{answers_close}
use Rattle.iscsi_target.proofs.Writes.JoiningLemmas.{answers_joined}
use Rattle.iscsi_target.proofs.Feed.PrefixLemmas.{Rests, Heads, prefix_of, begins_with, no_bad_header, none_whole, long_bytes}
use Rattle.iscsi_stream.proofs.WritingLemmas.{canon_append}

-- ---- what was taken so far

-- the session is open, and has answered what it took
pub record Live (protected : Bool) (start : Beginning) (taken : List ℕ) (now : TargetConnection) (disk_now : Disk) (written : List ℕ) : Type 0 where
  pub has : HasAnswered protected start taken now disk_now written
  pub ready : is_ready now.framing ≡ false
  pub bound : now.framing.limit ≡ target_limit start.settings

-- it is closed, whatever follows in the stream
pub record Over (protected : Bool) (start : Beginning) (taken : List ℕ) (now : TargetConnection) (disk_now : Disk) (written : List ℕ) : Type 0 where
  pub over : (more : List ℕ) (ms : List Message) → StreamMeans (taken ++ more) ms → TargetReaches protected start ms now disk_now written

-- what stands where memory was there
pub stands : (protected : Bool) (output : List ℕ) (framing : Framing) (rest : List ℕ) (r : TargetStep) (counted : ℕ)
    (result : Result Phase TargetFault) (new : Machine)
    (after : Store) (written : List ℕ) → (result ≡ Err faults.NoMemory → ⊥)
    → CallLeaves protected result output (remainder framing rest r counted) new after written → OutputStands output r counted after written
stands protected output framing rest r counted (Ok phase) new after written memory h = h
stands protected output framing rest r counted (Err faults.NoMemory) new after written memory h = absurd (memory refl)
stands protected output framing rest r counted (Err (faults.Stream fault)) new after written memory h = h
stands protected output framing rest r counted (Err (faults.Protocol rule)) new after written memory h = h
stands protected output framing rest r counted (Err faults.Closed) new after written memory h = h

-- what a call answered, told from the opening state
pub record Told (protected : Bool) (start : Beginning) (ms : List Message) (r : TargetStep) (disk_now : Disk) (written : List ℕ) : Type 0 where
  pub machine : writes_joined r.machine ≡ writes_joined (answers_from protected start ms).machine
  pub disk_is : disk_now ≡ (answers_from protected start ms).disk
  pub output_is : written ≡ canon (answers_from protected start ms).answers

pub told : (protected : Bool) (begin : Beginning) (taken : List ℕ) (from : Scene)
    (bytes : List ℕ) (framing : Framing)
    (more : List Message) (r : TargetStep) (counted : ℕ) (after : Store) (written : List ℕ)
    → (h : HasAnswered protected begin taken from.connection from.store.disk from.output)
    → AnswersPdus protected from.connection from.store bytes (call_progress framing more r) after
    → OutputStands from.output r counted after written →
    after.failures ≡ from.store.failures
    → Told protected begin (h.messages ++ more) r after.disk written
told protected begin taken from bytes framing more r counted after written h a b works =
    let first : TargetStep = answers protected (opening_machine begin.settings begin.first_stat_sn) begin.disk h.messages in
    let later : TargetStep = answers protected first.machine first.disk more in
    let e : joined_stepped r ≡ joined_stepped later =
    ap joined_stepped (a.works works)
    ∙ ap (λ (s : Machine). joined_stepped (answers protected s from.store.disk more)) h.machine
    ∙ ap (λ (d : Disk). joined_stepped (answers protected (writes_joined first.machine) d more)) h.disk_is
    ∙ answers_joined protected first.machine first.disk more in
    let both : answers protected (opening_machine begin.settings begin.first_stat_sn) begin.disk (h.messages ++ more)
    ≡ then_stepped first later = answers_append protected (opening_machine begin.settings begin.first_stat_sn) begin.disk h.messages more in
    record {
      machine = ap (λ (x : TargetStep). x.machine) e ∙ ap (λ (x : TargetStep). writes_joined x.machine) (sym both);
      disk_is = b.disk ∙ ap (λ (x : TargetStep). x.disk) e ∙ ap (λ (x : TargetStep). x.disk) (sym both);
      output_is = b.output_is ∙ ap (λ (x : List ℕ). x ++ canon r.answers) h.output_is
          ∙ ap (λ (x : TargetStep). canon first.answers ++ canon x.answers) e
          ∙ sym (canon_append first.answers later.answers) ∙ ap (λ (x : TargetStep). canon x.answers) (sym both);
    }

-- a closed session, whatever comes behind these messages
pub closed_meets : (protected : Bool) (settings : TargetSettings) (n : ℕ) (disk : Disk) (first more : List Message) (now : TargetConnection)
    (disk_now : Disk) (written : List ℕ)
    → is_machine_closed (answers protected (opening_machine settings n) disk first).machine ≡ true
    → TargetReaches protected (beginning settings n disk) first now disk_now written →
    TargetReaches protected (beginning settings n disk) (first ++ more) now disk_now written
closed_meets protected settings n disk first more now disk_now written c m =
    let a : TargetStep = answers protected (opening_machine settings n) disk first in
    let e : answers protected (opening_machine settings n) disk (first ++ more) ≡ then_stepped a (unchanged a.machine a.disk) =
    answers_append protected (opening_machine settings n) disk first more
    ∙ ap (λ (r : TargetStep). then_stepped a r) (closed_answers protected a.machine a.disk more c) in
    record {
      machine = m.machine ∙ ap (λ (r : TargetStep). writes_joined r.machine) (sym e);
      disk_is = m.disk_is ∙ ap (λ (r : TargetStep). r.disk) (sym e);
      output_is = m.output_is ∙ ap (λ (ms : List Message). canon ms) (sym (append-nil a.answers)) ∙ ap (λ (r : TargetStep). canon r.answers) (sym e);
    }

-- a session in which a segment longer than the limit comes
pub over_meets : (protected : Bool) (settings : TargetSettings) (n : ℕ) (disk : Disk) (first : List Message) (m : Message) (more : List Message)
    (now : TargetConnection) (disk_now : Disk)
    (written : List ℕ)
    → is_machine_closed (answers protected (opening_machine settings n) disk first).machine ≡ false
    → is_over_limit (answers protected (opening_machine settings n) disk first).machine m.segment ≡ true
    → now.machine ≡ closed_machine (answers protected (opening_machine settings n) disk first).machine → disk_now
    ≡ (answers protected (opening_machine settings n) disk first).disk
    → written ≡ canon (answers protected (opening_machine settings n) disk first).answers
    → TargetReaches protected (beginning settings n disk) (first ++ m ∷ more) now disk_now written
unfolding answers
over_meets protected settings n disk first m more now disk_now written live long is_now is_disk is_written =
    let a : TargetStep = answers protected (opening_machine settings n) disk first in
    let one : target_step protected a.machine a.disk m ≡ shut_down a.machine a.disk = rw (live, long) refl in
    let e : answers protected (opening_machine settings n) disk (first ++ m ∷ more) ≡ then_stepped a (then_stepped (shut_down a.machine a.disk)
    (unchanged (closed_machine a.machine) a.disk)) =
    answers_append protected (opening_machine settings n) disk first (m ∷ more)
    ∙ ap (λ (r : TargetStep). then_stepped a (then_stepped r (answers protected r.machine r.disk more))) one
    ∙ ap (λ (r : TargetStep). then_stepped a (then_stepped (shut_down a.machine a.disk) r))
    (closed_answers protected (closed_machine a.machine) a.disk more refl) in
    record {
      machine = is_now ∙ ap (λ (r : TargetStep). writes_joined r.machine) (sym e);
      disk_is = is_disk ∙ ap (λ (r : TargetStep). r.disk) (sym e);
      output_is = is_written ∙ ap (λ (ms : List Message). canon ms) (sym (append-nil a.answers)) ∙ ap (λ (r : TargetStep). canon r.answers) (sym e);
    }

-- ---- a stream and what was taken of it

pub whole_stream : (taken piece more given rest : List ℕ) (count : ℕ) → taken ++ take count piece ≡ given ++ rest → (taken ++ piece) ++ more ≡ given
    ++ ((rest ++ drop count piece) ++ more)
whole_stream taken piece more given rest count e =
    ap (λ (x : List ℕ). (taken ++ x) ++ more) (sym (take-append-drop count piece))
    ∙ ap (λ (x : List ℕ). x ++ more) (sym (append_assoc taken (take count piece) (drop count piece)))
    ∙ ap (λ (x : List ℕ). (x ++ drop count piece) ++ more) e
    ∙ ap (λ (x : List ℕ). x ++ more) (append_assoc given rest (drop count piece))
    ∙ append_assoc given (rest ++ drop count piece) more

rests : (taken piece more : List ℕ) (count : ℕ) (first ms : List Message) (v : Framing) → (t : HasTaken (taken ++ take count piece) first v) →
    StreamMeans ((taken ++ piece) ++ more) ms
    → Rests no_login first ms ((t.rest ++ drop count piece) ++ more)
rests taken piece more count first ms v t p =
    prefix_of v.limit no_login t.given first ((t.rest ++ drop count piece) ++ more) ms t.reads
    (subst (λ (x : List ℕ). ReadsAs longest_segment no_login x ms) (whole_stream taken piece more t.given t.rest count t.whole) p)

-- where a call leaves a target: itself, the blocks, and what was written
pub record LeftSo : Type 0 where
  pub target : TargetConnection
  pub disk : Disk
  pub written : List ℕ

-- how far a call got in its piece: how many bytes it took, the PDUs that they complete, and the framer behind them
pub record GotTo : Type 0 where
  pub count : ℕ
  pub messages : List Message
  pub framing : Framing

-- what is said where the framer refuses what follows
fault_meets : (protected : Bool) (begin : Beginning) (taken piece : List ℕ) (got : GotTo)
    (so : LeftSo)
    (fault : StreamFault)
    → (t : HasTaken (taken ++ take got.count piece) got.messages got.framing) → got.framing.limit ≡ target_limit begin.settings → (fault ≡ stream.NoMemory → ⊥)
    → FramerFeedFails got.framing (drop got.count piece) fault
    → is_machine_closed (answers protected (opening_machine begin.settings begin.first_stat_sn) begin.disk got.messages).machine ≡ false
    → so.target.machine ≡ closed_machine (answers protected (opening_machine begin.settings begin.first_stat_sn) begin.disk got.messages).machine → so.disk
    ≡ (answers protected (opening_machine begin.settings begin.first_stat_sn) begin.disk got.messages).disk
    → so.written ≡ canon (answers protected (opening_machine begin.settings begin.first_stat_sn) begin.disk got.messages).answers → (more : List ℕ)
    (ms : List Message)
    → StreamMeans ((taken ++ piece) ++ more) ms →
    TargetReaches protected begin ms so.target so.disk so.written
fault_meets protected begin taken piece got so stream.NoMemory t bound none f live is_now is_disk is_written more ms p =
    absurd (none refl)
fault_meets protected begin taken piece got so (stream.Head fault place) t bound none f live is_now is_disk is_written more ms p =
    let r = rests taken piece more got.count got.messages ms got.framing t p in
    let held : got.framing.held ≡ t.rest = held_is (taken ++ take got.count piece) got.messages got.framing t f.1.before in
    let long : 48 ≤ length (t.rest ++ drop got.count piece) = subst (λ (x : List ℕ). 48 ≤ length (x ++ drop got.count piece)) held f.1.reached in
    let bad : head_fault (take 48 (t.rest ++ drop got.count piece)) ≡ Some fault = subst (λ (x : List ℕ). head_fault (take 48 (x ++ drop got.count piece))
    ≡ Some fault) held f.2 in
    absurd (no_bad_header (logins_after_all no_login got.messages) (t.rest ++ drop got.count piece) more r.more fault long bad r.reads)
fault_meets protected begin taken piece got so (stream.OverLimit place) t bound none f live is_now is_disk is_written more ms p =
    let r = rests taken piece more got.count got.messages ms got.framing t p in
    let a : TargetStep = answers protected (opening_machine begin.settings begin.first_stat_sn) begin.disk got.messages in
    let held : got.framing.held ≡ t.rest = held_is (taken ++ take got.count piece) got.messages got.framing t f.1.2.reaches.before in
    let long : 48 ≤ length (t.rest ++ drop got.count piece) = subst (λ (x : List ℕ). 48 ≤ length (x ++ drop got.count piece)) held f.1.2.reaches.reached in
    let h : Heads (logins_after_all no_login got.messages) r.more (take 48 (t.rest ++ drop got.count piece)) =
    begins_with (logins_after_all no_login got.messages) (t.rest ++ drop got.count piece) more r.more long r.reads in
    let header : IsHeader (take 48 (t.rest ++ drop got.count piece)) f.1.0 f.1.1 = subst
    (λ (x : List ℕ). IsHeader (take 48 (x ++ drop got.count piece)) f.1.0 f.1.1)
    held f.1.2.header in
    let size : length h.segment ≡ f.1.1 = (IsHeader-unique (take 48 (t.rest ++ drop got.count piece)) h.m.head f.1.0 (length h.segment) f.1.1 h.says
    header).1 in
    let past : target_limit begin.settings < length h.segment = omega (arith, f.1.3, size, bound) in
    let bytes : h.m.segment ≡ Bytes h.segment = h.meaning ∙ long_bytes (continues (logins_after_all no_login got.messages) h.m.head) h.m.head h.segment
    h.says.login
    (omega (arith, past)) in
    let same : a.machine.session.settings ≡ begin.settings = answers_settings protected (opening_machine begin.settings begin.first_stat_sn) begin.disk
    got.messages in
    let over : is_over_limit a.machine h.m.segment ≡ true =
    ap (λ (x : Segment). is_over_limit a.machine x) bytes ∙ ap (λ (x : TargetSettings). nat_lt (target_limit x) (length h.segment)) same
    ∙ lt-ltb (target_limit begin.settings) (length h.segment) past in
    subst (λ (x : List Message). TargetReaches protected begin x so.target so.disk so.written)
    (sym (r.whole ∙ ap (λ (x : List Message). got.messages ++ x) h.is))
    (over_meets protected begin.settings begin.first_stat_sn begin.disk got.messages h.m h.more so.target so.disk so.written live over is_now is_disk
    is_written)
fault_meets protected begin taken piece got so (stream.Truncated place) t bound none f live is_now is_disk is_written more ms p =
    absurd f
fault_meets protected begin taken piece got so stream.Failed t bound none f live is_now is_disk is_written more ms p =
    absurd (apart f t.live)

-- ---- one call

-- the session is open or closed
abbrev pub Either : Bool → Beginning → List ℕ → TargetConnection → Disk → List ℕ → Type 0
Either protected start taken now disk_now written =
    ((is_machine_closed now.machine ≡ false) × Live protected start taken now disk_now written)
    ⊎ ((is_machine_closed now.machine ≡ true) × Over protected start taken now disk_now written)

-- a call that closed the session after these messages
closing : (protected : Bool) (begin : Beginning) (taken piece : List ℕ) (got : GotTo)
    (r : TargetStep) (so : LeftSo)
    → HasTaken (taken ++ take got.count piece) got.messages got.framing → Told protected begin got.messages r so.disk so.written → so.target.machine ≡
    writes_joined r.machine
    → is_machine_closed r.machine ≡ true
    → Either protected begin (taken ++ piece) so.target so.disk so.written
closing protected begin taken piece got r so t told_ e c =
    let there : is_machine_closed (answers protected (opening_machine begin.settings begin.first_stat_sn) begin.disk got.messages).machine ≡ true = sym
    (ap is_machine_closed told_.machine) ∙ c in
    let meets : TargetReaches protected begin got.messages so.target so.disk so.written = record {
      machine = e ∙ told_.machine;
      disk_is = told_.disk_is;
      output_is = told_.output_is;
    } in
    inr (
      ap is_machine_closed e ∙ c,
      record {
        over = λ more ms p.
            let x = rests taken piece more got.count got.messages ms got.framing t p in
            subst (λ (xs : List Message). TargetReaches protected begin xs so.target so.disk so.written) (sym x.whole)
            (closed_meets protected begin.settings begin.first_stat_sn begin.disk got.messages x.more so.target so.disk so.written there meets);
      },
    )

pub ends_go : (protected : Bool) (begin : Beginning) (taken piece : List ℕ) (got : GotTo)
    (r : TargetStep) (so : LeftSo)
    (result : Result Phase TargetFault)
    → HasTaken (taken ++ take got.count piece) got.messages got.framing → Told protected begin got.messages r so.disk so.written → got.framing.limit ≡
    target_limit begin.settings
    → is_ready got.framing ≡ false
    → ((k : ℕ) → r.rule ≡ Some k → is_machine_closed r.machine ≡ true) → (result ≡ Err faults.NoMemory → ⊥) → CallEnds piece result got.framing got.count r
    so.target
    → Either protected begin (taken ++ piece) so.target so.disk so.written
ends_go protected begin taken piece got r so (Ok phase) t told_ bound ready closes memory e =
    elim e.3 [
      | inl c ↦ closing protected begin taken piece got r so t told_ e.1 c
      | inr g ↦ inl (
        ap is_machine_closed e.1 ∙ g.live,
        record {
          has = record {
            messages = got.messages;
            taken = subst (λ (x : Framing). HasTaken (taken ++ piece) got.messages x) (sym g.framing_is)
                (taken_at (taken ++ take got.count piece) (taken ++ piece) got.messages got.messages got.framing (ap (λ (x : List ℕ). taken ++ x)
                (take_all got.count piece (omega (arith, g.all)))) refl t);
            machine = e.1 ∙ told_.machine;
            disk_is = told_.disk_is;
            output_is = told_.output_is;
          };
          ready = ap is_ready g.framing_is ∙ ready;
          bound = ap (λ (x : Framing). x.limit) g.framing_is ∙ bound;
        },
      )
    ]
ends_go protected begin taken piece got r so (Err faults.NoMemory) t told_ bound ready closes memory e = absurd (memory refl)
ends_go protected begin taken piece got r so (Err (faults.Stream fault)) t told_ bound ready closes memory e =
    let live : is_machine_closed (answers protected (opening_machine begin.settings begin.first_stat_sn) begin.disk got.messages).machine ≡ false = sym
    (ap is_machine_closed told_.machine)
    ∙ e.0.live in
    let now_is : so.target.machine ≡ closed_machine (answers protected (opening_machine begin.settings begin.first_stat_sn) begin.disk
    got.messages).machine = e.3 ∙ ap closed_machine told_.machine in
    inr (
      ap is_machine_closed e.3,
      record {
        over = λ more ms p.
            fault_meets protected begin taken piece got so fault t bound e.1 e.2 live now_is told_.disk_is
            told_.output_is more ms
            p;
      },
    )
ends_go protected begin taken piece got r so (Err (faults.Protocol rule)) t told_ bound ready closes memory e =
    closing protected begin taken piece got r so t told_ e.1 (closes rule e.0)
ends_go protected begin taken piece got r so (Err faults.Closed) t told_ bound ready closes memory e = absurd e

feed_goes : (protected : Bool) (begin : Beginning) (taken : List ℕ) (from : Scene) (piece : List ℕ)
    (result : Result Phase TargetFault) (to : Scene)
    → Live protected begin taken from.connection from.store.disk from.output
    → FeedsFirstBytes protected from piece result to
    → GoesWell result from.store to.store
    → Either protected begin (taken ++ piece) to.connection to.store.disk to.output
feed_goes protected begin taken from piece result to live f well =
    let h : HasAnswered protected begin taken from.connection from.store.disk from.output = live.has in
    let t : HasTaken (taken ++ take f.count piece) (h.messages ++ f.messages) f.framing = f.answered.taken taken h.messages h.taken in
    ends_go protected begin taken piece (record { count = f.count; messages = (h.messages ++ f.messages); framing = f.framing }) f.stepped
    (record { target = to.connection; disk = to.store.disk; written = to.output }) result t
    (told protected begin taken from (take f.count piece) f.framing f.messages f.stepped f.answered.failures to.store to.output h f.answered
    (stands protected from.output f.framing (drop f.count piece) f.stepped f.answered.failures result to.connection.machine to.store to.output well.memory
    f.leaves) well.device)
    (f.answered.limit ∙ live.bound) f.answered.ready
    (λ k e. let w = f.answered.works well.device in
    ap (λ (x : TargetStep). is_machine_closed x.machine) w ∙ answers_close protected from.connection.machine from.store.disk f.messages k
    (sym (ap (λ (x : TargetStep). x.rule) w) ∙ e))
    well.memory f.ends

-- ---- all calls

live_meets : (protected : Bool) (settings : TargetSettings) (n : ℕ) (disk : Disk) (taken : List ℕ) (now : TargetConnection) (disk_now : Disk)
    (written : List ℕ) (ms : List Message)
    → Live protected (beginning settings n disk) taken now disk_now written → StreamMeans taken ms
    → TargetReaches protected (beginning settings n disk) ms now disk_now written
live_meets protected settings n disk taken now disk_now written ms live p =
    let h : HasAnswered protected (beginning settings n disk) taken now disk_now written = live.has in
    let t : HasTaken taken h.messages now.framing = h.taken in
    let r : Rests no_login h.messages ms t.rest =
    prefix_of now.framing.limit no_login t.given h.messages t.rest ms t.reads (subst (λ (x : List ℕ). ReadsAs longest_segment no_login x ms) t.whole p) in
    let part : is_whole_pdu t.rest ≡ false = sym (is_whole-settled t.rest) ∙ ap is_whole_pdu (sym t.held)
    ∙ unready_of now.framing.failed now.framing.held t.live live.ready in
    let none : r.more ≡ [] = none_whole now.framing.limit (logins_after_all no_login h.messages) t.rest r.more t.begun part r.reads in
    let same : h.messages ≡ ms = sym (r.whole ∙ ap (λ (x : List Message). h.messages ++ x) none ∙ append-nil h.messages) in
    subst (λ (x : List Message). TargetReaches protected (beginning settings n disk) x now disk_now written) same
    (record { machine = h.machine; disk_is = h.disk_is; output_is = h.output_is })

either_meets : (protected : Bool) (settings : TargetSettings) (n : ℕ) (disk : Disk) (taken : List ℕ) (now : TargetConnection) (disk_now : Disk)
    (written : List ℕ) (ms : List Message)
    → Either protected (beginning settings n disk) taken now disk_now written → StreamMeans taken ms
    → TargetReaches protected (beginning settings n disk) ms now disk_now written
either_meets protected settings n disk taken now disk_now written ms (inl l) p = live_meets protected settings n disk taken now disk_now written ms l.1 p
either_meets protected settings n disk taken now disk_now written ms (inr o) p =
    o.1.over [] ms (subst (λ (x : List ℕ). StreamMeans x ms) (sym (append-nil taken)) p)

stays_over : (protected : Bool) (settings : TargetSettings) (n : ℕ) (disk : Disk) (taken piece : List ℕ) (now : TargetConnection) (disk_now : Disk)
    (written : List ℕ)
    → Over protected (beginning settings n disk) taken now disk_now written → Over protected (beginning settings n disk) (taken ++ piece) now disk_now written
stays_over protected settings n disk taken piece now disk_now written o =
    record { over = λ more ms p. o.over (piece ++ more) ms (subst (λ (x : List ℕ). StreamMeans x ms) (append_assoc taken piece more) p) }

next_either : (protected : Bool) (begin : Beginning) (taken : List ℕ) (from : Scene)
    (piece : List ℕ)
    (result : Result Phase TargetFault) (to : Scene)
    → Either protected begin taken from.connection from.store.disk from.output
    → TargetFeedPost protected from piece result to
    → GoesWell result from.store to.store
    → Either protected begin (taken ++ piece) to.connection to.store.disk to.output
next_either protected begin taken from piece result to (inl l) f well =
    feed_goes protected begin taken from piece result to l.1
    (subst (λ (b : Bool). FeedPostIfClosed protected b from piece result to) l.0 f) well
next_either protected begin taken from piece result to (inr o) f well =
    let s : ClosedTargetStays from result to =
    subst (λ (b : Bool). FeedPostIfClosed protected b from piece result to) o.0 f in
    let over : Over protected begin (taken ++ piece) from.connection from.store.disk from.output = stays_over protected begin.settings begin.first_stat_sn
    begin.disk taken piece from.connection
    from.store.disk from.output o.1 in
    inr (
      ap (λ (x : TargetConnection). is_machine_closed x.machine) s.connection ∙ o.0,
      subst (λ (x : TargetConnection). Over protected begin (taken ++ piece) x to.store.disk to.output) (sym s.connection)
          (subst (λ (x : Store). Over protected begin (taken ++ piece) from.connection x.disk to.output) (sym s.store)
          (subst (λ (x : List ℕ). Over protected begin (taken ++ piece) from.connection from.store.disk x) (sym s.output_is) over)),
    )

fed_from : (protected : Bool) (begin : Beginning) (taken : List ℕ) (pieces : List (List ℕ)) (from to : Scene) (ms : List Message)
    → Either protected begin taken from.connection from.store.disk from.output → FeedsAllPieces protected from pieces to
    → StreamMeans (taken ++ flat_map (λ x. x) pieces) ms
    → TargetReaches protected begin ms to.connection to.store.disk to.output
unfolding FeedsAllPieces
fed_from protected begin taken [] from to ms e f p =
    subst (λ (x : TargetConnection). TargetReaches protected begin ms x to.store.disk to.output) (sym f.0)
    (subst (λ (x : Store). TargetReaches protected begin ms from.connection x.disk to.output) (sym f.1)
    (subst (λ (x : List ℕ). TargetReaches protected begin ms from.connection from.store.disk x) (sym f.2)
    (either_meets protected begin.settings begin.first_stat_sn begin.disk taken from.connection from.store.disk from.output ms e
    (subst (λ (x : List ℕ). StreamMeans x ms) (append-nil taken) p))))
fed_from protected begin taken (piece ∷ pieces) from to ms e f p =
    fed_from protected begin (taken ++ piece) pieces (scene f.1 f.2 f.3) to ms
    (next_either protected begin taken from piece f.0 (scene f.1 f.2 f.3) e f.4 f.5) f.6
    (subst (λ (x : List ℕ). StreamMeans x ms) (sym (append_assoc taken piece (flat_map (λ x. x) pieces))) p)

pub opening_live : (protected : Bool) (settings : TargetSettings) (n : ℕ) (disk : Disk)
    → Live protected (beginning settings n disk) [] (opening_target settings n) disk []
unfolding answers
opening_live protected settings n disk = record {
  has = record { messages = []; taken = at_opening (target_limit settings); machine = refl; disk_is = refl; output_is = refl };
  ready = not_whole-nil;
  bound = refl;
}

-- a stream that was fed in pieces
pub fed_stream : (protected : Bool) (settings : TargetSettings) (n : ℕ) (store : Store) (pieces : List (List ℕ)) (new : TargetConnection) (after : Store)
    (written : List ℕ)
    (ms : List Message)
    → FeedsAllPieces protected (scene (opening_target settings n) store []) pieces (scene new after written) → StreamMeans (flat_map (λ x. x) pieces) ms →
    TargetReaches protected (beginning settings n store.disk) ms new after.disk written
fed_stream protected settings n store pieces new after written ms f p =
    fed_from protected (beginning settings n store.disk) [] pieces (scene (opening_target settings n) store []) (scene new after written) ms
    (inl (refl, opening_live protected settings n store.disk)) f p
