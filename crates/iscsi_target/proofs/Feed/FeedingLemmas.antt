-- A target that was fed a stream that need not be all PDUs, in any pieces.
use Rattle.std.proofs.Common.{◌≡◌, ◌<◌, ◌≤◌, ◌⊎◌, inl, inr, ℕ, Bool, true, false, List, [], ◌∷◌, ◌++◌, length, take, drop, Some, Result, Ok, Err}
use Rattle.std.proofs.Common.{refl, sym, ap, subst, ◌∙◌, arith, append_assoc}
use Rattle.std.specs.Prelude.{◌↔◌, nat_lt}
use Rattle.std.specs.List.{flat_map}
use Rattle.std.proofs.lemmas.Bool.{lt-ltb}
use Rattle.std.proofs.lemmas.List.{append-nil, take-append-le, length-append}
use Rattle.scsi_disk.specs.Disk.{Disk}
use Rattle.iscsi_pdu.specs.Meaning.{IsHeader, head_fault}
use Rattle.iscsi_pdu.proofs.HeaderLemmas.{IsHeader-unique}
use Rattle.iscsi_stream.specs.declared.fault.StreamFault.{StreamFault}
use Rattle.iscsi_stream.specs.declared.fault.StreamFault.TheVariants as stream
use Rattle.iscsi_stream.specs.Segment.{Segment, Bytes, no_login, continues}
use Rattle.iscsi_stream.specs.Stream.{Message, ReadsAs, logins_after_all, longest_segment, SplitsStream}
use Rattle.iscsi_stream.specs.Canonical.{canon}
use Rattle.iscsi_stream.specs.Framing.{Framing, HasTaken, FramerFeedFails, is_ready, is_whole_pdu, IsBegun, length_at}
use Rattle.iscsi_stream.proofs.SettledBytesLemmas.{is_whole-settled}
use Rattle.iscsi_stream.proofs.ReadyLemmas.{unready_of, apart}
use Rattle.iscsi_stream.proofs.HeadLemmas.{bad_header}
use Rattle.iscsi_stream.proofs.FrontLemmas.{held_is}
use Rattle.iscsi_login.specs.declared.phase.Phase.{Phase}
use Rattle.iscsi_login.specs.declared.phase.Phase.TheVariants as phases
use Rattle.iscsi_target.specs.declared.fault.TargetFault.{TargetFault}
use Rattle.iscsi_target.specs.declared.fault.TargetFault.TheVariants as faults
use Rattle.iscsi_target_session.specs.Configured.{TargetSettings}
use Rattle.iscsi_target_session.specs.Session.{target_limit}
use Rattle.iscsi_target.specs.State.{Machine, TargetStep, closed_machine, opening_machine}
use Rattle.iscsi_target.specs.State.{writes_joined}
use Rattle.iscsi_target.specs.Machine.{is_machine_closed, is_over_limit, answers}
use Rattle.iscsi_target.specs.Feed.{Scene, TargetConnection, Store, CallEnds, FeedsFirstBytes, TargetFeedPost, HasAnswered, GoesWell, FeedsAllPieces, FeedPostIfClosed, ClosedTargetStays, TargetReaches}
use Rattle.iscsi_target.specs.Feed.{Beginning, beginning, opening_target, scene, StoreAndOutputReached, TargetReachesOrClosed, RefusesHeader, SameSession}
use Rattle.iscsi_target_session.proofs.CaseLemmas.{by_cases}
use Rattle.iscsi_target.proofs.Steps.NumberLaws.{answers_settings}
use Rattle.iscsi_target.proofs.Steps.ClosingLemmas.{answers_close}
use Rattle.iscsi_target.proofs.Feed.PrefixLemmas.{long_bytes, Leaves, prefix_split, header_or_none}
use Rattle.iscsi_target.proofs.Feed.PrefixLemmas.{none_begun}
use Rattle.iscsi_stream.specs.declared.logins.Logins.{Logins}
use Rattle.iscsi_login.specs.Stage.{is_closed_phase}
use Rattle.iscsi_target.proofs.Feed.FedStreamLemmas.{Live, stands, Told, told, closed_meets, over_meets, whole_stream, LeftSo, GotTo, ends_go, opening_live}

-- ---- a stream that isn't all PDUs

-- what is written, the blocks and the session
record Leads (protected : Bool) (start : Beginning) (ms : List Message) (rest : List ℕ) (now : TargetConnection) (disk_now : Disk) (written : List ℕ) : Type
    0 where
  writes : StoreAndOutputReached protected start ms disk_now written
  holds : TargetReachesOrClosed protected start ms rest now.machine

-- the session is closed, and nothing is written any more
record Stopped (protected : Bool) (start : Beginning) (taken : List ℕ) (now : TargetConnection) (disk_now : Disk) (written : List ℕ) : Type 0 where
  over : (more : List ℕ) (ms : List Message) (given rest : List ℕ) → SplitsStream longest_segment (taken ++ more) ms given rest →
      Leads protected start ms rest now disk_now written

-- the session is open, or closed and stays so
abbrev Fate : Bool → Beginning → List ℕ → TargetConnection → Disk → List ℕ → Type 0
Fate protected start taken now disk_now written =
    ((is_machine_closed now.machine ≡ false) × Live protected start taken now disk_now written)
    ⊎ ((is_machine_closed now.machine ≡ true) × Stopped protected start taken now disk_now written)

abbrev Fits : TargetSettings → Type 0
Fits settings = target_limit settings ≤ longest_segment

left : (taken piece more : List ℕ) (count : ℕ) (first ms : List Message) (given rest : List ℕ) (v : Framing) → v.limit ≤ longest_segment →
    (t : HasTaken (taken ++ take count piece) first v)
    → SplitsStream longest_segment ((taken ++ piece) ++ more) ms given rest → Leaves no_login first ms ((t.rest ++ drop count piece) ++ more) rest
left taken piece more count first ms given rest v le t s =
    prefix_split v.limit no_login t.given first ((t.rest ++ drop count piece) ++ more) given ms rest le t.reads s.reaches.reads s.no_more
    (sym (whole_stream taken piece more t.given t.rest count t.whole) ∙ s.reaches.whole)

writes_of : (protected : Bool) (settings : TargetSettings) (n : ℕ) (disk : Disk) (ms : List Message) (rest : List ℕ) (now : TargetConnection)
    (disk_now : Disk) (written : List ℕ) →
    TargetReaches protected (beginning settings n disk) ms now disk_now written
    → is_machine_closed now.machine ≡ true → Leads protected (beginning settings n disk) ms rest now disk_now written
writes_of protected settings n disk ms rest now disk_now written m over = record {
  writes = record { disk_is = m.disk_is; output_is = m.output_is };
  holds = record {
    machine = ap closed_machine m.machine;
    goes_on = λ live. absurd (apart over live);
    ends = λ _. inl (sym (ap is_machine_closed m.machine) ∙ over);
    refuses = λ _. over;
  };
}

-- no PDU is left
leads_all : (protected : Bool) (settings : TargetSettings) (n : ℕ) (disk : Disk) (first ms more : List Message) (rest : List ℕ) (now : TargetConnection)
    (disk_now : Disk) (written : List ℕ) →
    ms ≡ first ++ more → more ≡ []
    → Leads protected (beginning settings n disk) first rest now disk_now written → Leads protected (beginning settings n disk) ms rest now disk_now written
leads_all protected settings n disk first ms more rest now disk_now written e none w =
    subst (λ (x : List Message). Leads protected (beginning settings n disk) x rest now disk_now written)
    (sym (e ∙ ap (λ (x : List Message). first ++ x) none ∙ append-nil first)) w

-- then the rest is what is left of the bytes
rest_left : (logins : Logins) (bytes given rest : List ℕ) (ms : List Message) → ReadsAs longest_segment logins given ms → bytes ≡ given ++ rest → ms ≡ [] →
    bytes ≡ rest
unfolding ReadsAs
rest_left logins bytes given rest [] q e none = e ∙ ap (λ (x : List ℕ). x ++ rest) q
rest_left logins bytes given rest (m ∷ ms) q e none = absurd cc

-- it begins as the front of them
front_left : (front more rest : List ℕ) → 48 ≤ length front → front ++ more ≡ rest → (48 ≤ length rest) × (take 48 front ≡ take 48 rest)
front_left front more rest long e = (
  subst (λ (x : List ℕ). 48 ≤ length x) e (omega (arith, long, length-append front more)),
  sym (take-append-le 48 front more long) ∙ ap (λ (x : List ℕ). take 48 x) e,
)

-- closed at a header that is refused
shut_leads : (protected : Bool) (settings : TargetSettings) (n : ℕ) (disk : Disk) (first : List Message) (rest : List ℕ) (now : TargetConnection)
    (disk_now : Disk) (written : List ℕ)
    → now.machine ≡ closed_machine (answers protected (opening_machine settings n) disk first).machine → disk_now
    ≡ (answers protected (opening_machine settings n) disk first).disk
    → written ≡ canon (answers protected (opening_machine settings n) disk first).answers → RefusesHeader (target_limit settings) rest
    → Leads protected (beginning settings n disk) first rest now disk_now written
shut_leads protected settings n disk first rest now disk_now written is_now is_disk is_written refused =
    let over : is_machine_closed now.machine ≡ true = ap is_machine_closed is_now in
    record {
      writes = record { disk_is = is_disk; output_is = is_written };
      holds = record {
        machine = ap closed_machine is_now;
        goes_on = λ live. absurd (apart over live);
        ends = λ _. inr refused;
        refuses = λ _. over;
      };
    }

stopping : (protected : Bool) (begin : Beginning) (taken piece : List ℕ) (got : GotTo)
    (r : TargetStep) (so : LeftSo)
    → got.framing.limit ≤ longest_segment → HasTaken (taken ++ take got.count piece) got.messages got.framing → Told protected begin got.messages r
    so.disk so.written
    → so.target.machine ≡ writes_joined r.machine
    → is_machine_closed r.machine ≡ true
    → Fate protected begin (taken ++ piece) so.target so.disk so.written
stopping protected begin taken piece got r so le t told_ e c =
    let there : is_machine_closed (answers protected (opening_machine begin.settings begin.first_stat_sn) begin.disk got.messages).machine ≡ true = sym
    (ap is_machine_closed told_.machine) ∙ c in
    let meets : TargetReaches protected begin got.messages so.target so.disk so.written = record {
      machine = e ∙ told_.machine;
      disk_is = told_.disk_is;
      output_is = told_.output_is;
    } in
    inr (
      ap is_machine_closed e ∙ c,
      record {
        over = λ more ms given rest s.
            let x = left taken piece more got.count got.messages ms given rest got.framing le t s in
            subst (λ (xs : List Message). Leads protected begin xs rest so.target so.disk so.written) (sym x.whole)
            (writes_of protected begin.settings begin.first_stat_sn begin.disk (got.messages ++ x.more) rest so.target so.disk so.written
            (closed_meets protected begin.settings begin.first_stat_sn begin.disk got.messages x.more so.target so.disk so.written there meets)
            (ap is_machine_closed e ∙ c));
      },
    )

fault_writes : (protected : Bool) (begin : Beginning) (taken piece : List ℕ) (got : GotTo)
    (so : LeftSo)
    (fault : StreamFault)
    → (t : HasTaken (taken ++ take got.count piece) got.messages got.framing) → got.framing.limit ≡ target_limit begin.settings → got.framing.limit ≤
    longest_segment → (fault ≡ stream.NoMemory → ⊥) →
    FramerFeedFails got.framing (drop got.count piece) fault
    → is_machine_closed (answers protected (opening_machine begin.settings begin.first_stat_sn) begin.disk got.messages).machine ≡ false
    → so.target.machine ≡ closed_machine (answers protected (opening_machine begin.settings begin.first_stat_sn) begin.disk got.messages).machine → so.disk
    ≡ (answers protected (opening_machine begin.settings begin.first_stat_sn) begin.disk got.messages).disk
    → so.written ≡ canon (answers protected (opening_machine begin.settings begin.first_stat_sn) begin.disk got.messages).answers → (more : List ℕ)
    (ms : List Message) (given rest : List ℕ) →
    SplitsStream longest_segment ((taken ++ piece) ++ more) ms given rest
    → Leads protected begin ms rest so.target so.disk so.written
fault_writes protected begin taken piece got so stream.NoMemory t bound le none f live is_now is_disk is_written more ms given rest s = absurd (none refl)
fault_writes protected begin taken piece got so (stream.Head fault place) t bound le none f live is_now is_disk is_written more ms given rest s =
    let x = left taken piece more got.count got.messages ms given rest got.framing le t s in
    let held : got.framing.held ≡ t.rest = held_is (taken ++ take got.count piece) got.messages got.framing t f.1.before in
    let long : 48 ≤ length (t.rest ++ drop got.count piece) = subst (λ (y : List ℕ). 48 ≤ length (y ++ drop got.count piece)) held f.1.reached in
    let bad : head_fault (take 48 (t.rest ++ drop got.count piece)) ≡ Some fault = subst (λ (y : List ℕ). head_fault (take 48 (y ++ drop got.count piece))
    ≡ Some fault) held f.2 in
    elim (header_or_none (logins_after_all no_login got.messages) (t.rest ++ drop got.count piece) more x.given rest x.more long x.reads x.bytes_are) [
      | inl e ↦
          let start = front_left (t.rest ++ drop got.count piece) more rest long (rest_left (logins_after_all no_login got.messages)
          ((t.rest ++ drop got.count piece) ++ more) x.given rest x.more x.reads x.bytes_are e) in
          leads_all protected begin.settings begin.first_stat_sn begin.disk got.messages ms x.more rest so.target so.disk so.written x.whole e
          (shut_leads protected begin.settings begin.first_stat_sn begin.disk got.messages rest so.target so.disk so.written is_now is_disk is_written (
            start.0,
            inl (fault, subst (λ (y : List ℕ). head_fault y ≡ Some fault) start.1 bad),
          ))
      | inr h ↦ absurd (bad_header (take 48 (t.rest ++ drop got.count piece)) h.m.head (length h.segment) fault h.says bad)
    ]
fault_writes protected begin taken piece got so (stream.OverLimit place) t bound le none f live is_now is_disk is_written more ms given rest s =
    let x = left taken piece more got.count got.messages ms given rest got.framing le t s in
    let a : TargetStep = answers protected (opening_machine begin.settings begin.first_stat_sn) begin.disk got.messages in
    let held : got.framing.held ≡ t.rest = held_is (taken ++ take got.count piece) got.messages got.framing t f.1.2.reaches.before in
    let long : 48 ≤ length (t.rest ++ drop got.count piece) = subst (λ (y : List ℕ). 48 ≤ length (y ++ drop got.count piece)) held f.1.2.reaches.reached in
    let header : IsHeader (take 48 (t.rest ++ drop got.count piece)) f.1.0 f.1.1 = subst
    (λ (y : List ℕ). IsHeader (take 48 (y ++ drop got.count piece)) f.1.0 f.1.1)
    held f.1.2.header in
    elim (header_or_none (logins_after_all no_login got.messages) (t.rest ++ drop got.count piece) more x.given rest x.more long x.reads x.bytes_are) [
      | inl e ↦
          let start = front_left (t.rest ++ drop got.count piece) more rest long (rest_left (logins_after_all no_login got.messages)
          ((t.rest ++ drop got.count piece) ++ more) x.given rest x.more x.reads x.bytes_are e) in
          let past : target_limit begin.settings < f.1.1 = omega (arith, f.1.3, bound) in
          leads_all protected begin.settings begin.first_stat_sn begin.disk got.messages ms x.more rest so.target so.disk so.written x.whole e
          (shut_leads protected begin.settings begin.first_stat_sn begin.disk got.messages rest so.target so.disk so.written is_now is_disk is_written (
            start.0,
            inr (f.1.0, f.1.1, subst (λ (y : List ℕ). IsHeader y f.1.0 f.1.1) start.1 header, past),
          ))
      | inr h ↦
          let size : length h.segment ≡ f.1.1 = (IsHeader-unique (take 48 (t.rest ++ drop got.count piece)) h.m.head f.1.0 (length h.segment) f.1.1 h.says
          header).1
          in
          let past : target_limit begin.settings < length h.segment = omega (arith, f.1.3, size, bound) in
          let bytes : h.m.segment ≡ Bytes h.segment = h.meaning ∙ long_bytes (continues (logins_after_all no_login got.messages) h.m.head) h.m.head h.segment
          h.says.login
          (omega (arith, past)) in
          let same : a.machine.session.settings ≡ begin.settings = answers_settings protected (opening_machine begin.settings begin.first_stat_sn)
          begin.disk got.messages in
          let over : is_over_limit a.machine h.m.segment ≡ true =
          ap (λ (y : Segment). is_over_limit a.machine y) bytes ∙ ap (λ (y : TargetSettings). nat_lt (target_limit y) (length h.segment)) same
          ∙ lt-ltb (target_limit begin.settings) (length h.segment) past in
          subst (λ (y : List Message). Leads protected begin y rest so.target so.disk so.written)
          (sym (x.whole ∙ ap (λ (y : List Message). got.messages ++ y) h.is))
          (writes_of protected begin.settings begin.first_stat_sn begin.disk (got.messages ++ h.m ∷ h.more) rest so.target so.disk so.written
          (over_meets protected begin.settings begin.first_stat_sn begin.disk got.messages h.m h.more so.target so.disk so.written live over is_now
          is_disk is_written) (ap is_machine_closed is_now))
    ]
fault_writes protected begin taken piece got so (stream.Truncated place) t bound le none f live is_now is_disk is_written more ms given rest s = absurd f
fault_writes protected begin taken piece got so stream.Failed t bound le none f live is_now is_disk is_written more ms given rest s = absurd (apart f t.live)

-- what a call ends in, for such a stream
ends_fate : (protected : Bool) (begin : Beginning) (taken piece : List ℕ) (got : GotTo)
    (r : TargetStep) (so : LeftSo)
    (result : Result Phase TargetFault)
    → Fits begin.settings → HasTaken (taken ++ take got.count piece) got.messages got.framing → Told protected begin got.messages r so.disk so.written
    → got.framing.limit ≡ target_limit begin.settings
    → is_ready got.framing
    ≡ false
    → ((k : ℕ) → r.rule ≡ Some k → is_machine_closed r.machine ≡ true) → (result ≡ Err faults.NoMemory → ⊥) → CallEnds piece result got.framing got.count r
    so.target
    → Fate protected begin (taken ++ piece) so.target so.disk so.written
ends_fate protected begin taken piece got r so (Ok phase) le t told_ bound ready closes memory e =
    elim (ends_go protected begin taken piece got r so (Ok phase) t told_ bound ready closes memory e) [
      | inl l ↦ inl l
      | inr o ↦ stopping protected begin taken piece got r so (omega (arith, le, bound)) t told_ e.1
          (sym (ap is_machine_closed e.1) ∙ o.0)
    ]
ends_fate protected begin taken piece got r so (Err faults.NoMemory) le t told_ bound ready closes memory e = absurd (memory refl)
ends_fate protected begin taken piece got r so (Err (faults.Stream fault)) le t told_ bound ready closes memory e =
    let live : is_machine_closed (answers protected (opening_machine begin.settings begin.first_stat_sn) begin.disk got.messages).machine ≡ false = sym
    (ap is_machine_closed told_.machine)
    ∙ e.0.live in
    let now_is : so.target.machine ≡ closed_machine (answers protected (opening_machine begin.settings begin.first_stat_sn) begin.disk
    got.messages).machine = e.3 ∙ ap closed_machine told_.machine in
    inr (
      ap is_machine_closed e.3,
      record {
        over = λ more ms given rest s.
            fault_writes protected begin taken piece got so fault t bound (omega (arith, le, bound)) e.1 e.2 live now_is
            told_.disk_is told_.output_is more ms given rest s;
      },
    )
ends_fate protected begin taken piece got r so (Err (faults.Protocol rule)) le t told_ bound ready closes memory e =
    stopping protected begin taken piece got r so (omega (arith, le, bound)) t told_ e.1 (closes rule e.0)
ends_fate protected begin taken piece got r so (Err faults.Closed) le t told_ bound ready closes memory e = absurd e

next_fate : (protected : Bool) (begin : Beginning) (taken : List ℕ) (from : Scene) (piece : List ℕ)
    (result : Result Phase TargetFault) (to : Scene)
    → Fits begin.settings → Fate protected begin taken from.connection from.store.disk from.output
    → TargetFeedPost protected from piece result to
    → GoesWell result from.store to.store
    → Fate protected begin (taken ++ piece) to.connection to.store.disk to.output
next_fate protected begin taken from piece result to le (inl l) fed well =
    let f : FeedsFirstBytes protected from piece result to =
    subst (λ (b : Bool). FeedPostIfClosed protected b from piece result to) l.0 fed in
    let h : HasAnswered protected begin taken from.connection from.store.disk from.output = l.1.has in
    let t : HasTaken (taken ++ take f.count piece) (h.messages ++ f.messages) f.framing = f.answered.taken taken h.messages h.taken in
    ends_fate protected begin taken piece (record { count = f.count; messages = (h.messages ++ f.messages); framing = f.framing }) f.stepped
    (record { target = to.connection; disk = to.store.disk; written = to.output }) result le t
    (told protected begin taken from (take f.count piece) f.framing f.messages f.stepped f.answered.failures to.store to.output h f.answered
    (stands protected from.output f.framing (drop f.count piece) f.stepped f.answered.failures result to.connection.machine to.store to.output well.memory
    f.leaves) well.device)
    (f.answered.limit ∙ l.1.bound) f.answered.ready
    (λ k e. let w = f.answered.works well.device in
    ap (λ (x : TargetStep). is_machine_closed x.machine) w ∙ answers_close protected from.connection.machine from.store.disk f.messages k
    (sym (ap (λ (x : TargetStep). x.rule) w) ∙ e))
    well.memory f.ends
next_fate protected begin taken from piece result to le (inr o) fed well =
    let s : ClosedTargetStays from result to =
    subst (λ (b : Bool). FeedPostIfClosed protected b from piece result to) o.0 fed in
    let stopped : Stopped protected begin (taken ++ piece) from.connection from.store.disk from.output = record {
      over = λ more ms given rest q.
          o.1.over (piece ++ more) ms given rest (subst (λ (x : List ℕ). SplitsStream longest_segment x ms given rest) (append_assoc taken piece more) q);
    } in
    inr (
      ap (λ (x : TargetConnection). is_machine_closed x.machine) s.connection ∙ o.0,
      subst (λ (x : TargetConnection). Stopped protected begin (taken ++ piece) x to.store.disk to.output) (sym s.connection)
          (subst (λ (x : Store). Stopped protected begin (taken ++ piece) from.connection x.disk to.output) (sym s.store)
          (subst (λ (x : List ℕ). Stopped protected begin (taken ++ piece) from.connection from.store.disk x) (sym s.output_is) stopped)),
    )

not_refused : (limit : ℕ) (rest : List ℕ) → IsBegun limit rest → RefusesHeader limit rest → ⊥
not_refused limit rest begun r = let good = begun r.0 in elim r.1 [
  | inl bad ↦ bad_header (take 48 rest) good.0 (length_at rest) bad.0 good.1.header bad.1
  | inr long ↦ (let same = (IsHeader-unique (take 48 rest) good.0 long.0 (length_at rest) long.1 good.1.header long.2).1 in
      omega (arith, same, good.1.within, long.3))
]

live_leads : (protected : Bool) (settings : TargetSettings) (n : ℕ) (disk : Disk) (taken : List ℕ) (now : TargetConnection) (disk_now : Disk)
    (written : List ℕ) (ms : List Message)
    (given rest : List ℕ)
    → Fits settings → is_machine_closed now.machine ≡ false → Live protected (beginning settings n disk) taken now disk_now written
    → SplitsStream longest_segment taken ms given rest →
    Leads protected (beginning settings n disk) ms rest now disk_now written
live_leads protected settings n disk taken now disk_now written ms given rest le open_ live s =
    let h : HasAnswered protected (beginning settings n disk) taken now disk_now written = live.has in
    let t : HasTaken taken h.messages now.framing = h.taken in
    let x : Leaves no_login h.messages ms t.rest rest =
    prefix_split now.framing.limit no_login t.given h.messages t.rest given ms rest (omega (arith, le, live.bound)) t.reads s.reaches.reads s.no_more (sym
    t.whole
    ∙ s.reaches.whole) in
    let part : is_whole_pdu t.rest ≡ false = sym (is_whole-settled t.rest) ∙ ap is_whole_pdu (sym t.held)
    ∙ unready_of now.framing.failed now.framing.held t.live live.ready in
    let none : x.more ≡ [] = none_begun now.framing.limit (logins_after_all no_login h.messages) t.rest x.given rest x.more t.begun part x.reads x.bytes_are in
    let same : t.rest ≡ rest = rest_left (logins_after_all no_login h.messages) t.rest x.given rest x.more x.reads x.bytes_are none in
    let begun : IsBegun (target_limit settings) rest = subst (λ (k : ℕ). IsBegun k rest) live.bound
    (subst (λ (y : List ℕ). IsBegun now.framing.limit y) same t.begun)
    in
    leads_all protected settings n disk h.messages ms x.more rest now disk_now written x.whole none (record {
      writes = record { disk_is = h.disk_is; output_is = h.output_is };
      holds = record {
        machine = ap closed_machine h.machine;
        goes_on = λ _. h.machine;
        ends = λ over. absurd (apart over open_);
        refuses = λ r. absurd (not_refused (target_limit settings) rest begun r);
      };
    })

fate_leads : (protected : Bool) (settings : TargetSettings) (n : ℕ) (disk : Disk) (taken : List ℕ) (now : TargetConnection) (disk_now : Disk)
    (written : List ℕ) (ms : List Message)
    (given rest : List ℕ)
    → Fits settings → Fate protected (beginning settings n disk) taken now disk_now written → SplitsStream longest_segment taken ms given rest →
    Leads protected (beginning settings n disk) ms rest now disk_now written
fate_leads protected settings n disk taken now disk_now written ms given rest le (inl l) s =
    live_leads protected settings n disk taken now disk_now written ms given rest le l.0 l.1 s
fate_leads protected settings n disk taken now disk_now written ms given rest le (inr o) s =
    o.1.over [] ms given rest (subst (λ (x : List ℕ). SplitsStream longest_segment x ms given rest) (sym (append-nil taken)) s)

fed_fate : (protected : Bool) (begin : Beginning) (taken : List ℕ) (pieces : List (List ℕ)) (from to : Scene)
    (ms : List Message) (given rest : List ℕ) → Fits begin.settings
    → Fate protected begin taken from.connection from.store.disk from.output → FeedsAllPieces protected from pieces to →
    SplitsStream longest_segment (taken ++ flat_map (λ x. x) pieces) ms given rest
    → Leads protected begin ms rest to.connection to.store.disk to.output
unfolding FeedsAllPieces
fed_fate protected begin taken [] from to ms given rest le e f p =
    subst (λ (x : TargetConnection). Leads protected begin ms rest x to.store.disk to.output) (sym f.0)
    (subst (λ (x : Store). Leads protected begin ms rest from.connection x.disk to.output) (sym f.1)
    (subst (λ (x : List ℕ). Leads protected begin ms rest from.connection from.store.disk x) (sym f.2)
    (fate_leads protected begin.settings begin.first_stat_sn begin.disk taken from.connection from.store.disk from.output ms given rest le e
    (subst (λ (x : List ℕ). SplitsStream longest_segment x ms given rest)
    (append-nil taken) p))))
fed_fate protected begin taken (piece ∷ pieces) from to ms given rest le e f p =
    fed_fate protected begin (taken ++ piece) pieces (scene f.1 f.2 f.3) to ms given rest le
    (next_fate protected begin taken from piece f.0 (scene f.1 f.2 f.3) le e f.4 f.5) f.6
    (subst (λ (x : List ℕ). SplitsStream longest_segment x ms given rest) (sym (append_assoc taken piece (flat_map (λ x. x) pieces))) p)

fed_leads : (protected : Bool) (settings : TargetSettings) (n : ℕ) (store : Store) (pieces : List (List ℕ)) (new : TargetConnection) (after : Store)
    (written : List ℕ) (ms : List Message)
    (given rest : List ℕ)
    → Fits settings → FeedsAllPieces protected (scene (opening_target settings n) store []) pieces (scene new after written)
    → SplitsStream longest_segment (flat_map (λ x. x) pieces) ms given rest
    → Leads protected (beginning settings n store.disk) ms rest new after.disk written
fed_leads protected settings n store pieces new after written ms given rest le f s =
    fed_fate protected (beginning settings n store.disk) [] pieces (scene (opening_target settings n) store []) (scene new after written) ms given rest le
    (inl (refl, opening_live protected settings n store.disk)) f s

-- any stream that was fed in pieces
pub fed_any : (protected : Bool) (settings : TargetSettings) (n : ℕ) (store : Store) (pieces : List (List ℕ)) (new : TargetConnection) (after : Store)
    (written : List ℕ) (ms : List Message)
    (given rest : List ℕ)
    → Fits settings → FeedsAllPieces protected (scene (opening_target settings n) store []) pieces (scene new after written)
    → SplitsStream longest_segment (flat_map (λ x. x) pieces) ms given rest
    → StoreAndOutputReached protected (beginning settings n store.disk) ms after.disk written
fed_any protected settings n store pieces new after written ms given rest le f s
    = (fed_leads protected settings n store pieces new after written ms given rest le f s).writes

pub fed_holds : (protected : Bool) (settings : TargetSettings) (n : ℕ) (store : Store) (pieces : List (List ℕ)) (new : TargetConnection) (after : Store)
    (written : List ℕ) (ms : List Message)
    (given rest : List ℕ)
    → Fits settings → FeedsAllPieces protected (scene (opening_target settings n) store []) pieces (scene new after written)
    → SplitsStream longest_segment (flat_map (λ x. x) pieces) ms given rest
    → TargetReachesOrClosed protected (beginning settings n store.disk) ms rest new.machine
fed_holds protected settings n store pieces new after written ms given rest le f s
    = (fed_leads protected settings n store pieces new after written ms given rest le f s).holds

-- ---- in any two cuts

closed_in : (p : Phase) → is_closed_phase p ≡ true → p ≡ phases.Closed
closed_in phases.Login e = absurd cc
closed_in phases.Full e = absurd cc
closed_in phases.Closed e = refl

both_live : (protected : Bool) (settings : TargetSettings) (n : ℕ) (disk : Disk) (ms : List Message) (rest other : List ℕ) (a b : Machine)
    → (RefusesHeader (target_limit settings) other → RefusesHeader (target_limit settings) rest)
    → TargetReachesOrClosed protected (beginning settings n disk) ms rest a
    → TargetReachesOrClosed protected (beginning settings n disk) ms other b → is_machine_closed a ≡ false → is_machine_closed b ≡ false
both_live protected settings n disk ms rest other a b refused x y live = by_cases (is_machine_closed b)
    (λ over. absurd (elim (y.ends over) [
      | inl done ↦ apart done (sym (ap is_machine_closed (x.goes_on live)) ∙ live)
      | inr r ↦ apart (x.refuses (refused r)) live
    ]))
    (λ e. e)

-- whatever follows, the values and the stage are those of what was taken
pub same_values : (protected : Bool) (settings : TargetSettings) (n : ℕ) (disk : Disk) (ms : List Message) (rest other : List ℕ) (a b : Machine)
    → TargetReachesOrClosed protected (beginning settings n disk) ms rest a → TargetReachesOrClosed protected (beginning settings n disk) ms other b
    → (b.session.held ≡ a.session.held) × (b.session.stage ≡ a.session.stage)
same_values protected settings n disk ms rest other a b x y =
    let same : closed_machine b ≡ closed_machine a = y.machine ∙ sym x.machine in
    (ap (λ (s : Machine). s.session.held) same, ap (λ (s : Machine). s.session.stage) same)

pub same_session : (protected : Bool) (settings : TargetSettings) (n : ℕ) (disk : Disk) (ms : List Message) (rest other : List ℕ) (a b : Machine)
    → (RefusesHeader (target_limit settings) rest ↔ RefusesHeader (target_limit settings) other)
    → TargetReachesOrClosed protected (beginning settings n disk) ms rest a → TargetReachesOrClosed protected (beginning settings n disk) ms other b
    → SameSession a b
same_session protected settings n disk ms rest other a b refused x y =
    let same = same_values protected settings n disk ms rest other a b x y in
    let goes_on : is_machine_closed a ≡ false → b ≡ a = λ live. y.goes_on (both_live protected settings n disk ms rest other a b refused.1 x y live)
    ∙ sym (x.goes_on live) in
    record {
      held = same.0;
      stage = same.1;
      phase = by_cases (is_machine_closed a)
          (λ over. by_cases (is_machine_closed b) (λ e. closed_in b.session.phase e ∙ sym (closed_in a.session.phase over))
          (λ live. absurd (apart over (both_live protected settings n disk ms other rest b a refused.0 y x live))))
          (λ live. ap (λ (s : Machine). s.session.phase) (goes_on live));
      goes_on = goes_on;
    }
