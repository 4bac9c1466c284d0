-- Why a session ends.
use Rattle.std.proofs.Common.{◌≡◌, ◌⊎◌, inl, inr, ◌<◌, ◌≤◌, ℕ, Bool, true, false, List, [], ◌∷◌, ◌++◌, length, take, drop, take-append-drop, Option, Some, None}
use Rattle.std.proofs.Common.{Result, Ok, Err, refl, sym, ap, subst, ◌∙◌, arith, append-nil, append_assoc}
use Rattle.std.proofs.lemmas.List.{nil_from_length}
use Rattle.scsi_disk.specs.Disk.{Disk}
use Rattle.iscsi_pdu.specs.Meaning.{IsHeader, head_fault}
use Rattle.iscsi_stream.specs.declared.fault.StreamFault.{StreamFault}
use Rattle.iscsi_stream.specs.declared.fault.StreamFault.TheVariants as stream
use Rattle.iscsi_stream.specs.Segment.{no_login}
use Rattle.iscsi_stream.specs.Stream.{Message, ReadsAs}
use Rattle.iscsi_stream.specs.Framing.{Framing, HasTaken, FramerFeedFails, FinishFails, IsBegun, is_ready, is_whole_pdu}
use Rattle.iscsi_stream.proofs.TakingLemmas.{at_opening}
use Rattle.iscsi_stream.proofs.ReadyLemmas.{apart, unready_of, not_whole-nil}
use Rattle.iscsi_stream.proofs.SettledBytesLemmas.{is_whole-settled, length-settled}
use Rattle.iscsi_stream.proofs.OneMeaningLaw.{no_pdu_begun}
use Rattle.iscsi_stream.proofs.FrontLemmas.{held_is}
use Rattle.iscsi_login.specs.declared.phase.Phase.{Phase}
use Rattle.iscsi_login.specs.Stage.{is_closed_phase}
use Rattle.iscsi_target.specs.declared.fault.TargetFault.{TargetFault}
use Rattle.iscsi_target.specs.declared.fault.TargetFault.TheVariants as faults
use Rattle.iscsi_target_session.specs.Configured.{TargetSettings}
use Rattle.iscsi_target_session.specs.Session.{target_limit}
use Rattle.iscsi_target.specs.State.{Machine, TargetStep, opening_machine}
use Rattle.iscsi_target.specs.State.{writes_joined}
use Rattle.iscsi_target.specs.Machine.{answers, is_machine_closed, then_stepped, first_rule}
use Rattle.iscsi_target.specs.Laws.{joined_stepped}
use Rattle.iscsi_stream.specs.Canonical.{canon}
use Rattle.iscsi_stream.specs.Framing.{FramerMoves}
use Rattle.iscsi_stream.proofs.WritingLemmas.{canon_append}
use Rattle.iscsi_target.specs.State.{unchanged}
use Rattle.iscsi_target.specs.Machine.{MayStop}
use Rattle.iscsi_target.proofs.Feed.FeedInvariant.{stop_as, may_rise, short_rises}
use Rattle.iscsi_serve.specs.Session.{led}
use Rattle.iscsi_target.specs.Feed as feed
use Rattle.iscsi_target.specs.Feed.{Scene, StopsForMemory, TargetConnection, Store, AnswersPdus, CallEnds, TargetFeedPost, FeedPostIfClosed, FeedsFirstBytes, ClosedTargetStays, TargetFinishPost, HasAnswered, FeedsAllPieces, opening_target}
use Rattle.iscsi_target.specs.Feed.{scene, call_progress, remainder, beginning}
use Rattle.iscsi_target.specs.Feed.{stream_of}
use Rattle.iscsi_target.proofs.Steps.AppendLemmas.{answers_append}
use Rattle.iscsi_target.proofs.Writes.JoiningLemmas.{answers_joined}
use Rattle.iscsi_target.proofs.Feed.FedStreamLemmas.{Told, told}
use Rattle.iscsi_target.proofs.Steps.ClosingLemmas.{answers_close}
use Rattle.iscsi_target.proofs.Feed.StreamingLemmas.{goes_on}
use Rattle.iscsi_serve.specs.Session.{ended_by, ServedPdus, ServesFirstPdus, IsSessionOver, SessionGoesOnBehind, ServedRestFails, SessionEndsBy}
use Rattle.iscsi_serve.specs.declared.session_fault.SessionFault.TheVariants as session

-- memory ran out before anything was read
pub none_served : (protected : Bool) (settings : TargetSettings) (disk : Disk) → ServesFirstPdus protected settings disk [] disk []
unfolding answers ReadsAs
none_served protected settings disk = record {
  receives = record { messages = []; given = []; rest = []; whole = refl; reads = refl };
  front = unchanged (opening_machine settings 1) disk;
  stops = inl refl;
  disk_is = refl;
  output_is = refl;
}

-- ---- a session that goes on

-- the target has answered all PDUs of the stream, and none is ready
pub record Stands (protected : Bool) (settings : TargetSettings) (disk : Disk) (bytes : List ℕ) (now : TargetConnection) (disk_now : Disk)
    (written : List ℕ) : Type 0 where
  pub has : HasAnswered protected (beginning settings 1 disk) bytes now disk_now written
  pub ready : is_ready now.framing ≡ false
  pub bound : now.framing.limit ≡ target_limit settings

-- a target to which nothing came
pub stands_first : (protected : Bool) (settings : TargetSettings) (disk : Disk) → Stands protected settings disk [] (opening_target settings 1) disk []
unfolding answers
stands_first protected settings disk = record {
  has = record { messages = []; taken = at_opening (target_limit settings); machine = refl; disk_is = refl; output_is = refl };
  ready = not_whole-nil;
  bound = refl;
}

-- a broken rule closes the session
works_close : (protected : Bool) (old : TargetConnection) (before : Store) (out bytes : List ℕ) (framing : Framing) (more : List Message)
    (r : TargetStep) (after : Store) →
    AnswersPdus protected old before bytes (call_progress framing more r) after
    → after.failures ≡ before.failures → (rule : ℕ) → r.rule ≡ Some rule → is_machine_closed r.machine ≡ true
works_close protected old before out bytes framing more r after a works rule e =
    let is : r ≡ answers protected old.machine before.disk more = a.works works in
    ap (λ (x : TargetStep). is_machine_closed x.machine) is ∙ answers_close protected old.machine before.disk more rule
    (ap (λ (x : TargetStep). x.rule) (sym is) ∙ e)

-- where memory ran out, the session is closed
short_closed : (protected : Bool) (result : Result Phase TargetFault) (out : List ℕ) (framing : Framing) (rest : List ℕ) (r : TargetStep)
    (counted : ℕ) (new : Machine)
    (after : Store) (written : List ℕ) → feed.CallLeaves protected result out (feed.remainder framing rest r counted) new after written
    → result ≡ Err faults.NoMemory → is_machine_closed new ≡ true
short_closed protected (Ok phase) out framing rest r counted new after written h e = absurd cc
short_closed protected (Err faults.NoMemory) out framing rest r counted new after written h e = ap is_machine_closed h.shut
short_closed protected (Err (faults.Stream fault)) out framing rest r counted new after written h e = absurd cc
short_closed protected (Err (faults.Protocol rule)) out framing rest r counted new after written h e = absurd cc
short_closed protected (Err faults.Closed) out framing rest r counted new after written h e = absurd cc

framing_kept : (piece : List ℕ) (result : Result Phase TargetFault) (framing : Framing) (n : ℕ) (r : TargetStep) (new : TargetConnection) →
    CallEnds piece result framing n r new → (result ≡ Err faults.NoMemory → is_machine_closed new.machine ≡ true) →
    ((rule : ℕ) → r.rule ≡ Some rule → is_machine_closed r.machine ≡ true)
    → is_machine_closed new.machine ≡ false → new.framing ≡ framing
framing_kept piece (Ok phase) framing n r new e short closes live =
    elim e.3 [
      | inl over ↦ absurd (apart (ap is_machine_closed e.1 ∙ over) live)
      | inr on ↦ on.framing_is
    ]
framing_kept piece (Err faults.NoMemory) framing n r new e short closes live = absurd (apart (short refl) live)
framing_kept piece (Err (faults.Stream fault)) framing n r new e short closes live = absurd (apart (ap is_machine_closed e.3) live)
framing_kept piece (Err (faults.Protocol rule)) framing n r new e short closes live = absurd (apart (ap is_machine_closed e.1 ∙ closes rule e.0) live)
framing_kept piece (Err faults.Closed) framing n r new e short closes live = absurd e

stands_more : (protected : Bool) (settings : TargetSettings) (disk : Disk) (bytes : List ℕ) (old : TargetConnection) (before : Store) (out piece : List ℕ)
    (result : Result Phase TargetFault)
    (new : TargetConnection) (after : Store) (written : List ℕ)
    → Stands protected settings disk bytes old before.disk out → FeedsFirstBytes protected (scene old before out) piece result (scene new after written)
    → after.failures ≡ before.failures →
    is_machine_closed new.machine ≡ false → Stands protected settings disk (bytes ++ piece) new after.disk written
stands_more protected settings disk bytes old before out piece result new after written s f works live =
    let kept : new.framing ≡ f.framing =
    framing_kept piece result f.framing f.count f.stepped new f.ends
    (short_closed protected result out f.framing (drop f.count piece) f.stepped f.answered.failures
    new.machine after written f.leaves) (works_close protected old before out (take f.count piece) f.framing f.messages f.stepped after
    f.answered works) live in
    record {
      has = goes_on protected (beginning settings 1 disk) bytes (scene old before out) piece result (scene new after written) f works live s.has;
      ready = ap is_ready kept ∙ f.answered.ready;
      bound = ap (λ (v : Framing). v.limit) kept ∙ f.answered.limit ∙ s.bound;
    }

pub either : (b : Bool) → (b ≡ true) ⊎ (b ≡ false)
either true = inl refl
either false = inr refl

-- a closed session stays closed
stay_closed : (protected : Bool) (old new : TargetConnection) (before after : Store) (out piece written : List ℕ) (result : Result Phase TargetFault)
    → is_machine_closed old.machine ≡ true → TargetFeedPost protected (scene old before out) piece result (scene new after written)
    → is_machine_closed new.machine ≡ true
stay_closed protected old new before after out piece written result c f =
    let s : ClosedTargetStays (scene old before out) result (scene new after written) =
    subst (λ (b : Bool). FeedPostIfClosed protected b (scene old before out) piece result (scene new after written)) c f in
    ap (λ (x : TargetConnection). is_machine_closed x.machine) s.connection ∙ c

all_closed : (protected : Bool) (pieces : List (List ℕ)) (old now : TargetConnection) (before store : Store) (out written : List ℕ)
    → is_machine_closed old.machine ≡ true →
    FeedsAllPieces protected (scene old before out) pieces (scene now store written) → is_machine_closed now.machine ≡ true
unfolding FeedsAllPieces
all_closed protected [] old now before store out written c f = ap (λ (x : TargetConnection). is_machine_closed x.machine) f.0 ∙ c
all_closed protected (p ∷ pieces) old now before store out written c f = all_closed protected pieces f.1 now f.2 store f.3 written
    (stay_closed protected old f.1 before f.2 out p f.3 f.0 c f.4) f.6

-- in a session that is not closed all PDUs are answered
pub stands_answered : (protected : Bool) (settings : TargetSettings) (disk : Disk) (bytes : List ℕ) (pieces : List (List ℕ)) (old now : TargetConnection)
    (before store : Store)
    (out written : List ℕ)
    → Stands protected settings disk bytes old before.disk out → FeedsAllPieces protected (scene old before out) pieces (scene now store written)
    → is_machine_closed now.machine ≡ false →
    Stands protected settings disk (bytes ++ stream_of pieces) now store.disk written
unfolding FeedsAllPieces
stands_answered protected settings disk bytes [] old now before store out written h f live =
    subst (λ (x : List ℕ). Stands protected settings disk x now store.disk written) (sym (append-nil bytes))
    (subst (λ (x : List ℕ). Stands protected settings disk bytes now store.disk x) (sym f.2)
    (subst (λ (x : Store). Stands protected settings disk bytes now x.disk out) (sym f.1)
    (subst (λ (x : TargetConnection). Stands protected settings disk bytes x before.disk out) (sym f.0) h)))
stands_answered protected settings disk bytes (p ∷ pieces) old now before store out written h f live =
    elim (either (is_machine_closed old.machine)) [
      | inl c ↦ absurd (apart (all_closed protected pieces f.1 now f.2 store f.3 written
          (stay_closed protected old f.1 before f.2 out p f.3 f.0 c f.4) f.6) live)
      | inr o ↦ elim (either (is_machine_closed f.1.machine)) [
        | inl c ↦ absurd (apart (all_closed protected pieces f.1 now f.2 store f.3 written c f.6) live)
        | inr l ↦
            let one : FeedsFirstBytes protected (scene old before out) p f.0 (scene f.1 f.2 f.3) =
            subst (λ (b : Bool). FeedPostIfClosed protected b (scene old before out) p f.0 (scene f.1 f.2 f.3)) o f.4 in
            subst (λ (x : List ℕ). Stands protected settings disk x now store.disk written) (append_assoc bytes p (stream_of pieces))
            (stands_answered protected settings disk (bytes ++ p) pieces f.1 now f.2 store f.3 written
            (stands_more protected settings disk bytes old before out p f.0 f.1 f.2 f.3 h one f.5.device l) f.6 live)
      ]
    ]

-- ---- what the PDUs lead to

none_of : (o : Option ℕ) → ((k : ℕ) → o ≡ Some k → ⊥) → o ≡ None
none_of None f = refl
none_of (Some k) f = absurd (f k refl)

-- no rule was broken in a session that goes on
none_broken : (protected : Bool) (settings : TargetSettings) (disk : Disk) (ms : List Message)
    → is_machine_closed (answers protected (opening_machine settings 1) disk ms).machine ≡ false →
    (answers protected (opening_machine settings 1) disk ms).rule ≡ None
none_broken protected settings disk ms live =
    none_of (answers protected (opening_machine settings 1) disk ms).rule (λ k e. apart (answers_close protected (opening_machine settings 1) disk ms k e) live)

-- the rule that the PDUs of a call broke is that of all PDUs
rule_of : (protected : Bool) (settings : TargetSettings) (disk : Disk) (taken : List ℕ) (from : Scene) (bytes : List ℕ)
    (framing : Framing)
    (more : List Message) (r : TargetStep) (after : Store)
    → (h : HasAnswered protected (beginning settings 1 disk) taken from.connection from.store.disk from.output) → is_machine_closed from.connection.machine
    ≡ false
    → AnswersPdus protected from.connection from.store bytes (call_progress framing more r) after →
    after.failures ≡ from.store.failures
    → r.rule ≡ (answers protected (opening_machine settings 1) disk (h.messages ++ more)).rule
rule_of protected settings disk taken from bytes framing more r after h live a works =
    let first : TargetStep = answers protected (opening_machine settings 1) disk h.messages in
    let later : TargetStep = answers protected first.machine first.disk more in
    let e : joined_stepped r ≡ joined_stepped later =
    ap joined_stepped (a.works works)
    ∙ ap (λ (s : Machine). joined_stepped (answers protected s from.store.disk more)) h.machine
    ∙ ap (λ (d : Disk). joined_stepped (answers protected (writes_joined first.machine) d more)) h.disk_is
    ∙ answers_joined protected first.machine first.disk more in
    let both : answers protected (opening_machine settings 1) disk (h.messages ++ more)
    ≡ then_stepped first later = answers_append protected (opening_machine settings 1) disk h.messages more in
    let none : first.rule ≡ None = none_broken protected settings disk h.messages (sym (ap is_machine_closed h.machine) ∙ live) in
    ap (λ (x : TargetStep). x.rule) e ∙ sym (ap (λ (o : Option ℕ). first_rule o later.rule) none) ∙ ap (λ (x : TargetStep). x.rule) (sym both)

-- the PDUs that a framer gave up, and what follows them
abbrev receives_of : (settings : TargetSettings) (read bytes behind : List ℕ) (ms : List Message) (v : Framing) → HasTaken bytes ms v → v.limit
    ≡ target_limit settings →
    read
    ≡ bytes ++ behind → ServedPdus settings read
receives_of settings read bytes behind ms v t bound is = record {
  messages = ms;
  given = t.given;
  rest = t.rest ++ behind;
  whole = is ∙ ap (λ (x : List ℕ). x ++ behind) t.whole ∙ append_assoc t.given t.rest behind;
  reads = subst (λ (n : ℕ). ReadsAs n no_login t.given ms) bound t.reads;
}

abbrev receives_all : (settings : TargetSettings) (bytes : List ℕ) (ms : List Message) (v : Framing) → HasTaken bytes ms v → v.limit ≡ target_limit settings →
    ServedPdus settings bytes
receives_all settings bytes ms v t bound = record {
  messages = ms;
  given = t.given;
  rest = t.rest;
  whole = t.whole;
  reads = subst (λ (n : ℕ). ReadsAs n no_login t.given ms) bound t.reads;
}

whole_is : (bytes piece : List ℕ) (n : ℕ) → bytes ++ piece ≡ (bytes ++ take n piece) ++ drop n piece
whole_is bytes piece n = ap (λ (x : List ℕ). bytes ++ x) (sym (take-append-drop n piece)) ∙ sym (append_assoc bytes (take n piece) (drop n piece))

-- ---- bytes that are refused

rest_refused : (most : ℕ) (bytes : List ℕ) (ms : List Message) (v : Framing) (behind : List ℕ) (fault : StreamFault) → (t : HasTaken bytes ms v) → v.limit
    ≡ most → (fault ≡ stream.NoMemory → ⊥) → FramerFeedFails v behind fault
    → ServedRestFails most fault t.given (t.rest ++ behind)
rest_refused most bytes ms v behind (stream.Head f p) t bound some fails =
    let held = held_is bytes ms v t fails.1.before in (
      subst (λ (x : List ℕ). 48 ≤ length (x ++ behind)) held fails.1.reached,
      subst (λ (x : List ℕ). head_fault (take 48 (x ++ behind)) ≡ Some f) held fails.2,
      fails.3 ∙ t.place,
    )
rest_refused most bytes ms v behind (stream.OverLimit p) t bound some fails =
    let over = fails.1 in
    let held = held_is bytes ms v t over.2.reaches.before in (
      subst (λ (x : List ℕ). 48 ≤ length (x ++ behind)) held over.2.reaches.reached,
      (over.0, over.1, subst (λ (x : List ℕ). IsHeader (take 48 (x ++ behind)) over.0 over.1) held over.2.header, subst (λ (n : ℕ). n < over.1) bound over.3),
      fails.2 ∙ t.place,
    )
rest_refused most bytes ms v behind stream.NoMemory t bound some fails = absurd (some refl)
rest_refused most bytes ms v behind (stream.Truncated p) t bound some fails = absurd fails
rest_refused most bytes ms v behind stream.Failed t bound some fails = absurd (apart fails t.live)

-- a PDU that is begun and not whole
rest_ends : (most : ℕ) (bytes : List ℕ) (ms : List Message) (v : Framing) (fault : StreamFault) → (t : HasTaken bytes ms v) → v.limit ≡ most →
    FinishFails v fault → ServedRestFails most fault t.given t.rest
rest_ends most bytes ms v (stream.Truncated p) t bound fails =
    let part : is_whole_pdu t.rest ≡ false = sym (is_whole-settled t.rest) ∙ ap is_whole_pdu (sym t.held) ∙ fails.2 in
    let begun : IsBegun most t.rest = subst (λ (n : ℕ). IsBegun n t.rest) bound t.begun in
    (omega (arith, fails.1, ap length t.held, length-settled t.rest), begun, no_pdu_begun most t.rest begun part, fails.3 ∙ t.place)
rest_ends most bytes ms v stream.NoMemory t bound fails = absurd fails
rest_ends most bytes ms v (stream.Head f p) t bound fails = absurd fails
rest_ends most bytes ms v (stream.OverLimit p) t bound fails = absurd fails
rest_ends most bytes ms v stream.Failed t bound fails = absurd (apart fails t.live)

-- ---- why a session ends

-- where it goes on
stands_on : (protected : Bool) (settings : TargetSettings) (disk : Disk) (bytes : List ℕ) (now : TargetConnection) (disk_now : Disk) (written : List ℕ) →
    (s : Stands protected settings disk bytes now disk_now written) → is_machine_closed now.machine ≡ false
    → SessionGoesOnBehind protected settings disk bytes (receives_all settings bytes s.has.messages now.framing s.has.taken s.bound)
stands_on protected settings disk bytes now disk_now written s live =
    let open_ : is_machine_closed (answers protected (opening_machine settings 1) disk s.has.messages).machine
    ≡ false = sym (ap is_machine_closed s.has.machine) ∙ live in
    (none_broken protected settings disk s.has.messages open_, open_)

pub read_told : (protected : Bool) (settings : TargetSettings) (disk : Disk) (bytes : List ℕ) (now : TargetConnection) (disk_now : Disk) (written : List ℕ) →
    Stands protected settings disk bytes now disk_now written → is_machine_closed now.machine ≡ false
    → SessionEndsBy protected settings disk (Err session.Read) bytes
read_told protected settings disk bytes now disk_now written s live =
    let v : Framing = now.framing in
    let t : HasTaken bytes s.has.messages v = s.has.taken in
    let part : is_whole_pdu t.rest ≡ false = sym (is_whole-settled t.rest) ∙ ap is_whole_pdu (sym t.held) ∙ unready_of v.failed v.held t.live s.ready in
    let begun : IsBegun (target_limit settings) t.rest = subst (λ (n : ℕ). IsBegun n t.rest) s.bound t.begun in (
      receives_all settings bytes s.has.messages v t s.bound,
      stands_on protected settings disk bytes now disk_now written s live,
      begun,
      no_pdu_begun (target_limit settings) t.rest begun part,
    )

pub end_told : (protected : Bool) (settings : TargetSettings) (disk : Disk) (bytes : List ℕ) (now new : TargetConnection) (disk_now : Disk) (written : List ℕ) →
    Stands protected settings disk bytes now disk_now written → is_machine_closed now.machine ≡ false → TargetFinishPost now (Ok tt) new
    → (receives : ServedPdus settings bytes) × SessionGoesOnBehind protected settings disk bytes receives × (receives.rest ≡ [])
end_told protected settings disk bytes now new disk_now written s live done =
    let t : HasTaken bytes s.has.messages now.framing = s.has.taken in (
      receives_all settings bytes s.has.messages now.framing t s.bound,
      stands_on protected settings disk bytes now disk_now written s live,
      nil_from_length t.rest (omega (arith, ap length done.2, ap length t.held, length-settled t.rest)),
    )

pub finish_told : (protected : Bool) (fault : TargetFault) (settings : TargetSettings) (disk : Disk) (bytes : List ℕ) (now new : TargetConnection)
    (disk_now : Disk) (written : List ℕ) →
    Stands protected settings disk bytes now disk_now written → is_machine_closed now.machine ≡ false
    → TargetFinishPost now (Err fault) new → SessionEndsBy protected settings disk (Err (ended_by fault)) bytes
finish_told protected (faults.Stream fault) settings disk bytes now new disk_now written s live fails = (
  receives_all settings bytes s.has.messages now.framing s.has.taken s.bound,
  stands_on protected settings disk bytes now disk_now written s live,
  rest_ends (target_limit settings) bytes s.has.messages now.framing fault s.has.taken s.bound fails.1,
)
finish_told protected faults.NoMemory settings disk bytes now new disk_now written s live fails = absurd fails
finish_told protected (faults.Protocol rule) settings disk bytes now new disk_now written s live fails = absurd fails
finish_told protected faults.Closed settings disk bytes now new disk_now written s live fails = absurd (apart fails.0 live)

-- what a call fed, behind what was answered
abbrev fed_receives : (protected : Bool) → (settings : TargetSettings) (disk : Disk) (bytes piece : List ℕ) (old new : TargetConnection) (before after : Store)
    (out written : List ℕ)
    (result : Result Phase TargetFault) → Stands protected settings disk bytes old before.disk out
    → FeedsFirstBytes protected (scene old before out) piece result (scene new after written) → ServedPdus settings (bytes ++ piece)
fed_receives protected settings disk bytes piece old new before after out written result s f =
    receives_of settings (bytes ++ piece) (bytes ++ take f.count piece) (drop f.count piece)
    (s.has.messages ++ f.messages) f.framing (f.answered.taken bytes s.has.messages s.has.taken) (f.answered.limit ∙ s.bound) (whole_is bytes piece f.count)

fed_told : (protected : Bool) (settings : TargetSettings) (disk : Disk) (bytes piece : List ℕ) (from to : Scene)
    (result : Result Phase TargetFault) → (s : Stands protected settings disk bytes from.connection from.store.disk from.output)
    → (f : FeedsFirstBytes protected from piece result to)
    → feed.OutputStands from.output f.stepped f.answered.failures to.store to.output
    → to.store.failures ≡ from.store.failures
    → Told protected (beginning settings 1 disk) (s.has.messages ++ f.messages) f.stepped to.store.disk to.output
fed_told protected settings disk bytes piece from to result s f left works =
    told protected (beginning settings 1 disk) bytes from (take f.count piece) f.framing f.messages f.stepped f.answered.failures to.store to.output
    s.has f.answered left works

fed_rule : (protected : Bool) (settings : TargetSettings) (disk : Disk) (bytes piece : List ℕ) (from to : Scene)
    (result : Result Phase TargetFault) → (s : Stands protected settings disk bytes from.connection from.store.disk from.output)
    → is_machine_closed from.connection.machine ≡ false → (f : FeedsFirstBytes protected from piece result to) → to.store.failures
    ≡ from.store.failures →
    (answers protected (opening_machine settings 1) disk (s.has.messages ++ f.messages)).rule ≡ f.stepped.rule
fed_rule protected settings disk bytes piece from to result s live f works =
    sym (rule_of protected settings disk bytes from (take f.count piece) f.framing f.messages f.stepped to.store s.has live f.answered works)

pub fault_told : (protected : Bool) (fault : TargetFault) (settings : TargetSettings) (disk : Disk) (bytes piece : List ℕ) (old new : TargetConnection)
    (before after : Store)
    (out written : List ℕ) → Stands protected settings disk bytes old before.disk out
    → is_machine_closed old.machine ≡ false → FeedsFirstBytes protected (scene old before out) piece (Err fault) (scene new after written) → after.failures
    ≡ before.failures →
    SessionEndsBy protected settings disk (Err (ended_by fault)) (bytes ++ piece)
fault_told protected (faults.Stream fault) settings disk bytes piece old new before after out written s live f works =
    let result : Result Phase TargetFault = Err (faults.Stream fault) in
    let t = fed_told protected settings disk bytes piece (scene old before out) (scene new after written) result s f f.leaves works in (
      fed_receives protected settings disk bytes piece old new before after out written result s f,
      (
        fed_rule protected settings disk bytes piece (scene old before out) (scene new after written) result s live f works ∙ f.ends.0.rule,
        sym (ap is_machine_closed t.machine)
            ∙ f.ends.0.live,
      ),
      rest_refused (target_limit settings) (bytes ++ take f.count piece) (s.has.messages
          ++ f.messages) f.framing (drop f.count piece) fault (f.answered.taken bytes s.has.messages s.has.taken)
          (f.answered.limit ∙ s.bound) f.ends.1 f.ends.2,
    )
fault_told protected (faults.Protocol rule) settings disk bytes piece old new before after out written s live f works =
    let result : Result Phase TargetFault = Err (faults.Protocol rule) in (
      fed_receives protected settings disk bytes piece old new before after out written result s f,
      fed_rule protected settings disk bytes piece (scene old before out) (scene new after written) result s live f works ∙ f.ends.0,
    )
fault_told protected faults.NoMemory settings disk bytes piece old new before after out written s live f works = tt
fault_told protected faults.Closed settings disk bytes piece old new before after out written s live f works = absurd f.ends

-- where memory ran out, the PDUs before were answered, and perhaps some tasks of the next one
first_front : (protected : Bool) (settings : TargetSettings) (disk : Disk) (read out : List ℕ) (framing : Framing) (rest : List ℕ) (r : TargetStep)
    (counted : ℕ) (to : Scene)
    (receives : ServedPdus settings read)
    → Told protected (beginning settings 1 disk) receives.messages r r.disk (out ++ canon r.answers) → to.store.failures ≡ counted →
    (l : StopsForMemory protected out (remainder framing rest r counted) to.connection.machine to.store to.output)
    → ((message : Message) (next : Framing) (n : ℕ) → FramerMoves framing next (take n rest) (message ∷ []) → next.limit ≡ framing.limit →
    (more : ServedPdus settings read) × (more.messages ≡ receives.messages ++ message ∷ []))
    → ServesFirstPdus protected settings disk read to.store.disk to.output
first_front protected settings disk read out framing rest r counted to receives t same l receive =
    let all : TargetStep = led protected settings disk read receives in
    let wrote : (q : TargetStep) → joined_stepped l.front ≡ joined_stepped q → to.output ≡ canon (all.answers ++ q.answers) = λ q e.
    l.output_is ∙ ap (λ (x : List ℕ). out ++ x) (canon_append r.answers l.front.answers) ∙ sym (append_assoc out (canon r.answers) (canon l.front.answers))
    ∙ ap (λ (x : List ℕ). x ++ canon l.front.answers) t.output_is ∙ sym (canon_append all.answers l.front.answers)
    ∙ ap (λ (x : TargetStep). canon (all.answers ++ x.answers)) e in
    elim l.stops [
      | inl none ↦
          (let q : TargetStep = unchanged all.machine all.disk in
          let e : joined_stepped l.front ≡ joined_stepped q = ap joined_stepped none.0 ∙ (λ i. unchanged (t.machine i) (t.disk_is i)) in
          record { receives = receives; front = q; stops = inl refl; disk_is = l.disk ∙ ap (λ (x : TargetStep). x.disk) e; output_is = wrote q e })
      | inr at ↦
          (let x = stop_as protected r.machine all.machine r.disk all.disk counted at.message l.front to.store.failures t.machine t.disk_is at.stops in
          let m = receive at.message at.next at.count at.taken at.limit in
          record {
            receives = receives;
            front = x.0;
            stops = inr (record {
              message = at.message;
              more = m.0;
              behind = m.1;
              failures = counted;
              stops = subst (λ (n : ℕ). MayStop protected all.machine all.disk counted at.message x.0 n) same x.1;
            });
            disk_is = l.disk ∙ ap (λ (y : TargetStep). y.disk) x.2;
            output_is = wrote x.0 x.2;
          })
    ]

pub first_told : (protected : Bool) (settings : TargetSettings) (disk : Disk) (bytes piece : List ℕ) (old new : TargetConnection) (before after : Store)
    (out written : List ℕ) →
    Stands protected settings disk bytes old before.disk out
    → FeedsFirstBytes protected (scene old before out) piece (Err faults.NoMemory) (scene new after written) → after.failures ≡ before.failures →
    ServesFirstPdus protected settings disk (bytes ++ piece) after.disk written
first_told protected settings disk bytes piece old new before after out written s f works =
    let receives : ServedPdus settings (bytes ++ piece) = fed_receives protected settings disk bytes piece old new before after out written
    (Err faults.NoMemory) s f in
    let mid : Store = record { disk = f.stepped.disk; failures = after.failures } in
    let a : AnswersPdus protected old before (take f.count piece) (call_progress f.framing f.messages f.stepped) mid = record {
      taken = f.answered.taken;
      limit = f.answered.limit;
      ready = f.answered.ready;
      failures = f.answered.failures;
      may = f.answered.may;
      works = f.answered.works;
    } in
    let t = told protected (beginning settings 1 disk) bytes (scene old before out) (take f.count piece) f.framing f.messages f.stepped after.failures mid (out
    ++ canon f.stepped.answers) s.has a (record { failures = refl; disk = refl; output_is = refl }) works in
    let low : before.failures ≤ f.answered.failures = may_rise protected old.machine before.disk before.failures f.messages f.stepped
    f.answered.failures f.answered.may
    in
    let high : f.answered.failures ≤ after.failures = short_rises protected out f.framing (drop f.count piece) f.stepped f.answered.failures
    new.machine after written
    f.leaves in
    first_front protected settings disk (bytes ++ piece) out f.framing (drop f.count piece) f.stepped f.answered.failures (scene new after written)
    receives t
    (omega (arith, low, high, works)) f.leaves
    (λ message next n moves limit_. (
      receives_of settings (bytes ++ piece) ((bytes ++ take f.count piece) ++ take n (drop f.count piece)) (drop n (drop f.count piece))
          ((s.has.messages ++ f.messages) ++ message ∷ []) next
          (moves (bytes ++ take f.count piece) (s.has.messages ++ f.messages) (f.answered.taken bytes s.has.messages s.has.taken))
          (limit_ ∙ f.answered.limit ∙ s.bound)
          (whole_is bytes piece f.count ∙ whole_is (bytes ++ take f.count piece) (drop f.count piece) n),
      refl,
    ))

-- the PDUs of a piece close it
pub over_told : (protected : Bool) (phase : Phase) (settings : TargetSettings) (disk : Disk) (bytes piece : List ℕ) (old new : TargetConnection)
    (before after : Store)
    (out written : List ℕ)
    → Stands protected settings disk bytes old before.disk out → is_machine_closed old.machine ≡ false
    → FeedsFirstBytes protected (scene old before out) piece (Ok phase) (scene new after written) → is_closed_phase phase ≡ true → after.failures
    ≡ before.failures →
    IsSessionOver protected settings disk (bytes ++ piece)
over_told protected phase settings disk bytes piece old new before after out written s live f over works =
    let t = fed_told protected settings disk bytes piece (scene old before out) (scene new after written) (Ok phase) s f f.leaves works in (
      fed_receives protected settings disk bytes piece old new before after out written (Ok phase) s f,
      fed_rule protected settings disk bytes piece (scene old before out) (scene new after written) (Ok phase) s live f works ∙ f.ends.0,
      sym (ap is_machine_closed t.machine) ∙ sym (ap is_closed_phase f.ends.2) ∙ over,
    )
