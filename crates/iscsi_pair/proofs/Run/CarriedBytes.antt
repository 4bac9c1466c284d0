-- A world of a served run, and the bytes that reach its target.
use Rattle.std.proofs.Common.{◌≡◌, ◌≢◌, inl, inr, ℕ, Bool, true, false, List, [], ◌∷◌, ◌++◌, length, take, drop, Option, Some, None, Result, Ok, Err, refl, sym}
use Rattle.std.proofs.Common.{ap, ◌∙◌, subst, append_assoc, arith}
use Rattle.std.specs.Result.{result_err}
use Rattle.std.proofs.lemmas.List.{append-nil, length-take, take-append-drop, drop_min, nil_from_length}
use Rattle.std.proofs.Math.Seq.{drop-length}
use Rattle.scsi_disk.specs.Disk.{Disk, disk_of}
use Rattle.iscsi_stream.specs.declared.fault.StreamFault.{StreamFault}
use Rattle.iscsi_stream.specs.declared.fault.StreamFault.TheVariants as stream
use Rattle.iscsi_stream.specs.declared.logins.Logins.{Logins}
use Rattle.iscsi_stream.specs.Segment.{no_login}
use Rattle.iscsi_stream.specs.Stream.{Message, ReadsAs, logins_after_all}
use Rattle.iscsi_stream.specs.Canonical.{canon}
use Rattle.iscsi_stream.specs.Framing.{Framing, HasTaken, FramerFeedFails}
use Rattle.iscsi_stream.proofs.ReadyLemmas.{apart}
use Rattle.iscsi_login.specs.declared.phase.Phase.{Phase}
use Rattle.iscsi_target.specs.declared.fault.TargetFault.{TargetFault}
use Rattle.iscsi_target.specs.declared.fault.TargetFault.TheVariants as target_faults
use Rattle.iscsi_target_session.specs.Session as target_session
use Rattle.iscsi_target.specs.State as target
use Rattle.iscsi_target.specs.State.{writes_joined}
use Rattle.iscsi_target.specs.Machine as target_machine
use Rattle.iscsi_target.specs.Machine.{answers, then_stepped, first_rule}
use Rattle.iscsi_target.specs.Laws.{joined_stepped}
use Rattle.iscsi_target.specs.Feed as target_calls
use Rattle.iscsi_target.proofs.Steps.AppendLemmas.{answers_append}
use Rattle.iscsi_target.proofs.Writes.JoiningLemmas.{answers_joined}
use Rattle.iscsi_target.proofs.Feed.FedStreamLemmas.{stands}
use Rattle.iscsi_initiator.specs.State as initiator
use Rattle.iscsi_initiator.specs.State.{is_session_closed}
use Rattle.iscsi_initiator.specs.Steps as initiator_steps
use Rattle.iscsi_initiator.specs.Machine.{initiator_step, steps}
use Rattle.iscsi_initiator.specs.Calls as calls
use Rattle.iscsi_pair.specs.World.{World, Opening, TargetReceives, MovesToTarget, reliable_store, target_ran_out}
use Rattle.iscsi_pair.proofs.Request.Invariant.{AreWritten, IsOpenFor, ReceivesWell, History, Relation, Sends, Goes, IsKept, written_append, between, so_far}
use Rattle.iscsi_pair.proofs.Request.Invariant.{SoFar, limits, limits_of, Limits}
use Rattle.iscsi_pair.proofs.Login.NoFailure.{both_none}
use Rattle.iscsi_pair.proofs.Run.QueueReading.{after_all_append, written_parts, refuses_nothing, Unread, Way, MovesOn, moves_on, still_unread, none_more}
use Rattle.iscsi_pair.proofs.Run.QueueReading.{way_sends}
use Rattle.iscsi_pair.specs.LocalDisk.{DiskExchange}

-- ---- whole messages

-- no rule is broken in two parts where none is in each
rules_none : (a b : Option ℕ) → a ≡ None → b ≡ None → first_rule a b ≡ None
rules_none None b p q = q
rules_none (Some k) b p q = p

-- and in each where none is in both
rule_parts : (a b : Option ℕ) → first_rule a b ≡ None → (a ≡ None) × (b ≡ None)
rule_parts None b e = (refl, e)
rule_parts (Some k) b e = absurd (cc e)

-- the session is open for two parts
open_joined : (t : target.Machine) (disk : Disk) (ms more : List Message) → IsOpenFor t disk ms
    → IsOpenFor (answers false t disk ms).machine (answers false t disk ms).disk more → IsOpenFor t disk (ms ++ more)
unfolding answers
open_joined t disk [] more p q = q
open_joined t disk (m ∷ ms) more p q =
    (p.0, open_joined (target_machine.target_step false t disk m).machine (target_machine.target_step false t disk m).disk ms more p.1 q)

-- and for the second of them
open_later : (t : target.Machine) (disk : Disk) (ms more : List Message) → IsOpenFor t disk (ms ++ more)
    → IsOpenFor (answers false t disk ms).machine (answers false t disk ms).disk more
unfolding answers
open_later t disk [] more p = p
open_later t disk (m ∷ ms) more p = open_later (target_machine.target_step false t disk m).machine (target_machine.target_step false t disk m).disk ms more p.1

-- a session that is over receives none of them
pub open_none : (t : target.Machine) (disk : Disk) (ms : List Message) → IsOpenFor t disk ms → target_machine.is_machine_closed t ≡ true → ms ≡ []
open_none t disk [] p over = refl
open_none t disk (m ∷ ms) p over = absurd (apart over p.0)

-- What both ends keep, where the target has yet to receive these messages and the initiator those.
pub record Talks (most : ℕ) (P : Relation) (x : DiskExchange) (out : List Message) (s : SoFar) : Type 0 where
  pub received : ReceivesWell most x.target x.disk s.here out
  pub kept : (let r = answers false x.target x.disk out in
      P (between x.initiator r.machine r.disk (x.answers ++ r.answers)) (record s { here = logins_after_all s.here r.answers }))

-- the initiator sends more
pub talk_on : (most_out most : ℕ) (P : Relation) (i : initiator.InitiatorSession) (t : target.Machine) (disk : Disk) (out more back : List Message)
    (there here : Logins)
    (h : History) → ReceivesWell most t disk here out
    → Sends (limits most_out most) P (between i (answers false t disk out).machine (answers false t disk out).disk
    (back ++ (answers false t disk out).answers)) more
    (so_far there (logins_after_all here (answers false t disk out).answers) h)
    → Talks most P (between i t disk back) (out ++ more) (so_far (logins_after_all there more) here h)
talk_on most_out most P i t disk out more back there here h received s =
    let a : target.TargetStep = answers false t disk out in
    let b : target.TargetStep = answers false a.machine a.disk more in
    let e : answers false t disk (out ++ more) ≡ then_stepped a b = answers_append false t disk out more in
    record {
      received = record {
        open_ = open_joined t disk out more received.open_ s.received.open_;
        rule = ap (λ (r : target.TargetStep). r.rule) e ∙ rules_none a.rule b.rule received.rule s.received.rule;
        answered = subst (λ (r : target.TargetStep). AreWritten most here r.answers) (sym e) (written_append most here a.answers b.answers received.answered
            s.received.answered);
      };
      kept = subst (λ (r : target.TargetStep). P (between i r.machine r.disk (back ++ r.answers))
          (so_far (logins_after_all there more) (logins_after_all here r.answers) h))
          (sym e)
          (subst (λ (x : List Message). P (between i b.machine b.disk x) (so_far (logins_after_all there more) (logins_after_all here (a.answers ++ b.answers))
          h))
          (append_assoc back a.answers b.answers)
          (subst (λ (l : Logins). P (between i b.machine b.disk ((back ++ a.answers) ++ b.answers)) (so_far (logins_after_all there more) l h))
          (sym (after_all_append here a.answers b.answers)) s.kept));
    }

-- what holds where the target has received the first of them, and answered so
record HasReceived (most : ℕ) (P : Relation) (x : DiskExchange) (r : target.TargetStep) (left : List Message) (s : SoFar) : Type 0 where
  rule : r.rule ≡ None
  written : AreWritten most s.here r.answers
  talks : Talks most P (between x.initiator r.machine r.disk (x.answers ++ r.answers)) left (record s { here = logins_after_all s.here r.answers })

-- the target receives the first of them
target_received : (most : ℕ) (P : Relation) (i : initiator.InitiatorSession) (t : target.Machine) (disk : Disk) (new left back : List Message)
    (there here : Logins)
    (h : History)
    → Talks most P (between i t disk back) (new ++ left) (so_far there here h)
    → HasReceived most P (between i t disk back) (answers false t disk new) left (so_far there here h)
target_received most P i t disk new left back there here h s =
    let a : target.TargetStep = answers false t disk new in
    let b : target.TargetStep = answers false a.machine a.disk left in
    let e : answers false t disk (new ++ left) ≡ then_stepped a b = answers_append false t disk new left in
    let rule = rule_parts a.rule b.rule (ap (λ (r : target.TargetStep). r.rule) (sym e) ∙ s.received.rule) in
    let written = written_parts most here a.answers b.answers (subst (λ (r : target.TargetStep). AreWritten most here r.answers) e s.received.answered) in
    record {
      rule = rule.0;
      written = written.0;
      talks = record {
        received = record { open_ = open_later t disk new left s.received.open_; rule = rule.1; answered = written.1 };
        kept = subst (λ (l : Logins). P (between i b.machine b.disk ((back ++ a.answers) ++ b.answers)) (so_far there l h))
            (after_all_append here a.answers b.answers)
            (subst (λ (x : List Message). P (between i b.machine b.disk x) (so_far there (logins_after_all here (a.answers ++ b.answers)) h))
            (sym (append_assoc back a.answers b.answers))
            (subst (λ (r : target.TargetStep). P (between i r.machine r.disk (back ++ r.answers)) (so_far there (logins_after_all here r.answers) h)) e
            s.kept));
      };
    }

-- to an initiator whose session is over nothing comes
none_comes : (most_out most : ℕ) (P : Relation) → IsKept (limits most_out most) P
    → (i : initiator.InitiatorSession) (t : target.Machine) (disk : Disk) (back : List Message) (there here : Logins) (h : History)
    → P (between i t disk back) (so_far there here h) → is_session_closed i ≡ true → back ≡ []
none_comes most_out most P k i t disk [] there here h p over = refl
none_comes most_out most P k i t disk (m ∷ back) there here h p over = absurd (apart over (k.receives i t disk m back there here h p).live)

-- nothing is on its way to an initiator whose session is over, nor will be
pub over_none : (most_out most : ℕ) (P : Relation) → IsKept (limits most_out most) P
    → (i : initiator.InitiatorSession) (t : target.Machine) (disk : Disk) (out back : List Message) (there here : Logins) (h : History)
    → Talks most P (between i t disk back) out (so_far there here h) → is_session_closed i ≡ true → back ≡ []
over_none most_out most P k i t disk out back there here h s over =
    let a : target.TargetStep = answers false t disk out in
    (both_none back a.answers (none_comes most_out most P k i a.machine a.disk (back ++ a.answers) there (logins_after_all here a.answers) h s.kept over)).0

-- what holds where the initiator has received some of them, and is there
pub record ReceivesOn (most : Limits) (P : Relation) (x : DiskExchange) (r : initiator_steps.InitiatorStep) (out : List Message) (s : SoFar) : Type 0 where
  pub fault : r.fault ≡ None
  pub written : AreWritten most.out s.there r.output
  pub talks : Talks most.back P (record x { initiator = r.machine }) (out ++ r.output) (record s { there = logins_after_all s.there r.output })

-- one message more in front, by whether it closes the session
receives_if : (over : Bool) (most : Limits) (P : Relation) → IsKept most P
    → (i : initiator.InitiatorSession) (t : target.Machine) (disk : Disk) (out : List Message) (m : Message) (new left : List Message) (so : SoFar)
    → is_session_closed (initiator_step i m).machine ≡ over → (initiator_step i m).fault ≡ None → AreWritten most.out so.there (initiator_step i m).output
    → Talks most.back P (between (initiator_step i m).machine t disk (new ++ left)) (out ++ (initiator_step i m).output)
    (so_far (logins_after_all so.there (initiator_step i m).output) so.here so.history)
    → ReceivesOn most P (between (initiator_step i m).machine t disk left) (steps (initiator_step i m).machine new)
    (out ++ (initiator_step i m).output)
    (so_far (logins_after_all so.there (initiator_step i m).output) so.here so.history)
    → ReceivesOn most P (between i t disk left) (steps i (m ∷ new)) out so
unfolding steps
receives_if true most P k i t disk out m new left so is fault written one r =
    let none : new ++ left ≡ [] = over_none most.out most.back P k (initiator_step i m).machine t disk (out ++ (initiator_step i m).output) (new ++ left)
    (logins_after_all so.there (initiator_step i m).output) so.here so.history one is in
    rw is (record {
      fault = fault;
      written = written;
      talks = subst (λ (x : List Message). Talks most.back P (between (initiator_step i m).machine t disk x) (out ++ (initiator_step i m).output)
          (so_far (logins_after_all so.there (initiator_step i m).output) so.here so.history))
          (none ∙ sym (both_none new left none).1) one;
    })
receives_if false most P k i t disk out m new left so is fault written one r =
    let first : List Message = (initiator_step i m).output in
    let s : initiator_steps.InitiatorStep = steps (initiator_step i m).machine new in
    rw is (record {
      fault = r.fault;
      written = written_append most.out so.there first s.output written r.written;
      talks = subst (λ (x : List Message). Talks most.back P (between s.machine t disk left) x
          (so_far (logins_after_all so.there (first ++ s.output)) so.here so.history))
          (append_assoc out first s.output)
          (subst (λ (l : Logins). Talks most.back P (between s.machine t disk left) ((out ++ first) ++ s.output) (so_far l so.here so.history))
          (sym (after_all_append so.there first s.output))
          r.talks);
    })

-- the initiator receives the first of them
pub initiator_received : (most_out most : ℕ) (P : Relation) → IsKept (limits most_out most) P
    → (i : initiator.InitiatorSession) (t : target.Machine) (disk : Disk) (out new left : List Message) (there here : Logins) (h : History)
    → Talks most P (between i t disk (new ++ left)) out (so_far there here h)
    → ReceivesOn (limits most_out most) P (between i t disk left) (steps i new) out (so_far there here h)
unfolding steps
initiator_received most_out most P k i t disk out [] left there here h s =
    record {
      fault = refl;
      written = tt;
      talks = subst (λ (x : List Message). Talks most P (between i t disk left) x (so_far there here h))
          (sym (append-nil out)) s;
    }
initiator_received most_out most P k i t disk out (m ∷ new) left there here h s =
    let a : target.TargetStep = answers false t disk out in
    let g : Goes (limits most_out most) P (between i a.machine a.disk ((new ++ left) ++ a.answers)) m (so_far there (logins_after_all here a.answers) h) =
    k.receives i a.machine a.disk m ((new ++ left) ++ a.answers) there (logins_after_all here a.answers) h s.kept in
    let one : Talks most P (between (initiator_step i m).machine t disk (new ++ left)) (out ++ (initiator_step i m).output)
    (so_far (logins_after_all there (initiator_step i m).output) here h) =
    talk_on most_out most P (initiator_step i m).machine t disk out (initiator_step i m).output (new ++ left) there here h s.received g.sends in
    receives_if (is_session_closed (initiator_step i m).machine) (limits most_out most) P k i t disk out m new left (so_far there here h) refl g.fault
    g.sends.written one
    (initiator_received most_out most P k (initiator_step i m).machine t disk (out ++ (initiator_step i m).output) new left
    (logins_after_all there (initiator_step i m).output) here h one)

-- what holds by the one relation holds by the other once the next answer has come
abbrev pub Improves : Limits → Relation → Relation → Type 0
Improves most P Q = (i : initiator.InitiatorSession) (t : target.Machine) (disk : Disk) (m : Message) (back : List Message) (there here : Logins) (h : History)
    → P (between i t disk (m ∷ back)) (so_far there here h) → Goes most Q (between i t disk back) m (so_far there here h)

-- the initiator receives the first of them, and holds by another relation then
pub initiator_received_first : (most : Limits) (P Q : Relation) → IsKept most Q → Improves most P Q
    → (i : initiator.InitiatorSession) (t : target.Machine) (disk : Disk) (out : List Message) (m : Message) (new left : List Message) (so : SoFar)
    → Talks most.back P (between i t disk ((m ∷ new) ++ left)) out so
    → ReceivesOn most Q (between i t disk left) (steps i (m ∷ new)) out so
initiator_received_first most P Q k better i t disk out m new left so s =
    let a : target.TargetStep = answers false t disk out in
    let g : Goes most Q (between i a.machine a.disk ((new ++ left) ++ a.answers)) m (so_far so.there (logins_after_all so.here a.answers) so.history) =
    better i a.machine a.disk m ((new ++ left) ++ a.answers) so.there (logins_after_all so.here a.answers) so.history s.kept in
    let one : Talks most.back Q (between (initiator_step i m).machine t disk (new ++ left)) (out ++ (initiator_step i m).output)
    (so_far (logins_after_all so.there (initiator_step i m).output) so.here so.history) =
    talk_on most.out most.back Q (initiator_step i m).machine t disk out (initiator_step i m).output (new ++ left) so.there so.here so.history s.received
    g.sends in
    receives_if (is_session_closed (initiator_step i m).machine) most Q k i t disk out m new left so refl g.fault g.sends.written one
    (initiator_received most.out most.back Q k (initiator_step i m).machine t disk (out ++ (initiator_step i m).output) new left
    (logins_after_all so.there (initiator_step i m).output) so.here so.history one)

-- ---- worlds

-- how a world of a served run stands
pub record Stands (c : Opening) (P : Relation) (h : History) (w : World) : Type 0 where
  pub target_well : w.target_fault ≡ None
  pub initiator_well : w.initiator_fault ≡ None
  -- the target's session, its writes in the pieces that came
  pub session : target.Machine
  pub disk : Disk
  -- what the target has yet to receive, and the initiator
  pub out : List Message
  pub back : List Message
  -- what the login PDUs said, those included that are on their way
  pub there : Logins
  pub here : Logins
  pub machine : w.target.machine ≡ writes_joined session
  pub disk_is : disk_of w.blocks ≡ disk
  pub to_target : Way (target_machine.is_machine_closed session) (target_session.target_limit c.target) w.target.framing w.to_target out there
  pub to_initiator : Way (is_session_closed w.initiator.machine) (calls.initiator_limit c.initiator) w.initiator.framing w.to_initiator back here
  pub received : ReceivesWell (calls.initiator_limit c.initiator) session disk here out
  pub kept : P (between w.initiator.machine (answers false session disk out).machine (answers false session disk out).disk
      (back ++ (answers false session disk out).answers))
      (so_far there (logins_after_all here (answers false session disk out).answers) h)

-- the relation is kept between such ends
abbrev pub Keeps : Opening → Relation → Type 1
Keeps c P = IsKept (limits_of c) P

-- what both ends keep in such a world
pub talks_of : (c : Opening) (P : Relation) (h : History) (w : World) → (s : Stands c P h w)
    → Talks (calls.initiator_limit c.initiator) P (between w.initiator.machine s.session s.disk s.back) s.out (so_far s.there s.here h)
talks_of c P h w s = record { received = s.received; kept = s.kept }

-- all bytes that moved were read
pub no_bytes : (n : ℕ) (moved behind : List ℕ) → n ≡ length moved → drop n moved ++ behind ≡ behind
no_bytes n moved behind e = ap (λ (i : ℕ). drop i moved ++ behind) e ∙ ap (λ (x : List ℕ). x ++ behind) (drop-length moved)

-- the bytes that moved stood at the front
pub front_moves : (k n : ℕ) (queue moved : List ℕ) → moved ≡ take k queue → queue ≡ take n moved ++ (drop n moved ++ drop (length moved) queue)
front_moves k n queue moved e =
    sym (take-append-drop k queue)
    ∙ ap (λ (x : List ℕ). take k queue ++ x) (sym (ap (λ (i : ℕ). drop i queue) (ap length e ∙ length-take k queue) ∙ drop_min k queue))
    ∙ ap (λ (x : List ℕ). x ++ drop (length moved) queue) (sym e ∙ sym (take-append-drop n moved))
    ∙ append_assoc (take n moved) (drop n moved) (drop (length moved) queue)

-- of an empty queue nothing moves
pub some_moves : (k : ℕ) (queue moved : List ℕ) → moved ≡ take k queue → queue ≡ [] → moved ≡ []
some_moves k queue moved e none = nil_from_length moved (let n = ap length e in let m = length-take k queue in let l = ap length none in omega (arith, n, m, l))

-- ---- bytes reach the target

-- what a call of the target read, and how the rest stands
record TargetTurn {c : Opening} {P : Relation} {h : History} {old : World} (s : Stands c P h old) (v : Framing) (unreceived more : List ℕ)
    (r : target.TargetStep)
    : Type 0 where
  now : target.TargetStep
  same : joined_stepped r ≡ joined_stepped now
  rule : now.rule ≡ None
  left : List Message
  back : List Message
  there : Logins
  here : Logins
  talks : Talks (calls.initiator_limit c.initiator) P (between old.initiator.machine now.machine now.disk back) left (so_far there here h)
  unread : Unread (target_session.target_limit c.target) v (unreceived ++ more) left there
  none : left ≡ [] → unreceived ++ more ≡ []
  refuses : (fault : StreamFault) → fault ≢ stream.NoMemory → FramerFeedFails v unreceived fault → ⊥
  to_initiator : Way (is_session_closed old.initiator.machine) (calls.initiator_limit c.initiator) old.initiator.framing (old.to_initiator ++ canon now.answers)
      back here

-- a call of the target is such a turn
target_turn : (c : Opening) (P : Relation) (h : History) (old new : World) (k : ℕ) (moved : List ℕ) (result : Result Phase TargetFault) → Keeps c P
    → (s : Stands c P h old)
    → Unread (target_session.target_limit c.target) old.target.framing old.to_target s.out s.there → moved ≡ take k old.to_target
    → (f : target_calls.FeedsFirstBytes false (target_calls.scene old.target (reliable_store old.blocks) old.to_initiator) moved result
    (target_calls.scene new.target (reliable_store new.blocks) new.to_initiator))
    → TargetTurn s f.framing (drop f.count moved) (drop (length moved) old.to_target) f.stepped
target_turn c P h old new k moved result kept s u m f =
    let a : target.TargetStep = answers false s.session s.disk f.messages in
    let piece : List ℕ = take f.count moved in
    let more : List ℕ = drop f.count moved ++ drop (length moved) old.to_target in
    let q : old.to_target ≡ piece ++ more = front_moves k f.count old.to_target moved m in
    let t : HasTaken (u.stream ++ piece) (u.received ++ f.messages) f.framing = f.answered.taken u.stream u.received u.taken in
    let bound : f.framing.limit ≡ target_session.target_limit c.target = f.answered.limit ∙ u.limit_is in
    let on : MovesOn (target_session.target_limit c.target) u.received s.out f.messages t.rest more =
    moves_on (target_session.target_limit c.target) old.target.framing old.to_target s.out s.there piece more f.messages f.framing u q t bound in
    let talks : Talks (calls.initiator_limit c.initiator) P (between old.initiator.machine s.session s.disk s.back) (f.messages ++ on.left)
    (so_far s.there s.here h) =
    subst (λ (x : List Message). Talks (calls.initiator_limit c.initiator) P (between old.initiator.machine s.session s.disk s.back) x
    (so_far s.there s.here h)) on.whole
    (talks_of c P h old s) in
    let has : HasReceived (calls.initiator_limit c.initiator) P (between old.initiator.machine s.session s.disk s.back) a on.left (so_far s.there s.here h) =
    target_received (calls.initiator_limit c.initiator) P old.initiator.machine s.session s.disk f.messages on.left s.back s.there s.here h talks in
    record {
      now = a;
      same = ap joined_stepped (f.answered.works refl) ∙ ap (λ (x : target.Machine). joined_stepped (answers false x (disk_of old.blocks) f.messages)) s.machine
          ∙ ap (λ (d : Disk). joined_stepped (answers false (writes_joined s.session) d f.messages)) s.disk_is
          ∙ answers_joined false s.session s.disk f.messages;
      rule = has.rule;
      left = on.left;
      back = s.back ++ a.answers;
      there = s.there;
      here = logins_after_all s.here a.answers;
      talks = has.talks;
      unread = still_unread (target_session.target_limit c.target) old.target.framing old.to_target s.out s.there piece more f.messages on.left f.framing u q t
          bound
          f.answered.ready on.whole;
      none = none_more (target_session.target_limit c.target) u.received s.out f.messages t.rest more on;
      refuses = λ fault some fails. refuses_nothing fault f.framing (u.stream ++ piece) (u.received ++ f.messages) (drop f.count moved) (t.rest ++ more)
          (drop (length moved) old.to_target)
          (logins_after_all no_login (u.received ++ f.messages)) on.left t some fails refl
          (subst (λ (n : ℕ). ReadsAs n (logins_after_all no_login (u.received ++ f.messages)) (t.rest ++ more) on.left) (sym bound) on.reads);
      to_initiator = way_sends (is_session_closed old.initiator.machine) (calls.initiator_limit c.initiator) old.initiator.framing old.to_initiator s.back
          s.here a.answers
          s.to_initiator has.written
          (λ over. (both_none s.back a.answers (over_none (target_session.target_limit c.target) (calls.initiator_limit c.initiator) P kept
          old.initiator.machine a.machine
          a.disk on.left (s.back ++ a.answers) s.there (logins_after_all s.here a.answers) h
          has.talks over)).1);
    }

-- the target's session is where its turn has led
target_stands : (c : Opening) (P : Relation) (h : History) (old new : World) (s : Stands c P h old) (v : Framing) (unreceived more : List ℕ) (r :
    target.TargetStep)
    → (t : TargetTurn s v unreceived more r)
    → new.target_fault ≡ None → new.initiator_fault ≡ None → new.target.machine ≡ writes_joined r.machine → disk_of new.blocks ≡ r.disk → new.initiator
    ≡ old.initiator
    → new.to_initiator ≡ old.to_initiator ++ canon r.answers
    → Way (target_machine.is_machine_closed t.now.machine) (target_session.target_limit c.target) new.target.framing new.to_target t.left t.there
    → Stands c P h new
target_stands c P h old new s v unreceived more r t well other machine disk initiator_ output way = record {
  target_well = well;
  initiator_well = other;
  session = t.now.machine;
  disk = t.now.disk;
  out = t.left;
  back = t.back;
  there = t.there;
  here = t.here;
  machine = machine ∙ ap (λ (x : target.TargetStep). x.machine) t.same;
  disk_is = disk ∙ ap (λ (x : target.TargetStep). x.disk) t.same;
  to_target = way;
  to_initiator = subst (λ (i : calls.InitiatorConnection). Way (is_session_closed i.machine) (calls.initiator_limit c.initiator) i.framing new.to_initiator
      t.back t.here) (sym initiator_)
      (subst (λ (x : List ℕ). Way (is_session_closed old.initiator.machine) (calls.initiator_limit c.initiator) old.initiator.framing x t.back t.here)
      (ap (λ (x : target.TargetStep). old.to_initiator ++ canon x.answers) (sym t.same) ∙ sym output) t.to_initiator);
  received = t.talks.received;
  kept = subst (λ (i : calls.InitiatorConnection). P (between i.machine (answers false t.now.machine t.now.disk t.left).machine
      (answers false t.now.machine t.now.disk t.left).disk
      (t.back ++ (answers false t.now.machine t.now.disk t.left).answers))
      (so_far t.there (logins_after_all t.here (answers false t.now.machine t.now.disk t.left).answers) h))
      (sym initiator_) t.talks.kept;
}

-- however the call ends
target_ends : (result : Result Phase TargetFault) (c : Opening) (P : Relation) (h : History) (old new : World) (s : Stands c P h old) (v : Framing) (n : ℕ)
    (moved more : List ℕ)
    (r : target.TargetStep)
    → TargetTurn s v (drop n moved) more r → target_calls.CallEnds moved result v n r new.target
    → new.target_fault ≡ result_err result → target_ran_out new.target_fault ≡ false → new.initiator_fault ≡ None → disk_of new.blocks ≡ r.disk
    → new.initiator ≡ old.initiator
    → new.to_initiator ≡ old.to_initiator ++ canon r.answers → new.to_target ≡ more → Stands c P h new
target_ends (Ok phase) c P h old new s v n moved more r t e fault memory other disk initiator_ output dropped =
    target_stands c P h old new s v (drop n moved) more r t fault other e.1 disk initiator_ output
    (elim e.3 [
      | inl closes ↦
          (let over : target_machine.is_machine_closed t.now.machine ≡ true =
          sym (ap (λ (x : target.TargetStep). target_machine.is_machine_closed x.machine) t.same) ∙ closes in
          let left : t.left ≡ [] = open_none t.now.machine t.now.disk t.left t.talks.received.open_ over in
          inr (over, dropped ∙ (both_none (drop n moved) more (t.none left)).1, left))
      | inr on ↦
          inl (
            sym (ap (λ (x : target.TargetStep). target_machine.is_machine_closed x.machine) t.same) ∙ on.live,
            subst (λ (x : Framing). Unread (target_session.target_limit c.target) x new.to_target t.left t.there) (sym on.framing_is)
                (subst (λ (x : List ℕ). Unread (target_session.target_limit c.target) v x t.left t.there) (no_bytes n moved more on.all ∙ sym dropped)
                t.unread),
          )
    ])
target_ends (Err target_faults.NoMemory) c P h old new s v n moved more r t e fault memory other disk initiator_ output dropped =
    absurd (apart (ap target_ran_out fault) memory)
target_ends (Err (target_faults.Stream f)) c P h old new s v n moved more r t e fault memory other disk initiator_ output dropped = absurd (t.refuses f e.1 e.2)
target_ends (Err (target_faults.Protocol rule)) c P h old new s v n moved more r t e fault memory other disk initiator_ output dropped =
    absurd (let bad : None ≡ Some rule = sym t.rule ∙ sym (ap (λ (x : target.TargetStep). x.rule) t.same) ∙ e.0 in cc)
target_ends (Err target_faults.Closed) c P h old new s v n moved more r t e fault memory other disk initiator_ output dropped = absurd e

-- bytes reached the target
target_receives : (c : Opening) (P : Relation) (h : History) (old new : World) (k : ℕ) (byte : ℕ) (bytes : List ℕ) → Keeps c P → Stands c P h old
    → byte ∷ bytes ≡ take k old.to_target
    → TargetReceives (byte ∷ bytes) old new → target_ran_out new.target_fault ≡ false → Stands c P h new
target_receives c P h old new k byte bytes kept s m e memory =
    elim s.to_target [
      | inl on ↦
          (let f : target_calls.FeedsFirstBytes false (target_calls.scene old.target (reliable_store old.blocks) old.to_initiator) (byte ∷ bytes) e.result
          (target_calls.scene new.target (reliable_store new.blocks) new.to_initiator) =
          subst (λ (b : Bool). target_calls.FeedPostIfClosed false b (target_calls.scene old.target (reliable_store old.blocks) old.to_initiator) (byte ∷ bytes)
          e.result
          (target_calls.scene new.target (reliable_store new.blocks) new.to_initiator))
          (ap target_machine.is_machine_closed s.machine ∙ on.0) e.fed in
          let stood : target_calls.OutputStands old.to_initiator f.stepped f.answered.failures (reliable_store new.blocks) new.to_initiator =
          stands false old.to_initiator f.framing (drop f.count (byte ∷ bytes)) f.stepped f.answered.failures e.result new.target.machine
          (reliable_store new.blocks)
          new.to_initiator
          (λ short. apart (ap target_ran_out (e.fault ∙ ap result_err short)) memory) f.leaves in
          target_ends e.result c P h old new s f.framing f.count (byte ∷ bytes) (drop (length (byte ∷ bytes)) old.to_target) f.stepped
          (target_turn c P h old new k (byte ∷ bytes) e.result kept s on.1 m f) f.ends e.fault memory (e.other_fault ∙ s.initiator_well) stood.disk e.initiator
          stood.output_is e.dropped)
      | inr over ↦ absurd (let none : byte ∷ bytes ≡ [] = some_moves k old.to_target (byte ∷ bytes) m over.1 in cc)
    ]

-- bytes moved to the target
pub to_target : (fault : Option TargetFault) (moved : List ℕ) (c : Opening) (P : Relation) (h : History) (old new : World) (k : ℕ) → Keeps c P
    → Stands c P h old → fault ≡ None → moved ≡ take k old.to_target
    → MovesToTarget fault moved old new → target_ran_out new.target_fault ≡ false → Stands c P h new
to_target fault [] c P h old new k kept s none m e memory = subst (Stands c P h) (sym e) s
to_target None (byte ∷ bytes) c P h old new k kept s none m e memory = target_receives c P h old new k byte bytes kept s m e memory
to_target (Some fault) (byte ∷ bytes) c P h old new k kept s none m e memory = absurd (cc none)
