-- The target's end of a pair: what it has received and said, whatever came of it.
use Rattle.std.proofs.Common.{◌≡◌, ◌≢◌, ◌⊎◌, ℕ, Bool, true, false, List, [], ◌++◌, take, drop, Option, Some, None, Result, Ok, Err, inl, inr, refl, sym, ap}
use Rattle.std.proofs.Common.{◌∙◌, subst, append_assoc}
use Rattle.std.specs.Result.{result_err}
use Rattle.std.proofs.lemmas.List.{append-nil, take-append-drop}
use Rattle.scsi_disk.specs.Disk.{disk_of}
use Rattle.iscsi_stream.specs.Segment.{no_login}
use Rattle.iscsi_stream.specs.Stream.{Message, ReadsAs}
use Rattle.iscsi_stream.specs.Canonical.{canon}
use Rattle.iscsi_stream.specs.declared.fault.StreamFault.{StreamFault}
use Rattle.iscsi_stream.specs.declared.fault.StreamFault.TheVariants as stream
use Rattle.iscsi_stream.specs.Framing.{Framing, HasTaken, FramerFeedFails, is_ready}
use Rattle.iscsi_stream.proofs.TakingLemmas.{at_opening}
use Rattle.iscsi_stream.proofs.WritingLemmas.{canon_append}
use Rattle.iscsi_stream.proofs.ReadyLemmas.{not_whole-nil, apart}
use Rattle.iscsi_login.specs.declared.phase.Phase.{Phase}
use Rattle.iscsi_login.specs.declared.phase.Phase.TheVariants as phases
use Rattle.iscsi_target.specs.declared.fault.TargetFault.{TargetFault}
use Rattle.iscsi_target.specs.declared.fault.TargetFault.TheVariants as faults
use Rattle.iscsi_target_session.specs.Session.{target_limit}
use Rattle.iscsi_target.specs.State.{Machine, TargetStep}
use Rattle.iscsi_target.specs.State.{writes_joined}
use Rattle.iscsi_target.specs.Machine.{answers, is_machine_closed}
use Rattle.iscsi_target.specs.Feed.{Remainder, TargetConnection, Store, FeedsFirstBytes, TargetFeedPost, FeedPostIfClosed, CallEnds, IsShut, CallLeaves, OutputStands, StopsForMemory, HasAnswered, opening_target, scene}
use Rattle.iscsi_target.specs.Feed.{remainder, beginning}
use Rattle.iscsi_target.proofs.Feed.FedStreamLemmas.{Told, told, stands}
use Rattle.iscsi_target.proofs.Steps.ClosingLemmas.{answers_close}
use Rattle.iscsi_target.proofs.Steps.KeepingLemmas.{Stays, stop_stays}
use Rattle.iscsi_target.proofs.Feed.StreamingLemmas.{goes_on}
use Rattle.iscsi_pair.specs.World.{Opening, reliable_store, target_ran_out}
use Rattle.iscsi_pair.specs.Traffic.{target_said}

-- The first of the bytes moved are these messages, and the answers to them were queued. A failed end did nothing with
-- the other messages, but for some tasks of the next one. It answered such tasks only if memory ran out at one of them,
-- in full feature phase.
pub record TargetFront (c : Opening) (moved out : List ℕ) (t : TargetConnection) (fault : Option TargetFault) : Type 0 where
  pub limit : ℕ
  pub messages : List Message
  pub given : List ℕ
  pub rest : List ℕ
  pub whole : moved ≡ given ++ rest
  pub reads : ReadsAs limit no_login given messages
  pub extra : List Message
  pub output : out ≡ canon ((target_said c messages).answers ++ extra)
  pub only : (extra ≡ []) ⊎ ((fault ≡ Some faults.NoMemory) × ((target_said c messages).machine.session.phase ≡ phases.Full))
  pub stage : t.machine.session.stage ≡ (target_said c messages).machine.session.stage
  pub held : t.machine.session.held ≡ (target_said c messages).machine.session.held

-- unless memory ran out there are no answers but those to whole messages
pub none_extra : (c : Opening) (moved out : List ℕ) (t : TargetConnection) (fault : Option TargetFault) → (f : TargetFront c moved out t fault)
    → target_ran_out fault ≡ false → f.extra ≡ []
none_extra c moved out t fault f well =
    elim f.only [
      | inl none ↦ none
      | inr short ↦ absurd (let bad : true ≡ false = sym (ap target_ran_out short.0) ∙ well in cc)
    ]

pub front_output : (c : Opening) (moved out : List ℕ) (t : TargetConnection) (fault : Option TargetFault) → (f : TargetFront c moved out t fault)
    → target_ran_out fault ≡ false → out ≡ canon (target_said c f.messages).answers
front_output c moved out t fault f well =
    f.output ∙ ap (λ (x : List Message). canon ((target_said c f.messages).answers ++ x)) (none_extra c moved out t fault f well)
    ∙ ap canon (append-nil (target_said c f.messages).answers)

-- an end that hasn't failed has taken all bytes moved
pub record TargetLives (c : Opening) (moved out : List ℕ) (t : TargetConnection) (blocks : List ℕ) : Type 0 where
  pub has : HasAnswered false (beginning c.target c.first_stat_sn (disk_of c.blocks)) moved t (disk_of blocks) out
  pub unready : is_ready t.framing ≡ false
  pub limit : t.framing.limit ≡ target_limit c.target

-- the session ended without a fault: with the last of these messages
pub record TargetOver (c : Opening) (moved out : List ℕ) (t : TargetConnection) (blocks : List ℕ) : Type 0 where
  pub messages : List Message
  pub given : List ℕ
  pub rest : List ℕ
  pub whole : moved ≡ given ++ rest
  pub reads : ReadsAs (target_limit c.target) no_login given messages
  pub output : out ≡ canon (target_said c messages).answers
  pub closed : is_machine_closed (target_said c messages).machine ≡ true
  pub machine : t.machine ≡ writes_joined (target_said c messages).machine
  pub disk : disk_of blocks ≡ (target_said c messages).disk

-- the session is closed, by the last of these messages
pub record TargetEnded (c : Opening) (moved out : List ℕ) (t : TargetConnection) : Type 0 where
  pub limit : ℕ
  pub messages : List Message
  pub given : List ℕ
  pub rest : List ℕ
  pub whole : moved ≡ given ++ rest
  pub reads : ReadsAs limit no_login given messages
  pub output : out ≡ canon (target_said c messages).answers
  pub stage : t.machine.session.stage ≡ (target_said c messages).machine.session.stage
  pub closed : is_machine_closed (target_said c messages).machine ≡ true

-- the framer refused what came behind these messages
pub record TargetBroken (fault : StreamFault) (c : Opening) (moved out : List ℕ) (t : TargetConnection) : Type 0 where
  pub messages : List Message
  pub framing : Framing
  pub front : List ℕ
  pub taken : HasTaken front messages framing
  pub limit : framing.limit ≡ target_limit c.target
  pub piece : List ℕ
  pub more : List ℕ
  pub whole : moved ≡ front ++ (piece ++ more)
  pub refused : FramerFeedFails framing piece fault
  pub some : fault ≢ stream.NoMemory
  pub output : out ≡ canon (target_said c messages).answers
  pub stage : t.machine.session.stage ≡ (target_said c messages).machine.session.stage

-- what a fault says that is kept
abbrev pub TargetFailed : Option TargetFault → Opening → List ℕ → List ℕ → TargetConnection → Type 0
TargetFailed None c moved out t = Unit {0}
TargetFailed (Some faults.NoMemory) c moved out t = Unit {0}
TargetFailed (Some (faults.Stream fault)) c moved out t = TargetBroken fault c moved out t
TargetFailed (Some (faults.Protocol rule)) c moved out t = TargetEnded c moved out t
TargetFailed (Some faults.Closed) c moved out t = TargetEnded c moved out t

pub record TargetSide (c : Opening) (moved out : List ℕ) (t : TargetConnection) (blocks : List ℕ) (fault : Option TargetFault) : Type 0 where
  pub front : TargetFront c moved out t fault
  pub over : fault ≡ None → is_machine_closed t.machine ≡ true → TargetOver c moved out t blocks
  pub lives : fault ≡ None → is_machine_closed t.machine ≡ false → TargetLives c moved out t blocks
  pub failed : TargetFailed fault c moved out t

-- what is left of a target behind these messages, and what it wrote
record Left (c : Opening) (ms : List Message) (out : List ℕ) (new : Machine) (fault : Option TargetFault) : Type 0 where
  extra : List Message
  output : out ≡ canon ((target_said c ms).answers ++ extra)
  only : (extra ≡ []) ⊎ ((fault ≡ Some faults.NoMemory) × ((target_said c ms).machine.session.phase ≡ phases.Full))
  stage : new.session.stage ≡ (target_said c ms).machine.session.stage
  held : new.session.held ≡ (target_said c ms).machine.session.held

front_taken : (c : Opening) (moved more out : List ℕ) (messages : List Message) (v : Framing) (t : TargetConnection) (fault : Option TargetFault)
    → HasTaken moved messages v → Left c messages out t.machine fault
    → TargetFront c (moved ++ more) out t fault
front_taken c moved more out messages v t fault h l = record {
  limit = v.limit;
  messages = messages;
  given = h.given;
  rest = h.rest ++ more;
  whole = ap (λ (x : List ℕ). x ++ more) h.whole ∙ append_assoc h.given h.rest more;
  reads = h.reads;
  extra = l.extra;
  output = l.output;
  only = l.only;
  stage = l.stage;
  held = l.held;
}

-- bytes that are dropped change nothing
pub front_drops : (c : Opening) (moved more out : List ℕ) (t : TargetConnection) (fault : Option TargetFault) → TargetFront c moved out t fault
    → TargetFront c (moved ++ more) out t fault
front_drops c moved more out t fault f = record {
  limit = f.limit;
  messages = f.messages;
  given = f.given;
  reads = f.reads;
  extra = f.extra;
  output = f.output;
  only = f.only;
  stage = f.stage;
  held = f.held;
  rest = f.rest ++ more;
  whole = ap (λ (x : List ℕ). x ++ more) f.whole ∙ append_assoc f.given f.rest more;
}

-- a target that had not failed fails with another fault than that memory ran out
front_fails : (c : Opening) (moved out : List ℕ) (t : TargetConnection) (fault : Option TargetFault) → TargetFront c moved out t None
    → TargetFront c moved out t fault
front_fails c moved out t fault f = record {
  limit = f.limit;
  messages = f.messages;
  given = f.given;
  rest = f.rest;
  whole = f.whole;
  reads = f.reads;
  extra = f.extra;
  output = f.output;
  only = inl (none_extra c moved out t None f refl);
  stage = f.stage;
  held = f.held;
}

ended_drops : (c : Opening) (moved more out : List ℕ) (t : TargetConnection) → TargetEnded c moved out t → TargetEnded c (moved ++ more) out t
ended_drops c moved more out t f = record {
  limit = f.limit;
  messages = f.messages;
  given = f.given;
  rest = f.rest ++ more;
  whole = ap (λ (x : List ℕ). x ++ more) f.whole ∙ append_assoc f.given f.rest more;
  reads = f.reads;
  output = f.output;
  stage = f.stage;
  closed = f.closed;
}

-- bytes that are dropped change nothing of a fault
pub failed_drops : (fault : Option TargetFault) (c : Opening) (moved more out : List ℕ) (t : TargetConnection) → TargetFailed fault c moved out t
    → TargetFailed fault c (moved ++ more) out t
failed_drops None c moved more out t f = tt
failed_drops (Some faults.NoMemory) c moved more out t f = tt
failed_drops (Some (faults.Stream fault)) c moved more out t f = record {
  messages = f.messages;
  framing = f.framing;
  front = f.front;
  taken = f.taken;
  limit = f.limit;
  piece = f.piece;
  more = f.more ++ more;
  whole = ap (λ (x : List ℕ). x ++ more) f.whole ∙ append_assoc f.front (f.piece ++ f.more) more ∙ ap (λ (x : List ℕ). f.front ++ x)
      (append_assoc f.piece f.more more);
  refused = f.refused;
  some = f.some;
  output = f.output;
  stage = f.stage;
}
failed_drops (Some (faults.Protocol rule)) c moved more out t f = ended_drops c moved more out t f
failed_drops (Some faults.Closed) c moved more out t f = ended_drops c moved more out t f

pub opening_side : (c : Opening) → TargetSide c [] [] (opening_target c.target c.first_stat_sn) c.blocks None
unfolding answers
opening_side c =
    let h : HasTaken [] [] (opening_target c.target c.first_stat_sn).framing = at_opening (target_limit c.target) in
    record {
      front = front_taken c [] [] [] [] (opening_target c.target c.first_stat_sn).framing (opening_target c.target c.first_stat_sn) None h
          (record { extra = []; output = refl; only = inl refl; stage = refl; held = refl });
      failed = tt;
      over = λ none over. absurd (cc over);
      lives = λ none live. record {
        has = record { messages = []; taken = h; machine = refl; disk_is = refl; output_is = refl };
        unready = not_whole-nil;
        limit = refl;
      };
    }

-- ---- a piece

-- what was written before makes no difference
stands_behind : (prior output : List ℕ) (r : TargetStep) (counted : ℕ) (after : Store) (written : List ℕ) → OutputStands output r counted after written
    → OutputStands (prior ++ output) r counted after (prior ++ written)
stands_behind prior output r counted after written s =
    record { failures = s.failures; disk = s.disk; output_is = ap (λ (x : List ℕ). prior ++ x) s.output_is ∙ sym (append_assoc prior output (canon r.answers)) }

leaves_behind : (result : Result Phase TargetFault) (prior output : List ℕ) (framing : Framing) (rest : List ℕ) (r : TargetStep) (counted : ℕ) (new : Machine)
    (after : Store) (written : List ℕ)
    → CallLeaves false result output (remainder framing rest r counted) new after written
    → CallLeaves false result (prior ++ output) (remainder framing rest r counted) new after (prior ++ written)
leaves_behind (Ok phase) prior output framing rest r counted new after written l = stands_behind prior output r counted after written l
leaves_behind (Err faults.NoMemory) prior output framing rest r counted new after written l = record {
  front = l.front;
  stops = l.stops;
  shut = l.shut;
  disk = l.disk;
  output_is = ap (λ (x : List ℕ). prior ++ x) l.output_is ∙ sym (append_assoc prior output (canon (r.answers ++ l.front.answers)));
}
leaves_behind (Err (faults.Stream fault)) prior output framing rest r counted new after written l = stands_behind prior output r counted after written l
leaves_behind (Err (faults.Protocol rule)) prior output framing rest r counted new after written l = stands_behind prior output r counted after written l
leaves_behind (Err faults.Closed) prior output framing rest r counted new after written l = stands_behind prior output r counted after written l

feeds_behind : (prior : List ℕ) (old : TargetConnection) (before : Store) (output piece : List ℕ) (result : Result Phase TargetFault) (new : TargetConnection)
    (after : Store) (written : List ℕ)
    → FeedsFirstBytes false (scene old before output) piece result (scene new after written)
    → FeedsFirstBytes false (scene old before (prior ++ output)) piece result (scene new after (prior ++ written))
feeds_behind prior old before output piece result new after written f = record {
  framing = f.framing;
  count = f.count;
  some = f.some;
  messages = f.messages;
  stepped = f.stepped;
  answered = f.answered;
  leaves = leaves_behind result prior output f.framing (drop f.count piece) f.stepped f.answered.failures new.machine after written f.leaves;
  ends = f.ends;
}

record Kept (new : Machine) (r : Machine) : Type 0 where
  stage : new.session.stage ≡ r.session.stage
  held : new.session.held ≡ r.session.held

kept_joined : (new r : Machine) → new ≡ writes_joined r → Kept new r
kept_joined new r e = record { stage = ap (λ (m : Machine). m.session.stage) e; held = ap (λ (m : Machine). m.session.held) e }

kept_shut : (new r : Machine) → IsShut r new → Kept new r
kept_shut new r e = record { stage = ap (λ (m : Machine). m.session.stage) e; held = ap (λ (m : Machine). m.session.held) e }

-- where memory was there
left_whole : (c : Opening) (ms : List Message) (out : List ℕ) (r : TargetStep) (counted : ℕ) (new : Machine) (after : Store) (written : List ℕ)
    (fault : Option TargetFault)
    → Told false (beginning c.target c.first_stat_sn (disk_of c.blocks)) ms r r.disk (out ++ canon r.answers) → OutputStands out r counted after written
    → Kept new r.machine
    → Left c ms written new fault
left_whole c ms out r counted new after written fault t s k = record {
  extra = [];
  output = s.output_is ∙ t.output_is ∙ ap canon (sym (append-nil (target_said c ms).answers));
  only = inl refl;
  stage = k.stage ∙ ap (λ (m : Machine). m.session.stage) t.machine;
  held = k.held ∙ ap (λ (m : Machine). m.session.held) t.machine;
}

-- where memory ran out
left_short : (c : Opening) (ms : List Message) (out : List ℕ) (framing : Framing) (rest : List ℕ) (r : TargetStep) (counted : ℕ) (new : Machine) (after : Store)
    (written : List ℕ)
    → Told false (beginning c.target c.first_stat_sn (disk_of c.blocks)) ms r r.disk (out ++ canon r.answers)
    → StopsForMemory false out (remainder framing rest r counted) new after written
    → Left c ms written new (Some faults.NoMemory)
left_short c ms out framing rest r counted new after written t l =
    let wrote : written ≡ canon ((target_said c ms).answers ++ l.front.answers) =
    l.output_is ∙ ap (λ (x : List ℕ). out ++ x) (canon_append r.answers l.front.answers) ∙ sym (append_assoc out (canon r.answers) (canon l.front.answers))
    ∙ ap (λ (x : List ℕ). x ++ canon l.front.answers) t.output_is ∙ sym (canon_append (target_said c ms).answers l.front.answers) in
    elim l.stops [
      | inl none ↦ record {
        extra = l.front.answers;
        output = wrote;
        only = inl (ap (λ (x : TargetStep). x.answers) none.0);
        stage = ap (λ (m : Machine). m.session.stage) l.shut ∙ ap (λ (x : TargetStep). x.machine.session.stage) none.0 ∙ ap (λ (m : Machine). m.session.stage)
            t.machine;
        held = ap (λ (m : Machine). m.session.held) l.shut ∙ ap (λ (x : TargetStep). x.machine.session.held) none.0 ∙ ap (λ (m : Machine). m.session.held)
            t.machine;
      }
      | inr at ↦
          (let k : Stays r.machine l.front.machine = stop_stays false r.machine r.disk counted at.message l.front after.failures at.stops in
          record {
            extra = l.front.answers;
            output = wrote;
            only = inr (refl, sym (ap (λ (m : Machine). m.session.phase) t.machine) ∙ at.stops.full);
            stage = ap (λ (m : Machine). m.session.stage) l.shut ∙ k.stage ∙ ap (λ (m : Machine). m.session.stage) t.machine;
            held = ap (λ (m : Machine). m.session.held) l.shut ∙ k.held ∙ ap (λ (m : Machine). m.session.held) t.machine;
          })
    ]

left_by : (result : Result Phase TargetFault) (c : Opening) (ms : List Message) (out : List ℕ) (left : Remainder) (piece : List ℕ) (n : ℕ)
    (new : TargetConnection) (after : Store) (written : List ℕ)
    → Told false (beginning c.target c.first_stat_sn (disk_of c.blocks)) ms left.stepped left.stepped.disk (out ++ canon left.stepped.answers)
    → CallLeaves false result out left new.machine after written → CallEnds piece result left.framing n left.stepped new
    → Left c ms written new.machine (result_err result)
left_by (Ok phase) c ms out left piece n new after written t l e = left_whole c ms out left.stepped left.counted new.machine after written None t l
    (kept_joined new.machine left.stepped.machine e.1)
left_by (Err faults.NoMemory) c ms out left piece n new after written t l e =
    left_short c ms out left.framing left.rest left.stepped left.counted new.machine after written t l
left_by (Err (faults.Stream fault)) c ms out left piece n new after written t l e =
    left_whole c ms out left.stepped left.counted new.machine after written (Some (faults.Stream fault)) t l (kept_shut new.machine left.stepped.machine e.3)
left_by (Err (faults.Protocol rule)) c ms out left piece n new after written t l e =
    left_whole c ms out left.stepped left.counted new.machine after written (Some (faults.Protocol rule)) t l (kept_joined new.machine left.stepped.machine e.1)
left_by (Err faults.Closed) c ms out left piece n new after written t l e = absurd e

ends_limit : (piece : List ℕ) (result : Result Phase TargetFault) (v : Framing) (n : ℕ) (r : TargetStep) (new : TargetConnection)
    → CallEnds piece result v n r new
    → result_err result ≡ None → is_machine_closed new.machine ≡ false → new.framing ≡ v
ends_limit piece (Ok phase) v n r new e none live =
    elim e.3 [
      | inl over ↦ absurd (apart (ap is_machine_closed e.1 ∙ over) live)
      | inr on ↦ on.framing_is
    ]
ends_limit piece (Err fault) v n r new e none live = absurd (cc none)

-- a session that ends without a fault ends with its last message
ends_over : (piece : List ℕ) (result : Result Phase TargetFault) (v : Framing) (n : ℕ) (r : TargetStep) (new : TargetConnection)
    → CallEnds piece result v n r new
    → result_err result ≡ None → new.machine ≡ writes_joined r.machine
ends_over piece (Ok phase) v n r new e none = e.1
ends_over piece (Err fault) v n r new e none = absurd (cc none)

ends_unready : (piece : List ℕ) (result : Result Phase TargetFault) (v : Framing) (n : ℕ) (r : TargetStep) (new : TargetConnection)
    → CallEnds piece result v n r new
    → is_ready v ≡ false
    → result_err result ≡ None → is_machine_closed new.machine ≡ false → is_ready new.framing ≡ false
ends_unready piece (Ok phase) v n r new e u none live =
    elim e.3 [
      | inl over ↦ absurd (apart (ap is_machine_closed e.1 ∙ over) live)
      | inr on ↦ ap is_ready on.framing_is ∙ u
    ]
ends_unready piece (Err fault) v n r new e u none live = absurd (cc none)

feeds_failed : (result : Result Phase TargetFault) (c : Opening) (moved out bytes : List ℕ) (old : TargetConnection) (blocks : List ℕ) (new : TargetConnection)
    (after written : List ℕ)
    → (l : TargetLives c moved out old blocks) → (f : FeedsFirstBytes false (scene old (reliable_store blocks) out) bytes result
    (scene new (reliable_store after) written))
    → Told false (beginning c.target c.first_stat_sn (disk_of c.blocks)) (l.has.messages ++ f.messages) f.stepped f.stepped.disk
    (out ++ canon f.stepped.answers)
    → HasTaken (moved ++ take f.count bytes) (l.has.messages ++ f.messages) f.framing
    → new.machine.session.stage ≡ (target_said c (l.has.messages ++ f.messages)).machine.session.stage → CallEnds bytes result f.framing f.count f.stepped new
    → TargetFailed (result_err result) c (moved ++ bytes) written new
feeds_failed (Ok phase) c moved out bytes old blocks new after written l f t h s e = tt
feeds_failed (Err faults.NoMemory) c moved out bytes old blocks new after written l f t h s e = tt
feeds_failed (Err (faults.Stream fault)) c moved out bytes old blocks new after written l f t h s e = record {
  messages = l.has.messages ++ f.messages;
  framing = f.framing;
  front = moved ++ take f.count bytes;
  taken = h;
  limit = f.answered.limit ∙ l.limit;
  piece = drop f.count bytes;
  more = [];
  whole = ap (λ (x : List ℕ). moved ++ x) (sym (take-append-drop f.count bytes)) ∙ sym (append_assoc moved (take f.count bytes) (drop f.count bytes))
      ∙ ap (λ (x : List ℕ). (moved ++ take f.count bytes) ++ x) (sym (append-nil (drop f.count bytes)));
  refused = e.2;
  some = e.1;
  output = f.leaves.output_is ∙ t.output_is;
  stage = s;
}
feeds_failed (Err (faults.Protocol rule)) c moved out bytes old blocks new after written l f t h s e =
    let is : f.stepped ≡ answers false old.machine (disk_of blocks) f.messages = f.answered.works refl in
    let over : is_machine_closed f.stepped.machine ≡ true =
    ap (λ (r : TargetStep). is_machine_closed r.machine) is ∙ answers_close false old.machine (disk_of blocks) f.messages rule
    (ap (λ (r : TargetStep). r.rule) (sym is) ∙ e.0) in
    record {
      limit = f.framing.limit;
      messages = l.has.messages ++ f.messages;
      given = h.given;
      rest = h.rest ++ drop f.count bytes;
      whole = ap (λ (x : List ℕ). moved ++ x) (sym (take-append-drop f.count bytes)) ∙ sym (append_assoc moved (take f.count bytes) (drop f.count bytes))
          ∙ ap (λ (x : List ℕ). x ++ drop f.count bytes) h.whole ∙ append_assoc h.given h.rest (drop f.count bytes);
      reads = h.reads;
      output = f.leaves.output_is ∙ t.output_is;
      stage = s;
      closed = sym (ap is_machine_closed t.machine) ∙ over;
    }
feeds_failed (Err faults.Closed) c moved out bytes old blocks new after written l f t h s e = absurd e

feeds_side : (c : Opening) (moved out bytes : List ℕ) (old : TargetConnection) (blocks : List ℕ) (result : Result Phase TargetFault) (new : TargetConnection)
    (after written : List ℕ)
    → TargetLives c moved out old blocks → FeedsFirstBytes false (scene old (reliable_store blocks) out) bytes result (scene new (reliable_store after) written)
    → TargetSide c (moved ++ bytes) written new after (result_err result)
feeds_side c moved out bytes old blocks result new after written l f =
    let t : Told false (beginning c.target c.first_stat_sn (disk_of c.blocks)) (l.has.messages ++ f.messages) f.stepped f.stepped.disk
    (out ++ canon f.stepped.answers) =
    told false (beginning c.target c.first_stat_sn (disk_of c.blocks)) moved (scene old (reliable_store blocks) out) (take f.count bytes) f.framing
    f.messages f.stepped 0
    (record { disk = f.stepped.disk; failures = 0 }) (out ++ canon f.stepped.answers) l.has
    (record {
      taken = f.answered.taken;
      limit = f.answered.limit;
      ready = f.answered.ready;
      failures = f.answered.failures;
      may = f.answered.may;
      works = f.answered.works;
    }) (record { failures = refl; disk = refl; output_is = refl }) refl in
    let h : HasTaken (moved ++ take f.count bytes) (l.has.messages ++ f.messages) f.framing = f.answered.taken moved l.has.messages l.has.taken in
    let left : Left c (l.has.messages ++ f.messages) written new.machine (result_err result) =
    left_by result c (l.has.messages ++ f.messages) out (remainder f.framing (drop f.count bytes) f.stepped f.answered.failures) bytes f.count new
    (reliable_store after)
    written
    t f.leaves f.ends in
    let stood : result_err result ≡ None → OutputStands out f.stepped f.answered.failures (reliable_store after) written =
    λ none. stands false out f.framing (drop f.count bytes) f.stepped f.answered.failures result new.machine (reliable_store after) written
    (λ short. let bad : None
    ≡ Some faults.NoMemory = sym none ∙ ap result_err short in absurd cc) f.leaves in
    let all : (moved ++ take f.count bytes) ++ drop f.count bytes ≡ moved ++ bytes =
    append_assoc moved (take f.count bytes) (drop f.count bytes) ∙ ap (λ (x : List ℕ). moved ++ x) (take-append-drop f.count bytes) in
    record {
      front = subst (λ (x : List ℕ). TargetFront c x written new (result_err result)) all
          (front_taken c (moved ++ take f.count bytes) (drop f.count bytes) written (l.has.messages ++ f.messages) f.framing new (result_err result) h left);
      failed = feeds_failed result c moved out bytes old blocks new after written l f t h left.stage f.ends;
      over = λ none over. record {
        messages = l.has.messages ++ f.messages;
        given = h.given;
        rest = h.rest ++ drop f.count bytes;
        whole = sym all ∙ ap (λ (x : List ℕ). x ++ drop f.count bytes) h.whole ∙ append_assoc h.given h.rest (drop f.count bytes);
        reads = subst (λ (x : ℕ). ReadsAs x no_login h.given (l.has.messages ++ f.messages)) (f.answered.limit ∙ l.limit) h.reads;
        output = (stood none).output_is ∙ t.output_is;
        closed = sym (ap is_machine_closed (ends_over bytes result f.framing f.count f.stepped new f.ends none ∙ t.machine)) ∙ over;
        machine = ends_over bytes result f.framing f.count f.stepped new f.ends none ∙ t.machine;
        disk = (stood none).disk ∙ t.disk_is;
      };
      lives = λ none live. record {
        limit = ap (λ (v : Framing). v.limit) (ends_limit bytes result f.framing f.count f.stepped new f.ends none live) ∙ f.answered.limit ∙ l.limit;
        has = goes_on false (beginning c.target c.first_stat_sn (disk_of c.blocks)) moved (scene old (reliable_store blocks) out) bytes result
            (scene new (reliable_store after) written) f refl live l.has;
        unready = ends_unready bytes result f.framing f.count f.stepped new f.ends f.answered.ready none live;
      };
    }

fed_if : (b : Bool) (c : Opening) (moved prior before bytes : List ℕ) (old : TargetConnection) (blocks : List ℕ) (result : Result Phase TargetFault)
    (new : TargetConnection) (after written : List ℕ)
    → is_machine_closed old.machine ≡ b → TargetSide c moved (prior ++ before) old blocks None
    → FeedPostIfClosed false b (scene old (reliable_store blocks) before) bytes result (scene new (reliable_store after) written)
    → TargetSide c (moved ++ bytes) (prior ++ written) new after (result_err result)
fed_if true c moved prior before bytes old blocks result new after written is s f = record {
  front = subst (λ (x : List ℕ). TargetFront c (moved ++ bytes) (prior ++ x) new (result_err result)) (sym f.output_is)
      (subst (λ (x : TargetConnection). TargetFront c (moved ++ bytes) (prior ++ before) x (result_err result)) (sym f.connection)
      (front_fails c (moved ++ bytes) (prior ++ before) old (result_err result) (front_drops c moved bytes (prior ++ before) old None s.front)));
  failed = subst (λ (x : Result Phase TargetFault). TargetFailed (result_err x) c (moved ++ bytes) (prior ++ written) new) (sym f.result_is)
      (let l : TargetOver c moved (prior ++ before) old blocks = s.over refl is in
      let there : TargetEnded c moved (prior ++ before) old = record {
        limit = target_limit c.target;
        messages = l.messages;
        given = l.given;
        rest = l.rest;
        whole = l.whole;
        reads = l.reads;
        output = l.output;
        stage = ap (λ (m : Machine). m.session.stage) l.machine;
        closed = l.closed;
      } in
      subst (λ (x : List ℕ). TargetEnded c (moved ++ bytes) (prior ++ x) new) (sym f.output_is)
      (subst (λ (x : TargetConnection). TargetEnded c (moved ++ bytes) (prior ++ before) x) (sym f.connection) (ended_drops c moved bytes (prior ++ before) old
      there)));
  over = λ none over. absurd (let bad : Some faults.Closed ≡ None = sym (ap result_err f.result_is) ∙ none in cc);
  lives = λ none live. absurd (apart (ap (λ (x : TargetConnection). is_machine_closed x.machine) f.connection ∙ is) live);
}
fed_if false c moved prior before bytes old blocks result new after written is s f =
    feeds_side c moved (prior ++ before) bytes old blocks result new after (prior ++ written) (s.lives refl is)
    (feeds_behind prior old (reliable_store blocks) before bytes result new (reliable_store after) written f)

-- the target received these bytes
pub target_received : (c : Opening) (moved prior before bytes : List ℕ) (old : TargetConnection) (blocks : List ℕ) (result : Result Phase TargetFault) (new :
    TargetConnection)
    (after written : List ℕ)
    → TargetSide c moved (prior ++ before) old blocks None → TargetFeedPost false (scene old (reliable_store blocks) before) bytes result
    (scene new (reliable_store after) written)
    → TargetSide c (moved ++ bytes) (prior ++ written) new after (result_err result)
target_received c moved prior before bytes old blocks result new after written s f =
    fed_if (is_machine_closed old.machine) c moved prior before bytes old blocks result new after written refl s f
