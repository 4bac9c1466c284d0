-- Messages between two ends of which neither has a begun PDU: each end receives what was sent, and a run that was served goes on.
use Rattle.std.proofs.Common.{◌≡◌, ℕ, zero, suc, false, List, [], ◌∷◌, ◌++◌, length, Option, Some, None, refl, sym, ap, ◌∙◌, subst}
use Rattle.std.proofs.lemmas.List.{append-nil}
use Rattle.scsi_disk.specs.Disk.{Disk, disk_of}
use Rattle.iscsi_stream.specs.declared.logins.Logins.{Logins}
use Rattle.iscsi_stream.specs.Segment.{logins_after}
use Rattle.iscsi_stream.specs.Stream.{Message, logins_after_all}
use Rattle.iscsi_stream.specs.Canonical.{canon}
use Rattle.iscsi_stream.proofs.WritingLemmas.{canon_append}
use Rattle.iscsi_login.specs.Held.{Held}
use Rattle.iscsi_login.specs.Stage.{is_closed_phase}
use Rattle.iscsi_target.specs.State as target
use Rattle.iscsi_target.specs.Machine.{answers}
use Rattle.iscsi_target.proofs.Writes.WriteTilingLaws.{IsSound, answers_count, answers_sound}
use Rattle.iscsi_initiator.specs.declared.request.Done.{Done}
use Rattle.iscsi_initiator.specs.declared.request.Request.{Request}
use Rattle.iscsi_initiator.specs.Laws.{listed}
use Rattle.iscsi_initiator.specs.State as initiator
use Rattle.iscsi_initiator.specs.State.{is_session_closed}
use Rattle.iscsi_initiator.specs.Machine.{initiator_step, outcome_handed_out}
use Rattle.iscsi_initiator.specs.Submitted.{submitted}
use Rattle.iscsi_pair.specs.World.{World, Opening, PairEvent, ToTarget, ToInitiator, Submits, Takes, new_pair}
use Rattle.iscsi_pair.specs.Served.{IsServed, RunsServed, requests_of}
use Rattle.iscsi_pair.specs.LocalDisk.{DiskExchange}
use Rattle.iscsi_pair.proofs.Lists.BlockLemmas.{HasBlocks, answers_blocks}
use Rattle.iscsi_pair.proofs.Request.AnswersInOrder.{Leads}
use Rattle.iscsi_pair.proofs.Request.Invariant.{AreWritten, ReceivesWell, History, written_append, between, so_far, SoFar}
use Rattle.iscsi_pair.proofs.Run.DiskInvariant.{HaveAgreed, receives_well, most_back, most_out, written_within}
use Rattle.iscsi_pair.proofs.Lists.StepLemmas.{requests_append, initiator_asked, initiator_receives, level, served_more, Spot, spot_after, target_receives}

-- A run that was served has come to a world with these ends, in which no PDU is begun. In this world these messages are
-- on their way to the target and to the initiator.
pub record Stays (c : Opening) (x : DiskExchange) (out : List Message) (s : SoFar) : Type 0 where
  pub events : List PairEvent
  pub blocks : List ℕ
  pub place : Spot
  pub place_back : Spot
  pub requests_are : requests_of events ≡ s.history.requests
  pub runs : RunsServed (new_pair c) events
      (level c x.initiator x.target blocks place place_back s.there s.here (canon out) (canon x.answers)) s.history.outcomes
  pub disk_is : disk_of blocks ≡ x.disk
  pub sound : IsSound x.disk.count x.target.tasks
  pub written : AreWritten (most_back c) s.here x.answers

-- ---- the target receives what was sent

-- how far each direction got
pub record Spots : Type 0 where
  pub out : Spot
  pub back : Spot

some_received : (c : Opening) (h : History) (i : initiator.InitiatorSession) (t : target.Machine) (m : Message) (ms back : List Message) (there here : Logins)
    (events : List PairEvent) (blocks : List ℕ) (spots : Spots)
    → requests_of events ≡ h.requests → RunsServed (new_pair c) events (level c i t blocks spots.out spots.back there here (canon (m ∷ ms)) (canon back))
    h.outcomes
    → IsSound (disk_of blocks).count t.tasks → AreWritten (most_back c) here back
    → AreWritten (most_out c) there (m ∷ ms) → ReceivesWell (most_back c) t (disk_of blocks) (logins_after_all here back) (m ∷ ms)
    → (let r = answers false t (disk_of blocks) (m ∷ ms) in Stays c (between i r.machine r.disk (back ++ r.answers)) []
    (so_far (logins_after_all there (m ∷ ms)) here h))
some_received c h i t m ms back there here events blocks spots requests_are runs sound written sent received =
    let out : List Message = m ∷ ms in
    let d : Disk = disk_of blocks in
    let r : target.TargetStep = answers false t d out in
    let b : HasBlocks r.disk = answers_blocks t d out sound (record { bytes = blocks; is = refl }) in
    let event : PairEvent = ToTarget (length (canon out)) in
    let old : World = level c i t blocks spots.out spots.back there here (canon out) (canon back) in
    let new : World = level c i r.machine b.bytes (spot_after spots.out out) spots.back (logins_after_all there out) here [] (canon back ++ canon r.answers) in
    let on : RunsServed (new_pair c) (events ++ event ∷ []) new (h.outcomes ++ []) =
    served_more (new_pair c) events old h.outcomes event new runs
    (target_receives c i t blocks spots.out spots.back there here m ms (canon back) b.bytes received.open_.0 sent received.rule b.is) tt refl in
    record {
      events = events ++ event ∷ [];
      blocks = b.bytes;
      place = spot_after spots.out out;
      place_back = spots.back;
      requests_are = requests_append events (event ∷ []) ∙ append-nil (requests_of events) ∙ requests_are;
      runs = subst
          (λ (x : List ℕ). RunsServed (new_pair c) (events ++ event ∷ [])
          (level c i r.machine b.bytes (spot_after spots.out out) spots.back (logins_after_all there out) here [] x) h.outcomes)
          (sym (canon_append back r.answers))
          (subst (λ (x : List Done). RunsServed (new_pair c) (events ++ event ∷ []) new x) (append-nil h.outcomes) on);
      disk_is = b.is;
      sound = subst (λ (n : ℕ). IsSound n r.machine.tasks) (sym (answers_count false t d out)) (answers_sound false t d out sound);
      written = written_append (most_back c) here back r.answers written received.answered;
    }

pub received_all : (out : List Message) (c : Opening) (h : History) (i : initiator.InitiatorSession) (t : target.Machine) (disk : Disk) (back : List Message)
    (there here : Logins) → Stays c (between i t disk back) out (so_far there here h)
    → AreWritten (most_out c) there out → ReceivesWell (most_back c) t disk (logins_after_all here back) out
    → (let r = answers false t disk out in Stays c (between i r.machine r.disk (back ++ r.answers)) [] (so_far (logins_after_all there out) here h))
unfolding answers
received_all [] c h i t disk back there here s sent received =
    subst (λ (x : List Message). Stays c (between i t disk x) [] (so_far there here h)) (sym (append-nil back)) s
received_all (m ∷ ms) c h i t disk back there here s sent received =
    subst (λ (d : Disk). (let r = answers false t d (m ∷ ms) in Stays c (between i r.machine r.disk (back ++ r.answers)) []
    (so_far (logins_after_all there (m ∷ ms)) here h))) s.disk_is
    (some_received c h i t m ms back there here s.events s.blocks (record { out = s.place; back = s.place_back }) s.requests_are s.runs
    (subst (λ (d : Disk). IsSound d.count t.tasks) (sym s.disk_is) s.sound) s.written sent
    (subst (λ (d : Disk). ReceivesWell (most_back c) t d (logins_after_all here back) (m ∷ ms)) (sym s.disk_is) received))

-- ---- the initiator receives an answer

pub received_one : (c : Opening) (h : History) (i : initiator.InitiatorSession) (t : target.Machine) (disk : Disk) (m : Message) (more : List Message)
    (there here : Logins) → Stays c (between i t disk (m ∷ more)) [] (so_far there here h)
    → is_session_closed i ≡ false → (initiator_step i m).fault ≡ None → Stays c (between (initiator_step i m).machine t disk more) (initiator_step i m).output
    (so_far there (logins_after here m.head) h)
received_one c h i t disk m more there here s live well =
    let event : PairEvent = ToInitiator (length (canon (m ∷ []))) in
    let old : World = level c i t s.blocks s.place s.place_back there here [] (canon (m ∷ more)) in
    let new : World = level c (initiator_step i m).machine t s.blocks s.place (spot_after s.place_back (m ∷ [])) there (logins_after here m.head)
    (canon (initiator_step i m).output)
    (canon more) in
    let on : RunsServed (new_pair c) (s.events ++ event ∷ []) new (h.outcomes ++ []) =
    served_more (new_pair c) s.events old h.outcomes event new s.runs
    (initiator_receives c i t s.blocks s.place s.place_back there here [] m more live well s.written.0) tt refl in
    record {
      events = s.events ++ event ∷ [];
      blocks = s.blocks;
      place = s.place;
      place_back = spot_after s.place_back (m ∷ []);
      requests_are = requests_append s.events (event ∷ []) ∙ append-nil (requests_of s.events) ∙ s.requests_are;
      runs = subst (λ (x : List Done). RunsServed (new_pair c) (s.events ++ event ∷ []) new x) (append-nil h.outcomes) on;
      disk_is = s.disk_is;
      sound = s.sound;
      written = s.written.1;
    }

-- ---- a request, and its outcome

pub hands_in : (c : Opening) (h : History) (i : initiator.InitiatorSession) (t : target.Machine) (disk : Disk) (there here : Logins) (request : Request)
    → Stays c (between i t disk []) [] (so_far there here h) → IsServed request
    → (submitted i request).refusal ≡ None
    → Stays c (between (submitted i request).machine t disk []) (submitted i request).output
    (so_far there here (record h { requests = h.requests ++ request ∷ [] }))
hands_in c h i t disk there here request s served none =
    let event : PairEvent = Submits request in
    let old : World = level c i t s.blocks s.place s.place_back there here [] [] in
    let new : World = level c (submitted i request).machine t s.blocks s.place s.place_back there here (canon (submitted i request).output) [] in
    let on : RunsServed (new_pair c) (s.events ++ event ∷ []) new (h.outcomes ++ []) =
    served_more (new_pair c) s.events old h.outcomes event new s.runs (initiator_asked c i t s.blocks s.place s.place_back there here [] [] request none)
    (served, none) refl in
    record {
      events = s.events ++ event ∷ [];
      blocks = s.blocks;
      place = s.place;
      place_back = s.place_back;
      requests_are = requests_append s.events (event ∷ []) ∙ ap (λ (x : List Request). x ++ request ∷ []) s.requests_are;
      runs = subst (λ (x : List Done). RunsServed (new_pair c) (s.events ++ event ∷ []) new x) (append-nil h.outcomes) on;
      disk_is = s.disk_is;
      sound = s.sound;
      written = tt;
    }

pub gives_out : (c : Opening) (h : History) (i : initiator.InitiatorSession) (t : target.Machine) (disk : Disk) (there here : Logins) (d : Done)
    → Stays c (between i t disk []) [] (so_far there here h) → i.done ≡ Some d
    → Stays c (between (outcome_handed_out i) t disk []) [] (so_far there here (record h { outcomes = h.outcomes ++ d ∷ [] }))
gives_out c h i t disk there here d s is =
    let old : World = level c i t s.blocks s.place s.place_back there here [] [] in
    let new : World = level c (outcome_handed_out i) t s.blocks s.place s.place_back there here [] [] in
    let on : RunsServed (new_pair c) (s.events ++ Takes ∷ []) new (h.outcomes ++ listed i.done) =
    served_more (new_pair c) s.events old h.outcomes Takes new s.runs refl tt refl in
    record {
      events = s.events ++ Takes ∷ [];
      blocks = s.blocks;
      place = s.place;
      place_back = s.place_back;
      requests_are = requests_append s.events (Takes ∷ []) ∙ append-nil (requests_of s.events) ∙ s.requests_are;
      runs = subst (λ (o : Option Done). RunsServed (new_pair c) (s.events ++ Takes ∷ []) new (h.outcomes ++ listed o)) is on;
      disk_is = s.disk_is;
      sound = s.sound;
      written = tt;
    }

-- ---- answers, one by one

-- where some answers lead, a run leads
pub record Arrives (c : Opening) (h : History) (x : DiskExchange) : Type 0 where
  pub there : Logins
  pub here : Logins
  pub stays : Stays c x [] (so_far there here h)

pub arrives : (n : ℕ) (c : Opening) (h : History) (held : Held) (i : initiator.InitiatorSession) (t : target.Machine) (disk : Disk) (back : List Message)
    (there here : Logins) (x : DiskExchange) → HaveAgreed c held
    → Stays c (between i t disk back) [] (so_far there here h) → Leads held n (between i t disk back) x → Arrives c h x
arrives zero c h held i t disk back there here x a s l = subst (Arrives c h) l (record { there = there; here = here; stays = s })
arrives (suc n) c h held i t disk [] there here x a s l = absurd l
arrives (suc n) c h held i t disk (m ∷ more) there here x a s l =
    let out : List Message = (initiator_step i m).output in
    let r : target.TargetStep = answers false t disk out in
    let one : Stays c (between (initiator_step i m).machine t disk more) out (so_far there (logins_after here m.head) h) =
    received_one c h i t disk m more there here s (ap is_closed_phase l.0.full) l.0.fault in
    let on : Stays c (between (initiator_step i m).machine r.machine r.disk (more ++ r.answers)) []
    (so_far (logins_after_all there out) (logins_after here m.head) h) =
    received_all out c h (initiator_step i m).machine t disk more there (logins_after here m.head) one
    (written_within held.target_max_recv (most_out c) there out a.out (l.0.sends_.written there))
    (receives_well c held t disk (logins_after_all (logins_after here m.head) more) out a l.0.sends_) in
    arrives n c h held (initiator_step i m).machine r.machine r.disk (more ++ r.answers) (logins_after_all there out) (logins_after here m.head) x a on l.1
