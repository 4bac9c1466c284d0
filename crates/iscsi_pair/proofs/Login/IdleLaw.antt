-- A pair with nothing on its way has completed its login.
use Rattle.std.proofs.Common.{◌≡◌, ◌≤◌, ◌⊎◌, inl, inr, ℕ, Bool, true, false, List, [], ◌∷◌, ◌++◌, length, None, refl, sym, ap, ◌∙◌, subst, arith}
use Rattle.std.proofs.lemmas.List.{append-nil}
use Rattle.scsi_disk.specs.Disk.{Disk, disk_of}
use Rattle.iscsi_stream.specs.declared.logins.Logins.{Logins}
use Rattle.iscsi_stream.specs.Segment.{no_login, segment_bytes, logins_after}
use Rattle.iscsi_stream.specs.Stream.{Message, ReadsAs, NoPdu}
use Rattle.iscsi_stream.specs.Canonical.{canon, canonical_bytes}
use Rattle.iscsi_stream.specs.Framing.{Framing, HasTaken, is_ready}
use Rattle.iscsi_stream.proofs.TakingLemmas.{splits_taken}
use Rattle.iscsi_stream.proofs.ReadyLemmas.{unready_of, apart}
use Rattle.iscsi_login.specs.declared.stage.Stage.TheVariants as stages
use Rattle.iscsi_target.specs.State as target
use Rattle.iscsi_target_session.specs.Session as target_session
use Rattle.iscsi_target.specs.Machine as target_machine
use Rattle.iscsi_target.specs.Machine.{answers}
use Rattle.iscsi_initiator.specs.State as initiator
use Rattle.iscsi_initiator.specs.State.{is_session_closed}
use Rattle.iscsi_login.specs.Stage.{is_closed_phase}
use Rattle.iscsi_initiator.specs.Login.{start_step}
use Rattle.iscsi_pair.specs.World.{World, Opening, IsOpening}
use Rattle.iscsi_pair.specs.Traffic.{Traffic, target_said, session_after_all, sent, coming}
use Rattle.iscsi_pair.proofs.Ends.InitiatorEnds.{InitiatorLives, begun}
use Rattle.iscsi_pair.proofs.Ends.TargetRun.{TargetLives, TargetOver}
use Rattle.iscsi_pair.proofs.Ends.BothRuns.{Sides}
use Rattle.iscsi_pair.proofs.Wire.PrefixLemmas.{Readable, IsFirst, first_is}
use Rattle.iscsi_pair.proofs.Login.RoundAgrees.{Round, Asks_on, asking_readable, asking_short, round, first_asks}
use Rattle.iscsi_pair.proofs.Login.Exchange.{Ended, LoginExchange, Way, Waiting, Closing, Agreeing, any_turns, anything, exchange_ends, first_reached}
use Rattle.iscsi_pair.proofs.Login.Exchange.{nothing_read}

-- no whole PDU waits in what an end holds
pub record HoldsNone (limit : ℕ) (rest : List ℕ) : Type 0 where
  pub none : NoPdu limit rest
  pub enough : 8192 ≤ limit

-- a message that was read as it was written does not wait there
not_waiting : (limit : ℕ) (logins : Logins) (rest more : List ℕ) (m : Message) → HoldsNone limit rest → Readable logins m
    → length (segment_bytes m.segment) ≤ 8192 → rest ≡ canonical_bytes m ++ more → ⊥
not_waiting limit logins rest more m h r short e = h.none (canonical_bytes m) (segment_bytes m.segment) more m.head e r.means (omega (arith, short, h.enough))

-- where the initiator receives no more, and each end holds no whole PDU of the other, the login is completed
none_waits : (ms : List Message) (w : Way) (i : initiator.InitiatorSession) (t : target.Machine) (disk : Disk) → IsOpening w.opening
    → LoginExchange w [] i t disk ms
    → HoldsNone w.target_limit w.left_there ⊎ (target_machine.is_machine_closed (answers false t disk ms).machine ≡ true)
    → HoldsNone w.initiator_limit w.left_here → ⊥
unfolding answers
none_waits [] w i t disk o x (inl h) there =
    not_waiting w.target_limit x.there w.left_there [] x.request h (asking_readable w.opening i t x.there x.request o x.asking)
    (asking_short w.opening i t x.there x.request x.asking)
    (ap (λ (z : List ℕ). z ++ w.left_there) (sym (nothing_read w.target_limit x.there x.given x.reads)) ∙ x.sends)
none_waits [] w i t disk o x (inr over) there = apart over (ap is_closed_phase x.asking.logs_in.phase)
none_waits (n ∷ ms) w i t disk o x here there =
    let c : Opening = w.opening in
    let r : Message = x.request in
    let one : (n ≡ r) × IsFirst w.target_limit x.there w.left_there (canon (sent i [])) r ms =
    first_is w.target_limit x.there x.given w.left_there (canon (sent i [])) n r ms (asking_readable c i t x.there r o x.asking) x.reads x.sends in
    let turn : Round c i (target_machine.target_step false t disk r) (logins_after x.there r.head) = round c i t x.there r disk o x.asking in
    let now : target.TargetStep = target_machine.target_step false t disk r in
    let later : target.TargetStep = answers false now.machine now.disk ms in
    let said_ : canon ((answers false t disk (n ∷ ms)).answers ++ w.extra) ≡ canonical_bytes turn.answer ++ canon (later.answers ++ w.extra) =
    ap (λ (v : Message). canon ((answers false t disk (v ∷ ms)).answers ++ w.extra)) one.0
    ∙ ap (λ (xs : List Message). canon ((xs ++ later.answers) ++ w.extra)) turn.is in
    not_waiting w.initiator_limit x.here w.left_here (canon (later.answers ++ w.extra)) turn.answer there (turn.readable x.here x.first) turn.short
    (ap (λ (z : List ℕ). z ++ w.left_here) (sym (nothing_read w.initiator_limit x.here x.received x.receives)) ∙ x.answered ∙ said_)

-- an exchange that has ended so
ended_idle : (w : Way) (r : target.Machine) (m : initiator.InitiatorSession) → IsOpening w.opening → Ended w (Unit {0}) anything r m
    → HoldsNone w.target_limit w.left_there ⊎ (target_machine.is_machine_closed r ≡ true) → HoldsNone w.initiator_limit w.left_here → is_session_closed m
    ≡ false
    → m.stage ≡ stages.Full
ended_idle w r m o (Waiting t disk ms p x is) here there live =
    absurd (none_waits ms w m t disk o x
    (subst (λ (z : target.Machine). HoldsNone w.target_limit w.left_there ⊎ (target_machine.is_machine_closed z ≡ true)) is here) there)
ended_idle w r m o (Closing may closed start) here there live = absurd (apart (ap is_closed_phase closed) live)
ended_idle w r m o (Agreeing stage held own) here there live = own

-- ---- worlds

-- an end that has given up every whole PDU holds none
holds_none : (moved : List ℕ) (ms : List Message) (v : Framing) (h : HasTaken moved ms v) → is_ready v ≡ false → 8192 ≤ v.limit → HoldsNone v.limit h.rest
holds_none moved ms v h unready le = record {
  none = (splits_taken moved ms v h (unready_of v.failed v.held h.live unready)).no_more;
  enough = le;
}

-- all that was queued was moved
all_moved : (moved queue queued : List ℕ) → queue ≡ [] → moved ++ queue ≡ queued → moved ≡ queued
all_moved moved queue queued none e = sym (append-nil moved) ∙ ap (λ (x : List ℕ). moved ++ x) (sym none) ∙ e

idle_open : (c : Opening) (u : Traffic) (w : World) (l : ℕ) (ms : List Message) (given rest : List ℕ) → IsOpening c → Sides c u w → w.to_target ≡ []
    → w.to_initiator ≡ []
    → (i : InitiatorLives [] c u.demands u.moved_to_initiator u.queued_for_target w.initiator) → is_session_closed w.initiator.machine ≡ false
    → ReadsAs l no_login given ms → u.moved_to_target ≡ given ++ rest → HoldsNone l rest ⊎ (target_machine.is_machine_closed (target_said c ms).machine ≡ true)
    → u.queued_for_initiator ≡ canon (target_said c ms).answers
    → w.initiator.machine.stage ≡ stages.Full
idle_open c u w l ms given rest o s none_out none_back i live p whole here out =
    let a : Asks_on c (start_step (initiator.new_session c.initiator)) (target.opening_machine c.target c.first_stat_sn) no_login = first_asks c o in
    let limit_ : 8192 ≤ w.initiator.framing.limit = (let e = i.limit in omega (arith, e)) in
    let e : given ++ rest ≡ canonical_bytes a.request ++ canon (sent (begun c) i.inputs) =
    sym whole ∙ all_moved u.moved_to_target w.to_target u.queued_for_target none_out s.to_target ∙ i.output
    ∙ ap (λ (x : List Message). canon (x ++ sent (begun c) i.inputs)) a.is in
    let f : i.taken.given ++ i.taken.rest ≡ canon (answers false (target.opening_machine c.target c.first_stat_sn) (disk_of c.blocks) ms).answers =
    sym i.taken.whole ∙ all_moved u.moved_to_initiator w.to_initiator u.queued_for_initiator none_back s.to_initiator ∙ out in
    let way : Way = record {
      opening = c;
      extra = [];
      target_limit = l;
      initiator_limit = w.initiator.framing.limit;
      left_there = rest;
      left_here = i.taken.rest;
    } in
    ap (λ (m : initiator.InitiatorSession). m.stage) i.machine
    ∙ ended_idle way (answers false (target.opening_machine c.target c.first_stat_sn) (disk_of c.blocks) ms).machine (session_after_all (begun c) i.inputs) o
    (exchange_ends i.inputs way (Unit {0}) anything (begun c) (target.opening_machine c.target c.first_stat_sn) (disk_of c.blocks) ms o (any_turns c) tt
    (record {
      there = no_login;
      here = no_login;
      request = a.request;
      asking = a.asking;
      first = refl;
      reached = first_reached c;
      given = given;
      reads = p;
      sends = e;
      received = i.taken.given;
      receives = i.taken.reads;
      answered = f ∙ ap canon (sym (append-nil (answers false (target.opening_machine c.target c.first_stat_sn) (disk_of c.blocks) ms).answers));
      only = inl refl;
    })) here (holds_none u.moved_to_initiator (coming i.inputs) w.initiator.framing i.taken i.unready limit_)
    (ap is_session_closed (sym i.machine) ∙ live)

by_ends : (b d : Bool) (c : Opening) (u : Traffic) (w : World) → is_session_closed w.initiator.machine ≡ b → target_machine.is_machine_closed w.target.machine
    ≡ d → IsOpening c
    → Sides c u w → w.to_target ≡ [] → w.to_initiator ≡ []
    → w.target_fault ≡ None → w.initiator_fault ≡ None → w.initiator.machine.stage ≡ stages.Full
by_ends true d c u w is there o s none_out none_back target_well well = (s.initiator.over well is).full
by_ends false true c u w is there o s none_out none_back target_well well =
    let t : TargetOver c u.moved_to_target u.queued_for_initiator w.target w.blocks = s.target.over target_well there in
    idle_open c u w (target_session.target_limit c.target) t.messages t.given t.rest o s none_out none_back (s.initiator.lives well is) is t.reads t.whole
    (inr t.closed) t.output
by_ends false false c u w is there o s none_out none_back target_well well =
    let t : TargetLives c u.moved_to_target u.queued_for_initiator w.target w.blocks = s.target.lives target_well there in
    let enough : 8192 ≤ w.target.framing.limit = (let e = t.limit in omega (arith, e)) in
    idle_open c u w w.target.framing.limit t.has.messages t.has.taken.given t.has.taken.rest o s none_out none_back (s.initiator.lives well is) is
    t.has.taken.reads t.has.taken.whole
    (inl (holds_none u.moved_to_target t.has.messages w.target.framing t.has.taken t.unready enough)) t.has.output_is

-- a pair with nothing on its way, of which no end has failed, has completed its login
pub world_idle : (c : Opening) (u : Traffic) (w : World) → IsOpening c → Sides c u w → w.to_target ≡ [] → w.to_initiator ≡ [] → w.target_fault ≡ None
    → w.initiator_fault ≡ None
    → w.initiator.machine.stage ≡ stages.Full
world_idle c u w o s none_out none_back target_well well =
    by_ends (is_session_closed w.initiator.machine) (target_machine.is_machine_closed w.target.machine) c u w refl refl o s none_out none_back target_well well
