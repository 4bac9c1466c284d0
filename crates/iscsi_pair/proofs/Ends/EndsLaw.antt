-- Where an end stands that hasn't failed, whether its session goes on or is over.
use Rattle.std.proofs.Common.{◌≡◌, ℕ, Bool, true, false, List, [], ◌++◌, None, refl, sym, subst, ◌∙◌}
use Rattle.std.proofs.lemmas.List.{append-nil}
use Rattle.iscsi_stream.specs.Segment.{no_login}
use Rattle.iscsi_stream.specs.Stream.{ReadsAs}
use Rattle.iscsi_stream.specs.Canonical.{canon}
use Rattle.iscsi_stream.proofs.ReadyLemmas.{apart}
use Rattle.iscsi_target.specs.Machine as target_machine
use Rattle.iscsi_initiator.specs.State.{new_session, is_session_closed}
use Rattle.iscsi_initiator.specs.Login.{start_step}
use Rattle.iscsi_initiator.specs.Laws.{SessionInput}
use Rattle.iscsi_pair.specs.World.{World, Opening, PairEvent, new_pair}
use Rattle.iscsi_pair.specs.Traffic.{Traffic, TracesTraffic, TargetStands, InitiatorStands, coming, first_traffic, sent}
use Rattle.iscsi_pair.proofs.Ends.TargetRun.{TargetSide, TargetLives, TargetOver}
use Rattle.iscsi_pair.proofs.Ends.InitiatorEnds.{InitiatorSide, streams, InitiatorLives, InitiatorOver, Follows, all_sent, begun}
use Rattle.iscsi_pair.proofs.Ends.BothRuns.{Sides, SidesFrom, reached_sides, traced_sides}
use Rattle.iscsi_stream.proofs.WritingLemmas.{canon_append}

target_by : (b : Bool) (c : Opening) (t : Traffic) (w : World) → target_machine.is_machine_closed w.target.machine ≡ b → w.target_fault ≡ None
    → TargetSide c t.moved_to_target t.queued_for_initiator w.target w.blocks w.target_fault → TargetStands c t w
target_by true c t w is none s =
    let o : TargetOver c t.moved_to_target t.queued_for_initiator w.target w.blocks = s.over none is in
    record {
      messages = o.messages;
      given = o.given;
      rest = o.rest;
      whole = o.whole;
      reads = o.reads;
      machine = o.machine;
      disk = o.disk;
      output = o.output;
      taken = λ live. absurd (apart is live);
      none_waits = λ live. absurd (apart is live);
    }
target_by false c t w is none s =
    let l : TargetLives c t.moved_to_target t.queued_for_initiator w.target w.blocks = s.lives none is in
    record {
      messages = l.has.messages;
      given = l.has.taken.given;
      rest = l.has.taken.rest;
      whole = l.has.taken.whole;
      reads = subst (λ (k : ℕ). ReadsAs k no_login l.has.taken.given l.has.messages) l.limit l.has.taken.reads;
      machine = l.has.machine;
      disk = l.has.disk_is;
      output = l.has.output_is;
      taken = λ live. l.has.taken;
      none_waits = λ live. l.unready;
    }

pub target_stands : (c : Opening) (t : Traffic) (w : World) → w.target_fault ≡ None
    → TargetSide c t.moved_to_target t.queued_for_initiator w.target w.blocks w.target_fault → TargetStands c t w
target_stands c t w none s = target_by (target_machine.is_machine_closed w.target.machine) c t w refl none s

-- where the initiator stands that met these inputs first
pub record StandsOn (past : List SessionInput) (c : Opening) (t : Traffic) (w : World) : Type 0 where
  pub inputs : List SessionInput
  pub follows : Follows past inputs
  pub stands : InitiatorStands c inputs t w

initiator_by : (b : Bool) (past : List SessionInput) (c : Opening) (t : Traffic) (w : World) → is_session_closed w.initiator.machine ≡ b → w.initiator_fault
    ≡ None
    → InitiatorSide past c t.demands (streams t.moved_to_initiator t.queued_for_target) w.initiator w.initiator_fault → StandsOn past c t w
initiator_by true past c t w is none s =
    let o : InitiatorOver past c t.demands t.moved_to_initiator t.queued_for_target w.initiator = s.over none is in
    record {
      inputs = o.inputs;
      follows = o.follows;
      stands = record {
        given = o.given;
        rest = o.rest;
        whole = o.whole;
        reads = o.reads;
        demands = o.order;
        machine = o.machine;
        output = o.output ∙ canon_append (start_step (new_session c.initiator)).output (sent (begun c) o.inputs);
        taken = λ live. absurd (apart is live);
        none_waits = λ live. absurd (apart is live);
      };
    }
initiator_by false past c t w is none s =
    let l : InitiatorLives past c t.demands t.moved_to_initiator t.queued_for_target w.initiator = s.lives none is in
    record {
      inputs = l.inputs;
      follows = l.follows;
      stands = record {
        given = l.taken.given;
        rest = l.taken.rest;
        whole = l.taken.whole;
        reads = subst (λ (k : ℕ). ReadsAs k no_login l.taken.given (coming l.inputs)) l.limit l.taken.reads;
        demands = l.order;
        machine = l.machine;
        output = l.output ∙ canon_append (start_step (new_session c.initiator)).output (sent (begun c) l.inputs);
        taken = λ live. l.taken;
        none_waits = λ live. l.unready;
      };
    }

stands_on : (past : List SessionInput) (c : Opening) (t : Traffic) (w : World) → w.initiator_fault ≡ None → SidesFrom past c t w → StandsOn past c t w
stands_on past c t w none s = initiator_by (is_session_closed w.initiator.machine) past c t w refl none s.initiator

pub initiator_stands : (c : Opening) (t : Traffic) (w : World) → w.initiator_fault ≡ None → Sides c t w → (inputs : List SessionInput)
    × InitiatorStands c inputs t w
initiator_stands c t w none s = let on : StandsOn [] c t w = stands_on [] c t w none s in (on.inputs, on.stands)

-- ---- in the order of the events

-- an initiator that stands so has met these inputs, and others only behind them
sides_from : (inputs : List SessionInput) (c : Opening) (t : Traffic) (w : World) → InitiatorStands c inputs t w → Sides c t w → SidesFrom inputs c t w
sides_from inputs c t w i s =
    let none_later : Follows inputs inputs = record { later = []; is = sym (append-nil inputs) } in
    let out : t.queued_for_target ≡ canon (all_sent c inputs) =
    i.output ∙ sym (canon_append (start_step (new_session c.initiator)).output (sent (begun c) inputs)) in
    record {
      to_target = s.to_target;
      to_initiator = s.to_initiator;
      target = s.target;
      initiator = record {
        front = s.initiator.front;
        failed = s.initiator.failed;
        over = λ none over. record {
          full = (s.initiator.over none over).full;
          inputs = inputs;
          given = i.given;
          rest = i.rest;
          whole = i.whole;
          reads = i.reads;
          order = i.demands;
          follows = none_later;
          machine = i.machine;
          output = out;
        };
        lives = λ none live. record {
          inputs = inputs;
          taken = i.taken live;
          order = i.demands;
          follows = none_later;
          machine = i.machine;
          output = out;
          unready = i.none_waits live;
          limit = (s.initiator.lives none live).limit;
        };
      };
    }

-- what it meets later stands behind
pub goes_on : (c : Opening) (past more : List PairEvent) (mid w : World) (u t : Traffic) (inputs : List SessionInput)
    → TracesTraffic (first_traffic c) (new_pair c) past mid u → InitiatorStands c inputs u mid
    → TracesTraffic u mid more w t → w.initiator_fault ≡ None → (later : List SessionInput) × InitiatorStands c (inputs ++ later) t w
goes_on c past more mid w u t inputs r i e none =
    let s : SidesFrom inputs c u mid = sides_from inputs c u mid i (reached_sides c past mid u r) in
    let on : StandsOn inputs c t w = stands_on inputs c t w none (traced_sides inputs c u mid more w t s e) in
    (on.follows.later, subst (λ (x : List SessionInput). InitiatorStands c x t w) on.follows.is on.stands)
