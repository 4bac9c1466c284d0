-- Both ends of a pair, in every world that it comes to.
use Rattle.std.proofs.Common.{◌≡◌, ℕ, Bool, true, false, List, [], ◌∷◌, ◌++◌, length, take, drop, Option, Some, None, Result, Ok, Err, inl, inr, refl, sym, ap}
use Rattle.std.proofs.Common.{◌∙◌, subst, append_assoc}
use Rattle.std.specs.Result.{result_err}
use Rattle.std.proofs.Math.Seq.{drop-append_seam, drop-length}
use Rattle.std.proofs.lemmas.List.{append-nil, take-append-drop, length-take, drop_min}
use Rattle.iscsi_stream.specs.Canonical.{canon}
use Rattle.iscsi_stream.specs.declared.fault.StreamFault.{StreamFault}
use Rattle.iscsi_stream.specs.declared.fault.StreamFault.TheVariants as stream
use Rattle.iscsi_login.specs.declared.phase.Phase.{Phase}
use Rattle.iscsi_target.specs.declared.fault.TargetFault.{TargetFault}
use Rattle.iscsi_target.specs.declared.fault.TargetFault.TheVariants as target_faults
use Rattle.iscsi_target.specs.State.{Machine, TargetStep}
use Rattle.iscsi_stream.specs.Framing.{Framing}
use Rattle.iscsi_target.specs.Machine as target_machine
use Rattle.iscsi_target.specs.Feed as target
use Rattle.iscsi_initiator.specs.declared.fault.InitiatorFault.{InitiatorFault}
use Rattle.iscsi_initiator.specs.declared.fault.InitiatorFault.TheVariants as faults
use Rattle.iscsi_initiator.specs.declared.request.Request.{Request}
use Rattle.iscsi_initiator.specs.declared.request.Refused.{Refused}
use Rattle.iscsi_initiator.specs.Submitted.{submitted}
use Rattle.iscsi_initiator.specs.Calls as initiator
use Rattle.iscsi_initiator.specs.Calls.{received_steps}
use Rattle.iscsi_pair.specs.declared.step.EndFault.{EndFault}
use Rattle.iscsi_pair.specs.World.{World, Opening, PairEvent, ToTarget, ToInitiator, Submits, Takes, TargetReceives, InitiatorReceives, MovesToTarget}
use Rattle.iscsi_pair.specs.World.{MovesToInitiator, RequestHandedIn, PairEventStep, PairRuns, new_pair, reliable_store, feed_fault, submit_fault}
use Rattle.iscsi_initiator.specs.Laws as inputs
use Rattle.iscsi_pair.specs.Traffic.{Traffic, first_traffic, bytes_behind, traffic_after, TracesTraffic}
use Rattle.iscsi_pair.proofs.Ends.TargetRun.{TargetSide, target_received, opening_side as target_opening, front_drops as target_drops}
use Rattle.iscsi_pair.proofs.Ends.TargetRun.{failed_drops as target_failed}
use Rattle.iscsi_pair.proofs.Ends.InitiatorEnds.{InitiatorSide, streams, fault_drops}
use Rattle.iscsi_pair.proofs.Ends.InitiatorPieces.{initiator_received}
use Rattle.iscsi_pair.proofs.Ends.InitiatorRun.{initiator_asked, initiator_took_outcome, failed_drops}
use Rattle.iscsi_pair.proofs.Ends.InitiatorEnds.{opening_side as initiator_opening, front_drops as initiator_drops}

-- what holds of a world and of what went between its ends, where the initiator met these inputs first
pub record SidesFrom (past : List inputs.SessionInput) (c : Opening) (t : Traffic) (w : World) : Type 0 where
  pub to_target : t.moved_to_target ++ w.to_target ≡ t.queued_for_target
  pub to_initiator : t.moved_to_initiator ++ w.to_initiator ≡ t.queued_for_initiator
  pub target : TargetSide c t.moved_to_target t.queued_for_initiator w.target w.blocks w.target_fault
  pub initiator : InitiatorSide past c t.demands (streams t.moved_to_initiator t.queued_for_target) w.initiator w.initiator_fault

abbrev pub Sides : Opening → Traffic → World → Type 0
Sides c t w = SidesFrom [] c t w

pub opening_sides : (c : Opening) → Sides c (first_traffic c) (new_pair c)
opening_sides c = record { to_target = refl; to_initiator = refl; target = target_opening c; initiator = initiator_opening c }

-- ---- queues

-- bytes were added behind those that stood there
pub record Grows (before after : List ℕ) : Type 0 where
  pub more : List ℕ
  pub is : after ≡ before ++ more

grown : (before after : List ℕ) → Grows before after → before ++ bytes_behind before after ≡ after
grown before after g =
    ap (λ (x : List ℕ). before ++ drop (length before) x) g.is ∙ ap (λ (x : List ℕ). before ++ x) (drop-append_seam before g.more) ∙ sym g.is

-- what stands behind a queue is queued too
queued_more : (moved before after queued : List ℕ) → Grows before after → moved ++ before ≡ queued → moved ++ after ≡ queued ++ bytes_behind before after
queued_more moved before after queued g e =
    ap (λ (x : List ℕ). moved ++ x) (sym (grown before after g)) ∙ sym (append_assoc moved before (bytes_behind before after))
    ∙ ap (λ (x : List ℕ). x ++ bytes_behind before after) e

-- the first bytes of a queue move
moved_front : (moved queue queued : List ℕ) (k : ℕ) → moved ++ queue ≡ queued → (moved ++ take k queue) ++ drop (length (take k queue)) queue ≡ queued
moved_front moved queue queued k e =
    append_assoc moved (take k queue) (drop (length (take k queue)) queue)
    ∙ ap (λ (x : List ℕ). moved ++ (take k queue ++ x)) (ap (λ (i : ℕ). drop i queue) (length-take k queue) ∙ drop_min k queue)
    ∙ ap (λ (x : List ℕ). moved ++ x) (take-append-drop k queue) ∙ e

grows_none : (before after : List ℕ) → after ≡ before → Grows before after
grows_none before after e = record { more = []; is = e ∙ sym (append-nil before) }

leaves_grow : (result : Result Phase TargetFault) (output : List ℕ) (framing : Framing) (rest : List ℕ) (r : TargetStep) (counted : ℕ) (new : Machine)
    (after : target.Store) (written : List ℕ)
    → target.CallLeaves false result output (target.remainder framing rest r counted) new after written → Grows output written
leaves_grow (Ok phase) output framing rest r counted new after written l = record { more = canon r.answers; is = l.output_is }
leaves_grow (Err target_faults.NoMemory) output framing rest r counted new after written l = record {
  more = canon (r.answers ++ l.front.answers);
  is =
      l.output_is;
}
leaves_grow (Err (target_faults.Stream fault)) output framing rest r counted new after written l = record { more = canon r.answers; is = l.output_is }
leaves_grow (Err (target_faults.Protocol rule)) output framing rest r counted new after written l = record { more = canon r.answers; is = l.output_is }
leaves_grow (Err target_faults.Closed) output framing rest r counted new after written l = record { more = canon r.answers; is = l.output_is }

target_grows : (b : Bool) (old : target.TargetConnection) (before : target.Store) (output piece : List ℕ) (result : Result Phase TargetFault)
    (new : target.TargetConnection) (after : target.Store) (written : List ℕ)
    → target.FeedPostIfClosed false b (target.scene old before output) piece result (target.scene new after written) → Grows output written
target_grows true old before output piece result new after written f = grows_none output written f.output_is
target_grows false old before output piece result new after written f =
    leaves_grow result output f.framing (drop f.count piece) f.stepped f.answered.failures new.machine after written f.leaves

stream_grows : (fault : StreamFault) (old : initiator.InitiatorConnection) (piece : List ℕ) (new : initiator.InitiatorConnection) (before after : List ℕ)
    → initiator.InitiatorFeedPost (Err (faults.Stream fault)) old piece new before after → Grows before after
stream_grows stream.NoMemory old piece new before after e = absurd e
stream_grows (stream.Head fault place) old piece new before after e = record { more = canon (received_steps old piece e.0).output; is = e.1.output }
stream_grows (stream.OverLimit place) old piece new before after e = record { more = canon (received_steps old piece e.0).output; is = e.1.output }
stream_grows (stream.Truncated place) old piece new before after e = record { more = canon (received_steps old piece e.0).output; is = e.1.output }
stream_grows stream.Failed old piece new before after e = record { more = canon (received_steps old piece e.0).output; is = e.1.output }

initiator_grows : (result : Result Phase InitiatorFault) (old : initiator.InitiatorConnection) (piece : List ℕ) (new : initiator.InitiatorConnection)
    (before after : List ℕ)
    → initiator.InitiatorFeedPost result old piece new before after → Grows before after
initiator_grows (Ok phase) old piece new before after e =
    elim e.1.1 [
      | inl all ↦ record { more = canon (received_steps old piece e.1.0).output; is = all.output }
      | inr over ↦ record { more = canon (received_steps old piece e.1.0).output; is = over.0.output }
    ]
initiator_grows (Err faults.NoMemory) old piece new before after e = grows_none before after e.1.output
initiator_grows (Err (faults.Stream fault)) old piece new before after e = stream_grows fault old piece new before after e
initiator_grows (Err (faults.Protocol rule)) old piece new before after e = record { more = canon (received_steps old piece e.0).output; is = e.1.output }
initiator_grows (Err (faults.Refused class detail)) old piece new before after e =
    record { more = canon (received_steps old piece e.0).output; is = e.1.output }
initiator_grows (Err (faults.BadAnswer key)) old piece new before after e = record { more = canon (received_steps old piece e.0).output; is = e.1.output }
initiator_grows (Err faults.Closed) old piece new before after e = grows_none before after e.output

asked_grows : (result : Result (Unit {0}) Refused) (old : initiator.InitiatorConnection) (request : Request) (new : initiator.InitiatorConnection)
    (before after : List ℕ)
    → initiator.InitiatorSubmitPost result old request new before after → Grows before after
asked_grows (Ok done) old request new before after e = record { more = canon (submitted old.machine request).output; is = e.output }
asked_grows (Err refused) old request new before after e = grows_none before after e.output

-- ---- one event

same_traffic : (past : List inputs.SessionInput) (c : Opening) (t u : Traffic) (w : World) → u ≡ t → SidesFrom past c t w → SidesFrom past c u w
same_traffic past c t u w e s = subst (λ (x : Traffic). SidesFrom past c x w) (sym e) s

-- what an event adds that moves these bytes to the target
abbrev to_target_adds : Traffic → World → List ℕ → World → Traffic
to_target_adds t old moved new = record t {
  moved_to_target = t.moved_to_target ++ moved;
  queued_for_initiator = t.queued_for_initiator ++ bytes_behind old.to_initiator new.to_initiator;
}

abbrev to_initiator_adds : Traffic → World → List ℕ → World → Traffic
to_initiator_adds t old moved new = record t {
  moved_to_initiator = t.moved_to_initiator ++ moved;
  queued_for_target = t.queued_for_target ++ bytes_behind old.to_target new.to_target;
}

nothing_behind : (queued x : List ℕ) → queued ++ bytes_behind x x ≡ queued
nothing_behind queued x = ap (λ (y : List ℕ). queued ++ y) (drop-length x) ∙ append-nil queued

to_target_none : (t : Traffic) (w : World) → to_target_adds t w [] w ≡ t
to_target_none t w = λ i. record {
  moved_to_target = append-nil t.moved_to_target i;
  moved_to_initiator = t.moved_to_initiator;
  queued_for_target = t.queued_for_target;
  queued_for_initiator = nothing_behind t.queued_for_initiator w.to_initiator i;
  demands = t.demands;
}

to_initiator_none : (t : Traffic) (w : World) → to_initiator_adds t w [] w ≡ t
to_initiator_none t w = λ i. record {
  moved_to_target = t.moved_to_target;
  moved_to_initiator = append-nil t.moved_to_initiator i;
  queued_for_target = nothing_behind t.queued_for_target w.to_target i;
  queued_for_initiator = t.queued_for_initiator;
  demands = t.demands;
}

target_receives : (past : List inputs.SessionInput) (c : Opening) (t : Traffic) (old new : World) (k : ℕ) (moved : List ℕ) → moved ≡ take k old.to_target
    → old.target_fault ≡ None → SidesFrom past c t old → TargetReceives moved old new
    → SidesFrom past c (to_target_adds t old moved new) new
target_receives past c t old new k moved m none s h =
    let g : Grows old.to_initiator new.to_initiator = target_grows (target_machine.is_machine_closed old.target.machine) old.target (reliable_store old.blocks)
    old.to_initiator moved h.result new.target (reliable_store new.blocks) new.to_initiator h.fed in
    let q : t.moved_to_initiator ++ new.to_initiator ≡ t.queued_for_initiator ++ bytes_behind old.to_initiator new.to_initiator =
    queued_more t.moved_to_initiator old.to_initiator new.to_initiator t.queued_for_initiator g s.to_initiator in
    let side : TargetSide c (t.moved_to_target ++ moved) (t.moved_to_initiator ++ new.to_initiator) new.target new.blocks (result_err h.result) =
    target_received c t.moved_to_target t.moved_to_initiator old.to_initiator moved old.target old.blocks h.result new.target new.blocks new.to_initiator
    (subst (λ (x : Option TargetFault). TargetSide c t.moved_to_target (t.moved_to_initiator ++ old.to_initiator) old.target old.blocks x) none
    (subst (λ (x : List ℕ). TargetSide c t.moved_to_target x old.target old.blocks old.target_fault) (sym s.to_initiator) s.target))
    h.fed in
    record {
      to_target = ap (λ (x : List ℕ). (t.moved_to_target ++ moved) ++ x) h.dropped
          ∙ ap (λ (x : List ℕ). (t.moved_to_target ++ x) ++ drop (length x) old.to_target) m
          ∙ moved_front t.moved_to_target old.to_target t.queued_for_target k s.to_target;
      to_initiator = q;
      target = subst (λ (x : Option TargetFault). TargetSide c (t.moved_to_target ++ moved)
          (t.queued_for_initiator ++ bytes_behind old.to_initiator new.to_initiator)
          new.target new.blocks x) (sym h.fault)
          (subst (λ (x : List ℕ). TargetSide c (t.moved_to_target ++ moved) x new.target new.blocks (result_err h.result)) q side);
      initiator = subst (λ (x : Option EndFault). InitiatorSide past c t.demands (streams t.moved_to_initiator t.queued_for_target) new.initiator x)
          (sym h.other_fault)
          (subst (λ (x : initiator.InitiatorConnection). InitiatorSide past c t.demands (streams t.moved_to_initiator t.queued_for_target) x
          old.initiator_fault)
          (sym h.initiator)
          s.initiator);
    }

moves_to_target : (fault : Option TargetFault) (moved : List ℕ) (past : List inputs.SessionInput) (c : Opening) (t : Traffic) (old new : World) (k : ℕ)
    → old.target_fault ≡ fault → moved ≡ take k old.to_target → SidesFrom past c t old
    → MovesToTarget fault moved old new → SidesFrom past c (to_target_adds t old moved new) new
moves_to_target fault [] past c t old new k f m s e =
    subst (λ (w : World). SidesFrom past c (to_target_adds t old [] w) w) (sym e) (same_traffic past c t (to_target_adds t old [] old) old
    (to_target_none t old) s)
moves_to_target None (byte ∷ bytes) past c t old new k f m s e = target_receives past c t old new k (byte ∷ bytes) m f s e
moves_to_target (Some fault) (byte ∷ bytes) past c t old new k f m s e =
    let moved : List ℕ = byte ∷ bytes in
    let w : World = record old { to_target = drop (length moved) old.to_target } in
    let q : t.queued_for_initiator ++ bytes_behind old.to_initiator old.to_initiator ≡ t.queued_for_initiator =
    nothing_behind t.queued_for_initiator old.to_initiator in
    let side : TargetSide c (t.moved_to_target ++ moved) t.queued_for_initiator old.target old.blocks old.target_fault = record {
      front = target_drops c t.moved_to_target moved t.queued_for_initiator old.target old.target_fault s.target.front;
      failed = target_failed old.target_fault c t.moved_to_target moved t.queued_for_initiator old.target s.target.failed;
      over = λ none over. absurd (let bad : Some fault ≡ None = sym f ∙ none in cc);
      lives = λ none live. absurd (let bad : Some fault ≡ None = sym f ∙ none in cc);
    } in
    let there : SidesFrom past c (to_target_adds t old moved w) w = record {
      to_target = ap (λ (x : List ℕ). (t.moved_to_target ++ x) ++ drop (length x) old.to_target) m ∙ moved_front t.moved_to_target old.to_target
          t.queued_for_target k s.to_target;
      to_initiator = s.to_initiator ∙ sym q;
      target = subst (λ (x : List ℕ). TargetSide c (t.moved_to_target ++ moved) x old.target old.blocks old.target_fault) (sym q) side;
      initiator = s.initiator;
    } in
    subst (λ (x : World). SidesFrom past c (to_target_adds t old moved x) x) (sym e) there

initiator_receives : (past : List inputs.SessionInput) (c : Opening) (t : Traffic) (old new : World) (k : ℕ) (moved : List ℕ) → moved ≡ take k old.to_initiator
    → old.initiator_fault ≡ None → SidesFrom past c t old → InitiatorReceives moved old new
    → SidesFrom past c (to_initiator_adds t old moved new) new
initiator_receives past c t old new k moved m none s h =
    let g : Grows old.to_target new.to_target = initiator_grows h.result old.initiator moved new.initiator old.to_target new.to_target h.fed in
    let q : t.moved_to_target ++ new.to_target ≡ t.queued_for_target ++ bytes_behind old.to_target new.to_target =
    queued_more t.moved_to_target old.to_target new.to_target t.queued_for_target g s.to_target in
    let side : InitiatorSide past c t.demands (streams (t.moved_to_initiator ++ moved) (t.moved_to_target ++ new.to_target)) new.initiator
    (feed_fault (result_err h.result)) =
    initiator_received h.result past c t.demands t.moved_to_initiator t.moved_to_target old.to_target moved new.to_target old.initiator new.initiator
    (subst (λ (x : Option EndFault). InitiatorSide past c t.demands (streams t.moved_to_initiator (t.moved_to_target ++ old.to_target)) old.initiator x) none
    (subst (λ (x : List ℕ). InitiatorSide past c t.demands (streams t.moved_to_initiator x) old.initiator old.initiator_fault) (sym s.to_target) s.initiator))
    h.fed in
    record {
      to_initiator = ap (λ (x : List ℕ). (t.moved_to_initiator ++ moved) ++ x) h.dropped
          ∙ ap (λ (x : List ℕ). (t.moved_to_initiator ++ x) ++ drop (length x) old.to_initiator) m
          ∙ moved_front t.moved_to_initiator old.to_initiator t.queued_for_initiator k s.to_initiator;
      to_target = q;
      initiator = subst (λ (x : Option EndFault). InitiatorSide past c t.demands
          (streams (t.moved_to_initiator ++ moved) (t.queued_for_target ++ bytes_behind old.to_target new.to_target)) new.initiator x) (sym h.fault)
          (subst (λ (x : List ℕ). InitiatorSide past c t.demands (streams (t.moved_to_initiator ++ moved) x) new.initiator (feed_fault (result_err h.result))) q
          side);
      target = subst (λ (x : Option TargetFault). TargetSide c t.moved_to_target t.queued_for_initiator new.target new.blocks x) (sym h.other_fault)
          (subst (λ (x : List ℕ). TargetSide c t.moved_to_target t.queued_for_initiator new.target x old.target_fault) (sym h.blocks)
          (subst (λ (x : target.TargetConnection). TargetSide c t.moved_to_target t.queued_for_initiator x old.blocks old.target_fault) (sym h.target)
          s.target));
    }

moves_to_initiator : (fault : Option EndFault) (moved : List ℕ) (past : List inputs.SessionInput) (c : Opening) (t : Traffic) (old new : World) (k : ℕ)
    → old.initiator_fault ≡ fault → moved ≡ take k old.to_initiator → SidesFrom past c t old
    → MovesToInitiator fault moved old new → SidesFrom past c (to_initiator_adds t old moved new) new
moves_to_initiator fault [] past c t old new k f m s e =
    subst (λ (w : World). SidesFrom past c (to_initiator_adds t old [] w) w) (sym e) (same_traffic past c t (to_initiator_adds t old [] old) old
    (to_initiator_none t old) s)
moves_to_initiator None (byte ∷ bytes) past c t old new k f m s e = initiator_receives past c t old new k (byte ∷ bytes) m f s e
moves_to_initiator (Some fault) (byte ∷ bytes) past c t old new k f m s e =
    let moved : List ℕ = byte ∷ bytes in
    let w : World = record old { to_initiator = drop (length moved) old.to_initiator } in
    let q : t.queued_for_target ++ bytes_behind old.to_target old.to_target ≡ t.queued_for_target = nothing_behind t.queued_for_target old.to_target in
    let side : InitiatorSide past c t.demands (streams (t.moved_to_initiator ++ moved) t.queued_for_target) old.initiator old.initiator_fault = record {
      front = initiator_drops c t.moved_to_initiator moved t.queued_for_target old.initiator s.initiator.front;
      failed = fault_drops old.initiator_fault c t.moved_to_initiator moved t.queued_for_target old.initiator s.initiator.failed;
      over = λ none over. absurd (let bad : Some fault ≡ None = sym f ∙ none in cc);
      lives = λ none live. absurd (let bad : Some fault ≡ None = sym f ∙ none in cc);
    } in
    let there : SidesFrom past c (to_initiator_adds t old moved w) w = record {
      to_initiator = ap (λ (x : List ℕ). (t.moved_to_initiator ++ x) ++ drop (length x) old.to_initiator) m ∙ moved_front t.moved_to_initiator old.to_initiator
          t.queued_for_initiator k s.to_initiator;
      to_target = s.to_target ∙ sym q;
      initiator = subst (λ (x : List ℕ). InitiatorSide past c t.demands (streams (t.moved_to_initiator ++ moved) x) old.initiator old.initiator_fault) (sym q)
          side;
      target = s.target;
    } in
    subst (λ (x : World). SidesFrom past c (to_initiator_adds t old moved x) x) (sym e) there

abbrev asks_adds : Traffic → World → Request → World → Traffic
asks_adds t old request new = record t {
  queued_for_target = t.queued_for_target ++ bytes_behind old.to_target new.to_target;
  demands = t.demands ++ inputs.Asks request ∷ [];
}

asks : (fault : Option EndFault) (past : List inputs.SessionInput) (c : Opening) (t : Traffic) (old new : World) (request : Request) → old.initiator_fault
    ≡ fault
    → SidesFrom past c t old
    → RequestHandedIn fault request old new → SidesFrom past c (asks_adds t old request new) new
asks (Some fault) past c t old new request f s e =
    let q : t.queued_for_target ++ bytes_behind old.to_target old.to_target ≡ t.queued_for_target = nothing_behind t.queued_for_target old.to_target in
    let there : SidesFrom past c (asks_adds t old request old) old = record {
      to_target = s.to_target ∙ sym q;
      to_initiator = s.to_initiator;
      target = s.target;
      initiator = subst (λ (x : List ℕ). InitiatorSide past c (t.demands ++ inputs.Asks request ∷ []) (streams t.moved_to_initiator x) old.initiator
          old.initiator_fault)
          (sym q)
          (failed_drops past c t.demands (inputs.Asks request ∷ []) t.moved_to_initiator t.queued_for_target old.initiator old.initiator_fault fault f
          s.initiator);
    } in
    subst (λ (w : World). SidesFrom past c (asks_adds t old request w) w) (sym e) there
asks None past c t old new request f s h =
    let g : Grows old.to_target new.to_target = asked_grows h.result old.initiator request new.initiator old.to_target new.to_target h.submitted in
    let q : t.moved_to_target ++ new.to_target ≡ t.queued_for_target ++ bytes_behind old.to_target new.to_target =
    queued_more t.moved_to_target old.to_target new.to_target t.queued_for_target g s.to_target in
    let side : InitiatorSide past c (t.demands ++ inputs.Asks request ∷ []) (streams t.moved_to_initiator (t.moved_to_target ++ new.to_target)) new.initiator
    (submit_fault (result_err h.result)) =
    initiator_asked h.result past c t.demands t.moved_to_initiator t.moved_to_target old.to_target new.to_target old.initiator new.initiator request
    (subst (λ (x : Option EndFault). InitiatorSide past c t.demands (streams t.moved_to_initiator (t.moved_to_target ++ old.to_target)) old.initiator x) f
    (subst (λ (x : List ℕ). InitiatorSide past c t.demands (streams t.moved_to_initiator x) old.initiator old.initiator_fault) (sym s.to_target) s.initiator))
    h.submitted in
    record {
      to_target = q;
      to_initiator = ap (λ (x : List ℕ). t.moved_to_initiator ++ x) h.queue ∙ s.to_initiator;
      initiator = subst (λ (x : Option EndFault). InitiatorSide past c (t.demands ++ inputs.Asks request ∷ [])
          (streams t.moved_to_initiator (t.queued_for_target ++ bytes_behind old.to_target new.to_target)) new.initiator x) (sym h.fault)
          (subst (λ (x : List ℕ). InitiatorSide past c (t.demands ++ inputs.Asks request ∷ []) (streams t.moved_to_initiator x) new.initiator
          (submit_fault (result_err h.result))) q side);
      target = subst (λ (x : Option TargetFault). TargetSide c t.moved_to_target t.queued_for_initiator new.target new.blocks x) (sym h.other_fault)
          (subst (λ (x : List ℕ). TargetSide c t.moved_to_target t.queued_for_initiator new.target x old.target_fault) (sym h.blocks)
          (subst (λ (x : target.TargetConnection). TargetSide c t.moved_to_target t.queued_for_initiator x old.blocks old.target_fault) (sym h.target)
          s.target));
    }

pub happens_sides : (past : List inputs.SessionInput) (c : Opening) (t : Traffic) (old : World) (event : PairEvent) (new : World) → SidesFrom past c t old
    → PairEventStep old event new → SidesFrom past c (traffic_after t old event new) new
happens_sides past c t old (ToTarget k) new s e = moves_to_target old.target_fault (take k old.to_target) past c t old new k refl refl s e
happens_sides past c t old (ToInitiator k) new s e = moves_to_initiator old.initiator_fault (take k old.to_initiator) past c t old new k refl refl s e
happens_sides past c t old (Submits request) new s e = asks old.initiator_fault past c t old new request refl s e
happens_sides past c t old Takes new s e =
    let w : World = record old { initiator = initiator.after_taking old.initiator } in
    let u : Traffic = record t { demands = t.demands ++ inputs.Takes ∷ [] } in
    let there : SidesFrom past c u w = record {
      to_target = s.to_target;
      to_initiator = s.to_initiator;
      target = s.target;
      initiator = initiator_took_outcome past c t.demands t.moved_to_initiator t.queued_for_target old.initiator old.initiator_fault s.initiator;
    } in
    subst (λ (x : World). SidesFrom past c u x) (sym e) there

-- ---- any events

pub traced_sides : (past : List inputs.SessionInput) (c : Opening) (t : Traffic) (old : World) (events : List PairEvent) (new : World) (u : Traffic)
    → SidesFrom past c t old → TracesTraffic t old events new u → SidesFrom past c u new
unfolding TracesTraffic
traced_sides past c t old [] new u s e = subst (λ (x : Traffic). SidesFrom past c x new) (sym e.1) (subst (λ (w : World). SidesFrom past c t w) (sym e.0) s)
traced_sides past c t old (event ∷ events) new u s e =
    traced_sides past c (traffic_after t old event e.0) e.0 events new u (happens_sides past c t old event e.0 s e.1) e.2

-- every run can be traced
pub traced : (t : Traffic) (old : World) (events : List PairEvent) (new : World) → PairRuns old events new → (u : Traffic) × TracesTraffic t old events new u
unfolding TracesTraffic PairRuns
traced t old [] new e = (t, (e, refl))
traced t old (event ∷ events) new e =
    let r = traced (traffic_after t old event e.0) e.0 events new e.2 in
    (r.0, (e.0, e.1, r.1))

pub reached_sides : (c : Opening) (events : List PairEvent) (new : World) (u : Traffic) → TracesTraffic (first_traffic c) (new_pair c) events new u
    → Sides c u new
reached_sides c events new u e = traced_sides [] c (first_traffic c) (new_pair c) events new u (opening_sides c) e
