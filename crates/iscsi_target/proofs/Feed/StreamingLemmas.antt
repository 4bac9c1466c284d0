-- A call of feed in a stream that was answered so far.
use Rattle.std.proofs.Common.{Bool, ◌≡◌, inl, inr, ◌∙◌, ℕ, List, ◌++◌, true, false, length, take, sym, ap, subst, arith}
use Rattle.std.specs.Prelude.{Result, Ok, Err}
use Rattle.std.proofs.lemmas.List.{take_all}
use Rattle.iscsi_stream.specs.Framing.{Framing, HasTaken}
use Rattle.iscsi_stream.proofs.ReadyLemmas.{apart}
use Rattle.iscsi_login.specs.declared.phase.Phase.{Phase}
use Rattle.iscsi_target.specs.declared.fault.TargetFault.{TargetFault}
use Rattle.iscsi_target.specs.declared.fault.TargetFault.TheVariants as faults
use Rattle.iscsi_target.specs.State.{TargetStep}
use Rattle.iscsi_target.specs.State.{writes_joined}
use Rattle.iscsi_target.specs.Machine.{is_machine_closed, answers}
use Rattle.iscsi_target.specs.Feed.{Beginning, Scene, OutputStands, FeedsFirstBytes, CallEnds, HasAnswered}
use Rattle.iscsi_target.proofs.Steps.ClosingLemmas.{answers_close}
use Rattle.iscsi_target.proofs.Feed.FedStreamLemmas.{told}

-- the session goes on, and the whole piece was taken
went_on : (protected : Bool) (begin : Beginning) (stream : List ℕ) (from : Scene) (piece : List ℕ)
    (result : Result Phase TargetFault) (to : Scene)
    → (f : FeedsFirstBytes protected from piece result to)
    → OutputStands from.output f.stepped f.answered.failures to.store to.output
    → to.store.failures ≡ from.store.failures →
    HasAnswered protected begin stream from.connection from.store.disk from.output
    → f.count ≡ length piece → to.connection.framing ≡ f.framing → to.connection.machine ≡ writes_joined f.stepped.machine →
    HasAnswered protected begin (stream ++ piece) to.connection to.store.disk to.output
went_on protected begin stream from piece result to f stood works h all framing machine =
    let t = told protected begin stream from (take f.count piece) f.framing f.messages f.stepped f.answered.failures to.store
    to.output h f.answered stood
    works in
    let whole : take f.count piece ≡ piece = take_all f.count piece (omega (arith, all)) in
    record {
      messages = h.messages ++ f.messages;
      taken = subst (λ (v : Framing). HasTaken (stream ++ piece) (h.messages ++ f.messages) v) (sym framing)
          (subst (λ (x : List ℕ). HasTaken (stream ++ x) (h.messages ++ f.messages) f.framing) whole (f.answered.taken stream h.messages h.taken));
      machine = machine ∙ t.machine;
      disk_is = t.disk_is;
      output_is = t.output_is;
    }

by_end : (protected : Bool) (begin : Beginning) (stream : List ℕ) (from : Scene) (piece : List ℕ)
    (result : Result Phase TargetFault) (to : Scene)
    → (f : FeedsFirstBytes protected from piece result to) → to.store.failures ≡ from.store.failures
    → is_machine_closed to.connection.machine ≡ false →
    HasAnswered protected begin stream from.connection from.store.disk from.output
    → CallEnds piece result f.framing f.count f.stepped to.connection → HasAnswered protected begin (stream ++ piece) to.connection to.store.disk to.output
by_end protected begin stream from piece (Ok phase) to f works live h e =
    elim e.3 [
      | inl over ↦ absurd (apart (ap is_machine_closed e.1 ∙ over) live)
      | inr on ↦ went_on protected begin stream from piece (Ok phase) to f f.leaves works h on.all on.framing_is e.1
    ]
by_end protected begin stream from piece (Err faults.NoMemory) to f works live h e = absurd
    (apart (ap is_machine_closed f.leaves.shut) live)
by_end protected begin stream from piece (Err (faults.Stream fault)) to f works live h e = absurd
    (apart (ap is_machine_closed e.3) live)
by_end protected begin stream from piece (Err (faults.Protocol rule)) to f works live h e =
    let is : f.stepped ≡ answers protected from.connection.machine from.store.disk f.messages = f.answered.works works in
    let over : is_machine_closed f.stepped.machine ≡ true =
    ap (λ (r : TargetStep). is_machine_closed r.machine) is ∙ answers_close protected from.connection.machine from.store.disk f.messages rule
    (ap (λ (r : TargetStep). r.rule) (sym is) ∙ e.0) in
    absurd (apart (ap is_machine_closed e.1 ∙ over) live)
by_end protected begin stream from piece (Err faults.Closed) to f works live h e = absurd e

pub goes_on : (protected : Bool) (begin : Beginning) (stream : List ℕ) (from : Scene)
    (piece : List ℕ)
    (result : Result Phase TargetFault) (to : Scene)
    → FeedsFirstBytes protected from piece result to → to.store.failures ≡ from.store.failures → is_machine_closed to.connection.machine
    ≡ false →
    HasAnswered protected begin stream from.connection from.store.disk from.output
    → HasAnswered protected begin (stream ++ piece) to.connection to.store.disk to.output
goes_on protected begin stream from piece result to f works live h =
    by_end protected begin stream from piece result to f works live h f.ends
