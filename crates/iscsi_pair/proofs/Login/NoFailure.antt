-- No end closes before its login is completed, where both suit each other.
use Rattle.std.proofs.Common.{◌≡◌, ◌≤◌, ◌⊎◌, inl, inr, ℕ, false, List, [], ◌∷◌, ◌++◌, length, refl, sym, ap, ◌∙◌, subst}
use Rattle.std.proofs.lemmas.List.{append-nil}
use Rattle.scsi_disk.specs.Disk.{Disk}
use Rattle.iscsi_stream.specs.declared.logins.Logins.{Logins}
use Rattle.iscsi_stream.specs.Segment.{segment_bytes, logins_after}
use Rattle.iscsi_stream.specs.Stream.{Message, ReadsAs}
use Rattle.iscsi_stream.specs.Canonical.{canon, canonical_bytes}
use Rattle.iscsi_login.specs.declared.stage.Stage.TheVariants as stages
use Rattle.iscsi_target.specs.State as target
use Rattle.iscsi_target.specs.Machine as target_machine
use Rattle.iscsi_target.specs.Machine.{answers}
use Rattle.iscsi_initiator.specs.State as initiator
use Rattle.iscsi_initiator.specs.State.{is_session_closed}
use Rattle.iscsi_login.specs.Stage.{is_closed_phase}
use Rattle.iscsi_initiator.specs.Machine.{initiator_step}
use Rattle.iscsi_pair.specs.World.{Opening, IsOpening, SuitEachOther}
use Rattle.iscsi_pair.specs.Traffic.{session_after_all}
use Rattle.iscsi_initiator.specs.Laws.{SessionInput}
use Rattle.iscsi_pair.proofs.Wire.PrefixLemmas.{Readable, IsFirst, first_is}
use Rattle.iscsi_pair.proofs.Login.RoundAgrees.{Asking, Round, asking_readable, asking_short, round}
use Rattle.iscsi_pair.proofs.Login.RoundBegins.{Suited}
use Rattle.iscsi_pair.proofs.Login.RoundProgress.{Well, goes_well}
use Rattle.iscsi_pair.proofs.Login.Exchange.{Ended, LoginExchange, Turns, Way, Waiting, Closing, Agreeing, exchange_ends, not_empty, nothing_read}

-- a message stands at the front of these bytes as it was written
pub record Stands (bytes : List ℕ) : Type 0 where
  pub logins : Logins
  pub message : Message
  pub more : List ℕ
  pub is : bytes ≡ canonical_bytes message ++ more
  pub readable : Readable logins message
  pub short : length (segment_bytes message.segment) ≤ 8192

-- nothing is left, or a good message
abbrev pub Waits : List ℕ → Type 0
Waits bytes = (bytes ≡ []) ⊎ Stands bytes

-- each end has completed its login, or is open and waits for what is good
pub record AreWell (i : initiator.InitiatorSession) (t : target.TargetStep) (x y : List ℕ) : Type 0 where
  pub target : (t.machine.session.stage ≡ stages.Full) ⊎ ((target_machine.is_machine_closed t.machine ≡ false) × Waits x)
  pub initiator : (i.stage ≡ stages.Full) ⊎ ((is_session_closed i ≡ false) × Waits y)

-- two lists of which nothing is there are both empty
pub both_none : {A : Type 0} → (a b : List A) → a ++ b ≡ [] → (a ≡ []) × (b ≡ [])
both_none [] b e = (refl, e)
both_none (x ∷ a) b e = absurd (cc e)

none_read : (limit : ℕ) (logins : Logins) (given : List ℕ) (ms : List Message) → ReadsAs limit logins given ms → given ≡ [] → ms ≡ []
none_read limit logins given [] p e = refl
none_read limit logins given (m ∷ ms) p e = absurd (not_empty limit logins given [] m ms p (append-nil given ∙ e))

-- the last message that came, as far as the initiator has received
last_received : (ms : List Message) (c : Opening) (i : initiator.InitiatorSession) (t : target.Machine) (out back : Logins) (r : Message) (disk : Disk) (l : ℕ)
    (given x y : List ℕ)
    → IsOpening c → SuitEachOther c → Asking c i t out r → Suited c i t → back.response ≡ false → ReadsAs l out given ms → given ++ x ≡ canonical_bytes r ++ []
    → y ≡ canon (answers false t disk ms).answers → AreWell i (answers false t disk ms) x y
unfolding answers
last_received [] c i t out back r disk l given x y o suits a s b p e f = record {
  target = inr (
    ap is_closed_phase a.logs_in.phase,
    inr (record {
      logins = out;
      message = r;
      more = [];
      is = ap (λ (z : List ℕ). z ++ x) (sym (nothing_read l out given p)) ∙ e;
      readable = asking_readable c i t out r o a;
      short = asking_short c i t out r a;
    }),
  );
  initiator = inr (ap is_closed_phase a.phase, inl f);
}
last_received (n ∷ ms) c i t out back r disk l given x y o suits a s b p e f =
    let one : (n ≡ r) × IsFirst l out x [] r ms = first_is l out given x [] n r ms (asking_readable c i t out r o a) p e in
    let none = both_none one.1.given x one.1.rest in
    let last : ms ≡ [] = none_read l (logins_after out r.head) one.1.given ms one.1.reads none.0 in
    let turn : Round c i (target_machine.target_step false t disk r) (logins_after out r.head) = round c i t out r disk o a in
    let w : Well c i (target_machine.target_step false t disk r) (initiator_step i turn.answer) (logins_after out r.head) =
    goes_well c i t out (logins_after out r.head) r disk o suits a s turn in
    let now : target.TargetStep = target_machine.target_step false t disk r in
    let all : answers false t disk (n ∷ ms) ≡ answers false t disk (r ∷ []) = ap (λ (m : Message). answers false t disk (m ∷ ms)) one.0
    ∙ ap (λ (xs : List Message). answers false t disk (r ∷ xs)) last in
    let there : AreWell i (answers false t disk (r ∷ [])) x y = record {
      target = elim w.on [
        | inl agreed ↦ inl agreed.target_stage
        | inr asks ↦ inr (w.open_, inl none.1)
      ];
      initiator = inr (
        ap is_closed_phase a.phase,
        inr (record {
          logins = back;
          message = turn.answer;
          more = [];
          is = f ∙ ap (λ (z : target.TargetStep). canon z.answers) all ∙ ap (λ (xs : List Message). canon (xs ++ [])) turn.is;
          readable = turn.readable back b;
          short = turn.short;
        }),
      );
    } in
    subst (λ (z : target.TargetStep). AreWell i z x y) (sym all) there

-- where both ends suit each other, no answer closes the session
suited_turns : (c : Opening) → IsOpening c → SuitEachOther c → Turns c ⊥ (Suited c)
suited_turns c o suits i t there r disk a s turn =
    elim (goes_well c i t there (logins_after there r.head) r disk o suits a s turn).on [
      | inl agreed ↦ inr (inl agreed)
      | inr next ↦ inr (inr next)
    ]

-- an exchange that has ended so
ended_well : (w : Way) (r : target.TargetStep) (m : initiator.InitiatorSession) → IsOpening w.opening → SuitEachOther w.opening → w.extra ≡ []
    → Ended w ⊥ (Suited w.opening) r.machine m → AreWell m r w.left_there w.left_here
ended_well w r m o suits none (Waiting t disk ms s x is) =
    let q : AreWell m (answers false t disk ms) w.left_there w.left_here =
    last_received ms w.opening m t x.there x.here x.request disk w.target_limit x.given w.left_there w.left_here o suits x.asking s x.first x.reads x.sends
    (ap (λ (z : List ℕ). z ++ w.left_here) (sym (nothing_read w.initiator_limit x.here x.received x.receives)) ∙ x.answered
    ∙ ap (λ (e : List Message). canon ((answers false t disk ms).answers ++ e)) none ∙ ap canon (append-nil (answers false t disk ms).answers)) in
    record {
      target = subst
          (λ (z : target.Machine). (z.session.stage ≡ stages.Full) ⊎ ((target_machine.is_machine_closed z ≡ false) × Waits w.left_there)) (sym is) q.target;
      initiator = q.initiator;
    }
ended_well w r m o suits none (Closing may closed start) = absurd may
ended_well w r m o suits none (Agreeing stage held own) = record { target = inl stage; initiator = inl own }

-- so no end closes before its login is completed
pub stay_well : (inputs : List SessionInput) (w : Way) (i : initiator.InitiatorSession) (t : target.Machine) (disk : Disk) (ms : List Message)
    → IsOpening w.opening
    → SuitEachOther w.opening → w.extra ≡ [] → Suited w.opening i t → LoginExchange w inputs i t disk ms
    → AreWell (session_after_all i inputs) (answers false t disk ms) w.left_there w.left_here
stay_well inputs w i t disk ms o suits none s x =
    ended_well w (answers false t disk ms) (session_after_all i inputs) o suits none
    (exchange_ends inputs w ⊥ (Suited w.opening) i t disk ms o (suited_turns w.opening o suits) s x)
