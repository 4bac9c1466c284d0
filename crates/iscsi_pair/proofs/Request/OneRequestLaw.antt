-- Requests, one after another, between two ends that are in step.
use Rattle.std.specs.Prelude.{◌-◌, ◌||◌, not, is_some, if◌then◌else◌}
use Rattle.std.proofs.Common.{◌+◌, ◌^◌, ◌%◌, Bool, true, false, Option, arith, ◌≡◌, ℕ, List, [], ◌∷◌, ◌++◌, None, Some, sym, refl, ap, ◌∙◌, subst}
use Rattle.scsi_disk.specs.Disk.{Disk}
use Rattle.scsi_unit.specs.LogicalUnit.{LogicalUnit}
use Rattle.iscsi_login.specs.declared.phase.Phase.{Phase}
use Rattle.iscsi_login.specs.declared.phase.Phase.TheVariants as phases
use Rattle.iscsi_target.specs.State as target
use Rattle.iscsi_target.specs.State.{TargetStep}
use Rattle.iscsi_target.specs.Machine.{answers}
use Rattle.iscsi_initiator.specs.declared.request.Request.{Request}
use Rattle.iscsi_initiator.specs.declared.request.Request.TheVariants as requests
use Rattle.iscsi_initiator.specs.State as initiator
use Rattle.iscsi_initiator.specs.declared.outstanding.Outstanding.{Outstanding}
use Rattle.iscsi_initiator.specs.declared.request.Done.{Done}
use Rattle.iscsi_initiator.specs.declared.request.SubmitFault.{SubmitFault}
use Rattle.iscsi_initiator.specs.declared.request.SubmitFault.TheVariants as refusals_
use Rattle.iscsi_initiator.specs.Submitted.{accepted, is_request_too_long, or_accepted, submit_refusal, refusal_in, refusal_when_full, submitted}
use Rattle.iscsi_pdu.specs.Serial.{is_within}
use Rattle.iscsi_pair.specs.LocalDisk.{AreInStep, EndsAfterAnswers, RequestHasEnded, Local, handed_in, local, local_disk, local_outcomes}
use Rattle.iscsi_pair.specs.Served.{IsServed}
use Rattle.iscsi_pair.proofs.Request.AnswersInOrder.{Begins, leads_after}
use Rattle.iscsi_pair.proofs.Request.PingLemmas.{local_logout, local_ping}
use Rattle.iscsi_pair.proofs.Request.ReadLemmas.{local_read, unrefused}
use Rattle.iscsi_pair.proofs.Request.WriteLemmas.{local_write}
use Rattle.iscsi_pdu.specs.declared.serial.Window.{Window}

-- a request that isn't too long is accepted
taken_in : (m : initiator.InitiatorSession) (t : target.Machine) (request : Request) (long : Bool) → AreInStep m t → is_request_too_long m request ≡ long → long
    ≡ false
    → refusal_when_full m request ≡ None
taken_in m t request long a is short =
    let now : is_within m.cmd_sn m.window.exp.0 m.window.max.0 ≡ true =
    ap (λ (w : Window). is_within m.cmd_sn w.exp.0 w.max.0) a.window
    ∙ (let lt = a.cmd_sn_fits in
    let high : ((m.cmd_sn + 7) % 2 ^ 32 + (2 ^ 32 - m.cmd_sn)) % 2 ^ 32 ≡ 7 = omega (arith, lt) in
    let low : (m.cmd_sn + (2 ^ 32 - m.cmd_sn)) % 2 ^ 32 ≡ 0 = omega (arith, lt) in
    rw (high, low) refl) in
    let none : is_some m.outstanding ≡ false = ap (λ (x : Option Outstanding). is_some x) a.none_open in
    let taken_ : is_some m.done ≡ false = ap (λ (x : Option Done). is_some x) a.none_done in
    rw (none, taken_, now, is ∙ short) refl

-- what is accepted isn't refused
by_kind : (m : initiator.InitiatorSession) (request : Request) → (accepted m request).refusal ≡ None
by_kind m (requests.In lun cdb expected) = refl
by_kind m (requests.Out lun cdb bytes) = refl
by_kind m (requests.Ping bytes) = refl
by_kind m (requests.Text bytes) = refl
by_kind m requests.Logout = refl

pub accepts : (m : initiator.InitiatorSession) (t : target.Machine) (request : Request) → AreInStep m t → is_request_too_long m request ≡ false
    → (submitted m request).refusal ≡ None
unfolding submitted
accepts m t request a short =
    let none : submit_refusal m request ≡ None = ap (λ (p : Phase). refusal_in p m request) a.initiator_phase
    ∙ taken_in m t request (is_request_too_long m request) a refl
    short in
    ap (λ (f : Option SubmitFault). (or_accepted f m request).refusal) none ∙ by_kind m request

-- a request that is accepted in step comes to its outcome on the disk
pub begins : (m : initiator.InitiatorSession) (t : target.Machine) (disk : Disk) (request : Request) → IsServed request → AreInStep m t
    → (submitted m request).refusal ≡ None
    → Begins m.held m t disk request (local m.held.initiator_max_recv (target.unit_of t.session) disk request)
begins m t disk (requests.In lun cdb expected) served a e = local_read m t disk lun cdb expected served.0 served.1 served.2 a e
begins m t disk (requests.Out lun cdb bytes) served a e = local_write m t disk lun cdb bytes served.0 served.1 served.2 a e
begins m t disk (requests.Ping bytes) served a e = local_ping m t disk bytes a e
begins m t disk (requests.Text bytes) served a e = absurd served
begins m t disk requests.Logout served a e = local_logout m t disk a e

pub comes_to : (m : initiator.InitiatorSession) (t : target.Machine) (disk : Disk) (request : Request) → IsServed request → AreInStep m t
    → (submitted m request).refusal ≡ None
    → (let here = local m.held.initiator_max_recv (target.unit_of t.session) disk request in
    EndsAfterAnswers m.held (target.unit_of t.session) here.outcome here.disk (handed_in m t disk request))
comes_to m t disk request served a e =
    let here : Local = local m.held.initiator_max_recv (target.unit_of t.session) disk request in
    let b : Begins m.held m t disk request here = begins m t disk request served a e in
    let r : TargetStep = answers false t disk (submitted m request).output in (
      b.ends.leads.0,
      subst (RequestHasEnded m.held (target.unit_of t.session) here.outcome here.disk) (sym (leads_after b.ends.leads.0 m.held (submitted m request).machine r.machine r.disk
          r.answers b.ends.last b.ends.leads.2)) b.ends.ended,
    )

-- an initiator that accepts a request is in full feature phase, and has nothing open
pub record IsFree (m : initiator.InitiatorSession) : Type 0 where
  pub full : m.phase ≡ phases.Full
  pub none_open : is_some m.outstanding ≡ false
  pub none_done : is_some m.done ≡ false

not_busy : (open_ given shut long : Bool) → (if open_ || given then Some refusals_.Busy else
    (if shut then Some refusals_.Shut else (if long then Some refusals_.TooLong else None))) ≡ None → (open_ ≡ false) × (given ≡ false)
not_busy true given shut long e = absurd cc
not_busy false true shut long e = absurd cc
not_busy false false shut long e = (refl, refl)

free_in : (p : Phase) (m : initiator.InitiatorSession) (request : Request) → m.phase ≡ p → refusal_in p m request ≡ None → IsFree m
free_in phases.Login m request is e = absurd (cc e)
free_in phases.Closed m request is e = absurd (cc e)
free_in phases.Full m request is e =
    let r = not_busy (is_some m.outstanding) (is_some m.done) (not (is_within m.cmd_sn m.window.exp.0 m.window.max.0)) (is_request_too_long m request) e in
    record { full = is; none_open = r.0; none_done = r.1 }

pub is_free : (m : initiator.InitiatorSession) (request : Request) → (submitted m request).refusal ≡ None → IsFree m
unfolding submitted
is_free m request e = free_in m.phase m request refl (unrefused (submit_refusal m request) m request e)

-- ---- one request more

pub outcomes_more : (most : ℕ) (unit : Option LogicalUnit) (disk : Disk) (past : List Request) (request : Request)
    → local_outcomes most unit disk (past ++ request ∷ []) ≡ local_outcomes most unit disk past
    ++ (local most unit (local_disk most unit disk past) request).outcome ∷ []
unfolding local_outcomes local_disk
outcomes_more most unit disk [] request = refl
outcomes_more most unit disk (first ∷ past) request = ap (λ (x : List Done). (local most unit disk first).outcome ∷ x)
    (outcomes_more most unit (local most unit disk first).disk past request)

pub disk_more : (most : ℕ) (unit : Option LogicalUnit) (disk : Disk) (past : List Request) (request : Request)
    → local_disk most unit disk (past ++ request ∷ []) ≡ (local most unit (local_disk most unit disk past) request).disk
unfolding local_disk
disk_more most unit disk [] request = refl
disk_more most unit disk (first ∷ past) request = disk_more most unit (local most unit disk first).disk past request
