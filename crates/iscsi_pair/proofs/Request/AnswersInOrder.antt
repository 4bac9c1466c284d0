-- Where the answers on their way lead both ends, where the target receives at once all that is sent.
use Rattle.std.proofs.Common.{◌≡◌, ◌≤◌, ℕ, ◌+◌, zero, suc, arith, Bool, true, false, List, [], ◌∷◌, ◌++◌, length, Option, None, refl, sym, ap, ◌∙◌, subst}
use Rattle.std.specs.Prelude.{is_some}
use Rattle.std.proofs.lemmas.List.{append-nil}
use Rattle.scsi_disk.specs.Disk.{Disk}
use Rattle.scsi_unit.specs.LogicalUnit.{LogicalUnit}
use Rattle.iscsi_pdu.specs.declared.head.Head.{Head}
use Rattle.iscsi_stream.specs.declared.logins.Logins.{Logins}
use Rattle.iscsi_stream.specs.Segment.{logins_after, segment_bytes}
use Rattle.iscsi_stream.specs.Stream.{Message}
use Rattle.iscsi_stream.proofs.ReadyLemmas.{apart}
use Rattle.iscsi_login.specs.declared.phase.Phase.TheVariants as phases
use Rattle.iscsi_login.specs.Held.{Held}
use Rattle.iscsi_target_session.specs.Session as target_session
use Rattle.iscsi_target.specs.State as target
use Rattle.iscsi_target.specs.Machine as target_machine
use Rattle.iscsi_target.specs.Machine.{answers}
use Rattle.iscsi_target.proofs.Steps.NumberLaws.{closed_answers}
use Rattle.iscsi_initiator.specs.declared.request.Request.{Request}
use Rattle.iscsi_initiator.specs.State as initiator
use Rattle.iscsi_initiator.specs.Steps.{InitiatorStep, quiet, step_sending}
use Rattle.iscsi_initiator.specs.Machine.{initiator_step}
use Rattle.iscsi_initiator.specs.Submitted.{submitted}
use Rattle.iscsi_pair.specs.LocalDisk.{RequestHasEnded, DiskExchange, after_answers, Local}
use Rattle.iscsi_pair.proofs.Wire.PrefixLemmas.{Readable}
use Rattle.iscsi_pair.proofs.Request.Invariant.{AreWritten, IsOpenFor, between}

-- ---- messages that are read as they were written, whatever the login PDUs before them said

-- each of these is, and has a segment of at most n bytes
abbrev pub ArePlain : ℕ → List Message → Type 0
ArePlain most ms = (logins : Logins) → AreWritten most logins ms

pub plain_one : (most : ℕ) (m : Message) → ((logins : Logins) → Readable logins m) → length (segment_bytes m.segment) ≤ most → ArePlain most (m ∷ [])
plain_one most m readable short = λ logins. (record { readable = readable logins; short = short }, tt)

pub plain_more : (most : ℕ) (m : Message) (ms : List Message) → ((logins : Logins) → Readable logins m) → length (segment_bytes m.segment) ≤ most
    → ArePlain most ms → ArePlain most (m ∷ ms)
plain_more most m ms readable short more = λ logins. (record { readable = readable logins; short = short }, more (logins_after logins m.head))

-- the segment of a message with bytes
pub short_message : (head : Head) (bytes : List ℕ) (most : ℕ) → length bytes ≤ most
    → length (segment_bytes (target_session.answer_message head bytes).segment) ≤ most
unfolding segment_bytes
short_message head bytes most le = le

-- ---- what the target receives

was_open : (b : Bool) (t : target.Machine) (disk : Disk) (ms : List Message) → target_machine.is_machine_closed t ≡ b
    → target_machine.is_machine_closed (answers false t disk ms).machine ≡ false → b ≡ false
was_open true t disk ms shut live =
    absurd (apart (ap (λ (r : target.TargetStep). target_machine.is_machine_closed r.machine) (closed_answers false t disk ms shut)
    ∙ shut) live)
was_open false t disk ms e live = refl

-- where it is open in the end, it was when each message came
pub open_all : (t : target.Machine) (disk : Disk) (ms : List Message) → target_machine.is_machine_closed (answers false t disk ms).machine ≡ false
    → IsOpenFor t disk ms
unfolding answers
open_all t disk [] live = tt
open_all t disk (m ∷ ms) live =
    let s : target.TargetStep = target_machine.target_step false t disk m in
    (was_open (target_machine.is_machine_closed t) t disk (m ∷ ms) refl live, open_all s.machine s.disk ms live)

-- These go out and are received: both they and the answers are read as they were written, the session is open when each comes, and
-- none breaks a rule.
pub record AreReceived (held : Held) (t : target.Machine) (disk : Disk) (out : List Message) : Type 0 where
  pub written : ArePlain held.target_max_recv out
  pub open_ : IsOpenFor t disk out
  pub rule : (answers false t disk out).rule ≡ None
  pub answered : ArePlain held.initiator_max_recv (answers false t disk out).answers

-- by where they lead
pub received_by : (held : Held) (t : target.Machine) (disk : Disk) (out : List Message) (r : target.TargetStep) → answers false t disk out ≡ r
    → ArePlain held.target_max_recv out
    → target_machine.is_machine_closed r.machine ≡ false → r.rule ≡ None → ArePlain held.initiator_max_recv r.answers → AreReceived held t disk out
received_by held t disk out r e written live rule answered = record {
  written = written;
  open_ = open_all t disk out (ap (λ (x : target.TargetStep). target_machine.is_machine_closed x.machine) e ∙ live);
  rule = ap (λ (x : target.TargetStep). x.rule) e ∙ rule;
  answered = subst (λ (x : target.TargetStep). ArePlain held.initiator_max_recv x.answers) (sym e) answered;
}

none_received : (held : Held) (t : target.Machine) (disk : Disk) → AreReceived held t disk []
unfolding answers
none_received held t disk = record { written = λ logins. tt; open_ = tt; rule = refl; answered = λ logins. tt }

-- ---- what the initiator receives

-- the initiator has a request open when it receives this answer, finds no fault in it, and what it sends then is received
pub record ReceivesOne (held : Held) (i : initiator.InitiatorSession) (t : target.Machine) (disk : Disk) (m : Message) : Type 0 where
  pub full : i.phase ≡ phases.Full
  pub busy : is_some i.outstanding ≡ true
  pub none_done : i.done ≡ None
  pub fault : (initiator_step i m).fault ≡ None
  pub sends_ : AreReceived held t disk (initiator_step i m).output

-- n answers are received, and then both ends stand so
abbrev pub Leads : Held → ℕ → DiskExchange → DiskExchange → Type 0
Leads held zero from x = from ≡ x
Leads held (suc n) from x = elim from.answers [
  | [] ↦ ⊥
  | m ∷ more ↦ ReceivesOne held from.initiator from.target from.disk m
      × (let s = initiator_step from.initiator m in
      let r = answers false from.target from.disk s.output in
      Leads held n (between s.machine r.machine r.disk (more ++ r.answers)) x)
]

-- at most so many answers are received, and then both ends stand so
abbrev pub LeadsWithin : ℕ → Held → DiskExchange → DiskExchange → Type 0
LeadsWithin most held from x = (n : ℕ) × (n ≤ most) × Leads held n from x

-- a request has at most so many answers: a command moves at most 4,194,304 bytes
abbrev pub most_answers : ℕ
most_answers = 4194305

pub leads_less : (low most : ℕ) (held : Held) (from x : DiskExchange) → low ≤ most → LeadsWithin low held from x → LeadsWithin most held from x
leads_less low most held from x le l = (let few = l.1 in (l.0, omega (arith, few, le), l.2))

-- an answer that is received, and to which nothing is said
pub receives_quiet : (low most : ℕ) → low + 1 ≤ most → (held : Held) (i n : initiator.InitiatorSession) (t : target.Machine) (disk : Disk) (m : Message)
    (more : List Message) (x : DiskExchange)
    → initiator_step i m ≡ quiet n → i.phase ≡ phases.Full → is_some i.outstanding ≡ true → i.done ≡ None
    → LeadsWithin low held (between n t disk more) x → LeadsWithin most held (between i t disk (m ∷ more)) x
unfolding answers
receives_quiet low most le held i n t disk m more x e full busy none l = (
  suc l.0,
  (let few = l.1 in omega (arith, few, le)),
  (
    record {
      full = full;
      busy = busy;
      none_done = none;
      fault = ap (λ (s : InitiatorStep). s.fault) e;
      sends_ = subst (λ (s : InitiatorStep). AreReceived held t disk s.output) (sym e) (none_received held t disk);
    },
    subst (λ (s : InitiatorStep). let r = answers false t disk s.output in Leads held l.0 (between s.machine r.machine r.disk (more ++ r.answers)) x) (sym e)
        (subst (λ (ms : List Message). Leads held l.0 (between n t disk ms) x) (sym (append-nil more)) l.2),
  ),
)

-- the last answer on its way, to which these are said
pub receives_sends : (low most : ℕ) → low + 1 ≤ most → (held : Held) (i n : initiator.InitiatorSession) (t : target.Machine) (disk : Disk) (m : Message)
    (out : List Message) (r : target.TargetStep)
    (x : DiskExchange)
    → initiator_step i m ≡ step_sending n out → i.phase ≡ phases.Full → is_some i.outstanding ≡ true
    → i.done ≡ None → AreReceived held t disk out → answers false t disk out ≡ r → LeadsWithin low held (between n r.machine r.disk r.answers) x
    → LeadsWithin most held (between i t disk (m ∷ [])) x
receives_sends low most le held i n t disk m out r x e full busy none received is l = (
  suc l.0,
  (let few = l.1 in omega (arith, few, le)),
  (
    record {
      full = full;
      busy = busy;
      none_done = none;
      fault = ap (λ (s : InitiatorStep). s.fault) e;
      sends_ = subst (λ (s : InitiatorStep). AreReceived held t disk s.output) (sym e) received;
    },
    subst (λ (s : InitiatorStep). let r' = answers false t disk s.output in Leads held l.0 (between s.machine r'.machine r'.disk ([] ++ r'.answers)) x) (sym e)
        (subst (λ (r' : target.TargetStep). Leads held l.0 (between n r'.machine r'.disk ([] ++ r'.answers)) x) (sym is) l.2),
  ),
)

-- ---- a request

-- from here, with these answers on their way, it comes to that
pub record Ends (most : ℕ) (held : Held) (unit : Option LogicalUnit) (i : initiator.InitiatorSession) (r : target.TargetStep) (here : Local) : Type 0 where
  pub last : DiskExchange
  pub leads : LeadsWithin most held (between i r.machine r.disk r.answers) last
  pub ended : RequestHasEnded held unit here.outcome here.disk last

-- What a request that is handed in sends is received, and it comes to this outcome.
pub record Begins (held : Held) (m : initiator.InitiatorSession) (t : target.Machine) (disk : Disk) (request : Request) (here : Local) : Type 0 where
  pub received : AreReceived held t disk (submitted m request).output
  pub ends : Ends most_answers held (target.unit_of t.session) (submitted m request).machine (answers false t disk (submitted m request).output) here

-- where answers lead is where they lead one by one
pub leads_after : (n : ℕ) (held : Held) (i : initiator.InitiatorSession) (t : target.Machine) (disk : Disk) (back : List Message) (x : DiskExchange)
    → Leads held n (between i t disk back) x
    → after_answers n (record { initiator = i; target = t; disk = disk; answers = back }) ≡ x
leads_after zero held i t disk back x l = l
leads_after (suc n) held i t disk [] x l = absurd l
leads_after (suc n) held i t disk (m ∷ more) x l =
    let s : InitiatorStep = initiator_step i m in
    let r : target.TargetStep = answers false t disk s.output in
    leads_after n held s.machine r.machine r.disk (more ++ r.answers) x l.1
