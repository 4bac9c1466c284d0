-- The disk after messages, over a store that may fail.
use Rattle.std.proofs.Common.{Bool, ℕ, inl, inr, arith, List, [], ◌∷◌, ◌++◌, refl, sym, subst}
use Rattle.std.proofs.lemmas.Bool.{cases_lt}
use Rattle.scsi_disk.specs.Disk.{Disk}
use Rattle.scsi_disk.specs.Effect.{Effect, OrderExecuted}
use Rattle.iscsi_stream.specs.Stream.{Message}
use Rattle.iscsi_target.specs.State.{Machine, Execution, TargetStep}
use Rattle.iscsi_stream.specs.Pieces.{piece_data}
use Rattle.iscsi_target.specs.Execution.{Device, device_next}
use Rattle.iscsi_target.specs.Machine.{ExecutionsRun, MayStep, MayStop, MayAnswer}
use Rattle.iscsi_target.specs.Laws.{ExecutionsLead, MayLeave}
use Rattle.iscsi_target.proofs.Steps.DiskFoldLemmas.{Does, Goes, step_does, first_does}

leaves : (protected : Bool) (e : Execution) (before after : ℕ) (left : Effect) → OrderExecuted protected before after e.disk e.order (piece_data e.pieces) left
    → MayLeave protected e left
leaves protected e before after left x = elim (cases_lt before after) [
  | inl lt ↦ inr (x.fails lt)
  | inr ge ↦ inl (x.works (omega (arith, ge, x.rises)))
]

leads_of : (protected : Bool) (device : Device) (disk : Disk) (before after : ℕ) (es : List Execution) (last : Disk) → Does device disk es last
    → ExecutionsRun protected device before es after →
    ExecutionsLead protected disk es last
unfolding ExecutionsLead
leads_of protected device disk before after [] last d r = d
leads_of protected device disk before after (e ∷ es) last d r = (
  device 0 e.disk e.order (piece_data e.pieces),
  d.0,
  leaves protected e before r.0 (device 0 e.disk e.order (piece_data e.pieces)) r.1,
  leads_of protected (device_next device) (device 0 e.disk e.order (piece_data e.pieces)).disk r.0 after es last d.1 r.2,
)

pub leads_append : (protected : Bool) (disk mid last : Disk) (a b : List Execution) → ExecutionsLead protected disk a mid → ExecutionsLead protected mid b last
    → ExecutionsLead protected disk (a ++ b) last
unfolding ExecutionsLead
leads_append protected disk mid last [] b p q = subst (λ (d : Disk). ExecutionsLead protected d b last) p q
leads_append protected disk mid last (e ∷ a) b p q = (p.0, p.1, p.2, leads_append protected p.0.disk mid last a b p.3 q)

step_leads : (protected : Bool) (s : Machine) (disk : Disk) (before after : ℕ) (m : Message) (r : TargetStep) → MayStep protected s disk before m r after
    → ExecutionsLead protected disk r.executed r.disk
step_leads protected s disk before after m r p =
    let d : Goes p.device disk r = subst (λ (x : TargetStep). Goes p.device disk x) (sym p.is) (step_does p.device s disk m) in
    leads_of protected p.device disk before after r.executed r.disk d.is p.runs

pub stop_leads : (protected : Bool) (s : Machine) (disk : Disk) (before after : ℕ) (m : Message) (r : TargetStep) → MayStop protected s disk before m r after
    → ExecutionsLead protected disk r.executed r.disk
stop_leads protected s disk before after m r p =
    let d : Goes p.device disk r = subst (λ (x : TargetStep). Goes p.device disk x) (sym p.is) (first_does p.done p.device p.session disk p.tasks) in
    leads_of protected p.device disk before p.failures r.executed r.disk d.is p.runs

pub may_leads : (protected : Bool) (s : Machine) (disk : Disk) (before after : ℕ) (ms : List Message) (r : TargetStep)
    → MayAnswer protected s disk before ms r after →
    ExecutionsLead protected disk r.executed r.disk
unfolding MayAnswer ExecutionsLead
may_leads protected s disk before after [] r e = subst (λ (x : TargetStep). ExecutionsLead protected disk x.executed x.disk) (sym e.0) refl
may_leads protected s disk before after (m ∷ ms) r e =
    subst (λ (x : TargetStep). ExecutionsLead protected disk x.executed x.disk) (sym e.5)
    (leads_append protected disk e.0.disk e.1.disk e.0.executed e.1.executed (step_leads protected s disk before e.2 m e.0 e.3)
    (may_leads protected e.0.machine e.0.disk e.2 after ms e.1 e.4))
