use Rattle.std.proofs.Common.{◌≡◌, inl, inr, true, false, ap, ◌∙◌, rules}
use Rattle.iscsi_stream.specs.Stream.{Message}
use Rattle.iscsi_target_session.specs.Requests.{request_answered}
use Rattle.iscsi_target_session.specs.declared.inbound.InboundRequest.{InboundRequest}
use Rattle.iscsi_target_session.specs.declared.inbound.Asks.TheVariants as asks
use Rattle.iscsi_target_session.specs.declared.inbound.SessionRequest.{SessionRequest}
use Rattle.iscsi_target_session.specs.declared.inbound.SessionRequest.TheVariants as requests
use Rattle.iscsi_target_session.proofs.InboundLemmas.{request_plain}
use Rattle.iscsi_target.specs.State.{Machine, waiting_tasks}
use Rattle.iscsi_target.specs.Machine.{beside, has_task_room}
use Rattle.iscsi_target.proofs.Answers.BesideLemmas.{beside_none, beside_by, beside_command, leaves_by}
use Rattle.iscsi_target.proofs.machine.Machine.answer_beside.Goals as goal

pub answer_request-requires : goal.answer_request-requires
answer_request-requires c = record { plain = request_plain c.args.received.now.head c.args.request.now c.requires }

pub returns-then-not-has_room : goal.returns-then-not-has_room
returns-then-not-has_room c =
    let s : Machine = c.args.self.now in
    let m : Message = c.args.received.now in
    let r : InboundRequest = c.args.request.now in
    λ disk. leaves_by c.reject.result disk s.tasks _ (beside s m r) s c.reject.new.self c.args.out.now.items c.reject.new.out.items
    (let none : has_task_room s r.initiator_task_tag ≡ false = search rules in beside_none s m r none) (c.reject.ensures disk)

pub returns-in_default : goal.returns-in_default
returns-in_default c =
    let s : Machine = c.args.self.now in
    let m : Message = c.args.received.now in
    let r : InboundRequest = c.args.request.now in
    λ disk. leaves_by c.reject-in_default.result disk s.tasks _ (beside s m r) s c.reject-in_default.new.self c.args.out.now.items
    c.reject-in_default.new.out.items
    (let room : has_task_room s r.initiator_task_tag ≡ true = search rules in beside_command s m r room c.in_default.not-Session)
    (c.reject-in_default.ensures disk)

pub returns-in-Ping : goal.returns-in-Ping
returns-in-Ping c =
    let s : Machine = c.args.self.now in
    let m : Message = c.args.received.now in
    let r : InboundRequest = c.args.request.now in
    λ disk. leaves_by c.answer_request.result disk s.tasks (request_answered s.session (waiting_tasks s.tasks) m c.in-Session.asked) (beside s m r) s
    c.answer_request.new.self c.args.out.now.items c.answer_request.new.out.items
    (let room : has_task_room s r.initiator_task_tag ≡ true = search rules in
    ap (request_answered s.session (waiting_tasks s.tasks) m) c.in-Ping.is
    ∙ beside_by s m r (asks.Session (requests.Ping c.in-Ping.field-0)) room (c.in-Session.is ∙ ap (λ (q : SessionRequest). asks.Session q) c.in-Ping.is))
    (c.answer_request.ensures disk)

pub returns-in-Task : goal.returns-in-Task
returns-in-Task c =
    let s : Machine = c.args.self.now in
    let m : Message = c.args.received.now in
    let r : InboundRequest = c.args.request.now in
    λ disk. leaves_by c.manage_tasks.result disk s.tasks _ (beside s m r) s c.manage_tasks.new.self c.args.out.now.items c.manage_tasks.new.out.items
    (let room : has_task_room s r.initiator_task_tag ≡ true = search rules in
    beside_by s m r (asks.Session (requests.Task c.in-Task.head)) room (c.in-Session.is ∙ ap (λ (q : SessionRequest). asks.Session q) c.in-Task.is))
    (c.manage_tasks.ensures disk)

pub returns-in-Text : goal.returns-in-Text
returns-in-Text c =
    let s : Machine = c.args.self.now in
    let m : Message = c.args.received.now in
    let r : InboundRequest = c.args.request.now in
    λ disk. leaves_by c.reject-in-Text.result disk s.tasks _ (beside s m r) s c.reject-in-Text.new.self c.args.out.now.items c.reject-in-Text.new.out.items
    (let room : has_task_room s r.initiator_task_tag ≡ true = search rules in
    elim c.in-Text.is [
      | inl text ↦ beside_by s m r (asks.Session (requests.Text text.0)) room (c.in-Session.is ∙ ap (λ (q : SessionRequest). asks.Session q) text.1)
      | inr out ↦ beside_by s m r (asks.Session (requests.Logout out.0)) room (c.in-Session.is ∙ ap (λ (q : SessionRequest). asks.Session q) out.1)
    ]) (c.reject-in-Text.ensures disk)
