-- What an immediate request is answered with beside the tasks that there are.
use Rattle.std.proofs.Common.{◌≡◌, ◌⊎◌, inl, inr, ℕ, List, Option, true, false, refl, sym, ap, subst}
use Rattle.std.specs.Prelude.{Result}
use Rattle.std.specs.Prelude.{◌==◌}
use Rattle.iscsi_pdu.specs.Fields.{reserved_tag}
use Rattle.iscsi_pdu.specs.Rules.{too_many_immediate}
use Rattle.scsi_disk.specs.Disk.{Disk}
use Rattle.iscsi_stream.specs.Segment.{segment_bytes}
use Rattle.iscsi_stream.specs.Stream.{Message}
use Rattle.iscsi_target_session.specs.Session.{Session, Reply, stat_sn_advanced}
use Rattle.iscsi_target_session.specs.declared.inbound.InboundRequest.{InboundRequest}
use Rattle.iscsi_target_session.specs.declared.inbound.Asks.{Asks}
use Rattle.iscsi_target_session.specs.declared.inbound.Asks.TheVariants as asks
use Rattle.iscsi_target_session.specs.declared.inbound.SessionRequest.{SessionRequest}
use Rattle.iscsi_target_session.specs.declared.inbound.SessionRequest.TheVariants as requests
use Rattle.iscsi_target_session.proofs.CaseLemmas.{by_cases}
use Rattle.iscsi_target.specs.declared.tasks.Task.{Task}
use Rattle.iscsi_target.specs.State.{Machine, on, waiting_tasks}
use Rattle.iscsi_target.specs.inner.Inside.{DisklessPost}
use Rattle.iscsi_target.specs.Machine.{is_meant, no_room, answered_beside, has_task_room, beside}
use Rattle.iscsi_target.proofs.Answers.ReplyLemmas.{IsReply, nop_reply, task_reply, reject_reply}

-- it is a reply, and at most counts its number
pub record IsBeside (s : Session) (r : Reply) : Type 0 where
  pub reply : IsReply s r
  pub session : (r.session ≡ s) ⊎ (r.session ≡ stat_sn_advanced s)

no_room_is : (s : Machine) (m : Message) → IsBeside s.session (no_room s m)
no_room_is s m = record { reply = reject_reply s.session (waiting_tasks s.tasks) too_many_immediate m; session = inr refl }

answered_is : (s : Machine) (m : Message) (asked : Asks) → IsBeside s.session (answered_beside s m asked)
answered_is s m (asks.Command h) = no_room_is s m
answered_is s m (asks.Session (requests.Ping h)) = record {
  reply = nop_reply s.session (waiting_tasks s.tasks) h (segment_bytes m.segment);
  session = by_cases (h.initiator_task_tag == reserved_tag) (λ e. rw e (inl refl)) (λ e. rw e (inr refl));
}
answered_is s m (asks.Session (requests.Task h)) = record { reply = task_reply s.session (waiting_tasks s.tasks) (is_meant s.tasks h) h; session = inr refl }
answered_is s m (asks.Session (requests.Text h)) = no_room_is s m
answered_is s m (asks.Session (requests.Logout h)) = no_room_is s m

pub beside_is : (s : Machine) (m : Message) (r : InboundRequest) → IsBeside s.session (beside s m r)
beside_is s m r = by_cases (has_task_room s r.initiator_task_tag) (λ e. rw e (answered_is s m r.asks)) (λ e. rw e (no_room_is s m))

-- ---- by what is judged of it

-- there is no room
pub beside_none : (s : Machine) (m : Message) (r : InboundRequest) → has_task_room s r.initiator_task_tag ≡ false → no_room s m ≡ beside s m r
beside_none s m r none = sym (rw none refl)

-- there is room, and this is asked for
pub beside_by : (s : Machine) (m : Message) (r : InboundRequest) (asked : Asks) → has_task_room s r.initiator_task_tag ≡ true → r.asks ≡ asked →
    answered_beside s m asked ≡ beside s m r
beside_by s m r asked room e = sym (rw room (ap (answered_beside s m) e))

-- a command has no room
other_asks : (s : Machine) (m : Message) (asked : Asks) → ((q : SessionRequest) → asked ≡ asks.Session q → ⊥) → answered_beside s m asked ≡ no_room s m
other_asks s m (asks.Command h) none = refl
other_asks s m (asks.Session q) none = absurd (none q refl)

pub beside_command : (s : Machine) (m : Message) (r : InboundRequest) → has_task_room s r.initiator_task_tag ≡ true →
    ((q : SessionRequest) → r.asks ≡ asks.Session q → ⊥)
    → no_room s m ≡ beside s m r
beside_command s m r room none = sym (rw room (other_asks s m r.asks none))

-- what leaves this reply leaves the other
pub leaves_by : {E : Type 0} (result : Result (Option ℕ) E) (disk : Disk) (tasks : List Task) (a b : Reply) (old new : Machine) (before after : List ℕ) → a
    ≡ b →
    DisklessPost (on disk tasks a) result old new before after → DisklessPost (on disk tasks b) result old new before after
leaves_by result disk tasks a b old new before after e h = subst (λ (r : Reply). DisklessPost (on disk tasks r) result old new before after) e h
