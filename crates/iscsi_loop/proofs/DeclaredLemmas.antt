-- However a login goes, the target takes at least so many bytes in one segment.
use Rattle.std.specs.Prelude.{not, ◌&&◌, nat_lt, if◌then◌else◌, unwrap_or}
use Rattle.std.proofs.Common.{◌≡◌, ◌≤◌, ◌+◌, ℕ, Bool, true, false, List, [], ◌∷◌, length, Option, Some, None, refl, sym, ap, subst}
use Rattle.scsi_disk.specs.Disk.{Disk}
use Rattle.scsi_disk.specs.Plan.{first_reason}
use Rattle.iscsi_text.specs.Text.{Pairs}
use Rattle.iscsi_pdu.specs.declared.head.Head.{Head}
use Rattle.iscsi_pdu.specs.declared.head.Head.TheVariants.{LoginRequest}
use Rattle.iscsi_pdu.specs.declared.head.login_request.LoginRequest.{LoginRequest as Request}
use Rattle.iscsi_stream.specs.Segment.{Segment, segment_bytes}
use Rattle.iscsi_stream.specs.Stream.{Message}
use Rattle.iscsi_stream.specs.Texts.{longest_text}
use Rattle.iscsi_login.specs.declared.phase.Phase.{Phase}
use Rattle.iscsi_login.specs.declared.phase.Phase.TheVariants as phases
use Rattle.iscsi_login.specs.Held.{Held}
use Rattle.iscsi_login.specs.Stage.{is_closed_phase}
use Rattle.iscsi_target_session.specs.Configured.{TargetSettings}
use Rattle.iscsi_target_session.specs.Session.{Session, Reply}
use Rattle.iscsi_target_session.specs.declared.status.Status.{Status}
use Rattle.iscsi_target_session.specs.LoginText.{is_operational, out_of_resources}
use Rattle.iscsi_target_session.specs.Login.{entered, gather, login_in, on_login_request, numbers_settled, refuse, refuse_or, request_refusals, segment_taken}
use Rattle.iscsi_target_session.specs.Login.{allowed_move, rest_of, pairs_answered, text_ending, whole_text}
use Rattle.iscsi_target_session.proofs.CaseLemmas.{by_cases}
use Rattle.iscsi_target_session.proofs.ExchangeLemmas.{text_cases}
use Rattle.iscsi_target.specs.Execution.{reliable}
use Rattle.iscsi_target.specs.State.{Machine}
use Rattle.iscsi_target.specs.Machine.{answers, is_machine_closed, is_over_limit, phase_step, target_step}
use Rattle.iscsi_target.proofs.Steps.KeepingLemmas.{IsLater, Stays, step_settings, step_stays}

-- so many bytes fit into a segment, by what is held, and by what will be declared
pub record Takes (n : ℕ) (s : Session) : Type 0 where
  pub held : n ≤ s.held.target_max_recv
  pub prefers : n ≤ s.settings.preferences.max_recv

-- ---- the login

refuse_takes : (n : ℕ) (s : Session) (r : Request) (why : Status) → Takes n s → Takes n (refuse s r why).session
refuse_takes n s r why t = record { held = t.held; prefers = t.prefers }

refused_takes : (n : ℕ) (s : Session) (r : Request) (why : Option Status) (reply : Reply) → Takes n s → Takes n reply.session
    → Takes n (refuse_or why s r reply).session
refused_takes n s r None reply t u = u
refused_takes n s r (Some why) reply t u = refuse_takes n s r why t

declared_takes : (n : ℕ) (s : Session) (first : Bool) → Takes n s
    → n ≤ unwrap_or (if first then Some s.settings.preferences.max_recv else None) s.held.target_max_recv
declared_takes n s true t = t.prefers
declared_takes n s false t = t.held

answered_takes : (n : ℕ) (s : Session) (r : Request) (pairs : Pairs) → Takes n s → Takes n (pairs_answered s r pairs).session
answered_takes n s r pairs t = record { held = declared_takes n s (is_operational s.stage && not s.has_operational_text) t; prefers = t.prefers }

whole_takes : (n : ℕ) (s : Session) (r : Request) (text : Option Pairs) → Takes n s → Takes n (whole_text s r text).session
whole_takes n s r text t = text_cases (λ x. Takes n x.session) s r text (record {
  refused = λ why reason. refuse_takes n s r why t;
  plain = λ pairs is open_ none. answered_takes n s r pairs t;
  exchange = λ c p said pairs is demanded none verdict short.
      answered_takes n (record s { progress = p }) (allowed_move p r) (rest_of pairs) (record { held = t.held; prefers = t.prefers });
})

gather_takes : (n : ℕ) (s : Session) (r : Request) (segment : Segment) (more : Bool) → Takes n s
    → Takes n (if more then gather s r (segment_bytes segment) else whole_text (record s { gathered = [] }) r (text_ending s.gathered segment)).session
gather_takes n s r segment true t = record { held = t.held; prefers = t.prefers }
gather_takes n s r segment false t =
    whole_takes n (record s { gathered = [] }) r (text_ending s.gathered segment) (record { held = t.held; prefers = t.prefers })

segment_by : (n : ℕ) (s : Session) (r : Request) (segment : Segment) (long : Bool) → Takes n s
    → Takes n (if long then refuse s r out_of_resources else if r.continues then gather s r (segment_bytes segment)
    else whole_text (record s { gathered = [] }) r (text_ending s.gathered segment)).session
segment_by n s r segment true t = refuse_takes n s r out_of_resources t
segment_by n s r segment false t = gather_takes n s r segment r.continues t

segment_takes : (n : ℕ) (s : Session) (r : Request) (segment : Segment) → Takes n s → Takes n (segment_taken s r segment).session
segment_takes n s r segment t = segment_by n s r segment (nat_lt longest_text (length s.gathered + length (segment_bytes segment))) t

numbered_by : (n : ℕ) (s : Session) (r : Request) (begun : Bool) → Takes n s
    → Takes n (if begun then s else record s { begun = true; exp_cmd_sn = r.cmd_sn; isid = r.isid })
numbered_by n s r true t = t
numbered_by n s r false t = record { held = t.held; prefers = t.prefers }

request_takes : (n : ℕ) (s : Session) (r : Request) (segment : Segment) → Takes n s → Takes n (on_login_request s r segment).session
request_takes n s r segment t =
    let first : Takes n (numbers_settled s r) = numbered_by n s r s.begun t in
    refused_takes n (numbers_settled s r) r (first_reason (request_refusals s r)) (segment_taken (entered s r) r segment) first
    (segment_takes n (entered s r) r segment (record { held = first.held; prefers = first.prefers }))

login_takes : (n : ℕ) (s : Session) (head : Head) (segment : Segment) → Takes n s → Takes n (login_in s head segment).session
login_takes n s (LoginRequest r) segment t = request_takes n s r segment t
login_takes n s _ segment t = record { held = t.held; prefers = t.prefers }

-- ---- any messages

step_takes : (n : ℕ) (s : Machine) (disk : Disk) (m : Message) → Takes n s.session → Takes n (target_step false s disk m).machine.session
step_takes n s disk m t = by_phase s.session.phase refl
  where
    later : IsLater s.session.phase → Takes n (target_step false s disk m).machine.session
    later l =
        let x : Stays s (target_step false s disk m).machine = step_stays (reliable false) s disk m l in
        record {
          held = subst (λ (h : Held). n ≤ h.target_max_recv) (sym x.held) t.held;
          prefers = subst (λ (k : TargetSettings). n ≤ k.preferences.max_recv) (sym (step_settings (reliable false) s disk m)) t.prefers;
        }

    by_phase : (p : Phase) → s.session.phase ≡ p → Takes n (target_step false s disk m).machine.session
    by_phase phases.Login e =
        let open_ : is_machine_closed s ≡ false = ap is_closed_phase e in
        by_cases (is_over_limit s m.segment) (λ f. rw (open_, f) (record { held = t.held; prefers = t.prefers }))
        (λ f. rw (open_, f) (subst (λ (p : Phase). Takes n (phase_step (reliable false) p s disk m).machine.session) (sym e)
        (login_takes n s.session m.head m.segment t)))
    by_phase phases.Full e = later (subst IsLater (sym e) tt)
    by_phase phases.Closed e = later (subst IsLater (sym e) tt)

pub answers_take : (n : ℕ) (s : Machine) (disk : Disk) (ms : List Message) → Takes n s.session → Takes n (answers false s disk ms).machine.session
unfolding answers
answers_take n s disk [] t = t
answers_take n s disk (m ∷ ms) t = answers_take n (target_step false s disk m).machine (target_step false s disk m).disk ms (step_takes n s disk m t)
