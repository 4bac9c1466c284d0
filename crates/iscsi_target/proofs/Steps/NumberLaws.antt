-- Numbers that count on, over any messages.
use Rattle.std.proofs.Common.{Bool, ◌≡◌, ◌<◌, ◌≤◌, ℕ, zero, suc, ◌+◌, ◌^◌, ◌%◌, List, [], ◌∷◌, ◌++◌, true, false, length, refl, sym, ap, ◌∙◌, subst, arith}
use Rattle.std.specs.List.{AllByRecursion}
use Rattle.std.proofs.lemmas.List.{map-append}
use Rattle.std.proofs.lemmas.Grind.{flat_map-append}
use Rattle.scsi_disk.specs.Disk.{Disk}
use Rattle.iscsi_pdu.specs.declared.head.Head.{Head}
use Rattle.iscsi_pdu.specs.declared.head.Head.TheVariants.{LoginRequest}
use Rattle.iscsi_pdu.specs.declared.head.login_request.LoginRequest.{LoginRequest as LoginPdu}
use Rattle.iscsi_stream.specs.Stream.{Message}
use Rattle.iscsi_login.specs.Negotiation.{ArePreferencesInRange}
use Rattle.iscsi_login.specs.Held.{IsHeld}
use Rattle.iscsi_target_session.specs.Configured.{TargetSettings}
use Rattle.iscsi_target_session.specs.Session.{target_limit, opening_session}
use Rattle.iscsi_target.specs.State.{Machine, Execution, TargetStep, on, unchanged, shut_down, opening_machine}
use Rattle.iscsi_pdu.specs.Serial.{next_sn}
use Rattle.iscsi_target_session.specs.Login.{target_login_step, login_in, on_login_request, numbers_settled}
use Rattle.iscsi_target.specs.Machine.{target_step, answers, then_stepped, is_machine_closed, is_over_limit}
use Rattle.iscsi_target.specs.Laws.{stat_sns, stat_sn_of, given_number, response_tags, response_tag, cmd_sns, cmd_sn_of, HasCmdSn, CountOn}
use Rattle.iscsi_target_session.proofs.CaseLemmas.{by_cases}
use Rattle.iscsi_target.proofs.Answers.ReplyLemmas.{Count, IsReply, request_reply}
use Rattle.iscsi_target.proofs.Steps.SendingLemmas.{CountsTo, StepTells, counts_on, counts_out, step_tells, tags_done, count_append}
use Rattle.iscsi_target.specs.Execution.{reliable}

pub count_on : (n : ℕ) (numbers : List ℕ) (after : ℕ) → n < 2 ^ 32 → Count n numbers after → CountOn n numbers
count_on n [] after lt c k le = absurd (omega (arith, le))
count_on n (x ∷ numbers) after lt c zero le = c.0 ∙ omega (arith, lt)
count_on n (x ∷ numbers) after lt c (suc k) le =
    count_on (next_sn n) numbers after (omega arith) c.1 k (omega (arith, le)) ∙ omega (arith, lt)

pub count_after : (n : ℕ) (numbers : List ℕ) (after : ℕ) → n < 2 ^ 32 → Count n numbers after → after ≡ (n + length numbers) % 2 ^ 32
count_after n [] after lt c = c ∙ omega (arith, lt)
count_after n (x ∷ numbers) after lt c = count_after (next_sn n) numbers after (omega arith) c.1 ∙ omega arith

-- ---- StatSN and tags

pub answers_stat_sns : (protected : Bool) (s : Machine) (disk : Disk) (ms : List Message)
    → Count s.session.stat_sn (stat_sns (answers protected s disk ms).answers)
    (answers protected s disk ms).machine.session.stat_sn
unfolding answers
answers_stat_sns protected s disk [] = refl
answers_stat_sns protected s disk (m ∷ ms) =
    let first : TargetStep = target_step protected s disk m in
    let later : TargetStep = answers protected first.machine first.disk ms in
    subst (λ (ns : List ℕ). Count s.session.stat_sn ns later.machine.session.stat_sn)
    (sym (flat_map-append (λ (x : Message). given_number (stat_sn_of x.head)) first.answers later.answers))
    (count_append s.session.stat_sn (stat_sns first.answers) (stat_sns later.answers) first.machine.session.stat_sn later.machine.session.stat_sn
    (step_tells (reliable protected) disk s m).stat_sn (answers_stat_sns protected first.machine first.disk ms))

pub answers_tags : (protected : Bool) (s : Machine) (disk : Disk) (ms : List Message)
    → response_tags (answers protected s disk ms).answers ≡ tags_done (answers protected s disk ms).executed
unfolding answers
answers_tags protected s disk [] = refl
answers_tags protected s disk (m ∷ ms) =
    let first : TargetStep = target_step protected s disk m in
    let later : TargetStep = answers protected first.machine first.disk ms in
    flat_map-append (λ (x : Message). response_tag x.head) first.answers later.answers
    ∙ ap (λ (ts : List ℕ). ts ++ response_tags later.answers) (step_tells (reliable protected) disk s m).tags
    ∙ ap (λ (ts : List ℕ). tags_done first.executed ++ ts) (answers_tags protected first.machine first.disk ms)
    ∙ sym (map-append (λ (e : Execution). e.initiator_task_tag) first.executed later.executed)

-- ---- a closed session

pub closed_step : (protected : Bool) (s : Machine) (disk : Disk) (m : Message) → is_machine_closed s ≡ true → target_step protected s disk m ≡ unchanged s disk
closed_step protected s disk m e = rw e refl

pub closed_answers : (protected : Bool) (s : Machine) (disk : Disk) (ms : List Message) → is_machine_closed s ≡ true → answers protected s disk ms
    ≡ unchanged s disk
unfolding answers
closed_answers protected s disk [] e = refl
closed_answers protected s disk (m ∷ ms) e =
    ap (λ (r : TargetStep). then_stepped r (answers protected r.machine r.disk ms)) (closed_step protected s disk m e)
    ∙ ap (λ (r : TargetStep). then_stepped (unchanged s disk) r) (closed_answers protected s disk ms e)

-- ---- CmdSN

pub answers_cmd_sns : (protected : Bool) (s : Machine) (disk : Disk) (ms : List Message) → s.session.begun ≡ true → s.session.exp_cmd_sn < 2 ^ 32
    → AllByRecursion HasCmdSn ms
    → CountsTo s.session.exp_cmd_sn (cmd_sns (answers protected s disk ms).accepted) (answers protected s disk ms).machine
unfolding answers
answers_cmd_sns protected s disk [] b f all = record { next = s.session.exp_cmd_sn; count = refl; fits = f; live = λ e. (b, refl) }
answers_cmd_sns protected s disk (m ∷ ms) b f all =
    let first : TargetStep = target_step protected s disk m in
    let later : TargetStep = answers protected first.machine first.disk ms in
    let t : CountsTo s.session.exp_cmd_sn (cmd_sns first.accepted) first.machine = (step_tells (reliable protected) disk s m).cmd_sns b f all.0 in
    subst (λ (ns : List ℕ). CountsTo s.session.exp_cmd_sn ns later.machine)
    (sym (flat_map-append (λ (x : Message). given_number (cmd_sn_of x.head)) first.accepted later.accepted))
    (by_cases (is_machine_closed first.machine)
    (λ e. let same : later ≡ unchanged first.machine first.disk = closed_answers protected first.machine first.disk ms e in
    counts_out s.session.exp_cmd_sn (cmd_sns first.accepted) (cmd_sns later.accepted) first.machine later.machine
    (ap (λ (r : TargetStep). is_machine_closed r.machine) same ∙ e) (ap (λ (r : TargetStep). cmd_sns r.accepted) same) t)
    (λ e. counts_on s.session.exp_cmd_sn (cmd_sns first.accepted) (cmd_sns later.accepted) first.machine later.machine e t
    (answers_cmd_sns protected first.machine first.disk ms (t.live e).0 (subst (λ (k : ℕ). k < 2 ^ 32) (sym (t.live e).1) t.fits) all.1)))

-- ---- what is held

pub record IsFit (s : Machine) : Type 0 where
  pub held : ArePreferencesInRange s.session.settings.preferences → IsHeld s.session.held
  pub limit : s.session.held.target_max_recv ≤ target_limit s.session.settings

pub step_fit : (protected : Bool) (s : Machine) (disk : Disk) (m : Message) → IsFit s → IsFit (target_step protected s disk m).machine
step_fit protected s disk m f =
    let t : StepTells (reliable protected) s m (target_step protected s disk m) = step_tells (reliable protected) disk s m in
    record {
      held = λ p. let q : ArePreferencesInRange s.session.settings.preferences =
          subst (λ (x : TargetSettings). ArePreferencesInRange x.preferences) t.settings p in t.held q (f.held q);
      limit = subst (λ (x : TargetSettings). (target_step protected s disk m).machine.session.held.target_max_recv ≤ target_limit x) (sym t.settings)
          (t.limit f.limit);
    }

pub answers_fit : (protected : Bool) (s : Machine) (disk : Disk) (ms : List Message) → IsFit s → IsFit (answers protected s disk ms).machine
unfolding answers
answers_fit protected s disk [] f = f
answers_fit protected s disk (m ∷ ms) f = answers_fit protected (target_step protected s disk m).machine (target_step protected s disk m).disk ms
    (step_fit protected s disk m f)

pub answers_settings : (protected : Bool) (s : Machine) (disk : Disk) (ms : List Message)
    → (answers protected s disk ms).machine.session.settings ≡ s.session.settings
unfolding answers
answers_settings protected s disk [] = refl
answers_settings protected s disk (m ∷ ms) = answers_settings protected (target_step protected s disk m).machine (target_step protected s disk m).disk ms
    ∙ (step_tells (reliable protected) disk s m).settings

-- ---- from the first login request

pub opening_over : (protected : Bool) (settings : TargetSettings) (n : ℕ) (disk : Disk) (m : Message) → is_over_limit (opening_machine settings n) m.segment
    ≡ true
    → target_step protected (opening_machine settings n) disk m ≡ shut_down (opening_machine settings n) disk
opening_over protected settings n disk m e = rw e refl

pub opening_login : (protected : Bool) (settings : TargetSettings) (n : ℕ) (disk : Disk) (m : Message) → is_over_limit (opening_machine settings n) m.segment
    ≡ false
    → target_step protected (opening_machine settings n) disk m ≡ on disk [] (target_login_step (opening_session settings n) m)
opening_login protected settings n disk m e = rw e refl

-- after messages of which the first does this
abbrev From : Bool → Disk → List Message → ℕ → TargetStep → Type 0
From protected disk ms first r = CountOn first (cmd_sns (then_stepped r (answers protected r.machine r.disk ms)).accepted)

from_closed : (protected : Bool) (disk : Disk) (ms : List Message) (first : ℕ) (s : Machine) → is_machine_closed s ≡ true
    → CountOn first (cmd_sns (answers protected s disk ms).accepted)
from_closed protected disk ms first s e = subst (λ (r : TargetStep). CountOn first (cmd_sns r.accepted)) (sym (closed_answers protected s disk ms e))
    (λ k le. absurd (omega (arith, le)))

from_login : (protected : Bool) (s : Machine) (disk : Disk) (ms : List Message) (first : ℕ) → s.session.begun ≡ true → s.session.exp_cmd_sn ≡ first
    → first < 2 ^ 32 →
    AllByRecursion HasCmdSn ms
    → CountOn first (cmd_sns (answers protected s disk ms).accepted)
from_login protected s disk ms first b e lt all =
    let c : CountsTo first (cmd_sns (answers protected s disk ms).accepted) (answers protected s disk ms).machine =
    subst (λ (n : ℕ). CountsTo n (cmd_sns (answers protected s disk ms).accepted) (answers protected s disk ms).machine) e
    (answers_cmd_sns protected s disk ms b (subst (λ (n : ℕ). n < 2 ^ 32) (sym e) lt) all) in
    count_on first (cmd_sns (answers protected s disk ms).accepted) c.next lt c.count

from_request : (protected : Bool) (settings : TargetSettings) (n : ℕ) (disk : Disk) (m : Message) (ms : List Message) (h : LoginPdu) (head : Head)
    → head ≡ LoginRequest h → h.cmd_sn
    < 2 ^ 32
    → AllByRecursion HasCmdSn ms → From protected disk ms h.cmd_sn (on disk [] (login_in (opening_session settings n) head m.segment))
from_request protected settings n disk m ms h head k lt all =
    let c : IsReply (numbers_settled (opening_session settings n) h) (on_login_request (opening_session settings n) h m.segment) =
    request_reply (opening_session settings n) h m.segment in
    subst (λ (x : Head). From protected disk ms h.cmd_sn (on disk [] (login_in (opening_session settings n) x m.segment))) (sym k)
    (let after : Machine = (on disk [] (on_login_request (opening_session settings n) h m.segment)).machine in
    by_cases (is_machine_closed after) (from_closed protected disk ms h.cmd_sn after)
    (λ e. from_login protected after disk ms h.cmd_sn (c.live e).0 (c.live e).1 lt all))

pub first_numbers : (protected : Bool) (settings : TargetSettings) (n : ℕ) (disk : Disk) (m : Message) (ms : List Message) (h : LoginPdu) → m.head
    ≡ LoginRequest h
    → h.cmd_sn < 2 ^ 32
    → AllByRecursion HasCmdSn ms → CountOn h.cmd_sn (cmd_sns (answers protected (opening_machine settings n) disk (m ∷ ms)).accepted)
unfolding answers
first_numbers protected settings n disk m ms h k lt all =
    by_cases (is_over_limit (opening_machine settings n) m.segment)
    (λ e. subst (From protected disk ms h.cmd_sn) (sym (opening_over protected settings n disk m e))
    (from_closed protected disk ms h.cmd_sn (shut_down (opening_machine settings n) disk).machine refl))
    (λ e. subst (From protected disk ms h.cmd_sn) (sym (opening_login protected settings n disk m e))
    (from_request protected settings n disk m ms h m.head k lt all))
