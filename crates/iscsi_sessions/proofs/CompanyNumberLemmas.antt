-- One session in company: CmdSN counts on.
use Rattle.std.proofs.Common.{Bool, ◌≡◌, ◌<◌, ℕ, ◌^◌, true, List, [], ◌∷◌, ◌++◌, refl, sym, ap, subst, ◌∙◌, arith, append_assoc}
use Rattle.std.specs.List.{AllByRecursion}
use Rattle.std.proofs.lemmas.Grind.{flat_map-append}
use Rattle.scsi_disk.specs.Disk.{Disk}
use Rattle.iscsi_stream.specs.Stream.{Message}
use Rattle.iscsi_pdu.specs.declared.head.Head.{Head}
use Rattle.iscsi_pdu.specs.declared.head.Head.TheVariants.{LoginRequest}
use Rattle.iscsi_pdu.specs.declared.head.login_request.LoginRequest.{LoginRequest as LoginPdu}
use Rattle.iscsi_target_session.specs.Session.{opening_session}
use Rattle.iscsi_target_session.specs.Login.{login_in, on_login_request, numbers_settled}
use Rattle.iscsi_target_session.specs.Configured.{TargetSettings}
use Rattle.iscsi_target.specs.State.{Machine, TargetStep, on, opening_machine, shut_down}
use Rattle.iscsi_target.specs.Machine.{answers, is_machine_closed, is_over_limit, target_step, then_stepped}
use Rattle.iscsi_target.specs.Laws.{CountOn, FitsNumber, HasCmdSn, login_cmd_sn, given_number, cmd_sn_of, cmd_sns}
use Rattle.iscsi_target_session.proofs.CaseLemmas.{by_cases}
use Rattle.iscsi_target.proofs.Steps.NumberLaws.{answers_cmd_sns, count_on, opening_over, opening_login}
use Rattle.iscsi_target.proofs.Answers.ReplyLemmas.{IsReply, request_reply}
use Rattle.iscsi_target.proofs.Steps.SendingLemmas.{CountsTo, counts_on, counts_out}
use Rattle.iscsi_sessions.specs.Company.{Group, answers_over, messages_in}
use Rattle.iscsi_sessions.proofs.CompanyLemmas.{over_closed}

all_parts : (a b : List Message) → AllByRecursion HasCmdSn (a ++ b) → AllByRecursion HasCmdSn a × AllByRecursion HasCmdSn b
all_parts [] b all = (tt, all)
all_parts (m ∷ a) b all = let rest = all_parts a b all.1 in ((all.0, rest.0), rest.1)

over_cmd_sns : (protected : Bool) (s : Machine) (disk : Disk) (gs : List Group) → s.session.begun ≡ true → s.session.exp_cmd_sn < 2 ^ 32 →
    AllByRecursion HasCmdSn (messages_in gs) → CountsTo s.session.exp_cmd_sn (cmd_sns (answers_over protected s disk gs).accepted)
    (answers_over protected s disk gs).machine
unfolding answers_over
over_cmd_sns protected s disk [] b lt all = record { next = s.session.exp_cmd_sn; count = refl; fits = lt; live = λ e. (b, refl) }
over_cmd_sns protected s disk (g ∷ gs) b lt all =
    let first : TargetStep = answers protected s g.0 g.1 in
    let later : TargetStep = answers_over protected first.machine first.disk gs in
    let both = all_parts g.1 (messages_in gs) all in
    let t : CountsTo s.session.exp_cmd_sn (cmd_sns first.accepted) first.machine = answers_cmd_sns protected s g.0 g.1 b lt both.0 in
    subst (λ (ns : List ℕ). CountsTo s.session.exp_cmd_sn ns later.machine)
    (sym (flat_map-append (λ (x : Message). given_number (cmd_sn_of x.head)) first.accepted later.accepted))
    (by_cases (is_machine_closed first.machine)
    (λ e. let over = over_closed protected first.machine first.disk gs e in
    counts_out s.session.exp_cmd_sn (cmd_sns first.accepted) (cmd_sns later.accepted) first.machine later.machine over.2 (ap cmd_sns over.0) t)
    (λ e. counts_on s.session.exp_cmd_sn (cmd_sns first.accepted) (cmd_sns later.accepted) first.machine later.machine e t
    (over_cmd_sns protected first.machine first.disk gs (t.live e).0 (subst (λ (k : ℕ). k < 2 ^ 32) (sym (t.live e).1) t.fits) both.1)))

-- messages and then groups, as one
behind_count : (protected : Bool) (s : Machine) (disk : Disk) (ms : List Message) (gs : List Group) (n : ℕ) → s.session.begun ≡ true → s.session.exp_cmd_sn ≡ n
    → n < 2 ^ 32 →
    AllByRecursion HasCmdSn (ms ++ messages_in gs) →
    CountOn n (cmd_sns (then_stepped (answers protected s disk ms) (answers_over protected (answers protected s disk ms).machine
    (answers protected s disk ms).disk gs)).accepted)
unfolding answers_over
behind_count protected s disk ms gs n b same lt all =
    let r : TargetStep = answers_over protected s disk ((disk, ms) ∷ gs) in
    let low : s.session.exp_cmd_sn < 2 ^ 32 = subst (λ (k : ℕ). k < 2 ^ 32) (sym same) lt in
    let c : CountsTo n (cmd_sns r.accepted) r.machine = subst (λ (k : ℕ). CountsTo k (cmd_sns r.accepted) r.machine) same
    (over_cmd_sns protected s disk ((disk, ms) ∷ gs) b low all) in
    count_on n (cmd_sns r.accepted) c.next lt c.count

nothing_counts : (n : ℕ) (ms : List Message) → ms ≡ [] → CountOn n (cmd_sns ms)
nothing_counts n ms e = subst (λ (xs : List Message). CountOn n (cmd_sns xs)) (sym e) (λ k le. absurd (omega (arith, le)))

closed_accepts : (protected : Bool) (s : Machine) (disk : Disk) (ms : List Message) (gs : List Group) → is_machine_closed s ≡ true →
    (then_stepped (answers protected s disk ms) (answers_over protected (answers protected s disk ms).machine
    (answers protected s disk ms).disk gs)).accepted ≡ []
unfolding answers_over
closed_accepts protected s disk ms gs e = (over_closed protected s disk ((disk, ms) ∷ gs) e).0

-- behind the first PDU that came
abbrev Behind : Bool → Disk → List Message → List Group → ℕ → TargetStep → Type 0
Behind protected disk ms gs first r = CountOn first (cmd_sns (then_stepped r
    (then_stepped (answers protected r.machine r.disk ms) (answers_over protected (answers protected r.machine r.disk ms).machine
    (answers protected r.machine r.disk ms).disk gs))).accepted)

behind_login : (protected : Bool) (settings : TargetSettings) (n : ℕ) (disk : Disk) (m : Message) (ms : List Message) (gs : List Group) (h : LoginPdu)
    (head : Head) →
    head ≡ LoginRequest h → h.cmd_sn < 2 ^ 32 → AllByRecursion HasCmdSn (ms ++ messages_in gs) →
    Behind protected disk ms gs h.cmd_sn (on disk [] (login_in (opening_session settings n) head m.segment))
behind_login protected settings n disk m ms gs h head k lt all =
    let c : IsReply (numbers_settled (opening_session settings n) h) (on_login_request (opening_session settings n) h m.segment) =
    request_reply (opening_session settings n) h m.segment in
    subst (λ (x : Head). Behind protected disk ms gs h.cmd_sn (on disk [] (login_in (opening_session settings n) x m.segment))) (sym k)
    (let after : Machine = (on disk [] (on_login_request (opening_session settings n) h m.segment)).machine in
    by_cases (is_machine_closed after) (λ e. nothing_counts h.cmd_sn _ (closed_accepts protected after disk ms gs e))
    (λ e. behind_count protected after disk ms gs h.cmd_sn (c.live e).0 (c.live e).1 lt all))

behind_first : (protected : Bool) (settings : TargetSettings) (n : ℕ) (disk : Disk) (m : Message) (ms : List Message) (gs : List Group) (h : LoginPdu) →
    m.head ≡ LoginRequest h → h.cmd_sn < 2 ^ 32 → AllByRecursion HasCmdSn (ms ++ messages_in gs) →
    Behind protected disk ms gs h.cmd_sn (target_step protected (opening_machine settings n) disk m)
behind_first protected settings n disk m ms gs h k lt all =
    by_cases (is_over_limit (opening_machine settings n) m.segment)
    (λ e. subst (Behind protected disk ms gs h.cmd_sn) (sym (opening_over protected settings n disk m e))
    (nothing_counts h.cmd_sn _ (closed_accepts protected (shut_down (opening_machine settings n) disk).machine disk ms gs refl)))
    (λ e. subst (Behind protected disk ms gs h.cmd_sn) (sym (opening_login protected settings n disk m e))
    (behind_login protected settings n disk m ms gs h m.head k lt all))

first_group : (protected : Bool) (settings : TargetSettings) (n : ℕ) (disk : Disk) (ms : List Message) (gs : List Group) (first : Message)
    (more : List Message) (h : LoginPdu) →
    ms ++ messages_in gs ≡ first ∷ more → first.head ≡ LoginRequest h → h.cmd_sn < 2 ^ 32 → AllByRecursion HasCmdSn more →
    (messages_in gs ≡ first ∷ more → CountOn h.cmd_sn (cmd_sns (answers_over protected (opening_machine settings n) disk gs).accepted)) →
    CountOn h.cmd_sn (cmd_sns (then_stepped (answers protected (opening_machine settings n) disk ms)
    (answers_over protected (answers protected (opening_machine settings n) disk ms).machine (answers protected (opening_machine settings n) disk ms).disk
    gs)).accepted)
unfolding answers
first_group protected settings n disk [] gs first more h e k lt all go = go e
first_group protected settings n disk (m ∷ ms) gs first more h e k lt all go =
    let same : m ≡ first = cc in
    let rest : ms ++ messages_in gs ≡ more = cc in
    let r : TargetStep = target_step protected (opening_machine settings n) disk m in
    let head : m.head ≡ LoginRequest h = ap (λ (x : Message). x.head) same ∙ k in
    let later : TargetStep = answers protected r.machine r.disk ms in
    subst (λ (xs : List Message). CountOn h.cmd_sn (cmd_sns xs))
    (sym (append_assoc r.accepted later.accepted (answers_over protected later.machine later.disk gs).accepted))
    (behind_first protected settings n disk m ms gs h head lt (subst (λ (xs : List Message). AllByRecursion HasCmdSn xs) (sym rest) all))

login_fits : (head : Head) (h : LoginPdu) → head ≡ LoginRequest h → FitsNumber (login_cmd_sn head) → h.cmd_sn < 2 ^ 32
login_fits head h k f = subst (λ (x : Head). FitsNumber (login_cmd_sn x)) k f

pub over_commands : (protected : Bool) (settings : TargetSettings) (n : ℕ) (disk : Disk) (gs : List Group) (first : Message) (more : List Message)
    (h : LoginPdu) →
    messages_in gs ≡ first ∷ more → first.head ≡ LoginRequest h → AllByRecursion HasCmdSn (first ∷ more) →
    CountOn h.cmd_sn (cmd_sns (answers_over protected (opening_machine settings n) disk gs).accepted)
unfolding answers_over
over_commands protected settings n disk [] first more h e k all = absurd cc
over_commands protected settings n disk (g ∷ gs) first more h e k all =
    first_group protected settings n g.0 g.1 gs first more h e k (login_fits first.head h k all.0.login) all.1
    (λ f. over_commands protected settings n g.0 gs first more h f k all)
