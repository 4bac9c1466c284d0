-- Each round of a login brings it nearer to its end.
use Rattle.std.proofs.Common.{false, ◌≡◌, ◌<◌, ◌≤◌, ◌⊎◌, inl, inr, ℕ, ◌-◌, true, List, ◌++◌, length, drop, refl, sym, ap, ◌∙◌, subst, arith}
use Rattle.std.proofs.lemmas.List.{length-append, length-drop}
use Rattle.scsi_disk.specs.Disk.{Disk}
use Rattle.iscsi_text.specs.Canonical.{canonical_text}
use Rattle.iscsi_pdu.specs.declared.head.login_request.LoginRequest.{LoginRequest}
use Rattle.iscsi_stream.specs.declared.logins.Logins.{Logins}
use Rattle.iscsi_stream.specs.Stream.{Message}
use Rattle.iscsi_login.specs.declared.stage.Stage.{Stage}
use Rattle.iscsi_login.specs.declared.stage.Stage.TheVariants as stages
use Rattle.iscsi_target_session.specs.Session as target_session
use Rattle.iscsi_target_session.specs.LoginText.{answer_pairs}
use Rattle.iscsi_target.specs.State as target
use Rattle.iscsi_target.specs.Machine as target_machine
use Rattle.iscsi_initiator.specs.Configured.{IsStart}
use Rattle.iscsi_initiator.specs.State as initiator
use Rattle.iscsi_initiator.specs.Steps.{InitiatorStep}
use Rattle.iscsi_initiator.specs.Login.{following_stage, begins_stage, login_request_head, offered}
use Rattle.iscsi_initiator.specs.Machine.{initiator_step}
use Rattle.iscsi_pair.specs.World.{Opening, IsOpening, SuitEachOther}
use Rattle.iscsi_pair.proofs.Login.RoundAgrees.{Asking, Round}
use Rattle.iscsi_pair.proofs.Login.RoundProgress.{PartTurn, TextKeeps, emptied, text_fits, text_head, text_keeps, turns}
use Rattle.iscsi_pair.proofs.Login.RoundBegins.{Suited}
use Rattle.iscsi_pair.proofs.Login.InitiatorStep.{with_answer}

-- the login has gone on: with less of the text left, or with the text of the second stage
abbrev pub IsNearer : initiator.InitiatorSession → initiator.InitiatorSession → Type 0
IsNearer i j = ((j.stage ≡ i.stage) × (length j.unsent_text < length i.unsent_text)) ⊎ ((i.stage ≡ stages.Security) × (j.stage ≡ stages.Operational))

-- the initiator with the answer to a whole text
abbrev after_text : initiator.InitiatorSession → target.Machine → initiator.InitiatorSession
after_text i t =
    let h : LoginRequest = login_request_head i true in
    let e : target_session.Session = emptied t.session h in
    with_answer i (text_head e h) (answer_pairs e (offered i))

-- a text that ends leads to the second stage, or to the end of the login
ends_text : (stage : Stage) (i w : initiator.InitiatorSession) (s : InitiatorStep) → i.stage ≡ stage → IsStart i.stage → IsStart s.machine.stage
    → s ≡ begins_stage (following_stage i.stage) w → IsNearer i s.machine
ends_text stages.Security i w s is start on e =
    let m : initiator.InitiatorSession = record w { stage = stages.Operational } in
    let now : s ≡ begins_stage stages.Operational w = e ∙ ap (λ (x : Stage). begins_stage (following_stage x) w) is in
    let k : TextKeeps m (begins_stage stages.Operational w) = text_keeps m in
    inr (is, ap (λ (x : InitiatorStep). x.machine.stage) now ∙ k.stage)
ends_text stages.Operational i w s is start on e =
    let now : s ≡ begins_stage stages.Full w = e ∙ ap (λ (x : Stage). begins_stage (following_stage x) w) is in
    absurd (subst IsStart (ap (λ (x : InitiatorStep). x.machine.stage) now) on)
ends_text stages.Full i w s is start on e = absurd (subst IsStart is start)

-- one that goes on leaves less of it
less_left : (c : Opening) (i : initiator.InitiatorSession) (t : target.Machine) (r answer : Message) (disk : Disk) → i.settings ≡ c.initiator
    → 64 ≤ c.initiator.login_segment → PartTurn i t disk r answer → IsNearer i (initiator_step i answer).machine
less_left c i t r answer disk same least q =
    let left : (initiator_step i answer).machine.unsent_text ≡ drop i.settings.login_segment i.unsent_text =
    ap (λ (x : InitiatorStep). x.machine.unsent_text) q.now in
    let size : length (drop i.settings.login_segment i.unsent_text) ≡ length i.unsent_text - i.settings.login_segment =
    length-drop i.settings.login_segment i.unsent_text in
    let most : i.settings.login_segment ≡ c.initiator.login_segment = ap (λ (x : initiator.InitiatorSettings). x.login_segment) same in
    let some = q.some in
    inl (
      ap (λ (x : InitiatorStep). x.machine.stage) q.now,
      subst (λ (x : List ℕ). length x < length i.unsent_text) (sym left)
          (omega (arith, size, most, least, some)),
    )

-- a round leads nearer, unless it completes the login
pub nearer : (c : Opening) (i : initiator.InitiatorSession) (t : target.Machine) (logins next : Logins) (r : Message) (disk : Disk) → IsOpening c
    → SuitEachOther c
    → (a : Asking c i t logins r) → Suited c i t → (turn : Round c i (target_machine.target_step false t disk r) next)
    → IsStart (initiator_step i turn.answer).machine.stage
    → IsNearer i (initiator_step i turn.answer).machine
nearer c i t logins next r disk o suits a s turn on = elim (turns c i t logins next r disk o suits a s turn) [
  | inl q ↦ ends_text i.stage i (after_text i t) (initiator_step i turn.answer) refl a.stage on q.now
  | inr q ↦ less_left c i t r turn.answer disk a.settings o.initiator.in_range.least q
]

-- a part of a text is no more than the text
part_few : (gathered bytes left text : List ℕ) → gathered ++ (bytes ++ left) ≡ text → length text ≤ 8192 → length left ≤ 8192
part_few gathered bytes left text e le =
    let f = ap length e in
    let a = length-append gathered (bytes ++ left) in
    let b = length-append bytes left in
    omega (arith, f, a, b, le)

-- what is left of a text is short
pub unsent_few : (c : Opening) (i : initiator.InitiatorSession) (t : target.Machine) (logins : Logins) (r : Message) → IsOpening c → Asking c i t logins r
    → length i.unsent_text ≤ 8192
unsent_few c i t logins r o a = elim a.how [
  | inl w ↦ (let none = ap length w.unsent_text in omega (arith, none))
  | inr p ↦ part_few t.session.gathered p.bytes i.unsent_text (canonical_text (offered i)) p.text (text_fits c i o a.settings a.stage)
]
