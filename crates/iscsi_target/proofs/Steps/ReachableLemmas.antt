-- What holds in each state that messages lead to from the opening state.
use Rattle.std.proofs.Common.{◌≡◌, ◌≤◌, ℕ, List, [], ◌∷◌, Option, Some, Bool, false, length, refl, sym, ap, ◌∙◌, subst, arith}
use Rattle.std.specs.Prelude.{nat_lt}
use Rattle.std.proofs.lemmas.Bool.{ltb-false, ltb-true}
use Rattle.scsi_disk.specs.Disk.{Disk}
use Rattle.iscsi_stream.specs.Segment.{Segment, Bytes, Text, segment_bytes}
use Rattle.iscsi_stream.specs.Stream.{Message}
use Rattle.iscsi_text.specs.declared.negotiated.NegKey.{NegKey}
use Rattle.iscsi_text.specs.declared.negotiated.NegKey.TheVariants as keys
use Rattle.iscsi_login.specs.declared.phase.Phase.{Phase}
use Rattle.iscsi_text.specs.Negotiated.{rule_of}
use Rattle.iscsi_login.specs.Negotiation.{AllowsValue, ArePreferencesInRange}
use Rattle.iscsi_login.specs.Held.{IsHeld, defaults, held_value}
use Rattle.iscsi_login.proofs.AgreementLaw.{default_allowed}
use Rattle.iscsi_target_session.specs.Configured.{TargetSettings, shortened}
use Rattle.iscsi_target_session.specs.Session.{target_limit}
use Rattle.iscsi_target.specs.State.{Machine, Execution, TargetStep, opening_machine, unchanged, max_cmd_sn}
use Rattle.iscsi_pdu.specs.Serial.{is_within}
use Rattle.iscsi_target.specs.Machine.{MayStep, MayAnswer, Met, Dropped, plainly, next_step, having_accepted, target_step, answers, is_machine_closed, is_over_limit, target_full_step, full_met}
use Rattle.iscsi_target.specs.Machine.{phase_step, due_met, inbound_met}
use Rattle.iscsi_login.specs.Stage.{is_closed_phase}
use Rattle.iscsi_target.specs.Tiles.{TilesDataIn, AreShortDataIn, GiveTiles, bytes_given}
use Rattle.iscsi_target_session.specs.declared.inbound.Inbound.TheVariants as inbounds
use Rattle.iscsi_target_session.specs.declared.inbound.InboundRequest.{InboundRequest}
use Rattle.iscsi_target.specs.Laws.{IsOutside}
use Rattle.iscsi_target_session.proofs.CaseLemmas.{by_cases}
use Rattle.iscsi_target.proofs.Steps.SendingLemmas.{StepTells, step_tells, Gives, IsLimit, short_append}
use Rattle.iscsi_target.proofs.Steps.NumberLaws.{IsFit, answers_fit, answers_settings}
use Rattle.iscsi_target.specs.Execution.{reliable}

-- ---- what is held

default_held : (key : NegKey) → AllowsValue (rule_of key) (held_value defaults key)
default_held keys.MaxConnections = default_allowed keys.MaxConnections
default_held keys.InitialR2T = default_allowed keys.InitialR2T
default_held keys.ImmediateData = default_allowed keys.ImmediateData
default_held keys.MaxBurstLength = default_allowed keys.MaxBurstLength
default_held keys.FirstBurstLength = default_allowed keys.FirstBurstLength
default_held keys.DefaultTime2Wait = default_allowed keys.DefaultTime2Wait
default_held keys.DefaultTime2Retain = default_allowed keys.DefaultTime2Retain
default_held keys.MaxOutstandingR2T = default_allowed keys.MaxOutstandingR2T
default_held keys.DataPDUInOrder = default_allowed keys.DataPDUInOrder
default_held keys.DataSequenceInOrder = default_allowed keys.DataSequenceInOrder
default_held keys.ErrorRecoveryLevel = default_allowed keys.ErrorRecoveryLevel
default_held keys.HeaderDigest = default_allowed keys.HeaderDigest
default_held keys.DataDigest = default_allowed keys.DataDigest
default_held keys.AuthMethod = default_allowed keys.AuthMethod

opening_fit : (settings : TargetSettings) (n : ℕ) → IsFit (opening_machine settings n)
opening_fit settings n = record {
  held = λ p. record { values = default_held; initiator_max_recv = (omega arith, omega arith); target_max_recv = (omega arith, omega arith) };
  limit = omega arith;
}

pub reached_fit : (protected : Bool) (settings : TargetSettings) (n : ℕ) (disk : Disk) (ms : List Message)
    → IsFit (answers protected (opening_machine settings n) disk ms).machine
reached_fit protected settings n disk ms = answers_fit protected (opening_machine settings n) disk ms (opening_fit settings n)

pub reached_held : (protected : Bool) (settings : TargetSettings) (n : ℕ) (disk : Disk) (ms : List Message) → ArePreferencesInRange settings.preferences →
    IsHeld (answers protected (opening_machine settings n) disk ms).machine.session.held
reached_held protected settings n disk ms p =
    (reached_fit protected settings n disk ms).held (subst (λ (x : TargetSettings). ArePreferencesInRange x.preferences)
    (sym (answers_settings protected (opening_machine settings n) disk ms)) p)

-- ---- Data-In

-- what a store that doesn't fail gives
pub gives_tiles : (protected : Bool) (answers : List Message) (es : List Execution) → Gives (reliable protected) answers es
    → GiveTiles (bytes_given protected) answers es
gives_tiles protected answers [] g = g
gives_tiles protected answers (e ∷ es) g = (g.0, g.1, g.2, g.3, gives_tiles protected g.1 es g.4)

pub reached_data_in : (protected : Bool) (settings : TargetSettings) (n : ℕ) (disk : Disk) (ms : List Message) (m : Message)
    → ArePreferencesInRange settings.preferences
    → TilesDataIn protected (target_step protected (answers protected (opening_machine settings n) disk ms).machine
    (answers protected (opening_machine settings n) disk ms).disk m)
reached_data_in protected settings n disk ms m p =
    let r : TargetStep = answers protected (opening_machine settings n) disk ms in
    let t : StepTells (reliable protected) r.machine m (target_step protected r.machine r.disk m) = step_tells (reliable protected) r.disk r.machine m in
    gives_tiles protected (target_step protected r.machine r.disk m).answers (target_step protected r.machine r.disk m).executed
    (t.gives (subst (λ (x : TargetSettings). ArePreferencesInRange x.preferences) (sym (answers_settings protected (opening_machine settings n) disk ms)) p)
    (reached_held protected settings n disk ms p))

answers_short : (protected : Bool) (s : Machine) (disk : Disk) (ms : List Message) (most : ℕ) → IsLimit s.session.settings most
    → AreShortDataIn most (answers protected s disk ms).answers
unfolding answers
answers_short protected s disk [] most l = tt
answers_short protected s disk (m ∷ ms) most l =
    let first : TargetStep = target_step protected s disk m in
    let t : StepTells (reliable protected) s m first = step_tells (reliable protected) disk s m in
    short_append most first.answers (answers protected first.machine first.disk ms).answers (t.short most l)
    (answers_short protected first.machine first.disk ms most (subst (λ (x : TargetSettings). IsLimit x most) (sym t.settings) l))

limited : (told : Option ℕ) (limit : ℕ) → told ≡ Some limit → 512 ≤ limit → (bytes : ℕ) → shortened told bytes ≤ limit
limited told limit is some bytes = rw is (omega (arith, some))

pub told_short : (protected : Bool) (s : Machine) (disk : Disk) (ms : List Message) (limit : ℕ)
    → s.session.settings.extras.longest_data_in ≡ Some limit → 512 ≤ limit → AreShortDataIn limit (answers protected s disk ms).answers
told_short protected s disk ms limit is some =
    answers_short protected s disk ms limit (limited s.session.settings.extras.longest_data_in limit is some)

step_short : (protected : Bool) (s : Machine) (disk : Disk) (before after : ℕ) (m : Message) (r : TargetStep) → MayStep protected s disk before m r after
    → (most : ℕ) → IsLimit s.session.settings most
    → AreShortDataIn most r.answers × (r.machine.session.settings ≡ s.session.settings)
step_short protected s disk before after m r p most l =
    let t : StepTells p.device s m r = subst (λ (x : TargetStep). StepTells p.device s m x) (sym p.is) (step_tells p.device disk s m) in
    (t.short most l, t.settings)

may_short : (protected : Bool) (s : Machine) (disk : Disk) (before after : ℕ) (ms : List Message) (r : TargetStep)
    → MayAnswer protected s disk before ms r after → (most : ℕ) → IsLimit s.session.settings most → AreShortDataIn most r.answers
unfolding MayAnswer
may_short protected s disk before after [] r e most l = subst (λ (x : TargetStep). AreShortDataIn most x.answers) (sym e.0) tt
may_short protected s disk before after (m ∷ ms) r e most l =
    let first = step_short protected s disk before e.2 m e.0 e.3 most l in
    subst (λ (x : TargetStep). AreShortDataIn most x.answers) (sym e.5)
    (short_append most e.0.answers e.1.answers first.0
    (may_short protected e.0.machine e.0.disk e.2 after ms e.1 e.4 most (subst (λ (x : TargetSettings). IsLimit x most) (sym first.1) l)))

pub may_told_short : (protected : Bool) (s : Machine) (disk : Disk) (before after : ℕ) (ms : List Message) (r : TargetStep) (limit : ℕ)
    → s.session.settings.extras.longest_data_in ≡ Some limit → 512 ≤ limit
    → MayAnswer protected s disk before ms r after → AreShortDataIn limit r.answers
may_told_short protected s disk before after ms r limit is some e =
    may_short protected s disk before after ms r e limit (limited s.session.settings.extras.longest_data_in limit is some)

-- ---- outside the window

outside_due : (s : Machine) (count : ℕ) (m : Message) (r : InboundRequest) → r.immediate ≡ false → is_within r.cmd_sn s.session.exp_cmd_sn (max_cmd_sn s) ≡
    false
    → due_met s count m (inbounds.Request r) ≡ plainly Dropped
outside_due s count m r numbered outside = rw (numbered, outside) refl

outside_met : (s : Machine) (count : ℕ) (m : Message) → IsOutside s m → full_met s count m ≡ plainly Dropped
outside_met s count m o =
    ap (inbound_met s count m) o.came
    ∙ (let may = o.may in let size = o.size in rw (may, size) (outside_due s count m o.request o.numbered o.outside))

outside_full : (protected : Bool) (s : Machine) (disk : Disk) (m : Message) → IsOutside s m → target_full_step (reliable protected) s disk m ≡ unchanged s disk
outside_full protected s disk m o = ap (λ (x : Met). having_accepted x.accepted (next_step (reliable protected) s disk x.next)) (outside_met s disk.count m o)

within_limit : (s : Machine) (segment : Segment) → nat_lt s.session.held.target_max_recv (length (segment_bytes segment)) ≡ false
    → s.session.held.target_max_recv ≤ target_limit s.session.settings → is_over_limit s segment ≡ false
unfolding segment_bytes
within_limit s (Bytes bytes) e le =
    by_cases (nat_lt (target_limit s.session.settings) (length bytes))
    (λ f. absurd (omega (arith, le, ltb-false s.session.held.target_max_recv (length bytes) e, ltb-true (target_limit s.session.settings) (length bytes) f)))
    (λ f. f)
within_limit s (Text pairs) e le = refl

pub outside_step : (protected : Bool) (s : Machine) (disk : Disk) (m : Message) → s.session.held.target_max_recv ≤ target_limit s.session.settings
    → IsOutside s m
    → target_step protected s disk m
    ≡ unchanged s disk
outside_step protected s disk m le o =
    let open_ : is_machine_closed s ≡ false = ap is_closed_phase o.phase in
    let short : is_over_limit s m.segment ≡ false = within_limit s m.segment o.size le in
    rw (open_, short) (ap (λ (p : Phase). phase_step (reliable protected) p s disk m) o.phase ∙ outside_full protected s disk m o)

pub reached_outside : (protected : Bool) (settings : TargetSettings) (n : ℕ) (disk : Disk) (ms : List Message) (m : Message)
    → IsOutside (answers protected (opening_machine settings n) disk ms).machine m
    → target_step protected (answers protected (opening_machine settings n) disk ms).machine (answers protected (opening_machine settings n) disk ms).disk m
    ≡ unchanged (answers protected (opening_machine settings n) disk ms).machine (answers protected (opening_machine settings n) disk ms).disk
reached_outside protected settings n disk ms m o =
    let r : TargetStep = answers protected (opening_machine settings n) disk ms in
    outside_step protected r.machine r.disk m (reached_fit protected settings n disk ms).limit o

pub reached_limit : (protected : Bool) (settings : TargetSettings) (n : ℕ) (disk : Disk) (ms : List Message) →
    (answers protected (opening_machine settings n) disk ms).machine.session.held.target_max_recv ≤ target_limit settings
reached_limit protected settings n disk ms =
    subst (λ (x : TargetSettings). (answers protected (opening_machine settings n) disk ms).machine.session.held.target_max_recv ≤ target_limit x)
    (answers_settings protected (opening_machine settings n) disk ms) (reached_fit protected settings n disk ms).limit
