-- A round of the login, and where it leads.
use Rattle.std.proofs.Common.{◌≡◌, ◌<◌, ◌≤◌, ◌⊎◌, inl, inr, ℕ, ◌+◌, Bool, true, false, List, [], ◌∷◌, ◌++◌, length, Option, Some, None, refl, sym, ap, ◌∙◌}
use Rattle.std.proofs.Common.{subst, arith}
use Rattle.std.specs.Prelude.{nat_le, IfSome, if◌then◌else◌, unwrap_or}
use Rattle.std.proofs.lemmas.Bool.{and_from, cond_both, eq-eqb}
use Rattle.scsi_disk.specs.Disk.{Disk}
use Rattle.iscsi_text.specs.Text.{Pairs}
use Rattle.iscsi_text.specs.Canonical.{canonical_text}
use Rattle.iscsi_text.specs.Reading.{text_in, in_order}
use Rattle.std.proofs.lemmas.List.{append-nil, length-append}
use Rattle.iscsi_pdu.specs.declared.head.login_request.LoginRequest.{LoginRequest}
use Rattle.iscsi_pdu.specs.declared.head.login_response.LoginResponse.{LoginResponse}
use Rattle.iscsi_stream.specs.declared.logins.Logins.{Logins}
use Rattle.iscsi_login.specs.declared.phase.Phase.TheVariants as phases
use Rattle.iscsi_login.specs.Check.{bad_key, IsOffer}
use Rattle.iscsi_text.specs.Negotiated.{IsWithin}
use Rattle.iscsi_login.proofs.JudgementLemmas.{good_is_taken}
use Rattle.iscsi_login.proofs.TextAgreementLaw.{good_answer}
use Rattle.iscsi_login.proofs.OfferMeaningLaw.{security_is_offer, operational_is_offer, single_is_offer}
use Rattle.iscsi_stream.specs.Segment.{Segment, Text, Bytes, segment_bytes}
use Rattle.iscsi_stream.specs.Stream.{Message}
use Rattle.iscsi_stream.proofs.ReadyLemmas.{apart}
use Rattle.iscsi_login.specs.declared.stage.Stage.{Stage}
use Rattle.iscsi_login.specs.declared.stage.Stage.TheVariants as stages
use Rattle.iscsi_login.specs.declared.preferences.Preferences.{Preferences}
use Rattle.iscsi_login.specs.Negotiation.{ArePreferencesInRange, max_recv_range}
use Rattle.iscsi_login.specs.Stage.{stage_number, is_closed_phase}
use Rattle.iscsi_login.specs.Offers.{Proposal, offers_at, security_offers}
use Rattle.iscsi_initiator.specs.Configured.{IsStart}
use Rattle.iscsi_initiator.specs.State as initiator
use Rattle.iscsi_initiator.specs.State.{is_session_closed}
use Rattle.iscsi_initiator.specs.Steps.{InitiatorStep, step_sending}
use Rattle.iscsi_initiator.specs.Login.{offered, following_stage, login_request_head, login_request_message, is_expected}
use Rattle.iscsi_initiator.specs.Login.{begins_stage, login_counted, sends_more, sends_text, sends_cut, fits_segment, start_step}
use Rattle.iscsi_initiator.specs.Machine.{initiator_step}
use Rattle.iscsi_target_session.specs.Configured as target_settings
use Rattle.iscsi_target_session.specs.Session as target_session
use Rattle.iscsi_target.specs.State as target
use Rattle.scsi_disk.specs.Plan.{first_reason}
use Rattle.iscsi_text.specs.Key.{known_keys}
use Rattle.iscsi_target_session.specs.Session.{none_seen}
use Rattle.iscsi_target_session.specs.LoginText.{seen_with, text_refusals, answer_pairs, negotiated_as, declared_tag, declared_length}
use Rattle.iscsi_target_session.specs.Login as login
use Rattle.iscsi_target_session.specs.Login.{is_same_stage, stage_named, stage_asked, entered, gather, pairs_answered}
use Rattle.iscsi_target_session.specs.Login.{text_ending}
use Rattle.iscsi_pair.specs.World.{Opening, IsOpening, SuitEachOther}
use Rattle.iscsi_target.specs.Machine as target_machine
use Rattle.iscsi_target.specs.Machine.{is_over_limit}
use Rattle.iscsi_pair.proofs.Login.TargetStep.{login_step_is}
use Rattle.iscsi_pair.proofs.Login.InitiatorStep.{answering, with_answer}
use Rattle.iscsi_pair.proofs.Login.RoundAgrees.{Agreed, Asking, Asks_on, Leads, Round, IsWhole, IsPart, is_sent, fits_limit, offered_read}
use Rattle.iscsi_pair.proofs.Login.Compatible.{offers_few, few_fits}
use Rattle.iscsi_pdu.specs.Serial.{next_sn}
use Rattle.iscsi_pair.proofs.Login.RoundBegins.{Suited, not_refused, SameState, entered_same, text_at, gathers_well, answers_well, receives_more_well, receives_last_well}

-- ---- the login goes on

-- neither end closes, and both expect of each other what comes next
pub record Well (c : Opening) (i : initiator.InitiatorSession) (t : target.TargetStep) (s : InitiatorStep) (logins : Logins) : Type 0 where
  pub on : Agreed s t.machine ⊎ (Asks_on c s t.machine logins × Suited c s.machine t.machine)
  pub open_ : target_machine.is_machine_closed t.machine ≡ false
  pub rule : t.rule ≡ None
  pub live : is_session_closed s.machine ≡ false
  pub fault : s.fault ≡ None

-- a step that goes on
record GoesOn (s : InitiatorStep) : Type 0 where
  live : is_session_closed s.machine ≡ false
  fault : s.fault ≡ None

text_on : (m : initiator.InitiatorSession) → m.phase ≡ phases.Login → GoesOn (sends_text m)
text_on m p =
    cond_both (fits_segment m (canonical_text (offered m))) (step_sending (record m { unsent_text = [] })
    (login_request_message m true (Text (offered m)) ∷ []))
    (sends_cut m (canonical_text (offered m)) false) GoesOn
    (λ is. record { live = ap is_closed_phase p; fault = refl }) (λ is. record { live = ap is_closed_phase p; fault = refl })

enters_on : (stage : Stage) (m : initiator.InitiatorSession) → m.phase ≡ phases.Login → GoesOn (begins_stage stage m)
enters_on stages.Security m p = text_on (record m { stage = stages.Security }) p
enters_on stages.Operational m p = text_on (record m { stage = stages.Operational }) p
enters_on stages.Full m p = record { live = refl; fault = refl }

-- what a text that goes out leaves
pub record TextKeeps (m : initiator.InitiatorSession) (s : InitiatorStep) : Type 0 where
  pub stage : s.machine.stage ≡ m.stage
  pub number : s.machine.exp_stat_sn ≡ m.exp_stat_sn

pub text_keeps : (m : initiator.InitiatorSession) → TextKeeps m (sends_text m)
text_keeps m =
    cond_both (fits_segment m (canonical_text (offered m))) (step_sending (record m { unsent_text = [] })
    (login_request_message m true (Text (offered m)) ∷ []))
    (sends_cut m (canonical_text (offered m)) false) (TextKeeps m)
    (λ is. record { stage = refl; number = refl }) (λ is. record { stage = refl; number = refl })

entered_phase : (t : target_session.Session) (h : LoginRequest) → (entered t h).phase ≡ t.phase
entered_phase t h = phase_if t.begun t h.cmd_sn h.isid
  where
    phase_if : (b : Bool) (s : target_session.Session) (n : ℕ) (isid : List ℕ)
        → (if b then s else record s { begun = true; exp_cmd_sn = n; isid = isid }).phase ≡ s.phase
    phase_if true s n isid = refl
    phase_if false s n isid = refl

begun_if : (b : Bool) (s : target_session.Session) (n : ℕ) (isid : List ℕ) → s.begun ≡ b
    → (if b then s else record s { begun = true; exp_cmd_sn = n; isid = isid }).begun ≡ true
begun_if true s n isid e = e
begun_if false s n isid e = refl

-- a request that was taken has begun the login, in its stage
entered_begun : (t : target_session.Session) (h : LoginRequest) → (entered t h).begun ≡ true
entered_begun t h = begun_if t.begun t h.cmd_sn h.isid refl

in_stage : (stage other : Stage) → unwrap_or (stage_named (stage_number stage)) other ≡ stage
in_stage stages.Security other = refl
in_stage stages.Operational other = refl
in_stage stages.Full other = refl

same_stage : (stage : Stage) → is_same_stage stage (stage_named (stage_number stage)) ≡ true
same_stage stages.Security = refl
same_stage stages.Operational = refl
same_stage stages.Full = refl

-- the next request names the stage where the target is
due_at : (b : Bool) (here there : Stage) (n : ℕ) → b ≡ true → there ≡ here → (if b then is_same_stage there (stage_named (stage_number here)) else nat_le n 1)
    ≡ true
due_at true here there n e f = ap (λ (x : Stage). is_same_stage x (stage_named (stage_number here))) f ∙ same_stage here
due_at false here there n e f = absurd (cc e)

phase_open : (stage : Stage) → is_closed_phase (login.phase_at stage) ≡ false
phase_open stages.Security = refl
phase_open stages.Operational = refl
phase_open stages.Full = refl

offers_offer : (start stage : Stage) (o : Proposal) → IsStart stage → IsOffer (in_order (offers_at o start stage))
offers_offer start stages.Security o is = security_is_offer o
offers_offer stages.Security stages.Operational o is = operational_is_offer o
offers_offer stages.Operational stages.Operational o is = single_is_offer o
offers_offer stages.Full stages.Operational o is = operational_is_offer o
offers_offer start stages.Full o is = absurd is

within_if : (b : Bool) (p : Preferences) → ArePreferencesInRange p → IfSome (if b then Some p.max_recv else None) (IsWithin max_recv_range)
within_if true p r = r.max_recv
within_if false p r = tt

-- the initiator finds no fault in the answer
takes : (c : Opening) (i : initiator.InitiatorSession) (e : target_session.Session) → IsOpening c → i.settings ≡ c.initiator → IsStart i.stage → e.settings
    ≡ c.target
    → bad_key (offered i) (answer_pairs e (offered i)) ≡ None
takes c i e o there is here =
    let range : ArePreferencesInRange e.settings.preferences = subst (λ (x : target_settings.TargetSettings). ArePreferencesInRange x.preferences) (sym here)
    o.preferences in
    good_is_taken (offered i) (answer_pairs e (offered i))
    (good_answer (negotiated_as e (offered i)) e.settings.preferences range (declared_tag e (offered i)) (declared_length e)
    (within_if _ e.settings.preferences range) (offered i)
    (offers_offer i.settings.start i.stage i.settings.proposal is))

-- where the answer leads, since it leads on
leads_on : (c : Opening) (i : initiator.InitiatorSession) (s : InitiatorStep) (t : target.Machine) (logins : Logins) → Leads c i s t logins
    → is_session_closed s.machine ≡ false
    → (Asks_on c s t logins → Suited c s.machine t)
    → Agreed s t ⊎ (Asks_on c s t logins × Suited c s.machine t)
leads_on c i s t logins leads live suited = elim leads [
  | inl closes ↦ absurd (apart (ap is_closed_phase closes.phase) live)
  | inr on ↦ elim on [
    | inl agreed ↦ inl agreed
    | inr asks ↦ inr (asks, suited asks)
  ]
]

one_answer : (a b : Message) → a ∷ [] ≡ b ∷ [] → a ≡ b
one_answer a b e = cc e

-- ---- one round

-- the target without what it gathered
abbrev pub emptied : target_session.Session → LoginRequest → target_session.Session
emptied t h = record (entered t h) { gathered = [] }

-- the head of the answer to a text
abbrev pub text_head : target_session.Session → LoginRequest → LoginResponse
text_head e h = record (login.login_text_response e h) { stat_sn = Some e.stat_sn }

-- the head of the answer to a part of a text
abbrev pub part_head : target_session.Session → LoginRequest → LoginResponse
part_head e h = record (login.login_response_to e h) { stat_sn = Some e.stat_sn }

-- both ends behind a request that ends its text
pub record LastTurn (i : initiator.InitiatorSession) (t : target.Machine) (disk : Disk) (r answer : Message) : Type 0 where
  pub there : target_machine.target_step false t disk r ≡ target.on disk t.tasks
      (pairs_answered (emptied t.session (login_request_head i true)) (login_request_head i true)
      (offered i))
  pub now : initiator_step i answer ≡ begins_stage (following_stage i.stage)
      (with_answer i (text_head (emptied t.session (login_request_head i true)) (login_request_head i true))
      (answer_pairs (emptied t.session (login_request_head i true)) (offered i)))

-- both ends behind a request whose text goes on
pub record PartTurn (i : initiator.InitiatorSession) (t : target.Machine) (disk : Disk) (r answer : Message) : Type 0 where
  -- some of it is left
  pub some : 0 < length i.unsent_text
  pub bytes : List ℕ
  pub there : target_machine.target_step false t disk r ≡ target.on disk t.tasks
      (gather (entered t.session (login_request_head i false)) (login_request_head i false) bytes)
  pub now : initiator_step i answer ≡ sends_more (login_counted i (part_head (entered t.session (login_request_head i false)) (login_request_head i false)))

-- a request that ends its text is answered, and the answer is taken
last_turn : (c : Opening) (i : initiator.InitiatorSession) (t : target.Machine) (logins next : Logins) (r : Message) (disk : Disk) (segment : Segment)
    → IsOpening c
    → SuitEachOther c → Asking c i t logins r → Suited c i t
    → i.unsent_text ≡ [] → is_over_limit t segment ≡ false → text_ending t.session.gathered segment ≡ Some (offered i)
    → length t.session.gathered + length (segment_bytes segment) ≤ 16384
    → (turn : Round c i (target_machine.target_step false t disk (login_request_message i true segment)) next)
    → LastTurn i t disk (login_request_message i true segment) turn.answer
last_turn c i t logins next r disk segment o suits a s left fits read size turn =
    let h : LoginRequest = login_request_head i true in
    let e : target_session.Session = emptied t.session h in
    let same : SameState t.session (entered t.session h) = entered_same t.session h in
    let given : Pairs = offered i in
    let pairs_are : in_order (offers_at c.initiator.proposal c.initiator.start i.stage) ≡ given =
    ap (λ (x : initiator.InitiatorSettings). in_order (offers_at x.proposal x.start i.stage)) (sym a.settings) in
    let good : first_reason (text_refusals e given) ≡ None =
    subst (λ (x : Pairs). first_reason (text_refusals e x) ≡ None) pairs_are
    (text_at c.initiator.start i.stage c i t e o suits refl refl (record { has_text = same.has_text; seen_keys = same.seen_keys; settings = same.settings })
    a.target_settings s.texts a.stage) in
    let q : login.on_login_request t.session h segment ≡ pairs_answered e h given =
    answers_well t.session h segment given (not_refused c i t true a.stage s) (subst (λ (x : List ℕ). length x + length (segment_bytes segment) ≤ 16384)
    (sym same.gathered) size) refl
    (ap (λ (x : List ℕ). text_ending x segment) same.gathered ∙ read) good
    (ap (λ (x : target_settings.TargetSettings). x.extras.chap) (same.settings ∙ a.target_settings) ∙ suits.chap) in
    let there : target_machine.target_step false t disk (login_request_message i true segment) ≡ target.on disk t.tasks (pairs_answered e h given) =
    login_step_is t disk h segment a.logs_in.phase fits ∙ ap (target.on disk t.tasks) q in
    let is : turn.answer ≡ answering (text_head e h) (answer_pairs e given) =
    one_answer turn.answer (answering (text_head e h) (answer_pairs e given)) (sym turn.is ∙ ap (λ (x : target.TargetStep). x.answers) there) in
    record {
      there = there;
      now = ap (initiator_step i) is ∙ receives_last_well i (text_head e h) (answer_pairs e given) a.phase a.started refl refl (ap (is_expected i.exp_stat_sn)
          same.stat_sn
          ∙ s.expected) left
          (and_from _ _ (eq-eqb (stage_number i.stage) (stage_number i.stage) refl)
          (eq-eqb (stage_number (following_stage i.stage)) (stage_number (following_stage i.stage)) refl))
          (takes c i e o a.settings a.stage (same.settings ∙ a.target_settings));
    }

-- a request whose text goes on is answered, and the next part goes
part_turn : (c : Opening) (i : initiator.InitiatorSession) (t : target.Machine) (logins next : Logins) (r : Message) (disk : Disk) (segment : Segment)
    (bytes : List ℕ)
    (byte : ℕ) (more : List ℕ) → Asking c i t logins r → Suited c i t
    → i.unsent_text ≡ byte ∷ more → segment ≡ Bytes bytes → is_over_limit t segment ≡ false → length t.session.gathered + length bytes ≤ 16384
    → (turn : Round c i (target_machine.target_step false t disk (login_request_message i false segment)) next)
    → PartTurn i t disk (login_request_message i false segment) turn.answer
part_turn c i t logins next r disk segment bytes byte more a s left part fits size turn =
    let h : LoginRequest = login_request_head i false in
    let e : target_session.Session = entered t.session h in
    let same : SameState t.session e = entered_same t.session h in
    let q : login.on_login_request t.session h segment ≡ gather e h bytes =
    ap (login.on_login_request t.session h) part ∙ gathers_well t.session h bytes (not_refused c i t false a.stage s)
    (subst (λ (x : List ℕ). length x + length bytes ≤ 16384) (sym same.gathered) size) refl in
    let there : target_machine.target_step false t disk (login_request_message i false segment) ≡ target.on disk t.tasks (gather e h bytes) =
    login_step_is t disk h segment a.logs_in.phase fits ∙ ap (target.on disk t.tasks) q in
    let is : turn.answer ≡ answering (part_head e h) [] = one_answer turn.answer (answering (part_head e h) [])
    (sym turn.is ∙ ap (λ (x : target.TargetStep). x.answers) there) in
    record {
      some = subst (λ (x : List ℕ). 0 < length x) (sym left) (omega arith);
      bytes = bytes;
      there = there;
      now = ap (initiator_step i) is ∙ receives_more_well i (part_head e h) byte more a.phase a.started refl refl (ap (is_expected i.exp_stat_sn) same.stat_sn ∙
          s.expected)
          left (and_from _ _ (eq-eqb (stage_number i.stage) (stage_number i.stage) refl) refl);
    }

pub text_fits : (c : Opening) (i : initiator.InitiatorSession) → IsOpening c → i.settings ≡ c.initiator → IsStart i.stage
    → length (canonical_text (offered i)) ≤ 8192
text_fits c i o same is =
    subst (λ (x : initiator.InitiatorSettings). length (canonical_text (in_order (offers_at x.proposal x.start i.stage))) ≤ 8192) (sym same)
    (few_fits (in_order (offers_at c.initiator.proposal c.initiator.start i.stage))
    (offers_few c.initiator.start i.stage c.initiator.proposal o.initiator.names.initiator o.initiator.names.target o.initiator.in_range.preferences is))

-- a part of a text and what was gathered are no more than the text
part_fits : (gathered bytes left text : List ℕ) → gathered ++ (bytes ++ left) ≡ text → length text ≤ 8192 → length gathered + length bytes ≤ 16384
part_fits gathered bytes left text e le =
    let f = ap length e in
    let a = length-append gathered (bytes ++ left) in
    let b = length-append bytes left in
    omega (arith, f, a, b, le)

-- the message that is on its way, by what is left behind it
turns_at : (left : List ℕ) (c : Opening) (i : initiator.InitiatorSession) (t : target.Machine) (logins next : Logins) (r : Message) (disk : Disk) → IsOpening c
    → SuitEachOther c
    → Asking c i t logins r → Suited c i t → i.unsent_text ≡ left
    → (segment : Segment) → (IsWhole i t logins segment ⊎ IsPart i t logins segment)
    → (turn : Round c i (target_machine.target_step false t disk (login_request_message i (is_sent left) segment)) next)
    → LastTurn i t disk (login_request_message i (is_sent left) segment) turn.answer
    ⊎ PartTurn i t disk (login_request_message i (is_sent left) segment) turn.answer
unfolding segment_bytes
turns_at [] c i t logins next r disk o suits a s left segment (inl w) turn =
    inl (last_turn c i t logins next r disk segment o suits a s left (ap (is_over_limit t) w.is) (ap (text_ending t.session.gathered) w.is)
    (subst (λ (x : Segment). length t.session.gathered + length (segment_bytes x) ≤ 16384) (sym w.is) (let g = ap length w.gathered in let le = w.short in
    omega (arith, g, le))) turn)
turns_at [] c i t logins next r disk o suits a s left segment (inr p) turn =
    inl (last_turn c i t logins next r disk segment o suits a s left (ap (is_over_limit t) p.is ∙ fits_limit t p.bytes p.short)
    (ap (text_ending t.session.gathered) p.is ∙ ap text_in (ap (λ (x : List ℕ). t.session.gathered ++ x) (sym (append-nil p.bytes)
    ∙ ap (λ (x : List ℕ). p.bytes ++ x) (sym left)) ∙ p.text) ∙ offered_read c i o a.settings a.stage)
    (subst (λ (x : Segment). length t.session.gathered + length (segment_bytes x) ≤ 16384) (sym p.is)
    (part_fits t.session.gathered p.bytes i.unsent_text (canonical_text (offered i)) p.text (text_fits c i o a.settings a.stage))) turn)
turns_at (byte ∷ more) c i t logins next r disk o suits a s left segment (inl w) turn = absurd (let bad : [] ≡ byte ∷ more = sym w.unsent_text ∙ left in cc)
turns_at (byte ∷ more) c i t logins next r disk o suits a s left segment (inr p) turn =
    inr (part_turn c i t logins next r disk segment p.bytes byte more a s left p.is (ap (is_over_limit t) p.is ∙ fits_limit t p.bytes p.short)
    (part_fits t.session.gathered p.bytes i.unsent_text (canonical_text (offered i)) p.text (text_fits c i o a.settings a.stage)) turn)

-- a round ends a text, or its text goes on
pub turns : (c : Opening) (i : initiator.InitiatorSession) (t : target.Machine) (logins next : Logins) (r : Message) (disk : Disk) → IsOpening c
    → SuitEachOther c
    → Asking c i t logins r → Suited c i t
    → (turn : Round c i (target_machine.target_step false t disk r) next) → LastTurn i t disk r turn.answer ⊎ PartTurn i t disk r turn.answer
turns c i t logins next r disk o suits a s =
    subst (λ (x : Message). (turn : Round c i (target_machine.target_step false t disk x) next) → LastTurn i t disk x turn.answer
    ⊎ PartTurn i t disk x turn.answer)
    (sym a.request)
    (turns_at i.unsent_text c i t logins next r disk o suits a s refl a.segment a.how)

-- ---- behind it both suit

-- the next text goes out, behind the one of the security stage
next_suited : (c : Opening) (i : initiator.InitiatorSession) (t : target.Machine) (disk : Disk) (h : LoginRequest) → (g : LoginResponse) (answer : Pairs)
    → i.settings ≡ c.initiator → Suited c i t → i.stage ≡ stages.Security
    → h ≡ login_request_head i true → let e : target_session.Session = emptied t.session h in g.stat_sn ≡ Some e.stat_sn
    → Suited c (begins_stage stages.Operational (with_answer i g answer)).machine (target.on disk t.tasks (pairs_answered e h (offered i))).machine
next_suited c i t disk h g answer there s is hs number =
    let e : target_session.Session = emptied t.session h in
    let m : initiator.InitiatorSession = record (with_answer i g answer) { stage = stages.Operational } in
    let k : TextKeeps m (sends_text m) = text_keeps m in
    let same : SameState t.session (entered t.session h) = entered_same t.session h in
    let asked_is : stage_asked h ≡ Some stages.Operational = ap stage_asked hs ∙ ap (λ (x : Stage). stage_named (stage_number (following_stage x))) is in
    record {
      expected = ap (λ (n : Option ℕ). is_expected n (next_sn e.stat_sn)) (k.number ∙ ap (λ (o : Option ℕ). Some (next_sn (unwrap_or o 0))) number)
          ∙ eq-eqb (next_sn e.stat_sn) (next_sn e.stat_sn) refl;
      due = due_at (entered t.session h).begun (sends_text m).machine.stage _ _ (entered_begun t.session h)
          (ap (λ (o : Option Stage). unwrap_or o e.stage) asked_is ∙ sym k.stage);
      texts = elim s.texts [
        | inl f ↦ inr (record {
          one = refl;
          seen_keys = ap (λ (x : List Bool). seen_with known_keys x (offered i)) (same.seen_keys ∙ f.seen_keys)
              ∙ ap (λ (x : Stage). seen_with known_keys none_seen (in_order (offers_at i.settings.proposal i.settings.start x))) is
              ∙ ap (λ (x : initiator.InitiatorSettings). seen_with known_keys none_seen (in_order (security_offers x.proposal))) there;
          start = sym f.stage ∙ is;
          stage = k.stage;
        })
        | inr f ↦ absurd (let bad : stages.Security ≡ stages.Operational = sym is ∙ f.stage in cc)
      ];
    }

-- behind the text of the security stage the next one suits too; behind another there is none
suited_by : (c : Opening) (i : initiator.InitiatorSession) (t : target.Machine) (logins next : Logins) (r answer : Message) (disk : Disk)
    → Asking c i t logins r
    → Suited c i t → LastTurn i t disk r answer
    → (stage : Stage) → i.stage ≡ stage → Asks_on c (initiator_step i answer) (target_machine.target_step false t disk r).machine next
    → Suited c (initiator_step i answer).machine (target_machine.target_step false t disk r).machine
suited_by c i t logins next r answer disk a s q stages.Security is asks =
    let h : LoginRequest = login_request_head i true in
    let e : target_session.Session = emptied t.session h in
    let w : initiator.InitiatorSession = with_answer i (text_head e h) (answer_pairs e (offered i)) in
    subst (λ (x : InitiatorStep). Suited c x.machine (target_machine.target_step false t disk r).machine)
    (sym (q.now ∙ ap (λ (x : Stage). begins_stage (following_stage x) w) is))
    (subst (λ (x : target.TargetStep). Suited c (begins_stage stages.Operational w).machine x.machine) (sym q.there)
    (next_suited c i t disk h (text_head e h) (answer_pairs e (offered i)) a.settings s is refl refl))
suited_by c i t logins next r answer disk a s q stages.Operational is asks =
    absurd (subst IsStart (ap (λ (x : InitiatorStep). x.machine.stage) q.now
    ∙ ap (λ (x : Stage). (begins_stage (following_stage x) (with_answer i
    (text_head (emptied t.session (login_request_head i true)) (login_request_head i true))
    (answer_pairs (emptied t.session (login_request_head i true)) (offered i)))).machine.stage) is) asks.asking.stage)
suited_by c i t logins next r answer disk a s q stages.Full is asks = absurd (subst IsStart is a.stage)

-- behind a request that ends its text
last_well : (c : Opening) (i : initiator.InitiatorSession) (t : target.Machine) (logins next : Logins) (r : Message) (disk : Disk) → Asking c i t logins r
    → Suited c i t
    → (turn : Round c i (target_machine.target_step false t disk r) next) → LastTurn i t disk r turn.answer
    → Well c i (target_machine.target_step false t disk r) (initiator_step i turn.answer) next
last_well c i t logins next r disk a s turn q =
    let h : LoginRequest = login_request_head i true in
    let e : target_session.Session = emptied t.session h in
    let w : initiator.InitiatorSession = with_answer i (text_head e h) (answer_pairs e (offered i)) in
    let on_ : GoesOn (begins_stage (following_stage i.stage) w) = enters_on (following_stage i.stage) w a.phase in
    let live : is_session_closed (initiator_step i turn.answer).machine ≡ false = ap (λ (x : InitiatorStep). is_session_closed x.machine) q.now ∙ on_.live in
    record {
      on = leads_on c i (initiator_step i turn.answer) (target_machine.target_step false t disk r).machine next turn.leads live
          (suited_by c i t logins next r turn.answer disk a s q
          i.stage refl);
      open_ = ap (λ (x : target.TargetStep). target_machine.is_machine_closed x.machine) q.there ∙ phase_open (login.stage_after e h);
      rule = ap (λ (x : target.TargetStep). x.rule) q.there;
      live = live;
      fault = ap (λ (x : InitiatorStep). x.fault) q.now ∙ on_.fault;
    }

-- behind a request whose text goes on
part_well : (c : Opening) (i : initiator.InitiatorSession) (t : target.Machine) (logins next : Logins) (r : Message) (disk : Disk) → Asking c i t logins r
    → Suited c i t
    → (turn : Round c i (target_machine.target_step false t disk r) next) → PartTurn i t disk r turn.answer
    → Well c i (target_machine.target_step false t disk r) (initiator_step i turn.answer) next
part_well c i t logins next r disk a s turn q =
    let h : LoginRequest = login_request_head i false in
    let e : target_session.Session = entered t.session h in
    let same : SameState t.session e = entered_same t.session h in
    let n : InitiatorStep = sends_more (login_counted i (part_head e h)) in
    let live : is_session_closed (initiator_step i turn.answer).machine ≡ false = ap (λ (x : InitiatorStep). is_session_closed x.machine) q.now
    ∙ ap is_closed_phase a.phase in
    let begun : Suited c n.machine (target.on disk t.tasks (gather e h q.bytes)).machine = record {
      expected = eq-eqb (next_sn e.stat_sn) (next_sn e.stat_sn) refl;
      due = due_at e.begun i.stage _ _ (entered_begun t.session h) (in_stage i.stage t.session.stage);
      texts = elim s.texts [
        | inl f ↦ inl (record { none = same.has_text ∙ f.none; seen_keys = same.seen_keys ∙ f.seen_keys; stage = f.stage })
        | inr f ↦ inr (record { one = same.has_text ∙ f.one; seen_keys = same.seen_keys ∙ f.seen_keys; start = f.start; stage = f.stage })
      ];
    } in
    let suited : Suited c (initiator_step i turn.answer).machine (target_machine.target_step false t disk r).machine =
    subst (λ (x : InitiatorStep). Suited c x.machine (target_machine.target_step false t disk r).machine) (sym q.now)
    (subst (λ (x : target.TargetStep). Suited c n.machine x.machine) (sym q.there) begun) in
    record {
      on = leads_on c i (initiator_step i turn.answer) (target_machine.target_step false t disk r).machine next turn.leads live (λ asks. suited);
      open_ = ap (λ (x : target.TargetStep). target_machine.is_machine_closed x.machine) q.there
          ∙ ap is_closed_phase (entered_phase t.session h ∙ a.logs_in.phase);
      rule = ap (λ (x : target.TargetStep). x.rule) q.there;
      live = live;
      fault = ap (λ (x : InitiatorStep). x.fault) q.now;
    }

-- where both ends suit each other the login goes on
pub goes_well : (c : Opening) (i : initiator.InitiatorSession) (t : target.Machine) (logins next : Logins) (r : Message) (disk : Disk) → IsOpening c
    → SuitEachOther c
    → Asking c i t logins r → Suited c i t
    → (turn : Round c i (target_machine.target_step false t disk r) next)
    → Well c i (target_machine.target_step false t disk r) (initiator_step i turn.answer) next
goes_well c i t logins next r disk o suits a s turn = elim (turns c i t logins next r disk o suits a s turn) [
  | inl q ↦ last_well c i t logins next r disk a s turn q
  | inr q ↦ part_well c i t logins next r disk a s turn q
]

stage_at_most : (stage : Stage) → IsStart stage → nat_le (stage_number stage) 1 ≡ true
stage_at_most stages.Security is = refl
stage_at_most stages.Operational is = refl
stage_at_most stages.Full is = absurd is

-- a new pair suits
pub first_suited : (c : Opening) → IsOpening c → Suited c (start_step (initiator.new_session c.initiator)).machine
    (target.opening_machine c.target c.first_stat_sn)
first_suited c o =
    let m : initiator.InitiatorSession = record (initiator.new_session c.initiator) { started = true } in
    let k : TextKeeps m (sends_text m) = text_keeps m in
    record {
      expected = ap (λ (n : Option ℕ). is_expected n c.first_stat_sn) k.number;
      due = ap (λ (x : Stage). nat_le (stage_number x) 1) k.stage ∙ stage_at_most c.initiator.start o.initiator.in_range.start;
      texts = inl (record { none = refl; seen_keys = refl; stage = k.stage });
    }
