-- What the login sends.
use Rattle.std.proofs.Common.{◌≡◌, ℕ, ◌≤◌, List, [], ◌∷◌, ◌++◌, length, take, drop, refl, ap, sym, ◌∙◌, append-nil, Bool, true, false, None}
use Rattle.std.specs.Prelude.{if◌then◌else◌}
use Rattle.std.proofs.lemmas.List.{take_all, drop_all}
use Rattle.std.proofs.lemmas.Bool.{leb-true}
use Rattle.iscsi_text.specs.Canonical.{canonical_text}
use Rattle.iscsi_pdu.specs.declared.head.Head.TheVariants as heads
use Rattle.iscsi_pdu.specs.Meaning.{whole}
use Rattle.iscsi_stream.specs.Segment.{Text, segment_bytes}
use Rattle.iscsi_stream.specs.Canonical.{canon}
use Rattle.iscsi_text.specs.Text.{Pairs}
use Rattle.iscsi_login.specs.declared.stage.Stage.{Stage}
use Rattle.iscsi_login.specs.declared.stage.Stage.TheVariants.{Security, Operational, Full}
use Rattle.iscsi_login.specs.Held.{Held}
use Rattle.iscsi_login.specs.Answer.{initiator_holds}
use Rattle.iscsi_initiator.specs.State.{InitiatorSession}
use Rattle.iscsi_initiator.specs.Steps.{InitiatorStep, step_sending}
use Rattle.iscsi_initiator.specs.Login.{login_request_head, login_request_message, fits_segment, sends_text, sends_cut, sends_more, offered, begins_stage}
use Rattle.iscsi_initiator.specs.inner.Inside.{StepTaken}

-- one segment of a text
abbrev segment_of_text : InitiatorSession → List ℕ → List ℕ
segment_of_text m text = whole (heads.LoginRequest (login_request_head m (fits_segment m text))) (take m.settings.login_segment text)

pub sent_more : (m : InitiatorSession) (left before after : List ℕ) → left ≡ drop m.settings.login_segment m.unsent_text → after ≡ before
    ++ segment_of_text m m.unsent_text
    → StepTaken (sends_more m) None (record m { unsent_text = left }) before after
unfolding segment_bytes
sent_more m left before after e o = record {
  machine = ap (λ (x : List ℕ). record m { unsent_text = x }) e;
  output = o ∙ ap (λ (x : List ℕ). before ++ x) (sym (append-nil (segment_of_text m m.unsent_text)));
  fault_is = refl;
}

text_by : (b : Bool) (m : InitiatorSession) (left before after text : List ℕ) → fits_segment m text ≡ b → text ≡ canonical_text (offered m) → left
    ≡ drop m.settings.login_segment text
    → after ≡ before ++ whole (heads.LoginRequest (login_request_head m b)) (take m.settings.login_segment text)
    → StepTaken (if b then step_sending (record m { unsent_text = [] }) (login_request_message m true (Text (offered m)) ∷ []) else sends_cut m text false) None
    (record m { unsent_text = left }) before after
unfolding segment_bytes
text_by true m left before after text fits is e o =
    let short : length text ≤ m.settings.login_segment = leb-true _ _ fits in
    record {
      machine = ap (λ (x : List ℕ). record m { unsent_text = x }) (e ∙ drop_all m.settings.login_segment text short);
      output = o ∙ ap (λ (x : List ℕ). before ++ whole (heads.LoginRequest (login_request_head m true)) x) (take_all m.settings.login_segment text short ∙ is)
          ∙ ap (λ (x : List ℕ). before ++ x) (sym (append-nil _));
      fault_is = refl;
    }
text_by false m left before after text fits is e o = record {
  machine = ap (λ (x : List ℕ). record m { unsent_text = x }) e;
  output = o ∙ ap (λ (x : List ℕ). before ++ x) (sym (append-nil _));
  fault_is = refl;
}

pub sent_text : (m : InitiatorSession) (left before after : List ℕ) → left ≡ drop m.settings.login_segment (canonical_text (offered m))
    → after ≡ before ++ segment_of_text m (canonical_text (offered m)) → StepTaken (sends_text m) None (record m { unsent_text = left }) before after
sent_text m left before after e o = text_by (fits_segment m (canonical_text (offered m))) m left before after (canonical_text (offered m)) refl refl e o

-- ---- what is held once an answer is taken

abbrev holding : Held → InitiatorStep → InitiatorStep
holding held s = record s { machine = record s.machine { held = held } }

text_holding : (b : Bool) (m : InitiatorSession) (held : Held) (text : List ℕ) →
    (if b then step_sending (record m { held = held; unsent_text = [] }) (login_request_message m true (Text (offered m)) ∷ [])
    else sends_cut (record m { held = held }) text
    false)
    ≡ holding held (if b then step_sending (record m { unsent_text = [] }) (login_request_message m true (Text (offered m)) ∷ []) else sends_cut m text false)
text_holding true m held text = refl
text_holding false m held text = refl

entered_holding : (stage : Stage) (m : InitiatorSession) (held : Held) → begins_stage stage (record m { held = held }) ≡ holding held (begins_stage stage m)
entered_holding Security m held = let n : InitiatorSession = record m { stage = Security } in
    text_holding (fits_segment n (canonical_text (offered n))) n held (canonical_text (offered n))
entered_holding Operational m held = let n : InitiatorSession = record m { stage = Operational } in
    text_holding (fits_segment n (canonical_text (offered n))) n held (canonical_text (offered n))
entered_holding Full m held = refl

text_held : (b : Bool) (m : InitiatorSession) (text : List ℕ) →
    (if b then step_sending (record m { unsent_text = [] }) (login_request_message m true (Text (offered m)) ∷ []) else sends_cut m text false).machine.held
    ≡ m.held
text_held true m text = refl
text_held false m text = refl

entered_held : (stage : Stage) (m : InitiatorSession) → (begins_stage stage m).machine.held ≡ m.held
entered_held Security m = let n : InitiatorSession = record m { stage = Security } in text_held (fits_segment n (canonical_text (offered n))) n
    (canonical_text (offered n))
entered_held Operational m = let n : InitiatorSession = record m { stage = Operational } in
    text_held (fits_segment n (canonical_text (offered n))) n (canonical_text (offered n))
entered_held Full m = refl

pub settled : (stage : Stage) (m mid : InitiatorSession) (answer : Pairs) (held : Held) (before after : List ℕ)
    → StepTaken (begins_stage stage m) None mid before after
    → held ≡ initiator_holds None answer mid.held → StepTaken (begins_stage stage (record m { held = initiator_holds None answer m.held })) None
    (record mid { held = held }) before after
settled stage m mid answer held before after did is =
    let same : mid.held ≡ m.held = ap (λ (x : InitiatorSession). x.held) did.machine ∙ entered_held stage m in
    let holds : held ≡ initiator_holds None answer m.held = is ∙ ap (λ (h : Held). initiator_holds None answer h) same in
    let e = entered_holding stage m (initiator_holds None answer m.held) in
    record {
      machine = ap (λ (x : InitiatorSession). record x { held = held }) did.machine
          ∙ ap (λ (h : Held). record (begins_stage stage m).machine { held = h }) holds
          ∙ sym (ap (λ (s : InitiatorStep). s.machine) e);
      output = did.output ∙ sym (ap (λ (s : InitiatorStep). before ++ canon s.output) e);
      fault_is = did.fault_is ∙ sym (ap (λ (s : InitiatorStep). s.fault) e);
    }
