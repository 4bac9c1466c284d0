-- Segments and answers of a login.
use Rattle.std.proofs.Common.{◌≡◌, ◌<◌, ◌≤◌, inl, inr, ◌∙◌, ℕ, ◌+◌, List, [], ◌∷◌, ◌++◌, Bool, true, false, length, Option, Some, None, refl, sym, ap, subst}
use Rattle.std.specs.Prelude.{nat_lt, if◌then◌else◌, Result, IfOk}
use Rattle.std.proofs.lemmas.Bool.{lt-ltb, le-ltb, cases_lt}
use Rattle.std.proofs.lemmas.List.{append-nil}
use Rattle.iscsi_text.specs.Text.{Pairs}
use Rattle.iscsi_text.specs.Canonical.{canonical_text}
use Rattle.iscsi_text.specs.Reading.{text_in}
use Rattle.iscsi_pdu.specs.Meaning.{whole}
use Rattle.iscsi_pdu.specs.declared.head.Head.{Head}
use Rattle.iscsi_pdu.specs.declared.head.Head.TheVariants.{LoginResponse}
use Rattle.iscsi_pdu.specs.declared.head.login_request.LoginRequest.{LoginRequest as Request}
use Rattle.iscsi_pdu.specs.declared.head.login_response.LoginResponse.{LoginResponse as Response}
use Rattle.iscsi_stream.specs.Segment.{Segment, Bytes, Text, segment_bytes}
use Rattle.iscsi_stream.specs.Canonical.{canon}
use Rattle.iscsi_target_session.specs.Session.{Session, Reply, send_response, ended_session, answer_message}
use Rattle.iscsi_target_session.specs.Login.{login_response_message, refuse, login_response_to, segment_taken, whole_text, text_ending, gather}
use Rattle.iscsi_target_session.specs.LoginText.{out_of_resources}
use Rattle.iscsi_target_session.specs.declared.status.Status.{Status}
use Rattle.iscsi_target_session.specs.Replies.{Replied}
use Rattle.iscsi_target_session.specs.inner.Inside.{login_answer}
use Rattle.iscsi_target_session.proofs.CaseLemmas.{by_ok}

-- one answer with a text as bytes
pub one_text : (h : Response) (pairs : Pairs) → canon (login_response_message h pairs ∷ []) ≡ whole (LoginResponse h) (canonical_text pairs)
unfolding segment_bytes
one_text h pairs = append-nil (whole (LoginResponse h) (canonical_text pairs))

one_said : (head : Head) (bytes : List ℕ) → canon (answer_message head bytes ∷ []) ≡ whole head bytes
unfolding segment_bytes
one_said head bytes = append-nil (whole head bytes)

said_text : (s : Session) (h : Response) (text : List ℕ) (broken : Option ℕ) (new : Session) (before after : List ℕ)
    → Replied (send_response s (LoginResponse (record h { stat_sn = Some s.stat_sn })) text) broken new before after → (pairs : Pairs) → text
    ≡ canonical_text pairs → Replied (login_answer s h pairs) broken new before after
said_text s h text broken new before after r pairs e = record {
  session = r.session;
  output = r.output ∙ ap (λ (x : List ℕ). before ++ x) (one_said (LoginResponse (record h { stat_sn = Some s.stat_sn })) text
      ∙ ap (whole (LoginResponse (record h { stat_sn = Some s.stat_sn }))) e ∙ sym (one_text (record h { stat_sn = Some s.stat_sn }) pairs));
  rule_is = r.rule_is;
}

pub answers_text : {E : Type 0} (s : Session) (h : Response) (text : List ℕ) (result : Result (Option ℕ) E) (new : Session) (before after : List ℕ)
    → IfOk result (λ b. Replied (send_response s (LoginResponse (record h { stat_sn = Some s.stat_sn })) text) b new before after)
    → IfOk result (λ b. (pairs : Pairs) → text ≡ canonical_text pairs → Replied (login_answer s h pairs) b new before after)
answers_text s h text result new before after r =
    by_ok (λ b. Replied (send_response s (LoginResponse (record h { stat_sn = Some s.stat_sn })) text) b new before after)
    (λ b. (pairs : Pairs) → text ≡ canonical_text pairs → Replied (login_answer s h pairs) b new before after) result
    (λ b. said_text s h text b new before after) r

pub refused : (s : Session) (r : Request) (why : Status) (h : Response) (new : Session) (before after : List ℕ)
    → h ≡ record (login_response_to s r) { status_class = why.class; status_detail = why.detail } → new ≡ ended_session s → after ≡ before
    ++ whole (LoginResponse h) [] →
    Replied (refuse s r why) None new before after
refused s r why h new before after is session output = record {
  session = session;
  output = output ∙ ap (λ (x : List ℕ). before ++ x) (ap (λ (x : Response). whole (LoginResponse x) []) is
      ∙ sym (one_text (record (login_response_to s r) { status_class = why.class; status_detail = why.detail }) []));
  rule_is = refl;
}

-- ---- a segment

too_long : (s : Session) (r : Request) (segment : Segment) → nat_lt 16384 (length s.gathered + length (segment_bytes segment)) ≡ true →
    refuse s r out_of_resources ≡ segment_taken s r segment
too_long s r segment e = sym (ap (λ (b : Bool). if b then refuse s r out_of_resources
    else (if r.continues then gather s r (segment_bytes segment) else whole_text (record s { gathered = [] }) r (text_ending s.gathered segment))) e)

fits_as : (s : Session) (r : Request) (segment : Segment) → nat_lt 16384 (length s.gathered + length (segment_bytes segment)) ≡ false
    → (if r.continues then gather s r (segment_bytes segment) else whole_text (record s { gathered = [] }) r (text_ending s.gathered segment))
    ≡ segment_taken s r segment
fits_as s r segment e = sym (ap (λ (b : Bool). if b then refuse s r out_of_resources
    else (if r.continues then gather s r (segment_bytes segment) else whole_text (record s { gathered = [] }) r (text_ending s.gathered segment))) e)

pub replied_as : {E : Type 0} (result : Result (Option ℕ) E) (a b : Reply) (new : Session) (before after : List ℕ) → a ≡ b →
    IfOk result (λ x. Replied a x new before after) → IfOk result (λ x. Replied b x new before after)
replied_as result a b new before after e h = subst (λ (r : Reply). IfOk result (λ x. Replied r x new before after)) e h

pub text_too_long : (s : Session) (r : Request) (pairs : Pairs) → 16384 < length s.gathered + length (canonical_text pairs) → refuse s r out_of_resources
    ≡ segment_taken s r (Text pairs)
unfolding segment_bytes
text_too_long s r pairs lt = too_long s r (Text pairs) (lt-ltb 16384 (length s.gathered + length (canonical_text pairs)) lt)

pub bytes_too_long : (s : Session) (r : Request) (bytes : List ℕ) → 16384 < length s.gathered + length bytes → refuse s r out_of_resources
    ≡ segment_taken s r (Bytes bytes)
unfolding segment_bytes
bytes_too_long s r bytes lt = too_long s r (Bytes bytes) (lt-ltb 16384 (length s.gathered + length bytes) lt)

pub text_taken : (s : Session) (r : Request) (pairs : Pairs) → length s.gathered + length (canonical_text pairs) ≤ 16384 → r.continues ≡ false →
    whole_text (record s { gathered = [] }) r (Some pairs) ≡ segment_taken s r (Text pairs)
unfolding segment_bytes
text_taken s r pairs le last =
    sym (ap (λ (b : Bool). if b then gather s r (canonical_text pairs) else whole_text (record s { gathered = [] }) r (Some pairs)) last)
    ∙ fits_as s r (Text pairs) (le-ltb 16384 (length s.gathered + length (canonical_text pairs)) le)

pub bytes_gathered : (s : Session) (r : Request) (bytes : List ℕ) → length s.gathered + length bytes ≤ 16384 → r.continues ≡ true → gather s r bytes
    ≡ segment_taken s r (Bytes bytes)
unfolding segment_bytes
bytes_gathered s r bytes le more =
    sym (ap (λ (b : Bool). if b then gather s r bytes else whole_text (record s { gathered = [] }) r (text_in (s.gathered ++ bytes))) more)
    ∙ fits_as s r (Bytes bytes) (le-ltb 16384 (length s.gathered + length bytes) le)

pub bytes_whole : (s : Session) (r : Request) (bytes : List ℕ) (text : Option Pairs) → length s.gathered + length bytes ≤ 16384 → r.continues ≡ false → text
    ≡ text_in (s.gathered ++ bytes)
    → whole_text (record s { gathered = [] }) r text ≡ segment_taken s r (Bytes bytes)
unfolding segment_bytes
bytes_whole s r bytes text le last is =
    ap (whole_text (record s { gathered = [] }) r) is
    ∙ sym (ap (λ (b : Bool). if b then gather s r bytes else whole_text (record s { gathered = [] }) r (text_in (s.gathered ++ bytes))) last)
    ∙ fits_as s r (Bytes bytes) (le-ltb 16384 (length s.gathered + length bytes) le)

pub gathered_answer : {E : Type 0} (result : Result (Option ℕ) E) (s mid : Session) (r : Request) (bytes : List ℕ) (h : Response) (new : Session)
    (before after : List ℕ)
    → mid ≡ record s { gathered = s.gathered ++ bytes } → h ≡ login_response_to s r
    → IfOk result (λ b. (pairs : Pairs) → [] ≡ canonical_text pairs → Replied (login_answer mid h pairs) b new before after)
    → IfOk result (λ b. Replied (gather s r bytes) b new before after)
gathered_answer result s mid r bytes h new before after is_mid is_h ok =
    by_ok (λ b. (pairs : Pairs) → [] ≡ canonical_text pairs → Replied (login_answer mid h pairs) b new before after)
    (λ b. Replied (gather s r bytes) b new before after) result
    (λ b f. subst (λ (x : Session). Replied (login_answer x (login_response_to s r) []) b new before after) is_mid
    (subst (λ (x : Response). Replied (login_answer mid x []) b new before after) is_h (f [] refl))) ok

pub not_past : (b : Bool) (a n : ℕ) → (b ≡ true → n < a) × (n < a → b ≡ true) → b ≡ false → a ≤ n
not_past b a n is e = elim (cases_lt n a) [
  | inl lt ↦ absurd (both (is.1 lt) e)
  | inr ge ↦ ge
]
  where
    both : {b : Bool} → b ≡ true → b ≡ false → ⊥
    both {b} e f = let bad : true ≡ false = sym e ∙ f in absurd cc
