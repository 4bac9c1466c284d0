-- A whole text, by what CHAP demands.
use Rattle.std.proofs.Common.{◌≡◌, ◌⊎◌, inl, inr, false, length, Option, Some, None, refl, ap, ◌∙◌}
use Rattle.std.specs.Prelude.{nat_lt}
use Rattle.scsi_disk.specs.Plan.{first_reason}
use Rattle.iscsi_text.specs.Text.{Pairs}
use Rattle.iscsi_text.specs.Canonical.{canonical_text}
use Rattle.iscsi_pdu.specs.declared.head.login_request.LoginRequest.{LoginRequest as Request}
use Rattle.iscsi_access.specs.Chap.{Chap}
use Rattle.iscsi_access.specs.declared.verdict.Progress.{Progress}
use Rattle.iscsi_access.specs.declared.verdict.Said.{Said}
use Rattle.iscsi_access.specs.declared.verdict.Verdict.{Verdict}
use Rattle.iscsi_access.specs.declared.verdict.Verdict.TheVariants.{Goes, Refused}
use Rattle.iscsi_target_session.specs.Session.{Session, Reply}
use Rattle.iscsi_target_session.specs.declared.status.Status.{Status}
use Rattle.iscsi_target_session.specs.LoginText.{text_refusals, initiator_error, authentication_failure, out_of_resources}
use Rattle.iscsi_target_session.specs.Login.{refuse, refuse_or, pairs_answered, rest_of, verdict_for, allowed_move, exchange_pairs, exchange_answered, by_verdict, exchange_text, text_by, whole_text}
use Rattle.iscsi_target_session.proofs.CaseLemmas.{by_cases}

-- where CHAP is not demanded, nothing of it is looked at
pub open_text : (s : Session) (r : Request) (pairs : Pairs) → s.settings.extras.chap ≡ None
    → whole_text s r (Some pairs) ≡ refuse_or (first_reason (text_refusals s pairs)) s r (pairs_answered s r pairs)
open_text s r pairs none = ap (λ (o : Option Chap). text_by o s r pairs) none

-- the verdict is followed where nothing else refuses the text
pub exchange_is : (c : Chap) (s : Session) (r : Request) (pairs rest : Pairs) (v : Verdict) → rest ≡ rest_of pairs → None ≡ first_reason (text_refusals s rest)
    → v ≡ verdict_for c s pairs → by_verdict c v s r rest ≡ exchange_text c s r pairs
exchange_is c s r pairs rest v is none verdict =
    ap (λ (p : Pairs). by_verdict c v s r p) is ∙ ap (λ (x : Verdict). by_verdict c x s r (rest_of pairs)) verdict
    ∙ ap (λ (o : Option Status). refuse_or o s r (by_verdict c (verdict_for c s pairs) s r (rest_of pairs)))
    (none ∙ ap (λ (p : Pairs). first_reason (text_refusals s p)) is)

-- why a text is refused
abbrev pub IsReason : Session → Status → Type 0
IsReason s why = (why ≡ initiator_error)
    ⊎ ((why ≡ authentication_failure) ⊎ ((why ≡ out_of_resources) ⊎ ((pairs : Pairs) × (first_reason (text_refusals s pairs) ≡ Some why))))

-- A whole text is refused, or it is answered as where CHAP is not demanded, or with what is said of the exchange.
pub record Comes (P : Reply → Type 0) (s : Session) (r : Request) (text : Option Pairs) : Type 0 where
  pub refused : (why : Status) → IsReason s why → P (refuse s r why)
  pub plain : (pairs : Pairs) → text ≡ Some pairs → s.settings.extras.chap ≡ None → first_reason (text_refusals s pairs) ≡ None → P (pairs_answered s r pairs)
  pub exchange : (c : Chap) (p : Progress) (said : Said) (pairs : Pairs) → text ≡ Some pairs → s.settings.extras.chap ≡ Some c
      → first_reason (text_refusals s (rest_of pairs)) ≡ None → verdict_for c s pairs ≡ Goes p said
      → nat_lt 8192 (length (canonical_text (exchange_pairs c said s (rest_of pairs)))) ≡ false
      → P (exchange_answered c said (record s { progress = p }) (allowed_move p r) (rest_of pairs))

or_refused : (P : Reply → Type 0) (s : Session) (r : Request) (why : Option Status) (reply : Reply) → ((w : Status) → why ≡ Some w → P (refuse s r w))
    → (why ≡ None → P reply) → P (refuse_or why s r reply)
or_refused P s r None reply f g = g refl
or_refused P s r (Some why) reply f g = f why refl

followed : (P : Reply → Type 0) (c : Chap) (s : Session) (r : Request) (pairs rest : Pairs) (v : Verdict)
    → ((why : Status) → IsReason s why → P (refuse s r why))
    → ((p : Progress) (said : Said) → v ≡ Goes p said → nat_lt 8192 (length (canonical_text (exchange_pairs c said s rest))) ≡ false
    → P (exchange_answered c said (record s { progress = p }) (allowed_move p r) rest))
    → P (by_verdict c v s r rest)
followed P c s r pairs rest Refused f g = f authentication_failure (inr (inl refl))
followed P c s r pairs rest (Goes p said) f g = by_cases (nat_lt 8192 (length (canonical_text (exchange_pairs c said s rest))))
    (λ e. rw e (f out_of_resources (inr (inr (inl refl))))) (λ e. rw e (g p said refl e))

pub text_cases : (P : Reply → Type 0) (s : Session) (r : Request) (text : Option Pairs) → Comes P s r text → P (whole_text s r text)
text_cases P s r None h = h.refused initiator_error (inl refl)
text_cases P s r (Some pairs) h = by s.settings.extras.chap refl
  where
    by : (o : Option Chap) → s.settings.extras.chap ≡ o → P (text_by o s r pairs)
    by None e = or_refused P s r (first_reason (text_refusals s pairs)) (pairs_answered s r pairs) (λ w is. h.refused w (inr (inr (inr (pairs, is)))))
        (λ none. h.plain pairs refl e none)
    by (Some c) e = or_refused P s r (first_reason (text_refusals s (rest_of pairs))) (by_verdict c (verdict_for c s pairs) s r (rest_of pairs))
        (λ w is. h.refused w (inr (inr (inr (rest_of pairs, is)))))
        (λ none. followed P c s r pairs (rest_of pairs) (verdict_for c s pairs) h.refused
        (λ p said is short. h.exchange c p said pairs refl e none is short))
