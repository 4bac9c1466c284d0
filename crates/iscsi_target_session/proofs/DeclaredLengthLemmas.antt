-- What a login text may declare, and what is held after it.
use Rattle.std.proofs.Common.{◌≡◌, ℕ, Bool, true, false, List, [], ◌∷◌, Option, refl, nat_le, leb-true}
use Rattle.std.specs.Prelude.{◌&&◌, if◌then◌else◌}
use Rattle.std.specs.Option.{IfSome}
use Rattle.iscsi_text.specs.Text.{Pairs, values_of}
use Rattle.iscsi_text.specs.Value.{Typed}
use Rattle.iscsi_text.specs.Value as values
use Rattle.iscsi_text.specs.declared.negotiated.Session.{Session}
use Rattle.iscsi_login.specs.declared.preferences.Preferences.{Preferences}
use Rattle.iscsi_text.specs.declared.negotiated.Answered.TheVariants.{Number, Reject}
use Rattle.iscsi_text.specs.Negotiated.{IsWithin}
use Rattle.iscsi_login.specs.Negotiation.{ArePreferencesInRange, max_recv_range}
use Rattle.iscsi_login.specs.Held.{Held, IsHeld}
use Rattle.iscsi_login.specs.Answer.{DeclaresWell, IsLengthOrNone, max_recv_key, first_number, declared_max_recv, target_holds}
use Rattle.iscsi_login.proofs.AgreementLaw.{allowed_after_offers, declared_within}
use Rattle.iscsi_target_session.specs.LoginText.{is_bad_length, first_value, login_value, is_reject}
use Rattle.iscsi_stream.proofs.ReadyLemmas.{and_left, and_right}

within_by : (n : ℕ) (b : Bool) → (nat_le 512 n && nat_le n 16777215) ≡ b → is_reject (if b then Number n else Reject) ≡ false → IsWithin max_recv_range n
within_by n true e f = (leb-true 512 n (and_left (nat_le 512 n) (nat_le n 16777215) e), leb-true n 16777215 (and_right (nat_le 512 n) (nat_le n 16777215) e))
within_by n false e f = absurd cc

length_or_none : (vs : List Typed) → is_bad_length (first_value vs) ≡ false → IsLengthOrNone vs
length_or_none [] e = tt
length_or_none (values.Number n ∷ vs) e = within_by n (nat_le 512 n && nat_le n 16777215) refl e
length_or_none (v ∷ vs) e = absurd cc

-- a text whose declared length isn't refused declares well
pub declares_well : (pairs : Pairs) → is_bad_length (login_value max_recv_key pairs) ≡ false → DeclaresWell pairs
declares_well pairs e = length_or_none (values_of max_recv_key pairs) e

pub declared_if : (vs : List Typed) → IsLengthOrNone vs → IfSome (first_number vs) (IsWithin max_recv_range)
declared_if [] w = tt
declared_if (values.Number n ∷ vs) w = w
declared_if (values.Boolean b ∷ vs) w = tt
declared_if (values.Items b ∷ vs) w = tt
declared_if (values.Plain b ∷ vs) w = tt
declared_if (values.Odd b ∷ vs) w = tt

-- what is held stays in range
pub holds : (session : Session) (p : Preferences) (max_recv : Option ℕ) (pairs : Pairs) (held : Held) → ArePreferencesInRange p → DeclaresWell pairs →
    IfSome max_recv (IsWithin max_recv_range)
    → IsHeld held → IsHeld (target_holds session p max_recv pairs held)
holds session p max_recv pairs held range declares declared h = record {
  values = allowed_after_offers session p range pairs held h.values;
  initiator_max_recv = declared_within max_recv_range held.initiator_max_recv (declared_max_recv pairs) h.initiator_max_recv
      (declared_if (values_of max_recv_key pairs) declares);
  target_max_recv = declared_within max_recv_range held.target_max_recv max_recv h.target_max_recv declared;
}
