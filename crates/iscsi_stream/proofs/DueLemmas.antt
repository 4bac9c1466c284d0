-- What is due for PDUs: more of it for more PDUs, and how much it is at most.
use Rattle.std.proofs.Common.{ℕ, ◌*◌, ◌≤◌, List, [], ◌∷◌, ◌++◌, length, refl, sym, ap, ◌∙◌, arith, append_assoc}
use Rattle.std.proofs.lemmas.List.{length-append}
use Rattle.std.proofs.lemmas.List.Concat.{flat_map-append}
use Rattle.iscsi_pdu.specs.Meaning.{AreBytes}
use Rattle.iscsi_stream.specs.declared.logins.Logins.{Logins}
use Rattle.iscsi_stream.specs.declared.normalising.Form.{Form}
use Rattle.iscsi_stream.specs.declared.normalising.Form.TheVariants.{Canonical, Line}
use Rattle.iscsi_stream.specs.Stream.{Message, ReadsAs}
use Rattle.iscsi_stream.specs.Canonical.{canon, canonical_bytes}
use Rattle.iscsi_stream.specs.Shown.{AreLines}
use Rattle.iscsi_stream.specs.inner.Passing.{IsDueOutput}
use Rattle.iscsi_stream.proofs.OneMeaningLaw.{canon-shorter, count-shorter}

pub due_none : (form : Form) → IsDueOutput form [] []
due_none Canonical = refl
due_none Line = refl

lines_append : (ms ns : List Message) (a b : List ℕ) → AreLines ms a → AreLines ns b → AreLines (ms ++ ns) (a ++ b)
lines_append [] ns a b none more = rw none more
lines_append (m ∷ ms) ns a b lines more =
    (lines.0, lines.1 ++ b, lines.2, ap (λ (x : List ℕ). x ++ b) lines.3 ∙ append_assoc lines.0 lines.1 b, lines_append ms ns lines.1 b lines.4 more)

pub due_append : (form : Form) (ms ns : List Message) (a b : List ℕ) → IsDueOutput form ms a → IsDueOutput form ns b → IsDueOutput form (ms ++ ns) (a ++ b)
due_append Canonical ms ns a b due more = ap (λ (x : List ℕ). x ++ b) due ∙ ap (λ (x : List ℕ). canon ms ++ x) more
    ∙ sym (flat_map-append canonical_bytes ms ns)
due_append Line ms ns a b due more = lines_append ms ns a b due more

lines_short : (ms : List Message) (bytes : List ℕ) → AreLines ms bytes → length bytes ≤ 320 * length ms
lines_short [] bytes none = omega (arith, ap length none)
lines_short (m ∷ ms) bytes lines =
    omega (arith, lines.2.short, ap length lines.3, length-append lines.0 lines.1, lines_short ms lines.1 lines.4)

-- a line is not longer than 320 times its PDU
pub due_short : (form : Form) (limit : ℕ) (logins : Logins) (s : List ℕ) (ms : List Message) (bytes : List ℕ) → AreBytes s → ReadsAs limit logins s ms →
    IsDueOutput form ms bytes → length bytes ≤ 320 * length s
due_short Canonical limit logins s ms bytes are reads due = omega (arith, ap length due, canon-shorter limit logins s ms are reads)
due_short Line limit logins s ms bytes are reads due = omega (arith, lines_short ms bytes due, count-shorter limit logins s ms reads)
