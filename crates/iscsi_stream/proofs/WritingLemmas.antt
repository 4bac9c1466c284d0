-- What is written of some bytes.
use Rattle.std.proofs.Common.{◌≡◌, ℕ, ◌-◌, List, [], ◌++◌, length, take, drop, Option, refl, sym, ap, subst, ◌∙◌, append-nil, append_assoc}
use Rattle.std.specs.Io.KnownBytes.{Appends, Keeps}
use Rattle.std.proofs.KnownBytes.{Appends-trans, Appends-kept}
use Rattle.std.proofs.lemmas.List.{take_rest, take-append-drop, take_at}
use Rattle.std.proofs.lemmas.List.Concat.{flat_map-append}
use Rattle.iscsi_stream.specs.Stream.{Message}
use Rattle.iscsi_stream.specs.Canonical.{canonical_bytes, canon}
use Rattle.iscsi_stream.specs.Normalising.{WroteFront}
use Rattle.iscsi_stream.proofs.LoopInvariants.{WroteUpTo}

pub wrote_more : (bytes rest : List ℕ) (a b c : Option (List ℕ)) (n : ℕ) → WroteUpTo bytes rest a b → Appends b c (take n rest) →
    WroteUpTo bytes (take (length rest - n) (drop n rest)) a c
wrote_more bytes rest a b c n w more = record {
  before = w.before ++ take n rest;
  parts = w.parts ∙ ap (λ (x : List ℕ). w.before ++ x) (sym (take-append-drop n rest) ∙ ap (λ (x : List ℕ). take n rest ++ x) (sym (take_rest rest n)))
      ∙ sym (append_assoc w.before (take n rest) (take (length rest - n) (drop n rest)));
  written = Appends-trans a b c w.before (take n rest) w.written more;
}

pub wrote_kept : (bytes rest : List ℕ) (a b c : Option (List ℕ)) → WroteUpTo bytes rest a b → Keeps b c → WroteFront a c bytes
wrote_kept bytes rest a b c w kept =
    let front : take (length w.before) bytes ≡ w.before = ap (take (length w.before)) w.parts ∙ take_at w.before rest (length w.before) refl in
    (length w.before, subst (Appends a c) (sym front) (Appends-kept a b c w.before w.written kept))

pub wrote_none : (bytes rest : List ℕ) (a b c : Option (List ℕ)) → WroteUpTo bytes rest a b → Appends b c [] → WroteFront a c bytes
wrote_none bytes rest a b c w more =
    let front : take (length w.before) bytes ≡ w.before = ap (take (length w.before)) w.parts ∙ take_at w.before rest (length w.before) refl in
    (length w.before, subst (Appends a c) (append-nil w.before ∙ sym front) (Appends-trans a b c w.before [] w.written more))

pub canon_append : (a b : List Message) → canon (a ++ b) ≡ canon a ++ canon b
canon_append a b = flat_map-append canonical_bytes a b
