-- Lines of connections, one after another.
use Rattle.std.proofs.Common.{◌≡◌, ◌<◌, ℕ, ◌+◌, suc, List, [], ◌∷◌, ◌++◌, length, length-append, take, refl, sym, ap, ◌∙◌, subst, inr, append_assoc, append-nil, arith}
use Rattle.std.specs.Prelude.{Option, IfErr, OnOk, Result, Ok, Err}
use Rattle.std.specs.Io.KnownBytes.{Appends, Keeps}
use Rattle.std.proofs.KnownBytes.{Appends-trans, Appends-kept}
use Rattle.std.proofs.lemmas.List.{take_at}
use Rattle.iscsi_stream.proofs.LoopInvariants.{WroteUpTo}
use Rattle.iscsi_captures.specs.declared.captured.End.TheVariants.{Initiator}
use Rattle.capture_connections.specs.declared.connections.Connection.{Connection}
use Rattle.capture_connections.specs.declared.ends.Side.{Side}
use Rattle.iscsi_captures.specs.Meant.{IsMeant}
use Rattle.iscsi_captures.specs.Listing.{AreLinesFrom, IsLineOf, ListPost, WroteLines, line_front}
use Rattle.iscsi_captures.specs.inner.Listing.{TextGoesOn}
use Rattle.iscsi_captures.specs.Giving.{IsFileFault}
use Rattle.iscsi_captures.specs.declared.fault.CapturesFault.{CapturesFault}
use Rattle.iscsi_captures.specs.declared.fault.CapturesFault.TheVariants as faults
use Rattle.iscsi_captures.specs.Written.{WroteLess}

-- a line that was written in three parts
pub line_made : (k : ℕ) (c : Connection) (side : Side) (before front remarks after : List ℕ)
    → IsMeant c Initiator side → front ≡ before ++ line_front k c side
    → after ≡ (front ++ remarks) ++ 10 ∷ []
    → (more : List ℕ) × IsLineOf k c more × (after ≡ before ++ more)
line_made k c side before front remarks after meant first last =
    let text : List ℕ = line_front k c side in (
      text ++ (remarks ++ 10 ∷ []),
      (side, meant, remarks, refl),
      last ∙ append_assoc front remarks (10 ∷ [])
          ∙ ap (λ (x : List ℕ). x ++ (remarks ++ 10 ∷ [])) first
          ∙ append_assoc before text (remarks ++ 10 ∷ []),
    )

-- a line more
pub lines_more : (from : ℕ) (cs : List Connection) (lines : List ℕ) (c : Connection) (line : List ℕ)
    → AreLinesFrom from cs lines → IsLineOf (from + length cs) c line
    → AreLinesFrom from (cs ++ c ∷ []) (lines ++ line)
lines_more from [] lines c line are is =
    let P : List ℕ → Type 0 = λ l. AreLinesFrom from (c ∷ []) (l ++ line) in
    let k : from + 0 ≡ from = omega arith in
    subst P (sym are) (line, [], subst (λ (n : ℕ). IsLineOf n c line) k is, refl, sym (append-nil line))
lines_more from (d ∷ cs) lines c line are is =
    let k : from + suc (length cs) ≡ suc from + length cs = omega arith in (
      are.0,
      are.1 ++ line,
      are.2,
      lines_more (suc from) cs are.1 c line are.3 (subst (λ (n : ℕ). IsLineOf n c line) k is),
      ap (λ (l : List ℕ). l ++ line) are.4 ∙ append_assoc are.0 are.1 line,
    )

-- a text that goes on twice
pub goes_on : (a b c : List ℕ) → TextGoesOn a b → TextGoesOn b c → TextGoesOn a c
goes_on a b c p q = (p.0 ++ q.0, q.1 ∙ ap (λ (x : List ℕ). x ++ q.0) p.1 ∙ append_assoc a p.0 q.0)

-- and once more, if that is done
pub goes_on_ok : {T E : Type 0} (a b c : List ℕ) (result : Result T E) → TextGoesOn a b
    → OnOk result (TextGoesOn b c) → OnOk result (TextGoesOn a c)
goes_on_ok a b c (Ok done) p q = goes_on a b c p q
goes_on_ok a b c (Err e) p q = tt

-- ---- what is written of lines

-- a part of these bytes, before the rest
less_written : (bytes rest : List ℕ) (a c : Option (List ℕ)) (before : List ℕ) → 0 < length rest
    → bytes ≡ before ++ rest → Appends a c before → WroteLess a c bytes
less_written bytes rest a c before some parts written =
    let front : take (length before) bytes ≡ before =
    ap (take (length before)) parts ∙ take_at before rest (length before) refl in
    let count : length bytes ≡ length before + length rest =
    ap length parts ∙ length-append before rest in
    (length before, omega (arith, some, count), subst (Appends a c) (sym front) written)

-- a write failed
pub less_kept : (bytes rest : List ℕ) (a b c : Option (List ℕ)) → 0 < length rest
    → WroteUpTo bytes rest a b → Keeps b c → WroteLess a c bytes
less_kept bytes rest a b c some w kept =
    less_written bytes rest a c w.before some w.parts (Appends-kept a b c w.before w.written kept)

-- a write took nothing
pub less_none : (bytes rest : List ℕ) (a b c : Option (List ℕ)) → 0 < length rest
    → WroteUpTo bytes rest a b → Appends b c [] → WroteLess a c bytes
less_none bytes rest a b c some w more =
    less_written bytes rest a c w.before some w.parts
    (subst (Appends a c) (append-nil w.before) (Appends-trans a b c w.before [] w.written more))

-- all lines were written, and no read says that a write failed
pub lists_all : (left : Option (List ℕ)) (result : Result (Unit {0}) CapturesFault)
    (old new : Option (List ℕ)) → IfErr result (IsFileFault left) → WroteLines old new
    → ListPost result old new
lists_all left (Ok done) old new h w = w
lists_all left (Err faults.NoMemory) old new h w = inr w
lists_all left (Err faults.Read) old new h w = w
lists_all left (Err faults.Absent) old new h w = w
lists_all left (Err faults.NotPermitted) old new h w = w
lists_all left (Err faults.Directory) old new h w = w
lists_all left (Err (faults.Reads a)) old new h w = w
lists_all left (Err faults.Empty) old new h w = w
lists_all left (Err faults.Gzip) old new h w = w
lists_all left (Err faults.NoSession) old new h w = w
lists_all left (Err faults.Write) old new h w = absurd (h 0)
lists_all left (Err (faults.Format a)) old new h w = w
lists_all left (Err (faults.Length a)) old new h w = w
lists_all left (Err (faults.Truncated a)) old new h w = w
lists_all left (Err (faults.Link a b c)) old new h w = w
lists_all left (Err (faults.Interface a)) old new h w = w
lists_all left (Err (faults.Fragment a b)) old new h w = w
lists_all left (Err (faults.Cut a b)) old new h w = w
lists_all left (Err (faults.Gap a b c)) old new h w = w
lists_all left (Err (faults.Conflict a b c)) old new h w = w
lists_all left (Err (faults.Long a)) old new h w = w
lists_all left (Err (faults.Stream a b)) old new h w = w
lists_all left (Err (faults.Protocol a b)) old new h w = w
lists_all left (Err (faults.Begun a)) old new h w = w
lists_all left (Err (faults.Assumed a b c d)) old new h w = w
lists_all left (Err (faults.Digest a b c d e)) old new h w = w
lists_all left (Err (faults.NoConnection a)) old new h w = w
