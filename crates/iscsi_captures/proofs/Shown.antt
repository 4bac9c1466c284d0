-- Entries that were appended, one call after another.
use Rattle.std.proofs.Common.{ℕ, List, Option, [], ◌++◌, refl, sym, ap, ◌∙◌, append-nil, append_assoc}
use Rattle.iscsi_captures.specs.Written.{WroteBytes}
use Rattle.std.proofs.KnownBytes.{Appends-trans, Appends-nil}
use Rattle.iscsi_stream.specs.Stream.{Message}
use Rattle.iscsi_stream.specs.Framing.{Framing}
use Rattle.iscsi_explain.specs.declared.form.Form.{Form}
use Rattle.iscsi_explain.specs.Showing.{AppendsSome, PassesEntries}
use Rattle.iscsi_explain.proofs.Passing.{entries_append}

pub some_none : (form : Form) (out : List ℕ) → AppendsSome form out out
some_none form out = ([], [], refl, sym (append-nil out))

pub some_passed : (form : Form) (old new : Framing) (before after bytes : List ℕ) (more : List Message)
    → PassesEntries form old new before after bytes more → AppendsSome form before after
some_passed form old new before after bytes more passes =
    (more, passes.out, passes.entries, passes.appended)

pub some_then : (form : Form) (a b c : List ℕ) → AppendsSome form a b → AppendsSome form b c
    → AppendsSome form a c
some_then form a b c p q = (
  p.0 ++ q.0,
  p.1 ++ q.1,
  entries_append form p.0 q.0 p.1 q.1 p.2 q.2,
  q.3 ∙ ap (λ (x : List ℕ). x ++ q.1) p.3 ∙ append_assoc a p.1 q.1,
)

pub wrote_none : (w : Option (List ℕ)) → WroteBytes w w
wrote_none w = ([], Appends-nil w)

pub wrote_more : (a b c : Option (List ℕ)) → WroteBytes a b → WroteBytes b c → WroteBytes a c
wrote_more a b c p q = (p.0 ++ q.0, Appends-trans a b c p.0 q.0 p.1 q.1)
