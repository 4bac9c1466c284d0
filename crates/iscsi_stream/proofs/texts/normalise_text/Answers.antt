use Rattle.std.proofs.Common.{ℕ, List, take, refl, subst, arith}
use Rattle.std.proofs.lemmas.Result.{err_from_is_err_and}
use Rattle.iscsi_stream.specs.Texts.{CanonicalOf}
use Rattle.iscsi_stream.proofs.texts.normalise_text.Goals as goal

pub returns-in_err-write_fully-clause-writes : goal.returns-in_err-write_fully-clause-writes
returns-in_err-write_fully-clause-writes g c =
    let p = err_from_is_err_and c.from_residual-in_err-write_fully.result c.from_residual-in_err-write_fully.ensures.1 in
    let x = c.in_ok-bytes.ensures.ok in
    let front = c.in_err-write_fully.ensures.err in
    let text = c.in_ok-text.text.items in
    let canonical : CanonicalOf c.in_ok-bytes.bytes.items text = subst (λ (bytes : List ℕ). CanonicalOf bytes text) c.deref.ensures.value
    c.in_ok-text.ensures.ok in
    rw (p.1, p.2, front.0) (
      c.in_ok-bytes.bytes.items,
      take front.1.0 text,
      x.0,
      rw c.deref-2.ensures.value at front.1.1,
      (
        text,
        front.1.0,
        canonical,
        omega (arith, c.if-len-gt-LONGEST_TEXT.false, c.len.ensures, c.in_ok-bytes.bytes.ok.0),
        refl,
      ),
    )

pub returns-clause-writes : goal.returns-clause-writes
returns-clause-writes g c =
    let x = c.in_ok-bytes.ensures.ok in
    let text = c.in_ok-text.text.items in
    let canonical : CanonicalOf c.in_ok-bytes.bytes.items text = subst (λ (bytes : List ℕ). CanonicalOf bytes text) c.deref.ensures.value
    c.in_ok-text.ensures.ok in (
      c.in_ok-bytes.bytes.items,
      text,
      x.0,
      rw c.deref-2.ensures.value at c.in_ok-write_fully.ensures.ok,
      (canonical, omega (arith, c.if-len-gt-LONGEST_TEXT.false, c.len.ensures, c.in_ok-bytes.bytes.ok.0)),
    )
