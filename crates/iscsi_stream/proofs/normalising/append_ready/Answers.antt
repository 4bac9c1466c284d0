use Rattle.std.proofs.Common.{◌≡◌, ◌+◌, ◌∙◌, [], ◌∷◌, Bool, length, refl, subst, ap, arith}
use Rattle.std.proofs.lemmas.List.{length-append}
use Rattle.iscsi_stream.specs.Stream.{message}
use Rattle.iscsi_stream.specs.Framing.{message_of}
use Rattle.iscsi_stream.specs.inner.Passing.{IsDueOutput}
use Rattle.iscsi_stream.proofs.ReadyLemmas.{unready_if}
use Rattle.iscsi_stream.proofs.PassingLemmas.{pass_none, pass_one}
use Rattle.iscsi_stream.proofs.normalising.append_ready.Goals as goal

pub returns-in_default-clause-ok : goal.returns-in_default-clause-ok
returns-in_default-clause-ok c = (
  [],
  pass_none c.args.form c.args.framer.now c.args.out.now.items c.args.counts.now
      (unready_if c.args.framer.now (λ r. c.in_default.ensures.ready.1 r)),
)

pub returns-clause-ok : goal.returns-clause-ok
returns-clause-ok c =
    let h = c.in-Some.head.now in
    let d = c.in-Some.bytes.now in
    let means = c.in-Some.ensures.means in
    let ready = c.in-Some.ensures.ready.0 refl in
    let flag = c.continues-continued.ensures in
    let done = c.in_ok-append_pdu.ensures.ok in
    let bytes = done.0 in
    let n = c.append_pdu.new.out.ok.0 in
    let m = c.args.out.now.ok.0 in
    let sum : length c.append_pdu.new.out.items ≡ length c.args.out.now.items + length bytes = ap length done.2 ∙ length-append c.args.out.now.items bytes in (
      message_of c.args.framer.now h d ∷ [],
      pass_one c.args.form c.args.framer.now c.take.new.self h d c.args.out.now.items c.append_pdu.new.out.items bytes c.args.counts.now _ means
          (c.take.ensures.taken h d ready means) done.2
          (subst (λ (b : Bool). IsDueOutput c.args.form (message b h d ∷ []) bytes) flag done.1) c.saturating_add-counts.ensures refl
          (omega (arith, c.len.ensures, c.len-before.ensures, n, m, sum, c.saturating_add-counts-2.ensures)),
    )
