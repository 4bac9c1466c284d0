use Rattle.std.proofs.Common.{[], ◌∷◌, refl}
use Rattle.iscsi_stream.specs.Framing.{message_of}
use Rattle.iscsi_stream.proofs.ReadyLemmas.{unready_if}
use Rattle.iscsi_explain.proofs.Passing.{pass_none, pass_one}
use Rattle.iscsi_explain.proofs.stream.append_ready.Goals as goal

pub returns-in_default-clause-ok : goal.returns-in_default-clause-ok
returns-in_default-clause-ok c = (
  [],
  pass_none c.args.manner.form c.args.framer.now c.args.out.now.items
      (unready_if c.args.framer.now (λ r. c.in_default.ensures.ready.1 r)),
)

pub returns-clause-ok : goal.returns-clause-ok
returns-clause-ok c =
    let h = c.in-Some.pdu.head in
    let d = c.in-Some.pdu.bytes.now in
    let means = c.in-Some.ensures.means in
    let ready = c.in-Some.ensures.ready.0 refl in
    let done = c.in_ok-write_pdu.ensures.ok in (
      message_of c.args.framer.now h d ∷ [],
      pass_one c.args.manner.form c.args.framer.now c.take.new.self h d c.args.out.now.items
          c.write_pdu.new.out.items done.0 means (c.take.ensures.taken h d ready means) done.2 done.1,
    )
