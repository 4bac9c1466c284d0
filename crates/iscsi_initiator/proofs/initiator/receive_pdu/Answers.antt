use Rattle.std.proofs.Common.{refl, ap, ◌∙◌}
use Rattle.iscsi_stream.specs.Framing.{is_ready}
use Rattle.iscsi_stream.proofs.PassingLemmas.{unready_after}
use Rattle.iscsi_initiator.specs.Steps.{closed_session}
use Rattle.iscsi_initiator.proofs.initiator.receive_pdu.Goals as goal

pub returns-in-Err-clause-err : goal.returns-in-Err-clause-err
returns-in-Err-clause-err c =
    let gone = c.take-in-Err.ensures.taken c.in-Some.pdu.head c.in-Some.pdu.bytes.now (c.in-Some.ensures.ready.0 refl) c.in-Some.ensures.means in
    record {
      machine = c.close.ensures ∙ ap closed_session c.in-Err.ensures.err;
      unready = ap is_ready gone ∙ unready_after c.args.framer.now c.in-Some.pdu.head;
      output_is = c.in-Err.ensures.unwritten;
    }
