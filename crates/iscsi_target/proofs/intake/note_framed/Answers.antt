use Rattle.std.proofs.Common.{ap, sym, ◌∙◌}
use Rattle.iscsi_pdu.proofs.HeaderLemmas.{Means-unique}
use Rattle.iscsi_target.specs.Asking.{machine_asks}
use Rattle.iscsi_target.proofs.intake.note_framed.Goals as goal

pub returns-else-asks-clause-none : goal.returns-else-asks-clause-none
returns-else-asks-clause-none c = λ cache quiet head segment ready means.
    (let same = Means-unique c.args.framer.now.held c.in-Some.pdu.head head c.in-Some.pdu.bytes.now segment c.in-Some.ensures.means means in
    ap (machine_asks c.args.machine.now) (sym same.0) ∙ sym c.asks.ensures ∙ c.if-asks.false)
