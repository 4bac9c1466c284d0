use Rattle.std.proofs.Common.{◌<◌, ℕ, List, length, drop, Option, sym, ap, subst, ◌∙◌, arith}
use Rattle.std.proofs.lemmas.Bool.{eqb-true, eqb-false}
use Rattle.std.proofs.lemmas.List.{length-drop, take_rest}
use Rattle.std.proofs.lemmas.Result.{err_from_is_err_and}
use Rattle.iscsi_stream.proofs.PassingLemmas.{takes_some}
use Rattle.iscsi_initiator.specs.declared.fault.InitiatorFault.{InitiatorFault}
use Rattle.iscsi_initiator.specs.State.{InitiatorSession}
use Rattle.iscsi_initiator.specs.inner.Inside.{initiator_connection, ReceivesPdu, InitiatorShutsReady}
use Rattle.iscsi_initiator.proofs.ReceivingLemmas.{standing, GoesUpTo, ReceivedAs, received_none, received_ready, ends_refused, ends_shut, ends_fault}
use Rattle.iscsi_initiator.proofs.ReceivingLemmas.{ends_closed}
use Rattle.iscsi_initiator.proofs.ReceivingLemmas.{ends_live}
use Rattle.iscsi_initiator.proofs.initiator.feed_all.Goals as goal

pub loop-rest-init : goal.loop-rest-init
loop-rest-init c =
    received_none (initiator_connection c.args.session.now c.args.framer.now) c.args.piece.now c.args.out.now.items c.requires.unready c.requires.live

pub returns-in_err-taken-clause-fed : goal.returns-in_err-taken-clause-fed
returns-in_err-taken-clause-fed c =
    let p = err_from_is_err_and c.from_residual.result c.from_residual.ensures.1 in
    rw (p.1, p.2) (ends_refused (initiator_connection c.args.session.now c.args.framer.now) c.args.piece.now c.loop-rest.rest.now c.args.out.now.items
    (initiator_connection c.loop-rest.session c.loop-rest.framer) c.loop-rest.out.items c.in_err-taken.field-0.0
    (initiator_connection c.take_bytes.new.session c.take_bytes.new.framer) c.loop-rest.invariant c.in_err-taken.ensures.err c.in_err-taken.ensures.shut)

pub returns-in_err-fault-clause-fed : goal.returns-in_err-fault-clause-fed
returns-in_err-fault-clause-fed c =
    let p = err_from_is_err_and c.from_residual-in_err-fault.result c.from_residual-in_err-fault.ensures.1 in
    let shuts = subst (λ (m : InitiatorSession). InitiatorShutsReady (initiator_connection m c.take_bytes.new.framer)
    (initiator_connection c.receive_pdu.new.session c.receive_pdu.new.framer) c.loop-rest.out.items c.receive_pdu.new.out.items) c.in_ok-taken.ensures.kept
    c.in_err-fault.ensures.err in
    rw (p.1, p.2) (ends_shut (initiator_connection c.args.session.now c.args.framer.now) c.args.piece.now c.loop-rest.rest.now c.args.out.now.items
    (initiator_connection c.loop-rest.session c.loop-rest.framer) c.loop-rest.out.items c.take_bytes.new.framer
    (initiator_connection c.receive_pdu.new.session c.receive_pdu.new.framer) c.receive_pdu.new.out.items c.loop-rest.invariant shuts)

pub returns-in-Some-clause-fed : goal.returns-in-Some-clause-fed
returns-in-Some-clause-fed c =
    let ready = subst (λ (m : InitiatorSession). ReceivesPdu (initiator_connection m c.take_bytes.new.framer) c.in_ok-fault.fault
    (initiator_connection c.receive_pdu.new.session c.receive_pdu.new.framer) c.loop-rest.out.items c.receive_pdu.new.out.items) c.in_ok-taken.ensures.kept
    c.in_ok-fault.ensures.ok in
    let received = received_ready (initiator_connection c.args.session.now c.args.framer.now) c.args.piece.now c.loop-rest.rest.now c.args.out.now.items
    (initiator_connection c.loop-rest.session c.loop-rest.framer) c.loop-rest.out.items c.in_ok-taken.taken c.take_bytes.new.framer c.in_ok-fault.fault
    (initiator_connection c.receive_pdu.new.session c.receive_pdu.new.framer) c.receive_pdu.new.out.items c.loop-rest.invariant c.in_ok-taken.ensures.ok
    ready in
    ends_fault (initiator_connection c.args.session.now c.args.framer.now) c.args.piece.now (drop c.in_ok-taken.taken c.loop-rest.rest.now) c.args.out.now.items
    (initiator_connection c.receive_pdu.new.session c.receive_pdu.new.framer) c.receive_pdu.new.out.items c.in-Some.fault
    (subst (λ (f : Option InitiatorFault). ReceivedAs (standing (initiator_connection c.args.session.now c.args.framer.now) c.args.out.now.items)
    c.args.piece.now
    (drop c.in_ok-taken.taken c.loop-rest.rest.now)
    (standing (initiator_connection c.receive_pdu.new.session c.receive_pdu.new.framer) c.receive_pdu.new.out.items) f) c.in-Some.is received)
    (sym c.is_closed.ensures ∙ c.if-is_closed.true)

pub returns-in-Some-clause-unready : goal.returns-in-Some-clause-unready
returns-in-Some-clause-unready c =
    let ready = subst (λ (m : InitiatorSession). ReceivesPdu (initiator_connection m c.take_bytes.new.framer) c.in_ok-fault.fault
    (initiator_connection c.receive_pdu.new.session c.receive_pdu.new.framer) c.loop-rest.out.items c.receive_pdu.new.out.items) c.in_ok-taken.ensures.kept
    c.in_ok-fault.ensures.ok in
    (received_ready (initiator_connection c.args.session.now c.args.framer.now) c.args.piece.now c.loop-rest.rest.now c.args.out.now.items
    (initiator_connection c.loop-rest.session c.loop-rest.framer) c.loop-rest.out.items c.in_ok-taken.taken c.take_bytes.new.framer c.in_ok-fault.fault
    (initiator_connection c.receive_pdu.new.session c.receive_pdu.new.framer) c.receive_pdu.new.out.items c.loop-rest.invariant c.in_ok-taken.ensures.ok
    ready).received.unready

pub returns-in-None-clause-fed : goal.returns-in-None-clause-fed
returns-in-None-clause-fed c =
    let ready = subst (λ (m : InitiatorSession). ReceivesPdu (initiator_connection m c.take_bytes.new.framer) c.in_ok-fault.fault
    (initiator_connection c.receive_pdu.new.session c.receive_pdu.new.framer) c.loop-rest.out.items c.receive_pdu.new.out.items) c.in_ok-taken.ensures.kept
    c.in_ok-fault.ensures.ok in
    let received = received_ready (initiator_connection c.args.session.now c.args.framer.now) c.args.piece.now c.loop-rest.rest.now c.args.out.now.items
    (initiator_connection c.loop-rest.session c.loop-rest.framer) c.loop-rest.out.items c.in_ok-taken.taken c.take_bytes.new.framer c.in_ok-fault.fault
    (initiator_connection c.receive_pdu.new.session c.receive_pdu.new.framer) c.receive_pdu.new.out.items c.loop-rest.invariant c.in_ok-taken.ensures.ok
    ready in
    ends_closed (initiator_connection c.args.session.now c.args.framer.now) c.args.piece.now (drop c.in_ok-taken.taken c.loop-rest.rest.now)
    c.args.out.now.items
    (initiator_connection c.receive_pdu.new.session c.receive_pdu.new.framer) c.receive_pdu.new.out.items c.in_ok-fault.fault
    received c.requires.live c.in-None.is (sym c.is_closed.ensures ∙ c.if-is_closed.true)

pub returns-in-None-clause-unready : goal.returns-in-None-clause-unready
returns-in-None-clause-unready c =
    let ready = subst (λ (m : InitiatorSession). ReceivesPdu (initiator_connection m c.take_bytes.new.framer) c.in_ok-fault.fault
    (initiator_connection c.receive_pdu.new.session c.receive_pdu.new.framer) c.loop-rest.out.items c.receive_pdu.new.out.items) c.in_ok-taken.ensures.kept
    c.in_ok-fault.ensures.ok in
    (received_ready (initiator_connection c.args.session.now c.args.framer.now) c.args.piece.now c.loop-rest.rest.now c.args.out.now.items
    (initiator_connection c.loop-rest.session c.loop-rest.framer) c.loop-rest.out.items c.in_ok-taken.taken c.take_bytes.new.framer c.in_ok-fault.fault
    (initiator_connection c.receive_pdu.new.session c.receive_pdu.new.framer) c.receive_pdu.new.out.items c.loop-rest.invariant c.in_ok-taken.ensures.ok
    ready).received.unready

pub loop-rest-smaller : goal.loop-rest-smaller
loop-rest-smaller c =
    let some : 0 < length c.loop-rest.rest.now = omega (arith, eqb-false (length c.loop-rest.rest.now) 0 (sym c.loop-rest-test.ensures)) in
    let taken = c.in_ok-taken.ensures.ok in
    let one = takes_some c.loop-rest.framer c.loop-rest.rest.now c.in_ok-taken.taken c.take_bytes.new.framer c.loop-rest.invariant.received.unready taken some
    in
    omega (arith, ap length (take_rest c.loop-rest.rest.now c.in_ok-taken.taken), length-drop c.in_ok-taken.taken c.loop-rest.rest.now, taken.bound, one, some)

pub loop-rest-preserved : goal.loop-rest-preserved
loop-rest-preserved c =
    let ready = subst (λ (m : InitiatorSession). ReceivesPdu (initiator_connection m c.take_bytes.new.framer) c.in_ok-fault.fault
    (initiator_connection c.receive_pdu.new.session c.receive_pdu.new.framer) c.loop-rest.out.items c.receive_pdu.new.out.items) c.in_ok-taken.ensures.kept
    c.in_ok-fault.ensures.ok in
    let received = received_ready (initiator_connection c.args.session.now c.args.framer.now) c.args.piece.now c.loop-rest.rest.now c.args.out.now.items
    (initiator_connection c.loop-rest.session c.loop-rest.framer) c.loop-rest.out.items c.in_ok-taken.taken c.take_bytes.new.framer c.in_ok-fault.fault
    (initiator_connection c.receive_pdu.new.session c.receive_pdu.new.framer) c.receive_pdu.new.out.items c.loop-rest.invariant c.in_ok-taken.ensures.ok
    ready in
    subst (λ (x : List ℕ). GoesUpTo (standing (initiator_connection c.args.session.now c.args.framer.now) c.args.out.now.items) c.args.piece.now x
    (standing (initiator_connection c.receive_pdu.new.session c.receive_pdu.new.framer) c.receive_pdu.new.out.items))
    (sym (take_rest c.loop-rest.rest.now c.in_ok-taken.taken))
    (record { received = received.received; live = sym c.is_closed.ensures ∙ c.if-is_closed.false })

pub returns-clause-fed : goal.returns-clause-fed
returns-clause-fed c =
    ends_live (initiator_connection c.args.session.now c.args.framer.now) c.args.piece.now c.loop-rest.rest.now c.args.out.now.items
    (initiator_connection c.loop-rest.session c.loop-rest.framer) c.loop-rest.out.items c.phase.result c.loop-rest.invariant c.requires.live c.phase.ensures
    (eqb-true (length c.loop-rest.rest.now) 0 (sym c.loop-rest-test.ensures))
