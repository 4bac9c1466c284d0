use Rattle.std.proofs.Common.{◌<◌, length, sym, ◌∙◌, arith}
use Rattle.std.proofs.lemmas.Bool.{eqb-false}
use Rattle.std.proofs.lemmas.List.{take_min, drop_min}
use Rattle.iscsi_initiator.proofs.SequenceLemmas.{wrote_piece}
use Rattle.iscsi_initiator.proofs.session.data_out.write_pieces.Goals as goal

pub loop-rest-preserved : goal.loop-rest-preserved
loop-rest-preserved c =
    let rest = c.loop-rest.rest.now in
    let some : 0 < length rest = omega (arith, eqb-false (length rest) 0 (sym c.loop-rest-test.ensures)) in
    let front = rw c.min.ensures at c.split_at.ensures.front in
    let back = rw c.min.ensures at c.split_at.ensures.back in
    wrote_piece c.args.first c.args.most c.args.bytes.now c.loop-rest.next rest c.split_at.result.0.now c.split_at.result.1.now c.args.out.now.items
    c.loop-rest.out.items c.write_pdu.new.out.items
    c.requires.some some (front ∙ take_min c.args.most rest) (back ∙ drop_min c.args.most rest)
    (rw c.is_empty-in-loop-rest.ensures at c.in_ok-write_pdu.ensures.ok) c.loop-rest.invariant
