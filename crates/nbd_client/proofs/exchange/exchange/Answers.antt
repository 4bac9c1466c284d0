use Rattle.nbd_client.specs.Serving.{AreRequestBytes}
use Rattle.nbd_client.proofs.ServingLemmas.{answers_later, first_is_same, may_tells, rises_then, second_is_same}
use Rattle.nbd_client.proofs.exchange.exchange.Goals as goal

pub returns-in_err-receive-clause-untold : goal.returns-in_err-receive-clause-untold
returns-in_err-receive-clause-untold g c =
    let asked = c.requires.asked in
    let is : AreRequestBytes c.args.request.now c.args.lba (g.L.Line.disk c.args.line.now).count (g.L.Line.sizes c.args.line.now) c.request_bytes.result c.args.bytes.now =
    record { spelled = c.request_bytes.ensures; cookie = asked.cookie; short = asked.short; placed = asked.placed } in
    rises_then _ _ _ _ _ (may_tells _ _ _ _ _ _ _ (c.send.ensures.may c.args.request.now c.args.lba is)) c.send.ensures.untold c.receive.ensures.untold

pub returns-clause-answers : goal.returns-clause-answers
returns-clause-answers g c same =
    let asked = c.requires.asked in
    let is : AreRequestBytes c.args.request.now c.args.lba (g.L.Line.disk c.args.line.now).count (g.L.Line.sizes c.args.line.now) c.request_bytes.result c.args.bytes.now =
    record { spelled = c.request_bytes.ensures; cookie = asked.cookie; short = asked.short; placed = asked.placed } in
    let first = first_is_same _ _ _ c.send.ensures.untold.rises c.receive.ensures.untold.rises same in
    let second = second_is_same _ _ _ c.send.ensures.untold.rises c.receive.ensures.untold.rises same in
    answers_later c.args.request.now c.args.lba c.args.bytes.now _ _ _ _ _ _ _ _
    (c.in_ok-send.ensures.answers first c.args.request.now c.args.lba is)
    c.receive.ensures.disk c.receive.ensures.kept (c.in_ok-receive.ensures.read second) (c.in_ok-receive.ensures.pending second)

pub returns-clause-untold : goal.returns-clause-untold
returns-clause-untold g c =
    let asked = c.requires.asked in
    let is : AreRequestBytes c.args.request.now c.args.lba (g.L.Line.disk c.args.line.now).count (g.L.Line.sizes c.args.line.now) c.request_bytes.result c.args.bytes.now =
    record { spelled = c.request_bytes.ensures; cookie = asked.cookie; short = asked.short; placed = asked.placed } in
    rises_then _ _ _ _ _ (may_tells _ _ _ _ _ _ _ (c.send.ensures.may c.args.request.now c.args.lba is)) c.send.ensures.untold c.receive.ensures.untold
