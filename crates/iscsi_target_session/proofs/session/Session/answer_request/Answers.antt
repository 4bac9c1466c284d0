use Rattle.std.proofs.Common.{ℕ, List, sym, ap, ◌∙◌}
use Rattle.iscsi_target_session.specs.TextRequests.{on_text_request}
use Rattle.iscsi_target_session.specs.Requests.{on_nop_out, request_answered}
use Rattle.iscsi_target_session.proofs.KindLemmas.{does_as, bytes_of}
use Rattle.iscsi_target_session.proofs.session.Session.answer_request.Goals as goal

pub returns-in-Ping : goal.returns-in-Ping
returns-in-Ping c =
    let bytes = bytes_of c.received.inside.continued c.received.inside.pdu.head c.received.inside.pdu.bytes.now c.args.received.now c.received.view_is
    c.requires.plain in
    does_as c.nop_out.result (on_nop_out c.args.self.now c.args.waiting c.in-Ping.head c.received.inside.pdu.bytes.now)
    (request_answered c.args.self.now c.args.waiting c.args.received.now c.args.request.now) c.args.self.now c.nop_out.new.self c.args.out.now.items
    c.nop_out.new.out.items
    (ap (λ (b : List ℕ). on_nop_out c.args.self.now c.args.waiting c.in-Ping.head b) (sym bytes)
    ∙ sym (ap (request_answered c.args.self.now c.args.waiting c.args.received.now) c.in-Ping.is)) c.nop_out.ensures

pub returns-in-Text : goal.returns-in-Text
returns-in-Text c =
    let bytes = bytes_of c.received.inside.continued c.received.inside.pdu.head c.received.inside.pdu.bytes.now c.args.received.now c.received.view_is
    c.requires.plain in
    does_as c.text_request.result (on_text_request c.args.self.now c.args.waiting c.args.received.now c.in-Text.head c.received.inside.pdu.bytes.now)
    (request_answered c.args.self.now c.args.waiting c.args.received.now c.args.request.now) c.args.self.now c.text_request.new.self c.args.out.now.items
    c.text_request.new.out.items
    (ap (λ (b : List ℕ). on_text_request c.args.self.now c.args.waiting c.args.received.now c.in-Text.head b) (sym bytes)
    ∙ sym (ap (request_answered c.args.self.now c.args.waiting c.args.received.now) c.in-Text.is)) c.text_request.ensures
