use Rattle.std.proofs.Common.{ap, ◌∙◌, arith}
use Rattle.iscsi_pdu.proofs.HeaderLemmas.{Means-unique}
use Rattle.iscsi_stream.specs.Segment.{logins_after}
use Rattle.iscsi_stream.proofs.ReadyLemmas.{live_of, given_up-is}
use Rattle.iscsi_stream.proofs.framer.Framer.take.Goals as goal

pub returns-clause-taken : goal.returns-clause-taken
returns-clause-taken c head segment ready means =
    let same = Means-unique c.args.self.now.held c.in-Some.head.now head c.in-Some.field-0-1.now segment c.in-Some.ensures.means means in
    let live = live_of c.args.self.now.failed c.args.self.now.held ready in
    let inside = ap (λ v. v.failed) c.self.view_is ∙ live in
    let place = ap (λ v. v.place) c.self.view_is in
    rw inside (given_up-is c.args.self.now c.self.inside.limit c.saturating_add-self-inside.result c.after-logins.result c.self.inside.buffer.room head
    (ap (λ v. v.limit) c.self.view_is) (omega (arith, c.saturating_add-self-inside.ensures, c.held-held.ensures.value, place))
    (c.after-logins.ensures ∙ ap (logins_after c.self.inside.logins) same.0 ∙ ap (λ v. logins_after v.logins head) c.self.view_is)
    (ap (λ v. v.room) c.self.view_is) live)
