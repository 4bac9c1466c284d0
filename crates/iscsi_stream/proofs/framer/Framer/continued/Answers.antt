use Rattle.std.proofs.Common.{ap, ◌∙◌}
use Rattle.iscsi_pdu.proofs.HeaderLemmas.{Means-unique}
use Rattle.iscsi_stream.specs.Segment.{continues}
use Rattle.iscsi_stream.proofs.framer.Framer.continued.Goals as goal

pub returns-in-Some-clause-value : goal.returns-in-Some-clause-value
returns-in-Some-clause-value c head segment ready means =
    let same = Means-unique c.args.self.now.held c.in-Some.head.now head c.in-Some.field-0-1.now segment c.in-Some.ensures.means means in
    c.continues.ensures ∙ ap (continues c.self.inside.logins) same.0 ∙ ap (λ v. continues v.logins head) c.self.view_is
