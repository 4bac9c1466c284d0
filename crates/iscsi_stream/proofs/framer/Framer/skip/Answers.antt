use Rattle.std.proofs.Common.{ap, ◌∙◌, arith}
use Rattle.iscsi_pdu.proofs.HeaderLemmas.{IsHeader-unique}
use Rattle.iscsi_stream.specs.Segment.{logins_after}
use Rattle.iscsi_stream.specs.Stream.{pdu_len}
use Rattle.iscsi_stream.proofs.SkippingLemmas.{skipped_is}
use Rattle.iscsi_stream.proofs.framer.Framer.skip.Goals as goal

pub returns-clause-skipped : goal.returns-clause-skipped
returns-clause-skipped c head len live header =
    let same = IsHeader-unique c.args.self.now.held c.in-Some.head.now head c.in-Some.len len c.in-Some.ensures.header header in
    let inside = ap (λ v. v.failed) c.self.view_is ∙ live in
    let place = ap (λ v. v.place) c.self.view_is in
    rw inside (skipped_is c.args.self.now c.self.inside.limit c.saturating_add-self-inside.result c.after-logins.result c.self.inside.buffer.room head len
    (ap (λ v. v.limit) c.self.view_is) (omega (
      arith,
      c.saturating_add-self-inside.ensures,
      c.from.ensures,
      c.from-2.ensures,
      c.pad.ensures,
      ap pdu_len
          same.1,
      same.1,
      place,
    ))
    (c.after-logins.ensures ∙ ap (logins_after c.self.inside.logins) same.0 ∙ ap (λ v. logins_after v.logins head) c.self.view_is)
    (ap (λ v. v.room) c.self.view_is) live)
