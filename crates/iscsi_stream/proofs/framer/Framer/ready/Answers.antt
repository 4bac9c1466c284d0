use Rattle.std.proofs.Common.{◌+◌, ◌<◌, take, length, refl, arith}
use Rattle.std.proofs.lemmas.List.{length-take}
use Rattle.iscsi_pdu.specs.Meaning.{padding}
use Rattle.iscsi_stream.proofs.ReadyLemmas.{short_not, body_not, body_whole, body_means, none_not}
use Rattle.iscsi_stream.proofs.framer.Framer.ready.Goals as goal
use Rattle.iscsi_stream.proofs.framer.Framer.ready.Goals.{then-len-via-then-len, then-len-via-else-len+then-padded-pad}

pub returns-in_default-clause-ready : goal.returns-in_default-clause-ready
returns-in_default-clause-ready c =
    let kept = rw c.in_default.is at (c.self.invariant.1 c.if-self.false) in
    let short : length (take c.in_default.field-0 c.self.inside.header) < 48 = omega (arith, kept.1, length-take c.in_default.field-0 c.self.inside.header) in
    rw (← c.self.view_is, c.if-self.false, c.in_default.is) (
      λ e. none_not e,
      λ ready. absurd
          (short_not (take c.in_default.field-0 c.self.inside.header) short ready),
    )

-- the body lacks a byte
less : (c : goal.Joined-then-len) → length c.self.inside.buffer.segment.items + c.in-Body.padded < c.in-Body.len + padding c.in-Body.len
less c =
    let kept = rw c.in-Body.is at (c.self.invariant.1 c.if-self.false) in
    elim c.then-len.branch [
      | then-len-via-then-len w ↦ omega (arith, w.if-len.true, c.len.ensures, c.self.inside.buffer.segment.ok.0, kept.1.no_more_padding)
      | then-len-via-else-len+then-padded-pad w ↦ omega (arith, w.if-padded-pad.true, w.pad.ensures, kept.1.no_more)
    ]

pub returns-then-len-clause-ready : goal.returns-then-len-clause-ready
returns-then-len-clause-ready c =
    let kept = rw c.in-Body.is at (c.self.invariant.1 c.if-self.false) in
    rw (← c.self.view_is, c.if-self.false, c.in-Body.is) (
      λ e. none_not e,
      λ ready. absurd
          (body_not _ c.self.inside.header c.self.inside.buffer.segment.items _ c.in-Body.head c.in-Body.len c.in-Body.padded kept.0 kept.1 (less c) ready),
    )

pub returns-clause-ready : goal.returns-clause-ready
returns-clause-ready c =
    let kept = rw c.in-Body.is at (c.self.invariant.1 c.if-self.false) in
    rw (← c.self.view_is, c.if-self.false, c.in-Body.is) (
      λ _. body_whole _ c.self.inside.header c.self.inside.buffer.segment.items _ c.in-Body.head
          c.in-Body.len c.in-Body.padded kept.0 kept.1 (omega (arith, c.if-len.false, c.len.ensures, c.self.inside.buffer.segment.ok.0))
          (omega (arith, c.if-padded-pad.false, c.pad.ensures)),
      λ _. refl,
    )

pub returns-clause-means : goal.returns-clause-means
returns-clause-means c =
    let kept = rw c.in-Body.is at (c.self.invariant.1 c.if-self.false) in
    rw (← c.self.view_is, c.if-self.false, c.in-Body.is, c.deref.ensures.value) (body_means _ c.self.inside.header c.self.inside.buffer.segment.items _
    c.in-Body.head c.in-Body.len c.in-Body.padded kept.0 kept.1 (omega (arith, c.if-len.false, c.len.ensures, c.self.inside.buffer.segment.ok.0))
    (omega (arith, c.if-padded-pad.false, c.pad.ensures)))
