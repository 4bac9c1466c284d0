use Rattle.std.proofs.Common.{◌+◌, ◌*◌, ◌≤◌, ◌∙◌, ap, length, take, drop, ℕ, arith}
use Rattle.nbd_client.proofs.ServingLemmas.{if_none_rose, part_read}
use Rattle.nbd_client.proofs.medium.NbdMedium.read_run.Goals as goal

pub returns-clause-read : goal.returns-clause-read
returns-clause-read g c =
    let count = c.blocks-count.ensures in
    let inside : 512 * c.span_of-span.result.first + c.span_of-span.result.size ≤ 512 * (g.L.Line.disk c.args.self.now.line).count =
    omega (arith, c.span_of-span.ensures.inside, count) in
    if_none_rose c.pass_over-2.result _ _ _ _ _ c.ask.ensures.untold.rises c.pass_over.ensures.untold.rises c.receive.ensures.untold.rises
    c.pass_over-2.ensures.untold.rises
    (λ asked passed received.
    let n : ℕ = length c.args.out.now in
    c.in_ok-receive.ensures.read received
    ∙ ap (take n) (c.in_ok-pass_over.ensures.pending passed ∙ ap (drop c.span_of-span.result.before) (c.in_ok-ask.ensures.done asked))
    ∙ part_read (g.L.Line.disk c.args.self.now.line) c.span_of-span.result.first c.span_of-span.result.before c.span_of-span.result.behind
    c.span_of-span.result.size n c.args.lba (g.met.L.Line.sound c.args.self.now.line) c.span_of-span.ensures.place
    c.span_of-span.ensures.size c.span_of-span.ensures.front c.requires.whole c.span_of-span.ensures.whole inside)
