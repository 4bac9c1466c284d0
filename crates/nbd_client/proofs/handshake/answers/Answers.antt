use Rattle.std.proofs.Common.{None, Some, rules}
use Rattle.nbd_client.specs.inner.Heard.{GoAnswerSays}
use Rattle.nbd_client.proofs.HeardLemmas.{hearing_none, hearing_more, heard_all}
use Rattle.nbd_client.proofs.handshake.answers.Goals as goal

pub loop-init : goal.loop-init
loop-init g c = hearing_none (g.R.Read.remaining c.args.reader.now)

pub returns-in-Some-export-clause-said : goal.returns-in-Some-export-clause-said
returns-in-Some-export-clause-said g c =
    let last : GoAnswerSays (g.R.Read.remaining c.loop.reader) (g.R.Read.remaining c.answer.new.reader) None = search rules in
    heard_all _ _ _ _ c.in-Some-export.export c.loop.sizes c.loop.invariant c.in-Some-export.is last

pub loop-preserved : goal.loop-preserved
loop-preserved g c =
    let said : GoAnswerSays (g.R.Read.remaining c.loop.reader) (g.R.Read.remaining c.answer.new.reader) (Some c.in-Some.said) = search rules in
    rw (c.export_after-export.ensures, c.sizes_after-sizes.ensures) (hearing_more _ _ _ _ _ c.in-Some.said c.loop.invariant said)
