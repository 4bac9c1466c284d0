use Rattle.iscsi_serve_words.proofs.RowLemmas.{one_word_more}
use Rattle.iscsi_serve_words.proofs.word.with_words.Goals as goal

pub loop-word-preserved : goal.loop-word-preserved
loop-word-preserved c =
    one_word_more c.args.words.now c.loop-word.word-index _ c.args.command c.loop-word.command c.in_ok-command.command
    c.loop-word-test.true c.loop-word.invariant c.in_ok-command.ensures.word
