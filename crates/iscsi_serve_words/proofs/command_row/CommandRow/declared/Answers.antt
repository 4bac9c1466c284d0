use Rattle.iscsi_serve_words.proofs.RowLemmas.{one_list_more}
use Rattle.iscsi_serve_words.proofs.command_row.CommandRow.declared.Goals as goal

pub loop-words-preserved : goal.loop-words-preserved
loop-words-preserved c =
    one_list_more c.args.self.now.words.now c.loop-words.words-index _ c.in_ok-command.command c.loop-words.command c.in_ok-command-2.command
    c.loop-words-test.true c.loop-words.invariant c.in_ok-command-2.ensures.words
