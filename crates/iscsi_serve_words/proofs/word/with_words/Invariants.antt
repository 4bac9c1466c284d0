-- The command has the words so far.
use Rattle.std.proofs.Common.{map, take}
use Rattle.iscsi_serve_words.specs.Rows.{AddsRules, rule_of_word}
use Rattle.iscsi_serve_words.proofs.word.with_words.Given as goal

abbrev pub invariant-loop-word : goal.invariant-loop-word
invariant-loop-word l = AddsRules (map rule_of_word (take l.word-index l.words)) l.fn.command l.command
