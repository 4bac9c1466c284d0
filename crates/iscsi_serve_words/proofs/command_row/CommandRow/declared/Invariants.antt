-- The command has the lists so far.
use Rattle.std.proofs.Common.{take}
use Rattle.std.specs.Prelude.{flat_map}
use Rattle.iscsi_serve_words.specs.Rows.{AddsRules}
use Rattle.iscsi_serve_words.proofs.RowLemmas.{rules_of_list}
use Rattle.iscsi_serve_words.proofs.command_row.CommandRow.declared.Given as goal

abbrev pub invariant-loop-words : goal.invariant-loop-words
invariant-loop-words l =
    AddsRules (flat_map rules_of_list (take l.words-index l.self.words.now)) l.initial.command l.command
