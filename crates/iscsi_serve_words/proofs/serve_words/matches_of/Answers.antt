use Rattle.std.proofs.Common.{map}
use Rattle.iscsi_serve_words.proofs.RowLemmas.{enters}
use Rattle.iscsi_serve_words.proofs.serve_words.matches_of.Goals as goal

pub returns-in-Ok : goal.returns-in-Ok
returns-in-Ok g c = record {
  rows = enters c.in_ok-command.command (map g.S.AsStr.text c.args.words.now) c.in-Ok.matches c.in_ok-command.ensures.words c.in-Ok.ensures.matches;
}
