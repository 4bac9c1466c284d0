-- The parts of a slice that are not empty, up to a comment, collected.
use Rattle.std.proofs.Common.{rules}
use borrow.Author.Tests.{tests}
use Rattle.std.specs.Prelude.{not}
use Rattle.std.proofs.lemmas.Iterator.Consumers.{map_from_collect, YieldsList-at, YieldsList-from_filter}
use Rattle.std.proofs.lemmas.Iterator.Search.{YieldsList-from_take_while}
use Rattle.std.proofs.lemmas.Iterator.Splits.{YieldsList-from_slice_split}
use Rattle.iscsi_secrets.specs.Secrets.{is_blank, has_byte, begins_comment}
use Rattle.iscsi_secrets.proofs.line.words_of.Goals as goal

pub returns : goal.returns
returns c = record {
  words = map_from_collect _ c.collect.ensures.ran
      (YieldsList-from_take_while _ (λ w. not (begins_comment w))
      (YieldsList-at c.take_while.ensures.source
      (YieldsList-from_filter _ has_byte
      (YieldsList-at c.filter.ensures.source
      (YieldsList-from_slice_split _ is_blank c.args.line.now c.split.ensures.rest c.split.ensures.done c.split.ensures.closure
      (λ x b q k. search (rules, tests))))
      c.filter.ensures.closure (λ x b q k. search (rules, tests))))
      c.take_while.ensures.closure c.take_while.ensures.done (λ x b q k. search (rules, tests)));
}
