-- The first item that names an algorithm.
use Rattle.std.proofs.Common.{◌==◌, rules}
use borrow.Author.Tests.{tests}
use Rattle.std.specs.Prelude.{is_some}
use Rattle.iscsi_chap.specs.Response.{algorithm_named}
use Rattle.std.proofs.lemmas.Iterator.Splits.{YieldsList-from_slice_split}
use Rattle.std.proofs.lemmas.Iterator.Search.{find_from_yields_List}
use Rattle.iscsi_access.proofs.reading.first_known_item.Goals as goal

pub returns : goal.returns
returns c = find_from_yields_List (λ item. is_some (algorithm_named item)) _ _ c.find.result c.find.ensures.ran
    (YieldsList-from_slice_split _ (λ b. b == 44) c.args.bytes.now c.split.ensures.rest c.split.ensures.done c.split.ensures.closure
    (λ x b q k. search (rules, tests))) (λ x b q k. search (rules, tests))
