use Rattle.std.proofs.Common.{rules}
use borrow.Author.Tests.{tests}
use Rattle.std.proofs.lemmas.Iterator.{YieldsList-from_slice}
use Rattle.std.proofs.lemmas.Iterator.Consumers.{count_from_yields_List, YieldsList-from_filter}
use Rattle.iscsi_target.specs.State.{takes_place}
use Rattle.iscsi_target.proofs.tasks.Tasks.waiting.Goals as goal

pub returns-clause-value : goal.returns-clause-value
returns-clause-value c =
    count_from_yields_List _ c.count.result c.count.ensures.ran
    (YieldsList-from_filter _ takes_place (YieldsList-from_slice c.args.self.now (search rules)) c.filter-waiting.ensures.closure
    (λ x b q k. search (rules, tests)))
