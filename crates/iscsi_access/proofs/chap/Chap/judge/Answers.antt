-- Behind the challenge a text that passes is right.
use Rattle.iscsi_access.proofs.PassingLemmas.{passed_result}
use Rattle.iscsi_access.proofs.chap.Chap.judge.Goals as goal

pub returns-in-Challenged-clause-passed : goal.returns-in-Challenged-clause-passed
returns-in-Challenged-clause-passed c =
    passed_result c.args.self.now c.args.progress c.args.initiator.now c.args.text.now c.on_response.result c.on_response.ensures c.in-Challenged.is
