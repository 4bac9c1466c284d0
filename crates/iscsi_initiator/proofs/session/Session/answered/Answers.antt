use Rattle.std.proofs.Common.{rules}
use Rattle.iscsi_initiator.proofs.session.Session.answered.Goals as goal

pub returns-then-is_empty : goal.returns-then-is_empty
returns-then-is_empty c = search (rules, c.on_last.ensures c.args.bytes.now)
