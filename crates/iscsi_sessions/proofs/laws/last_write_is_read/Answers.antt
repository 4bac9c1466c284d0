use Rattle.std.proofs.Common.{List, subst}
use Rattle.iscsi_target.specs.State.{Execution}
use Rattle.iscsi_sessions.specs.Turns.{executed_in}
use Rattle.iscsi_sessions.specs.Blocks.{ExactExecutionsLead}
use Rattle.iscsi_sessions.proofs.BlockLemmas.{follow_block, read_bytes}
use Rattle.iscsi_sessions.proofs.ExactLemmas.{runs_follows}
use Rattle.iscsi_sessions.proofs.laws.last_write_is_read.Goals as goal

pub returns : goal.returns
returns c = record {
  read = λ protected slots after store last es past later e length r same split is p.
      read_bytes protected store.disk last.disk past later e length
      (subst (λ (x : List Execution). ExactExecutionsLead protected store.disk x last.disk) split (runs_follows protected slots after store last es r same)) is
      p;
  blocks = λ protected slots after store last es n r same. follow_block protected store.disk last.disk (executed_in es)
      (runs_follows protected slots after store last es r same) n;
}
