use Rattle.iscsi_sessions.proofs.RunLemmas.{runs_lead}
use Rattle.iscsi_sessions.proofs.BlockLemmas.{follow_block}
use Rattle.iscsi_sessions.proofs.ExactLemmas.{runs_follows}
use Rattle.iscsi_sessions.specs.Turns.{executed_in}
use Rattle.iscsi_event_loop.specs.Running.{no_sessions}
use Rattle.iscsi_event_loop.proofs.laws.one_disk_of_all.Goals as goal

pub returns : goal.returns
returns c = record {
  may = λ protected count door before after s. runs_lead protected no_sessions s.slots before after s.events s.runs;
  follows = λ protected count door before after s same. runs_follows protected no_sessions s.slots before after s.events s.runs same;
  blocks = λ protected count door before after s n same. follow_block protected before.disk after.disk (executed_in s.events)
      (runs_follows protected no_sessions s.slots before after s.events s.runs same) n;
}
