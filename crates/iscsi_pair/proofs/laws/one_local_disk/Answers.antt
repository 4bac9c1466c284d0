use Rattle.iscsi_pair.proofs.Run.OneDiskLaw.{idle_none, idle_rests, idle_whole, served, taken_first}
use Rattle.iscsi_pair.proofs.laws.one_local_disk.Goals as goal

pub returns : goal.returns
returns c = record {
  well = λ o events w outcomes n r. (let s = served o events w outcomes n r in (s.target_well, s.initiator_well));
  outcomes = λ o events w outcomes n r. taken_first o events w outcomes n r;
  idle = λ o events w outcomes n r out back. idle_none o events w outcomes n r out back;
  whole = λ o events w outcomes n r out back. idle_whole o events w outcomes n r out back;
  rests = λ o events w outcomes n r out back. idle_rests o events w outcomes n r out back;
}
