use Rattle.iscsi_target.proofs.Writes.WriteTilingLaws.{reached_keeps}
use Rattle.iscsi_target.proofs.Steps.ReachableLemmas.{reached_data_in, told_short, may_told_short}
use Rattle.iscsi_target.proofs.laws.tiling.Goals as goal

pub returns : goal.returns
returns c = record {
  data_in = reached_data_in;
  short = told_short;
  may_short = may_told_short;
  writes = λ protected settings n disk ms m. (reached_keeps protected settings n disk ms m).tiled;
}
