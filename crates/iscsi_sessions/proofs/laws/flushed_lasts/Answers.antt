use Rattle.iscsi_sessions.proofs.FlushLemmas.{plain_waits, since_flush, sync_leaves, turn_leaves, turn_noted, unsynced_none}
use Rattle.iscsi_sessions.proofs.WrittenLemmas.{behind_writes, runs_block}
use Rattle.iscsi_sessions.proofs.laws.flushed_lasts.Goals as goal

pub returns : goal.returns
returns g c = record {
  since = since_flush g.S.BlockStore.protected g.S.BlockStore.disk g.S.BlockStore.kept;
  behind = behind_writes;
  had = runs_block;
  turn = turn_leaves g.S.BlockStore.protected g.S.BlockStore.disk g.S.BlockStore.kept;
  noted = turn_noted;
  unsynced = unsynced_none;
  plain = plain_waits;
  sync = sync_leaves g.S.BlockStore.protected g.S.BlockStore.disk g.S.BlockStore.kept;
}
