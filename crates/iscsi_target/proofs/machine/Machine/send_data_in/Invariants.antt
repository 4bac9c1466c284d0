use Rattle.std.proofs.Common.{◌≡◌, ◌≤◌, ◌-◌}
use Rattle.scsi_disk.specs.Lasting.{Within}
use Rattle.iscsi_target.specs.inner.Reads.{HasPart, given_by_source, reply, source_len}
use Rattle.iscsi_target.proofs.Answers.ReadPartLemmas.{SequencesOut}
use Rattle.iscsi_target.proofs.machine.Machine.send_data_in.Given as goal

-- The sequences of the bytes before those that are left went out.
abbrev pub invariant-loop-sent : goal.invariant-loop-sent
invariant-loop-sent g l =
    let disk = g.S.BlockStore.disk in
    let failures = g.S.BlockStore.failures in
    let kept = g.S.BlockStore.kept in
    record {
      sequences : SequencesOut (reply l.self l.fn.tag l.fn.out.items l.out.items)
          (given_by_source l.fn.source (disk l.fn.store) (failures l.fn.store) (failures l.store)) l.sent;
      left : HasPart l.fn.source (disk l.fn.store).count l.sent.bytes (source_len l.fn.source - l.sent.bytes);
      disk : disk l.store ≡ disk l.fn.store;
      kept : Within (kept l.fn.store) (kept l.store);
      rises : failures l.fn.store ≤ failures l.store;
    }

abbrev pub decreases-loop-sent : goal.decreases-loop-sent
decreases-loop-sent g l = source_len l.fn.source - l.sent.bytes
