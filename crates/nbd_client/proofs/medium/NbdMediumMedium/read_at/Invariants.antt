use Rattle.std.proofs.Common.{◌≡◌, ◌-◌, ◌*◌, ◌≤◌, take}
use Rattle.scsi_disk.specs.Disk.{blocks_from}
use Rattle.scsi_disk.specs.Lasting.{Within}
use Rattle.nbd_client.specs.Serving.{UntoldRises}
use Rattle.nbd_client.proofs.medium.NbdMediumMedium.read_at.Given as goal

-- The front has been read.
abbrev pub invariant-loop-done : goal.invariant-loop-done
invariant-loop-done g l = record {
  inside : l.done ≤ l.blocks;
  read : g.L.Line.untold l.self.line ≡ g.L.Line.untold l.fn.self.line
      → take (512 * l.done) l.out ≡ blocks_from (g.L.Line.disk l.fn.self.line) l.lba l.done;
  disk : g.L.Line.disk l.self.line ≡ g.L.Line.disk l.fn.self.line;
  kept : Within (g.L.Line.kept l.fn.self.line) (g.L.Line.kept l.self.line);
  sizes : g.L.Line.sizes l.self.line ≡ g.L.Line.sizes l.fn.self.line;
  untold : UntoldRises (g.L.Line.disk l.fn.self.line).tells (g.L.Line.untold l.fn.self.line) (g.L.Line.untold l.self.line);
}

abbrev pub decreases-loop-done : goal.decreases-loop-done
decreases-loop-done g l = l.blocks - l.done
