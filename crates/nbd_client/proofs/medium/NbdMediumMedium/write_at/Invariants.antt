use Rattle.std.proofs.Common.{◌≡◌, ◌-◌, ◌*◌, ◌≤◌, take}
use Rattle.scsi_disk.specs.Disk.{disk_written}
use Rattle.nbd_client.specs.Serving.{MayWrite, UntoldRises}
use Rattle.nbd_client.proofs.medium.NbdMediumMedium.write_at.Given as goal

-- The front has been written.
abbrev pub invariant-loop-done : goal.invariant-loop-done
invariant-loop-done g l = record {
  inside : l.done ≤ l.blocks;
  may : MayWrite l.lba l.bytes (g.L.Line.disk l.fn.self.line) (g.L.Line.kept l.fn.self.line) (g.L.Line.disk l.self.line) (g.L.Line.kept l.self.line);
  written : g.L.Line.untold l.self.line ≡ g.L.Line.untold l.fn.self.line
      → g.L.Line.disk l.self.line ≡ disk_written l.lba (take (512 * l.done) l.bytes) (g.L.Line.disk l.fn.self.line);
  sizes : g.L.Line.sizes l.self.line ≡ g.L.Line.sizes l.fn.self.line;
  untold : UntoldRises (g.L.Line.disk l.fn.self.line).tells (g.L.Line.untold l.fn.self.line) (g.L.Line.untold l.self.line);
}

abbrev pub decreases-loop-done : goal.decreases-loop-done
decreases-loop-done g l = l.blocks - l.done
