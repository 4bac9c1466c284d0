-- What is known of a file of the operating system.
use Rattle.std.specs.Prelude.{ℕ}
use Rattle.scsi_disk.specs.Disk.{Disk, zeros}
use Rattle.scsi_file.specs.declared.host_file.HostFile.{HostFile}
use Rattle.scsi_file.specs.Hiding.{hiding}

-- n blocks; nothing is known of their bytes, for which 00 stand
abbrev pub unknown : ℕ → Disk
unknown count = hiding (zeros count)

-- how many blocks a file has
abbrev pub file_blocks : HostFile → ℕ
file_blocks f = f.blocks
