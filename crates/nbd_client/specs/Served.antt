-- What a server in this process stands on.
use Rattle.nbd_client.specs.declared.served.Served.{Served}
use Rattle.scsi_file.specs.declared.medium.Medium.{Ghosts}

-- the medium below it
abbrev pub served_medium : {M : Type 0} {g : Ghosts M} → Served M g → M
served_medium s = s.medium
