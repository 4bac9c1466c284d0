-- What a medium that stops stands on.
use Rattle.scsi_file.specs.declared.stops_at.StopsAt.{StopsAt}

-- the medium below it
abbrev pub stopped_of : {M : Type 0} → StopsAt M → M
stopped_of s = s.medium
