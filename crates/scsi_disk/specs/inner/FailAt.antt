-- More of `FailAt`, of which no public contract speaks.
use Rattle.scsi_disk.specs.FailAt.{FailingStore, later}

-- the store after a call that changed no byte
abbrev pub passed : FailingStore → FailingStore
passed s = record { bytes = s.bytes; before = later s.before }
