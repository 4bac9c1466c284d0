-- A store that can't be written.
use Rattle.scsi_disk.specs.declared.read_only.ReadOnly.{ReadOnly}

-- the store whose blocks it has
abbrev pub store_in : {S : Type 0} → ReadOnly S → S
store_in s = s.store
