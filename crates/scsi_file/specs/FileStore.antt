-- What a store on a medium shows.
use Rattle.std.specs.Prelude.{ℕ, Bool}
use Rattle.scsi_file.specs.declared.file_store.FileStore.{FileStore}
use Rattle.scsi_file.specs.declared.medium.Medium.{Ghosts}

-- what the store keeps its blocks on
abbrev pub store_medium : {M : Type 0} {g : Ghosts M} → FileStore M g → M
store_medium s = s.medium

-- how many of its calls failed
abbrev pub failed_by : {M : Type 0} {g : Ghosts M} → FileStore M g → ℕ
failed_by s = s.failed

-- whether nothing was written since it was synced
abbrev pub is_synced : {M : Type 0} {g : Ghosts M} → FileStore M g → Bool
is_synced s = s.synced
