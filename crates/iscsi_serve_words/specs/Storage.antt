-- What a served disk is kept in, and what an image has that was opened.
use Rattle.std.specs.Prelude.{◌≡◌, ◌≢◌, ◌≤◌, ◌<◌, ℕ, Option, Some, None, IfSome}
use Rattle.scsi_disk.specs.Disk.{most_blocks}
use Rattle.iscsi_serve_words.specs.declared.storage.Origin.{Origin}
use Rattle.iscsi_serve_words.specs.declared.storage.Origin.TheVariants as origin
use Rattle.iscsi_serve_words.specs.declared.storage.Storage.{Storage}
use Rattle.iscsi_serve_words.specs.declared.storage.Storage.TheVariants as storage
use Rattle.iscsi_serve_words.specs.declared.nbd_storage.NbdFault.{NbdFault}
use Rattle.iscsi_serve_words.specs.declared.nbd_storage.NbdFault.TheVariants as nbd
use Rattle.iscsi_serve_words.specs.declared.storage.ImageFault.{ImageFault}
use Rattle.iscsi_serve_words.specs.declared.storage.ImageFault.TheVariants as image

-- An image that is made has 1 to 2^40 blocks, and so has one that is found, if a number is said.
abbrev pub IsOrigin : Origin → Type 0
IsOrigin (origin.Found blocks) = IfSome blocks (λ n. (0 < n) × (n ≤ most_blocks))
IsOrigin (origin.New blocks) = (0 < blocks) × (blocks ≤ most_blocks)

-- An image that is made has 1 to 2^40 blocks; of one that is found any number may be asked for.
abbrev pub CanBeOpened : Origin → Type 0
CanBeOpened (origin.Found blocks) = Unit {0}
CanBeOpened (origin.New blocks) = (0 < blocks) × (blocks ≤ most_blocks)

-- A disk in memory, an image and an export have 1 to 2^40 blocks.
abbrev pub IsStorage : Storage → Type 0
IsStorage (storage.Memory blocks) = (0 < blocks) × (blocks ≤ most_blocks)
IsStorage (storage.Image image) = IsOrigin image.origin
IsStorage (storage.Nbd export) = IfSome export.blocks (λ n. (0 < n) × (n ≤ most_blocks))

-- An image or an export has as many blocks as were asked for, if a number was.
abbrev pub HasAskedBlocks : Option ℕ → ℕ → Type 0
HasAskedBlocks None count = Unit {0}
HasAskedBlocks (Some asked) count = count ≡ asked

-- A number of blocks is blamed only where the image has another one.
abbrev pub IsOtherImage : Option ℕ → ImageFault → Type 0
IsOtherImage (Some blocks) (image.Size has asked) = (asked ≡ blocks) × (has ≢ asked)
IsOtherImage None (image.Size has asked) = ⊥
IsOtherImage _ (image.Open fault) = Unit {0}

-- How many blocks an image is asked to have, if a number is said.
abbrev pub asked_by : Origin → Option ℕ
asked_by (origin.Found blocks) = blocks
asked_by (origin.New blocks) = Some blocks

-- An image that is found or made has as many blocks as were asked for, if a number was.
abbrev pub HasAsked : Origin → ℕ → Type 0
HasAsked origin count = HasAskedBlocks (asked_by origin) count

-- A number of blocks is blamed only where the image that is there has another one.
abbrev pub IsOther : Origin → ImageFault → Type 0
IsOther (origin.Found blocks) fault = IsOtherImage blocks fault
IsOther (origin.New blocks) fault = IsOtherImage None fault

-- A number of blocks is blamed only where the export has another one.
abbrev pub IsOtherExport : Option ℕ → NbdFault → Type 0
IsOtherExport (Some blocks) (nbd.Size has asked) = (asked ≡ blocks) × (has ≢ asked)
IsOtherExport None (nbd.Size has asked) = ⊥
IsOtherExport _ (nbd.Open fault) = Unit {0}
IsOtherExport _ nbd.NotSynced = Unit {0}
