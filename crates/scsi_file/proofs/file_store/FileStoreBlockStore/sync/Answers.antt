-- Searched for, since a wrong body breaks these goals: 02-file_store-sync.goes_on_after_a_failed_sync.
use Rattle.std.proofs.Common.{rules}
use Rattle.scsi_file.proofs.file_store.FileStoreBlockStore.sync.Goals as goal

pub invariant_of-self-then-is_err : goal.invariant_of-self-then-is_err
invariant_of-self-then-is_err g c = search rules
