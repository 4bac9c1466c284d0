use Rattle.std.proofs.Common.{◌∙◌, ap, inl}
use Rattle.scsi_disk.specs.Disk.{Disk}
use Rattle.scsi_disk.proofs.sparse.SparseStoreBlockStore.write.Goals as goal

pub returns-in_err-reserve_all-clause-each : goal.returns-in_err-reserve_all-clause-each
returns-in_err-reserve_all-clause-each c =
    let same = c.reserve_all.ensures.disk in
    record { count = ap (λ (d : Disk). d.count) same; tells = ap (λ (d : Disk). d.tells) same; each = λ n. inl (ap (λ (d : Disk). d.block n) same) }

pub returns-in_err-reserve_all-clause-kept : goal.returns-in_err-reserve_all-clause-kept
returns-in_err-reserve_all-clause-kept c = λ n b h. inl (h ∙ ap (λ (d : Disk). d.block n) c.reserve_all.ensures.disk)

pub returns-in_err-reserve_all-clause-no_memory : goal.returns-in_err-reserve_all-clause-no_memory
returns-in_err-reserve_all-clause-no_memory c = λ _. (
  c.reserve_all.ensures.disk,
  λ n b h. h ∙ ap (λ (d : Disk). d.block n) c.reserve_all.ensures.disk,
)
