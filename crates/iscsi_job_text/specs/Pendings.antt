-- A request to which lines may be added, as the reader holds it.
use Rattle.iscsi_job_text.specs.declared.entry_reading.Pending.{Pending}
use Rattle.iscsi_job_text.specs.Entries.{PendingEntry}

-- The request, and whether it has an outcome.
abbrev pub pending_held : Pending → PendingEntry
pending_held pending = record { entry = pending.entry; has_outcome = pending.has_outcome }
