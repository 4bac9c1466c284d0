-- Data of a line, as the reader holds them.
use Rattle.iscsi_job_text.specs.declared.words.Payload.{Payload}
use Rattle.iscsi_job_text.specs.Words.{Data}

-- The bytes, or where they stand.
abbrev pub contents : Payload → Data
contents payload = record { bytes = payload.bytes.items; stored = payload.stored }
