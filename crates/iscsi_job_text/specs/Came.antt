-- An outcome, as the reader holds it.
use Rattle.iscsi_job_text.specs.declared.outcome_reading.Came.{Came}
use Rattle.iscsi_job_text.specs.Payloads.{contents}
use Rattle.iscsi_job_text.specs.Outcomes.{Outcome}

-- How a request ended, if it was answered, and what came.
abbrev pub outcome_held : Came → Outcome
outcome_held came = record { ended = came.ended; sense = came.sense.items; received = contents came.received }
