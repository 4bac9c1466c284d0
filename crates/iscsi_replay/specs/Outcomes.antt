-- When two outcomes of a request are the same, and which is a unit attention.
use Rattle.std.specs.Prelude.{◌≡◌, ℕ, Bool, false, not, ◌==◌, ◌||◌, ◌&&◌, ◌%◌, if◌then◌else◌, List, [], ◌∷◌}
use Rattle.scsi_cdb.specs.declared.residual.Residual.TheVariants as residual
use Rattle.iscsi_job.specs.declared.item.Ended.{Ended}
use Rattle.iscsi_job.specs.declared.item.Ended.TheVariants as ended
use Rattle.iscsi_job.specs.declared.item.Outcome.{Outcome}

-- How a request ended, but for the residual count of a command.
abbrev pub without_residual : Ended → Ended
without_residual (ended.Command response status _) = ended.Command response status residual.Exact
without_residual end = end

-- What is compared of how a request ended; the residual count goes with its data.
abbrev pub compared_end : Bool → Ended → Ended
compared_end ignores_data end = if ignores_data then without_residual end else end

-- A command did not end with status GOOD (SAM-5, section 5.3.1).
abbrev pub has_failed : Ended → Bool
has_failed (ended.Command response status _) = not ((response == 0) && (status == 0))
has_failed _ = false

-- What is compared of the data that came with an ending; none beside a status other than GOOD.
abbrev pub compared_data : Bool → Ended → List ℕ → List ℕ
compared_data ignores_data end bytes =
    if ignores_data || has_failed end then [] else bytes

-- Two outcomes are the same: how the request ended, the sense and the data. If data are left out, those
-- and the residual count may differ.
abbrev pub AreSame : Bool → Outcome → Outcome → Type 0
AreSame ignores_data recorded live =
    (compared_end ignores_data recorded.ended ≡ compared_end ignores_data live.ended)
    × (recorded.sense.now ≡ live.sense.now)
    × (compared_data ignores_data recorded.ended recorded.«data».now
    ≡ compared_data ignores_data live.ended live.«data».now)

-- The sense key that sense data have: that of byte 2 in fixed format, of byte 1 in descriptor format,
-- with the bit VALID or without (SPC-4, sections 4.5.2 and 4.5.3).
abbrev pub sense_key : List ℕ → ℕ
sense_key (code ∷ second ∷ third ∷ _) =
    if (code % 128 == 0x70) || (code % 128 == 0x71) then third % 16
    else (if (code % 128 == 0x72) || (code % 128 == 0x73) then second % 16 else 0)
sense_key _ = 0

-- An outcome is a unit attention: CHECK CONDITION with sense key 6 (SAM-5, section 5.14).
abbrev pub is_unit_attention_end : Ended → List ℕ → Bool
is_unit_attention_end (ended.Command response status _) sense =
    (response == 0) && ((status == 2) && (sense_key sense == 6))
is_unit_attention_end _ _ = false
