-- The blocks and the parameter list of PERSISTENT RESERVE IN and OUT (SPC-4, sections 6.15 and 6.16).
use Rattle.std.specs.Prelude.{ℕ, Bool, true, false, not, ◌==◌, ◌&&◌, ◌||◌, if◌then◌else◌, List, length, Option, None, Some, Result, Ok, Err}
use Rattle.scsi_cdb.specs.Layout.{bits_at, is_set, number_at}
use Rattle.scsi_reservations.specs.declared.kind.Kind.{Kind}
use Rattle.scsi_reservations.specs.declared.ask.Action.{Action}
use Rattle.scsi_reservations.specs.declared.ask.Action.TheVariants as actions
use Rattle.scsi_reservations.specs.declared.ask.Ask.{Ask}
use Rattle.scsi_reservations.specs.declared.refusal.Refusal.{Refusal}
use Rattle.scsi_reservations.specs.declared.refusal.Refusal.TheVariants as refusals
use Rattle.scsi_reservations.specs.declared.report.Report.{Report}
use Rattle.scsi_reservations.specs.declared.report.Report.TheVariants as reports
use Rattle.scsi_reservations.specs.Reservations.{type_of_code}

-- The additional sense code of a refusal, and its qualifier (SPC-4, section 4.5.6).
abbrev pub refusal_sense : Refusal → ℕ × ℕ
refusal_sense refusals.ListLength = (0x1a, 0x00)
refusal_sense refusals.InvalidField = (0x24, 0x00)
refusal_sense refusals.InvalidParameter = (0x26, 0x00)
refusal_sense refusals.InvalidRelease = (0x26, 0x04)
refusal_sense refusals.NoRoom = (0x55, 0x04)

-- ---- PERSISTENT RESERVE OUT

-- The type in byte 2, with the scope of a logical unit (0).
abbrev pub type_in : List ℕ → Option Kind
type_in block = if bits_at 2 0xf0 block == 0 then type_of_code (bits_at 2 0x0f block) else None

-- An action that names a type.
abbrev pub action_typed : (Kind → Action) → Option Kind → Result Action Refusal
action_typed action None = Err refusals.InvalidField
action_typed action (Some kind) = Ok (action kind)

-- The action by its code in byte 1.
abbrev pub action_coded : List ℕ → ℕ → Result Action Refusal
action_coded block code =
    if code == 0x00 then Ok actions.Register
    else if code == 0x01 then action_typed actions.Reserve (type_in block)
    else if code == 0x02 then action_typed actions.Release (type_in block)
    else if code == 0x03 then Ok actions.Clear
    else if code == 0x04 then action_typed actions.Preempt (type_in block)
    else if code == 0x05 then action_typed actions.PreemptAndAbort (type_in block)
    else if code == 0x06 then Ok actions.RegisterAndIgnore
    else Err refusals.InvalidField

-- The action of a block, with a parameter list of 24 bytes.
abbrev pub action_of : List ℕ → Result Action Refusal
action_of block =
    if number_at 5 8 block == 24 then action_coded block (bits_at 1 0x1f block)
    else Err refusals.ListLength

-- It is one of the two that register.
abbrev pub registers : Action → Bool
registers actions.Register = true
registers actions.RegisterAndIgnore = true
registers _ = false

-- A bit that is not taken: other ports (SPEC_I_PT), and that registrations last (APTPL) where they can't.
abbrev pub is_beyond : Bool → List ℕ → Bool
is_beyond can_last list = is_set 20 0x08 list || (is_set 20 0x01 list && not can_last)

-- What the list asks, with the action of its block. Bits of the list are those of actions that register.
abbrev pub ask_in : Action → Bool → List ℕ → Result Ask Refusal
ask_in action can_last list =
    if not (length list == 24) then Err refusals.ListLength
    else if registers action && is_beyond can_last list then Err refusals.InvalidParameter
    else Ok (record {
      action = action;
      key = number_at 0 7 list;
      service_key = number_at 8 15 list;
      lasts = registers action && is_set 20 0x01 list;
    })

-- ---- PERSISTENT RESERVE IN

-- What is asked for, by its code in byte 1.
abbrev pub report_of : List ℕ → Result Report Refusal
report_of block =
    if bits_at 1 0x1f block == 0x00 then Ok reports.Keys
    else if bits_at 1 0x1f block == 0x01 then Ok reports.Reservation
    else if bits_at 1 0x1f block == 0x02 then Ok reports.Capabilities
    else if bits_at 1 0x1f block == 0x03 then Ok reports.FullStatus
    else Err refusals.InvalidField
