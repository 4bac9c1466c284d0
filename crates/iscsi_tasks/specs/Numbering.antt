-- The StatSN at which a PDU of the target stands, and the tag that it answers (RFC 7143, section 4.2.2.2).
use Rattle.std.specs.Prelude.{ℕ, ◌==◌, if◌then◌else◌, Option, Some, None}
use Rattle.iscsi_pdu.specs.Fields.{reserved_tag}
use Rattle.iscsi_pdu.specs.Serial.{next_sn}
use Rattle.iscsi_pdu.specs.declared.serial.Serial.{Serial}
use Rattle.iscsi_pdu.specs.declared.head.Head.{Head}
use Rattle.iscsi_pdu.specs.declared.head.Head.TheVariants as heads

-- the serial number that a number is
abbrev pub serial_number : ℕ → Serial
serial_number n = record { 0 = n }

-- the StatSN of a Data-In or of a login, which has one with a status (sections 11.7 and 11.13)
abbrev pub serial_of : Option ℕ → Option Serial
serial_of None = None
serial_of (Some n) = Some (serial_number n)

-- The StatSN of a PDU behind which the number is counted on. That of an R2T and of a ping of the target
-- is the next one (sections 11.8 and 11.19), and a Data-In without status has none (section 11.7).
abbrev pub counted : Head → Option Serial
counted (heads.ScsiResponse h) = Some (serial_number h.stat_sn)
counted (heads.TaskResponse h) = Some (serial_number h.stat_sn)
counted (heads.LoginResponse h) = serial_of h.stat_sn
counted (heads.TextResponse h) = Some (serial_number h.stat_sn)
counted (heads.LogoutResponse h) = Some (serial_number h.stat_sn)
counted (heads.AsyncMessage h) = Some (serial_number h.stat_sn)
counted (heads.Reject h) = Some (serial_number h.stat_sn)
counted (heads.DataIn h) = serial_of h.stat_sn
counted (heads.NopIn h) =
    if h.initiator_task_tag == reserved_tag then None else Some (serial_number h.stat_sn)
counted _ = None

-- ExpStatSN of a PDU of the initiator: each answer before it had come (section 11.3.5)
abbrev pub acknowledged : Head → Option Serial
acknowledged (heads.ScsiCommand h) = Some (serial_number h.exp_stat_sn)
acknowledged (heads.DataOut h) = Some (serial_number h.exp_stat_sn)
acknowledged (heads.NopOut h) = Some (serial_number h.exp_stat_sn)
acknowledged (heads.TextRequest h) = Some (serial_number h.exp_stat_sn)
acknowledged (heads.LogoutRequest h) = Some (serial_number h.exp_stat_sn)
acknowledged (heads.TaskRequest h) = Some (serial_number h.exp_stat_sn)
acknowledged (heads.LoginRequest h) = Some (serial_number h.exp_stat_sn)
acknowledged _ = None

-- the initiator task tag that a PDU of the target answers, or moves data for
abbrev pub answered_tag : Head → Option ℕ
answered_tag (heads.ScsiResponse h) = Some h.initiator_task_tag
answered_tag (heads.TaskResponse h) = Some h.initiator_task_tag
answered_tag (heads.TextResponse h) = Some h.initiator_task_tag
answered_tag (heads.LogoutResponse h) = Some h.initiator_task_tag
answered_tag (heads.DataIn h) = Some h.initiator_task_tag
answered_tag (heads.ReadyToTransfer h) = Some h.initiator_task_tag
answered_tag (heads.NopIn h) =
    if h.initiator_task_tag == reserved_tag then None else Some h.initiator_task_tag
answered_tag _ = None

-- The StatSN at which a PDU stands: its own, or else the next one, as far as that is known.
abbrev pub standing : Option Serial → Option Serial → Option Serial
standing next None = next
standing next (Some number) = Some number

abbrev pub stands_at : Option Serial → Head → Option Serial
stands_at next head = standing next (counted head)

-- the next StatSN behind one that is counted
abbrev pub next_behind : Option Serial → Option Serial → Option Serial
next_behind next None = next
next_behind next (Some number) = Some (serial_number (next_sn number.0))

-- the next StatSN behind a PDU
abbrev pub next_after : Option Serial → Head → Option Serial
next_after next head = next_behind next (counted head)
