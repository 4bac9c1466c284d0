-- The uses of all tags of a session, and the next StatSN.
use Rattle.std.specs.Prelude.{ℕ, Bool, true, nat_eq, ◌==◌, if◌then◌else◌, List, [], ◌∷◌, Option, Some, None}
use Rattle.std.specs.HashMap.{get}
use Rattle.iscsi_pdu.specs.Serial.{is_before}
use Rattle.iscsi_pdu.specs.declared.serial.Serial.{Serial}
use Rattle.iscsi_pdu.specs.declared.head.Head.{Head}
use Rattle.iscsi_tasks.specs.Numbering.{answered_tag, stands_at}
use Rattle.iscsi_tasks.specs.Uses.{latest_from, uses_at}
use Rattle.iscsi_tasks.specs.declared.uses.Use.{Use}
use Rattle.iscsi_tasks.specs.declared.uses.Uses.{Uses}
use Rattle.iscsi_tasks.specs.declared.tasks.Tasks.{Tasks}

-- the uses of a tag, as they are kept
abbrev pub kept_uses : Option Uses → List Use
kept_uses None = []
kept_uses (Some uses) = uses.current ∷ uses.later.items

-- the uses of a tag, in order, from the one on that was answered last
abbrev pub uses_of : Tasks → ℕ → List Use
uses_of tasks tag = kept_uses (get nat_eq tasks.uses tag)

-- the next StatSN, as far as it is known
abbrev pub next_of : Tasks → Option Serial
next_of tasks = tasks.next

-- the request of the first of these uses
abbrev pub first_request : List Use → Option ℕ
first_request [] = None
first_request (current ∷ later) = Some current.request

-- the request of the last of these uses
abbrev pub latest_request : List Use → Option ℕ
latest_request [] = None
latest_request (current ∷ later) = Some (latest_from current later).request

-- the request of a tag that an answer at this StatSN belongs to
abbrev pub request_standing_at : Option Serial → (ℕ → List Use) → Option ℕ → Option ℕ
request_standing_at at uses None = None
request_standing_at at uses (Some tag) = first_request (uses_at at (uses tag))

-- the request that a PDU of the target belongs to
abbrev pub answered_request : Tasks → Head → Option ℕ
answered_request tasks head =
    request_standing_at (stands_at (next_of tasks) head) (uses_of tasks) (answered_tag head)

-- the uses of a tag behind an answer at this StatSN to another one, or to the same
abbrev pub uses_behind : Option Serial → Option ℕ → ℕ → List Use → List Use
uses_behind at None tag uses = uses
uses_behind at (Some answered) tag uses = if tag == answered then uses_at at uses else uses

-- The initiator had received a PDU of the target when it sent one with this ExpStatSN: that is behind
-- the StatSN at which the PDU stands. A PDU that stands at none was received.
abbrev pub is_known_at : Serial → Option Serial → Bool
is_known_at known None = true
is_known_at known (Some at) = is_before at known

-- the uses of a tag after a PDU of the target
abbrev pub uses_after : Tasks → Head → ℕ → List Use
uses_after tasks head tag =
    uses_behind (stands_at (next_of tasks) head) (answered_tag head) tag (uses_of tasks tag)
