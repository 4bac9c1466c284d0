-- Which use of an initiator task tag an answer belongs to (RFC 7143, sections 4.2.2.2 and 11.2.1.8).
--
-- A request that was sent with ExpStatSN e was sent when each answer before e had come, so none of those
-- is its answer. A later use of a tag begins when the one before was answered, or was given up. So the
-- later use knows each answer to the one before, and an answer that it doesn't know is no answer to that.
use Rattle.std.specs.Prelude.{ℕ, ◌==◌, List, [], ◌∷◌, ◌-◌, if◌then◌else◌, length, slice_index_or, Option, Some, None}
use Rattle.iscsi_pdu.specs.Serial.{is_before}
use Rattle.iscsi_pdu.specs.declared.serial.Serial.{Serial}
use Rattle.iscsi_tasks.specs.declared.uses.Use.{Use}

-- The uses of a tag from the one on that an answer with this StatSN belongs to: the last one before the
-- first later use that was begun when this answer was known. The first argument behind the StatSN is
-- the use that was answered last, or the first of the tag.
abbrev pub uses_from : Serial → Use → List Use → List Use
uses_from at current [] = current ∷ []
uses_from at current (next ∷ later) =
    if is_before at next.known then current ∷ next ∷ later else uses_from at next later

-- the same of a tag that may have no use, for an answer whose StatSN may be unknown
abbrev pub uses_at : Option Serial → List Use → List Use
uses_at None uses = uses
uses_at (Some at) [] = []
uses_at (Some at) (current ∷ later) = uses_from at current later

-- the uses of a tag but for the first one, if that is of this request
abbrev pub uses_without : ℕ → List Use → List Use
uses_without request [] = []
uses_without request (current ∷ later) =
    if current.request == request then later else current ∷ later

-- the last use
abbrev pub latest_from : Use → List Use → Use
latest_from current later = slice_index_or later (length later - 1) current
