-- The rules of a session by their numbers, which both ends share, and the reasons of a Reject (RFC
-- 7143, section 11.17.1).
use Rattle.std.specs.Prelude.{ℕ}

-- a kind of PDU, or a task tag, is not due in this phase
abbrev pub kind_not_due : ℕ
kind_not_due = 1

-- a segment is longer than its receiver declared (section 13.12)
abbrev pub segment_too_long : ℕ
segment_too_long = 2

-- data, or a request for data, come out of order or past a burst (sections 11.7, 11.8, 13.10, 13.11
-- and 13.14)
abbrev pub data_out_of_order : ℕ
data_out_of_order = 3

-- a text or its flags are at fault (sections 6.1 and 11.10)
abbrev pub text_at_fault : ℕ
text_at_fault = 4

-- a logout is for another reason than to close (section 11.14.1)
abbrev pub logout_reason : ℕ
logout_reason = 5

-- StatSN is not the expected one (section 4.2.2.2)
abbrev pub status_out_of_order : ℕ
status_out_of_order = 6

-- the flags or the stage of a login answer are not those that are due (section 11.13)
abbrev pub login_out_of_turn : ℕ
login_out_of_turn = 7

-- a Reject came (section 11.17)
abbrev pub rejected : ℕ
rejected = 8

-- a request's CmdSN is inside the window, and not the one that is due (section 4.2.2.1)
abbrev pub command_out_of_turn : ℕ
command_out_of_turn = 9

-- ---- reasons of a Reject

-- protocol error
abbrev pub protocol_error : ℕ
protocol_error = 0x04

-- too many immediate commands
abbrev pub too_many_immediate : ℕ
too_many_immediate = 0x06
