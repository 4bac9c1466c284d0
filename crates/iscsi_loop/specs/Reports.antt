-- What came of a request, as a line.
use Rattle.std.specs.Prelude.{ℕ, ◌/◌, ◌%◌, ◌==◌, false, if◌then◌else◌, List, [], ◌∷◌, ◌++◌, length, take, slice_index_or, codes}
use Rattle.std.specs.Fmt.{decimal, digits, digit_glyph}
use Rattle.hex.specs.Hex.{encode_lower}
use Rattle.scsi_cdb.specs.declared.residual.Residual.{Residual}
use Rattle.scsi_cdb.specs.declared.residual.Residual.TheVariants.{Exact, Under, Over}
use Rattle.iscsi_initiator.specs.declared.request.Done.{Done}
use Rattle.iscsi_initiator.specs.declared.request.Done.TheVariants.{Command, Ping, Text, Closed}

-- A command that gave these bytes: how many, and the first 16 in hex.
abbrev pub good_report : List ℕ → List ℕ
good_report bytes =
    if length bytes == 0 then codes "good 0"
    else codes "good " ++ decimal (length bytes) ++ codes " " ++ encode_lower (take 16 bytes)

-- A byte as two hex digits.
abbrev pub two_digits : ℕ → List ℕ
two_digits byte = digit_glyph false (byte / 16) ∷ digit_glyph false (byte % 16) ∷ []

-- The sense key, the additional sense code and its qualifier, in hex (SPC-4, section 4.5.3; that
-- what the sense data lack is 0 is own rule).
abbrev pub check_report : List ℕ → List ℕ
check_report sense =
    codes "check " ++ digits 16 false (slice_index_or sense 2 0 % 16) ++ codes "/"
    ++ two_digits (slice_index_or sense 12 0) ++ codes "/" ++ two_digits (slice_index_or sense 13 0)

-- How a command with this status ended; 0 is GOOD (RFC 7143, section 11.4.2).
abbrev pub ended_report : ℕ → List ℕ → List ℕ → List ℕ
ended_report status sense bytes = if status == 0 then good_report bytes else check_report sense

-- By how many bytes a command differs from what was expected (RFC 7143, section 11.4.5).
abbrev pub difference : Residual → List ℕ
difference Exact = []
difference (Under bytes) = codes " under " ++ decimal bytes
difference (Over bytes) = codes " over " ++ decimal bytes

-- The line of an outcome, with its end.
abbrev pub report : Done → List ℕ
report (Command response status sense bytes residual) =
    ended_report status sense bytes ++ difference residual ++ 0x0a ∷ []
report (Ping bytes) = codes "ping " ++ encode_lower bytes ++ 0x0a ∷ []
report (Text bytes) = codes "text " ++ encode_lower bytes ++ 0x0a ∷ []
report Closed = codes "logout" ++ 0x0a ∷ []
