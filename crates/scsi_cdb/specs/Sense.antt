-- Sense data (SPC-4, section 4.5.3).
use Rattle.std.specs.Int.{to_be_bytes, w32}
use Rattle.std.specs.Prelude.{ℕ, List, [], ◌∷◌, ◌++◌, Option, Some, None, is_some, unwrap_or, if◌then◌else◌}
use Rattle.scsi_cdb.specs.declared.sense.Sense.{Sense}
use Rattle.scsi_cdb.specs.declared.sense.Sense.TheVariants.{InvalidCode, OutOfRange, InvalidField, NoUnit, ReadError, WriteError, WriteProtected, NoSpace, InvalidParameter, ParameterLength, Miscompare}

-- the sense key, the additional sense code and its qualifier (SPC-4, section 4.5)
abbrev pub triple_of : Sense → ℕ × ℕ × ℕ
triple_of InvalidCode = (0x5, 0x20, 0x00)
triple_of OutOfRange = (0x5, 0x21, 0x00)
triple_of InvalidField = (0x5, 0x24, 0x00)
triple_of NoUnit = (0x5, 0x25, 0x00)
triple_of ReadError = (0x3, 0x11, 0x00)
triple_of WriteError = (0x3, 0x0c, 0x00)
triple_of WriteProtected = (0x7, 0x27, 0x00)
triple_of NoSpace = (0x7, 0x27, 0x07)
triple_of InvalidParameter = (0x5, 0x26, 0x00)
triple_of ParameterLength = (0x5, 0x1a, 0x00)
triple_of (Miscompare place) = (0xe, 0x1d, 0x00)

-- the field INFORMATION, if it is valid: the place of the first byte that differs (SBC-3, section 4.20)
abbrev pub information_of : Sense → Option ℕ
information_of (Miscompare place) = Some place
information_of _ = None

-- fixed format (SPC-4, section 4.5.3): whether INFORMATION is valid in byte 0, the key in byte 2,
-- INFORMATION behind it, the length of what follows in byte 7, the code and its qualifier in 12 and 13
abbrev pub sense_bytes : Sense → List ℕ
sense_bytes sense =
    (if is_some (information_of sense) then 0xf0 else 0x70) ∷ 0 ∷ (triple_of sense).0
    ∷ to_be_bytes w32 (unwrap_or (information_of sense) 0) ++ 0x0a
    ∷ 0 ∷ 0 ∷ 0 ∷ 0 ∷ (triple_of sense).1 ∷ (triple_of sense).2 ∷ 0 ∷ 0 ∷ 0 ∷ 0 ∷ []
