-- The names of a unit (SPC-4, section 7.8.6). That there are these three, and what they are made of, are
-- own rules.
use Rattle.std.specs.Prelude.{ℕ, ◌+◌, ◌-◌, ◌%◌, List, [], ◌∷◌, ◌++◌, length, take, replicate, codes}
use Rattle.md5.specs.Md5.{md5}

-- A designator of the logical unit (association 0), by its code set, its type and its bytes.
abbrev pub designator : ℕ → ℕ → List ℕ → List ℕ
designator code_set kind bytes = code_set ∷ kind ∷ 0x00 ∷ length bytes ∷ bytes

-- The T10 vendor identification (type 1): the vendor, and the serial number.
abbrev pub vendor_name : List ℕ → List ℕ
vendor_name serial = codes "LANTHOVR" ++ serial

-- A hash as a number that is assigned locally: its first 8 bytes, the first four bits of which are 3.
abbrev pub locally_assigned : List ℕ → List ℕ
locally_assigned [] = []
locally_assigned (first ∷ rest) = (0x30 + first % 16) ∷ take 7 rest

-- What the number is made of: the name and the serial number, with a byte between them that stands in
-- neither. So no two units have the same bytes here.
abbrev pub number_source : List ℕ → List ℕ → List ℕ
number_source name serial = name ++ 0x00 ∷ serial

-- The number of the unit (type 3, NAA), in 64 bits. It has to be the same at each start, and to differ
-- between units, where nobody gives numbers out. A hash does that: two units of chance have one number in
-- 2^60 cases once. No security rests on it: who wants two units with one number gives both one name and
-- one serial number.
abbrev pub unit_number : List ℕ → List ℕ → List ℕ
unit_number name serial = locally_assigned (md5 (number_source name serial))

-- The text behind the name of a target: LUN 0 of it, in 16 hex digits.
abbrev pub of_unit_zero : List ℕ
of_unit_zero = codes ",L,0x0000000000000000"

-- A text with a byte 00 behind it, and with more of them up to a multiple of 4.
abbrev pub closed : List ℕ → List ℕ
closed text = text ++ replicate (4 - length text % 4) 0x00

-- The SCSI name string of the unit (type 8; SPC-4, section 7.8.6.11): the target's name, and the LUN.
abbrev pub name_string : List ℕ → List ℕ
name_string name = closed (name ++ of_unit_zero)

-- All names of the unit: in ASCII (code set 2), binary (1) and UTF-8 (3).
abbrev pub designators : List ℕ → List ℕ → List ℕ
designators name serial =
    designator 0x02 0x01 (vendor_name serial)
    ++ designator 0x01 0x03 (unit_number name serial)
    ++ designator 0x03 0x08 (name_string name)
