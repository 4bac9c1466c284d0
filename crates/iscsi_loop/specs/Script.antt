-- Scripts: lines of words, and the command that each line means.
use Rattle.std.specs.Prelude.{◌≡◌, ◌≤◌, ◌<◌, ◌⊎◌, ℕ, ◌+◌, ◌-◌, ◌*◌, ◌==◌, ◌&&◌, if◌then◌else◌, nat_le, nat_lt, List, [], ◌∷◌, ◌++◌, length, take, map, count_by, Option, Some, None, Result, Ok, Err, codes}
use Rattle.std.specs.Char.{is_ascii_digit}
use Rattle.std.specs.Str.{bytes_eq}
use Rattle.hex.specs.Hex.{decode_of, decode_sized}
use Rattle.hex.specs.declared.error.FromHexError.{FromHexError}
use Rattle.iscsi_loop.specs.declared.command.Command.{Command}
use Rattle.iscsi_loop.specs.declared.command.Command.TheVariants.{TestUnitReady, Inquiry, Capacity, Capacity16, Luns, Read, Write, Sync, Ping, Logout}
use Rattle.iscsi_serving.specs.declared.fault.ServeFault.{ServeFault}
use Rattle.iscsi_serving.specs.declared.fault.ServeFault.TheVariants as serve

-- ---- words

-- The second step, if the first gave a value.
infixl 10 ◌>>=◌
abbrev pub ◌>>=◌ : {A B : Type 0} → Option A → (A → Option B) → Option B
None >>= f = None
Some x >>= f = f x

-- What stands before the first such byte, and what behind it, if there is one.
abbrev pub parted : ℕ → List ℕ → List ℕ × Option (List ℕ)
parted byte [] = ([], None)
parted byte (b ∷ bs) =
    if b == byte then ([], Some bs) else (b ∷ (parted byte bs).0, (parted byte bs).1)

-- The number that decimal digits make behind those of n, if it is at most this.
abbrev pub number_behind : ℕ → ℕ → List ℕ → Option ℕ
number_behind most n [] = Some n
number_behind most n (c ∷ digits) =
    if is_ascii_digit c && nat_le (n * 10 + (c - 48)) most
    then number_behind most (n * 10 + (c - 48)) digits
    else None

-- The number that one decimal digit or more make, if it is at most this.
abbrev pub decimal_number : ℕ → List ℕ → Option ℕ
decimal_number most [] = None
decimal_number most (c ∷ digits) = number_behind most 0 (c ∷ digits)

-- The word before the first blank.
abbrev pub first_word : List ℕ → List ℕ
first_word words = (parted 0x20 words).0

-- What stands behind the first blank.
abbrev pub other_words : List ℕ → Option (List ℕ)
other_words words = (parted 0x20 words).1

-- The byte, where decoding gave one alone.
abbrev pub lone_byte : Result (List ℕ) FromHexError → Option ℕ
lone_byte (Ok (byte ∷ [])) = Some byte
lone_byte _ = None

-- The byte that two hex digits mean.
abbrev pub byte_of : List ℕ → Option ℕ
byte_of word = lone_byte (decode_sized word 1)

-- ---- commands by their arguments

-- `U`: the unit, below 256.
abbrev pub test_unit_ready : List ℕ → Option Command
test_unit_ready words = do
  unit ← decimal_number 255 words
  Some (TestUnitReady unit)

-- `U A`: the unit, below 256, and the most bytes, below 65536.
abbrev pub inquiry_command : List ℕ → Option Command
inquiry_command words = do
  unit ← decimal_number 255 (first_word words)
  others ← other_words words
  allocation_length ← decimal_number 65535 others
  Some (Inquiry unit allocation_length)

-- `LBA N`: the first block, below 2^64, and how many, at most 8192.
abbrev pub read : List ℕ → Option Command
read words = do
  logical_block_address ← decimal_number 18446744073709551615 (first_word words)
  others ← other_words words
  blocks ← decimal_number 8192 others
  Some (Read logical_block_address blocks)

-- `LBA N BB`: the first block, below 2^64, how many, at most 8192, and what each byte is.
abbrev pub write : List ℕ → Option Command
write words = do
  logical_block_address ← decimal_number 18446744073709551615 (first_word words)
  others ← other_words words
  blocks ← decimal_number 8192 (first_word others)
  last ← other_words others
  byte ← byte_of last
  Some (Write logical_block_address blocks byte)

-- `LBA N`: the first block, below 2^32, and how many, below 65536.
abbrev pub sync : List ℕ → Option Command
sync words = do
  logical_block_address ← decimal_number 4294967295 (first_word words)
  others ← other_words words
  blocks ← decimal_number 65535 others
  Some (Sync logical_block_address blocks)

-- A ping of these bytes, 1 to 8192.
abbrev pub ping_of : Result (List ℕ) FromHexError → Option Command
ping_of (Ok bytes) =
    if nat_lt 0 (length bytes) && nat_le (length bytes) 8192 then Some (Ping bytes) else None
ping_of (Err fault) = None

-- `HEX`: the bytes, 1 to 8192.
abbrev pub ping_command : List ℕ → Option Command
ping_command word = ping_of (decode_of word)

-- ---- lines

-- A command of one word.
abbrev pub alone : List ℕ → Option Command
alone name =
    if bytes_eq name (codes "capacity") then Some Capacity
    else (if bytes_eq name (codes "capacity16") then Some Capacity16
    else (if bytes_eq name (codes "luns") then Some Luns
    else (if bytes_eq name (codes "logout") then Some Logout
    else None)))

-- A command of several words.
abbrev pub command_of_words : List ℕ → List ℕ → Option Command
command_of_words name words =
    if bytes_eq name (codes "tur") then test_unit_ready words
    else (if bytes_eq name (codes "inquiry") then inquiry_command words
    else (if bytes_eq name (codes "read") then read words
    else (if bytes_eq name (codes "write") then write words
    else (if bytes_eq name (codes "sync") then sync words
    else (if bytes_eq name (codes "ping") then ping_command words
    else None)))))

-- The command of this name with these other words, if it has some.
abbrev pub command_named : List ℕ → Option (List ℕ) → Option Command
command_named name None = alone name
command_named name (Some words) = command_of_words name words

-- What a line means, if it means a command.
abbrev pub meaning : List ℕ → Option Command
meaning line = command_named (first_word line) (other_words line)

-- ---- scripts

-- A byte in front of the first line.
abbrev pub begin : ℕ → List (List ℕ) → List (List ℕ)
begin b [] = (b ∷ []) ∷ []
begin b (line ∷ lines) = (b ∷ line) ∷ lines

-- The lines, of which the last may lack its end.
abbrev pub script_lines : List ℕ → List (List ℕ)
script_lines [] = []
script_lines (b ∷ bs) = if b == 0x0a then [] ∷ script_lines bs else begin b (script_lines bs)

-- What each line means.
abbrev pub meanings : List ℕ → List (Option Command)
meanings script = map meaning (script_lines script)

-- The most bytes of a script.
abbrev pub longest_script : ℕ
longest_script = 1048576

-- Each line means a command, and these are they.
abbrev pub AreCommands : List ℕ → List Command → Type 0
AreCommands script commands = meanings script ≡ map Some commands

-- This line, counted from 1, is the first that means no command.
abbrev pub IsFirstBad : List ℕ → ℕ → Type 0
IsFirstBad script n =
    (good : List Command) × (rest : List (Option Command))
    × (meanings script ≡ map Some good ++ None ∷ rest) × (n ≡ length good + 1)

-- The script is too long, and its first byte too many is of this line.
abbrev pub IsTooLongAt : List ℕ → ℕ → Type 0
IsTooLongAt script n =
    (longest_script < length script)
    × (n ≡ count_by (λ b. b == 0x0a) (take longest_script script) + 1)

-- What was read is a script of these commands.
abbrev pub IsScript : List ℕ → List Command → Type 0
IsScript script commands = (length script ≤ longest_script) × AreCommands script commands

-- When reading a script answers each fault.
abbrev pub ScriptFails : ServeFault → List ℕ → Type 0
ScriptFails (serve.Script n) script =
    IsTooLongAt script n ⊎ ((length script ≤ longest_script) × IsFirstBad script n)
ScriptFails serve.NoMemory script = Unit {0}
ScriptFails serve.Read script = Unit {0}
ScriptFails (serve.Target fault) script = ⊥
ScriptFails (serve.Initiator fault) script = ⊥
ScriptFails serve.Network script = ⊥
ScriptFails serve.Sync script = ⊥
ScriptFails serve.NoRandom script = ⊥
ScriptFails serve.Write script = ⊥
