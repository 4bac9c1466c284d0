-- Messages of the fixed newstyle handshake ("Fixed newstyle negotiation", "Option haggling",
-- "Information types").
use Rattle.std.specs.Prelude.{ℕ, if◌then◌else◌, ◌==◌, ◌||◌, not, bit_and, nat_lt, ◌+◌, List, length, ◌++◌, codes, take, drop, slice_index, Result, Ok, Err}
use Rattle.std.specs.Int.{to_be_bytes, w16, w32, w64}
use Rattle.nbd_wire.specs.Numbers.{u16_of, u32_of, u64_of}
use Rattle.nbd_wire.specs.declared.greeting.Greeting.{Greeting}
use Rattle.nbd_wire.specs.declared.greeting.GreetingFault.{GreetingFault}
use Rattle.nbd_wire.specs.declared.greeting.GreetingFault.TheVariants.{NoMagic, OldStyle, NotFixed}
use Rattle.nbd_wire.specs.declared.option.OptionHead.{OptionHead}
use Rattle.nbd_wire.specs.declared.option.OptionMagic.{OptionMagic}
use Rattle.nbd_wire.specs.declared.information.BlockSizes.{BlockSizes}
use Rattle.nbd_wire.specs.declared.information.Export.{Export}
use Rattle.nbd_wire.specs.declared.information.Info.{Info}
use Rattle.nbd_wire.specs.declared.information.Info.TheVariants as info
use Rattle.nbd_wire.specs.declared.information.InfoFault.{InfoFault}
use Rattle.nbd_wire.specs.declared.information.InfoFault.TheVariants.{NoKind, Length}

-- ---- what a server says first

-- NBDMAGIC, IHAVEOPT, handshake flags, of which bit 0 is FIXED_NEWSTYLE and bit 1 NO_ZEROES
unfoldable pub greeting_bytes : Greeting → List ℕ
greeting_bytes g =
    codes "NBDMAGIC" ++ codes "IHAVEOPT" ++ to_be_bytes w16 (if g.no_zeroes then 3 else 1)

-- what 18 bytes say
unfoldable pub greeting_at : List ℕ → Result Greeting GreetingFault
greeting_at bytes =
    if not (u64_of 0 bytes == 0x4e42444d41474943) then Err NoMagic
    else if u64_of 8 bytes == 0x0000420281861253 then Err OldStyle
    else if not (u64_of 8 bytes == 0x49484156454f5054) || bit_and (slice_index bytes 17) 1 == 0
    then Err NotFixed
    else Ok (record { no_zeroes = not (bit_and (slice_index bytes 17) 2 == 0) })

-- ---- the option GO

-- before the name: IHAVEOPT, option, length of what follows, length of the name
unfoldable pub go_head : ℕ → List ℕ
go_head count =
    codes "IHAVEOPT" ++ to_be_bytes w32 7 ++ to_be_bytes w32 (count + 8) ++ to_be_bytes w32 count

-- behind it: one question, BLOCK_SIZE
unfoldable pub block_size_asked : List ℕ
block_size_asked = to_be_bytes w16 1 ++ to_be_bytes w16 3

-- the option GO for an export of this name
abbrev pub go_bytes : List ℕ → List ℕ
go_bytes name = go_head (length name) ++ name ++ block_size_asked

-- the name in the option GO
unfoldable pub go_name : List ℕ → List ℕ
go_name bytes = take (u32_of 16 bytes) (drop 20 bytes)

-- ---- answers

-- the head of an answer: magic, option, answer, length of what follows
unfoldable pub option_head_bytes : OptionHead → List ℕ
option_head_bytes head =
    to_be_bytes w64 0x0003e889045565a9 ++ to_be_bytes w32 head.option
    ++ to_be_bytes w32 head.answer ++ to_be_bytes w32 head.length

-- what 20 bytes are, read as such a head
unfoldable pub option_head_at : List ℕ → Result OptionHead OptionMagic
option_head_at bytes =
    if u64_of 0 bytes == 0x0003e889045565a9
    then Ok (record {
      option = u32_of 8 bytes;
      answer = u32_of 12 bytes;
      length = u32_of 16 bytes;
    })
    else Err (record { magic = u64_of 0 bytes })

-- the information EXPORT: its kind, size, transmission flags
unfoldable pub export_bytes : Export → List ℕ
export_bytes export =
    to_be_bytes w16 0 ++ to_be_bytes w64 export.size ++ to_be_bytes w16 export.flags

-- the information BLOCK_SIZE: its kind, minimum, preferred, maximum
unfoldable pub block_sizes_bytes : BlockSizes → List ℕ
block_sizes_bytes sizes =
    to_be_bytes w16 3 ++ to_be_bytes w32 sizes.minimum ++ to_be_bytes w32 sizes.preferred
    ++ to_be_bytes w32 sizes.maximum

-- what the bytes of an answer INFO say
unfoldable pub info_at : List ℕ → Result Info InfoFault
info_at bytes =
    if nat_lt (length bytes) 2 then Err NoKind
    else if u16_of 0 bytes == 0 then
    (if length bytes == 12
    then Ok (info.Export (record { size = u64_of 2 bytes; flags = u16_of 10 bytes }))
    else Err (Length 0 (length bytes)))
    else if u16_of 0 bytes == 3 then
    (if length bytes == 14
    then Ok (info.BlockSizes (record {
      minimum = u32_of 2 bytes;
      preferred = u32_of 6 bytes;
      maximum = u32_of 10 bytes;
    }))
    else Err (Length 3 (length bytes)))
    else Ok (info.Other (u16_of 0 bytes))
