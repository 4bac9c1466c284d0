-- Packets in a capture file: the records of a classic one, and the blocks of a pcapng one
-- (draft-ietf-opsawg-pcap, section 5; draft-ietf-opsawg-pcapng, sections 3 and 4).
use Rattle.std.specs.Prelude.{◌≡◌, ℕ, ◌+◌, ◌-◌, ◌*◌, ◌≤◌, ◌<◌, ◌⊎◌, Bool, true, false, ◌==◌, if◌then◌else◌, min, List, length, slice_range, slice_get, Some}
use Rattle.capture_file.specs.declared.numbers.Order.{Order}
use Rattle.capture_file.specs.declared.packet.Packet.{Packet}
use Rattle.capture_file.specs.declared.packet.Interface.{Interface}
use Rattle.capture_file.specs.declared.packet.Step.{Step}
use Rattle.capture_file.specs.declared.packet.Step.TheVariants as steps
use Rattle.capture_file.specs.declared.fault.CaptureFault.{CaptureFault}
use Rattle.capture_file.specs.declared.fault.CaptureFault.TheVariants as faults
use Rattle.capture_file.specs.Numbers.{ordered_number}

-- how many units a second has in a classic file: microseconds, or nanoseconds
abbrev pub second_of : Bool → ℕ
second_of true = 1000000000
second_of false = 1000000

-- the longest record or block with a packet that is read
abbrev pub longest : ℕ
longest = 1048576

-- The bytes begin with a record of a classic file, of n bytes, which has this packet. The record has
-- the packet's seconds and units, how many bytes were captured, how many the packet had on the link,
-- and the bytes.
pub record IsPacketRecord (order : Order) (precise : Bool) (link : ℕ) (bytes : List ℕ) (n : ℕ)
    (p : Packet) : Type 0 where
  pub whole : n ≤ length bytes
  pub captured : n ≡ 16 + ordered_number order 4 8 bytes
  pub short : ordered_number order 4 8 bytes ≤ longest
  pub time : p.time ≡ ordered_number order 4 0 bytes * second_of precise + ordered_number order 4 4
      bytes
  pub original : p.original ≡ ordered_number order 4 12 bytes
  pub content : p.bytes.now ≡ slice_range bytes 16 n
  pub second : p.second ≡ second_of precise
  pub link_type : p.link ≡ link

-- The bytes begin with the n bytes of a record that is read.
abbrev pub IsWholeRecord : Order → List ℕ → ℕ → Type 0
IsWholeRecord order bytes n = (n ≤ length bytes) × (n ≡ 16 + ordered_number order 4 8 bytes)
    × (ordered_number order 4 8 bytes ≤ longest)

-- The record that begins these bytes is told only by n of them: by its head, or by what its head says.
abbrev pub IsPartRecord : Order → List ℕ → ℕ → Type 0
IsPartRecord order bytes n = (length bytes < n) × (((length bytes < 16) × (n ≡ 16))
    ⊎ ((16 ≤ length bytes) × (n ≡ 16 + ordered_number order 4 8 bytes)
    × (ordered_number order 4 8 bytes ≤ longest)))

-- what stands at a place of a classic file after its header
abbrev pub RecordStep : Order → Bool → ℕ → List ℕ → Step → Type 0
RecordStep order precise link bytes (steps.Packet p n) = IsPacketRecord order precise link bytes n p
RecordStep order precise link bytes (steps.Skip n) = ⊥
RecordStep order precise link bytes (steps.More n) = IsPartRecord order bytes n

-- A record begins these bytes that is longer than is read.
abbrev pub IsTooLong : Order → List ℕ → Type 0
IsTooLong order bytes = (16 ≤ length bytes) × (longest < ordered_number order 4 8 bytes)

-- a block with a packet: its type, and how many bytes the number of its interface has
abbrev pub width_of : ℕ → ℕ
width_of kind = if kind == 2 then 2 else 4

-- The block is an enhanced packet block (6), or an obsolete packet block (2), and has this packet. The
-- block has the number of the packet's interface, the time in two halves, how many bytes were
-- captured, how many the packet had on the link, and the bytes. Padding, options and the length
-- follow.
pub record IsEnhanced (order : Order) (kind : ℕ) (interfaces : List Interface) (block : List ℕ)
    (p : Packet) : Type 0 where
  pub interface : Interface
  pub described : slice_get interfaces (ordered_number order (width_of kind) 8 block)
      ≡ Some interface
  pub fits : ordered_number order 4 20 block + 32 ≤ length block
  pub time : p.time ≡ ordered_number order 4 12 block * 4294967296 + ordered_number order 4 16 block
  pub original : p.original ≡ ordered_number order 4 24 block
  pub content : p.bytes.now ≡ slice_range block 28 (28 + ordered_number order 4 20 block)
  pub second : p.second ≡ interface.second
  pub link_type : p.link ≡ interface.link

-- what such a block tells: its packet
abbrev pub EnhancedStep : Order → ℕ → List Interface → List ℕ → Step → Type 0
EnhancedStep order kind interfaces block (steps.Packet p n) = (n ≡ length block)
    × IsEnhanced order kind interfaces block p
EnhancedStep order kind interfaces block (steps.Skip n) = ⊥
EnhancedStep order kind interfaces block (steps.More n) = ⊥

-- why it tells none: its interface is not described, or its packet is longer than it
abbrev pub EnhancedFails : Order → ℕ → List Interface → List ℕ → CaptureFault → Type 0
EnhancedFails order kind interfaces block faults.NoMemory = ⊥
EnhancedFails order kind interfaces block faults.Format = ⊥
EnhancedFails order kind interfaces block faults.Length = length block < 32 + ordered_number order 4 20 block
EnhancedFails order kind interfaces block faults.Interface = length interfaces
    ≤ ordered_number order (width_of kind) 8 block

-- The block is a simple packet block (3) of the first interface, and says how many bytes the packet
-- had on the link. As many of these bytes follow as were captured, up to the interface's snap length.
-- The block has no time.
pub record IsSimple (order : Order) (interfaces : List Interface) (block : List ℕ) (p : Packet)
    : Type 0 where
  pub interface : Interface
  pub described : slice_get interfaces 0 ≡ Some interface
  pub fits : 16 ≤ length block
  pub time : p.time ≡ 0
  pub original : p.original ≡ ordered_number order 4 8 block
  pub content : p.bytes.now ≡ slice_range block 12 (12 + min (if interface.snap == 0
      then p.original else min p.original interface.snap) (length block - 16))
  pub second : p.second ≡ interface.second
  pub link_type : p.link ≡ interface.link

-- what it tells
abbrev pub SimpleStep : Order → List Interface → List ℕ → Step → Type 0
SimpleStep order interfaces block (steps.Packet p n) = (n ≡ length block)
    × IsSimple order interfaces block p
SimpleStep order interfaces block (steps.Skip n) = ⊥
SimpleStep order interfaces block (steps.More n) = ⊥
