-- The blocks of a pcapng file (draft-ietf-opsawg-pcapng, sections 3 and 4), and what a step over a
-- file of either format tells.
use Rattle.std.specs.Prelude.{◌≡◌, ◌≢◌, ℕ, ◌-◌, ◌%◌, ◌≤◌, ◌<◌, ◌⊎◌, Bool, true, false, ◌==◌, if◌then◌else◌, List, [], ◌∷◌, ◌++◌, length, take}
use Rattle.capture_file.specs.declared.numbers.Order.{Order}
use Rattle.capture_file.specs.declared.numbers.Order.TheVariants.{Little, Big}
use Rattle.capture_file.specs.declared.packet.Interface.{Interface}
use Rattle.capture_file.specs.declared.capture.Kind.{Kind}
use Rattle.capture_file.specs.declared.capture.Kind.TheVariants as kinds
use Rattle.capture_file.specs.declared.packet.Step.{Step}
use Rattle.capture_file.specs.declared.packet.Step.TheVariants as steps
use Rattle.capture_file.specs.Numbers.{ordered_number}
use Rattle.capture_file.specs.declared.fault.CaptureFault.{CaptureFault}
use Rattle.capture_file.specs.declared.fault.CaptureFault.TheVariants as faults
use Rattle.capture_file.specs.Records.{RecordStep, EnhancedStep, EnhancedFails, SimpleStep, IsTooLong, longest}

-- A file that is read: which one it is, and the interfaces of its section.
pub record FileReading : Type 0 where
  pub kind : Kind
  pub interfaces : List Interface

-- a file of which nothing was read
abbrev pub opening_file : FileReading
opening_file = record { kind = kinds.Unknown; interfaces = [] }

-- the type of a section header, the same in either order
abbrev pub section : ℕ
section = 168627466

-- the number that tells the order of a section's bytes
abbrev pub byte_order : ℕ
byte_order = 439041101

-- the block types that are read: interface description, packet, simple packet, enhanced packet
abbrev pub IsReadBlockType : ℕ → Type 0
IsReadBlockType kind = (kind ≡ 1) ⊎ ((kind ≡ 2) ⊎ ((kind ≡ 3) ⊎ (kind ≡ 6)))

-- a length that a header or block with so many bytes at least can have: a multiple of four
pub record IsLength (least n : ℕ) : Type 0 where
  pub enough : least ≤ n
  pub aligned : n % 4 ≡ 0

-- a length that it can't have
abbrev pub IsBadLength : ℕ → ℕ → Type 0
IsBadLength least n = (n < least) ⊎ (n % 4 ≢ 0)

-- The bytes begin with a whole block of n bytes: its length stands before its body and after it.
pub record IsBlock (order : Order) (bytes : List ℕ) (n : ℕ) : Type 0 where
  pub length_is : IsLength 12 n
  pub short : n ≤ longest
  pub whole : n ≤ length bytes
  pub before : ordered_number order 4 4 bytes ≡ n
  pub after : ordered_number order 4 (n - 4) (take n bytes) ≡ n

-- Of a section header, which begins these bytes: its third number tells the order of all that follows.
pub record IsSection (order : Order) (bytes : List ℕ) (n : ℕ) : Type 0 where
  pub order_is : ordered_number order 4 8 bytes ≡ byte_order
  pub length_is : ordered_number order 4 4 bytes ≡ n
  pub fits : IsLength 28 n

-- what a section header tells: nothing, and interfaces are forgotten
abbrev pub SectionStep : FileReading → List ℕ → FileReading → Step → Type 0
SectionStep old bytes new (steps.Packet p n) = ⊥
SectionStep old bytes new (steps.Skip n) = (order : Order) × IsSection order bytes n
    × (new ≡ record { kind = kinds.Blocks order; interfaces = [] })
SectionStep old bytes new (steps.More n) = (length bytes < n) × (n ≡ 12) × (new ≡ old)

-- Why it tells none: its third number is in neither order the one that tells the order, or it has a
-- length that can't be.
abbrev pub SectionFails : List ℕ → CaptureFault → Type 0
SectionFails bytes faults.NoMemory = ⊥
SectionFails bytes faults.Format = (12 ≤ length bytes)
    × ((order : Order) → ordered_number order 4 8 bytes ≢ byte_order)
SectionFails bytes faults.Length = (12 ≤ length bytes) × (order : Order)
    × (ordered_number order 4 8 bytes ≡ byte_order)
    × IsBadLength 28 (ordered_number order 4 4 bytes)
SectionFails bytes faults.Interface = ⊥

-- what a block of this type with a packet tells
abbrev pub PacketStep : Order → ℕ → List Interface → List ℕ → Step → Type 0
PacketStep order kind interfaces block step = ((kind ≡ 3) × SimpleStep order interfaces block step)
    ⊎ (((kind ≡ 2) ⊎ (kind ≡ 6)) × EnhancedStep order kind interfaces block step)

-- what an interface description tells: an interface more, with its link type and snap length
abbrev pub DescribeStep : Order → FileReading → List ℕ → FileReading → Step → Type 0
DescribeStep order old block new (steps.Packet p n) = ⊥
DescribeStep order old block new (steps.Skip n) = (n ≡ length block) × (20 ≤ length block)
    × (interface : Interface)
    × (interface.link ≡ ordered_number order 2 8 block)
    × (interface.snap ≡ ordered_number order 4 12 block)
    × (new ≡ record { kind = old.kind; interfaces = old.interfaces ++ interface ∷ [] })
DescribeStep order old block new (steps.More n) = ⊥

-- A block of another type is passed over, by its head alone.
abbrev pub IsBlockPassed : Order → List ℕ → ℕ → Type 0
IsBlockPassed order bytes n = (ordered_number order 4 0 bytes ≢ section)
    × (IsReadBlockType (ordered_number order 4 0 bytes) → ⊥)
    × (ordered_number order 4 4 bytes ≡ n) × IsLength 12 n

-- how many bytes a block of this type has at least
abbrev pub least_of : ℕ → ℕ
least_of kind = if kind == 1 then 20 else (if kind == 3 then 16 else 32)

-- The bytes do not tell all of a block: not its head, or its head says that it has more of them.
abbrev pub IsPartBlock : Order → List ℕ → ℕ → Type 0
IsPartBlock order bytes n = (length bytes < n) × (((length bytes < 8) × (n ≡ 8))
    ⊎ ((8 ≤ length bytes) × (((ordered_number order 4 0 bytes ≡ section) × (n ≡ 12))
    ⊎ (IsReadBlockType (ordered_number order 4 0 bytes) × (n ≡ ordered_number order 4 4 bytes)
    × IsLength 12 n
    × (n ≤ longest)))))

-- why a whole block of a type with a packet tells none
abbrev pub PacketFails : Order → ℕ → List Interface → List ℕ → CaptureFault → Type 0
PacketFails order kind interfaces block fault =
    ((kind ≡ 3) × (fault ≡ faults.Interface) × (interfaces ≡ []))
    ⊎ (((kind ≡ 2) ⊎ (kind ≡ 6)) × EnhancedFails order kind interfaces block fault)

-- The head of a block is there, and says a length that can't be, or that is longer than is read.
abbrev pub IsBadHead : Order → List ℕ → Type 0
IsBadHead order bytes = (8 ≤ length bytes) × (ordered_number order 4 0 bytes ≢ section)
    × (IsBadLength 12 (ordered_number order 4 4 bytes)
    ⊎ (IsReadBlockType (ordered_number order 4 0 bytes)
    × (longest < ordered_number order 4 4 bytes)))

-- A block that is read is there as a whole: these are its bytes.
pub record IsHere (order : Order) (bytes : List ℕ) (n : ℕ) : Type 0 where
  pub reads : IsReadBlockType (ordered_number order 4 0 bytes)
  pub length_is : ordered_number order 4 4 bytes ≡ n
  pub fits : IsLength 12 n
  pub whole : n ≤ length bytes

-- A block is there as a whole, and its second length is another one, or it is too short for its type.
abbrev pub IsBadBlock : Order → List ℕ → Type 0
IsBadBlock order bytes = (n : ℕ) × IsHere order bytes n
    × ((ordered_number order 4 (n - 4) (take n bytes) ≢ n)
    ⊎ (n < least_of (ordered_number order 4 0 bytes)))

-- why nothing is told at a place of a pcapng file
abbrev pub BlockFails : Order → FileReading → List ℕ → CaptureFault → Type 0
BlockFails order old bytes faults.NoMemory = ordered_number order 4 0 bytes ≡ 1
BlockFails order old bytes faults.Format =
    (ordered_number order 4 0 bytes ≡ section) × SectionFails bytes faults.Format
BlockFails order old bytes faults.Length =
    ((ordered_number order 4 0 bytes ≡ section) × SectionFails bytes faults.Length)
    ⊎ (IsBadHead order bytes ⊎ (IsBadBlock order bytes ⊎ ((n : ℕ) × IsHere order bytes n
    × PacketFails order (ordered_number order 4 0 bytes) old.interfaces (take n bytes)
    faults.Length)))
BlockFails order old bytes faults.Interface = (n : ℕ) × IsHere order bytes n
    × PacketFails order (ordered_number order 4 0 bytes) old.interfaces (take n bytes)
    faults.Interface

-- what stands at a place of a pcapng file
abbrev pub BlockStep : Order → FileReading → List ℕ → FileReading → Step → Type 0
BlockStep order old bytes new (steps.Packet p n) = IsBlock order bytes n
    × PacketStep order (ordered_number order 4 0 bytes) old.interfaces (take n bytes)
    (steps.Packet p n)
    × (new ≡ old)
BlockStep order old bytes new (steps.Skip n) =
    ((ordered_number order 4 0 bytes ≡ section) × SectionStep old bytes new (steps.Skip n))
    ⊎ (((ordered_number order 4 0 bytes ≡ 1) × IsBlock order bytes n
    × DescribeStep order old (take n bytes) new (steps.Skip n))
    ⊎ (IsBlockPassed order bytes n × (new ≡ old)))
BlockStep order old bytes new (steps.More n) = IsPartBlock order bytes n × (new ≡ old)

-- the first four bytes of a classic file, as a number
abbrev pub magic : Order → Bool → ℕ
magic Big false = 2712847316
magic Little false = 3569595041
magic Big true = 2712812621
magic Little true = 1295823521

-- The bytes begin with the header of a classic file.
pub record IsFileHeader (order : Order) (precise : Bool) (link : ℕ) (bytes : List ℕ) : Type 0 where
  pub begins : ordered_number Big 4 0 bytes ≡ magic order precise
  pub version : ordered_number order 2 4 bytes ≡ 2
  pub link_type : link ≡ ordered_number order 4 20 bytes % 65536

-- what the first bytes of a file tell
abbrev pub BeginStep : FileReading → List ℕ → FileReading → Step → Type 0
BeginStep old bytes new (steps.Packet p n) = ⊥
BeginStep old bytes new (steps.Skip n) =
    ((n ≡ 24) × (order : Order) × (precise : Bool) × (link : ℕ)
    × IsFileHeader order precise link bytes
    × (new ≡ record old { kind = kinds.Classic order precise link }))
    ⊎ ((ordered_number Big 4 0 bytes ≡ section) × SectionStep old bytes new (steps.Skip n))
BeginStep old bytes new (steps.More n) = (length bytes < n) × (n ≡ 24) × (new ≡ old)

-- The bytes begin no file that is read: with none of the numbers, or with one of a classic file and
-- another version.
abbrev pub IsUnknown : List ℕ → Type 0
IsUnknown bytes = (24 ≤ length bytes)
    × (((ordered_number Big 4 0 bytes ≢ section)
    × ((order : Order) (precise : Bool) → ordered_number Big 4 0 bytes ≢ magic order precise))
    ⊎ ((order : Order) × (precise : Bool) × (ordered_number Big 4 0 bytes ≡ magic order precise)
    × (ordered_number order 2 4 bytes ≢ 2)))

-- The bytes begin with a section header that tells nothing.
abbrev pub IsBrokenSection : List ℕ → CaptureFault → Type 0
IsBrokenSection bytes fault = (24 ≤ length bytes) × (ordered_number Big 4 0 bytes ≡ section)
    × SectionFails bytes fault

-- why nothing is told at the beginning of a file
abbrev pub BeginFails : List ℕ → CaptureFault → Type 0
BeginFails bytes faults.Format = IsUnknown bytes ⊎ IsBrokenSection bytes faults.Format
BeginFails bytes fault = IsBrokenSection bytes fault

-- what stands at a place of a file of this kind
abbrev pub StepOf : Kind → FileReading → List ℕ → FileReading → Step → Type 0
StepOf kinds.Unknown old bytes new step = BeginStep old bytes new step
StepOf (kinds.Classic order precise link) old bytes new step =
    RecordStep order precise link bytes step × (new ≡ old)
StepOf (kinds.Blocks order) old bytes new step = BlockStep order old bytes new step

-- what stands at a place of a file that is read so far
abbrev pub StepAt : FileReading → List ℕ → FileReading → Step → Type 0
StepAt old bytes new step = StepOf old.kind old bytes new step

-- why nothing is told at a place of a file of this kind
abbrev pub FileKindFails : Kind → FileReading → List ℕ → CaptureFault → Type 0
FileKindFails kinds.Unknown old bytes fault = BeginFails bytes fault
FileKindFails (kinds.Classic order precise link) old bytes fault =
    (fault ≡ faults.Length) × IsTooLong order bytes
FileKindFails (kinds.Blocks order) old bytes fault = BlockFails order old bytes fault

-- why nothing is told at a place of a file that is read so far
abbrev pub FileFailsAt : FileReading → List ℕ → CaptureFault → Type 0
FileFailsAt old bytes fault = FileKindFails old.kind old bytes fault

-- the most bytes that a step asks for: the head of a record, and the longest packet
abbrev pub most_asked : ℕ
most_asked = 1048592
