-- What is broken at a place of a file, and that it stays so.
use Rattle.std.proofs.Common.{◌≡◌, ◌≢◌, ◌≤◌, ◌<◌, ℕ, zero, suc, ◌+◌, ◌-◌, ◌*◌, ◌^◌, Bool, true, false, List, [], ◌∷◌, ◌++◌, length, take, refl, sym, ap, ◌∙◌, subst, inl, inr, arith}
use Rattle.std.proofs.lemmas.List.{get_or_append_left, take-append-le}
use Rattle.std.specs.Prelude.{◌⊎◌, slice_get, slice_index, Some, None, Option}
use Rattle.byteorder.specs.Endian.{big_from, little_from}
use Rattle.capture_file.specs.declared.numbers.Order.{Order}
use Rattle.capture_file.specs.declared.numbers.Order.TheVariants.{Little, Big}
use Rattle.capture_file.specs.declared.packet.Interface.{Interface}
use Rattle.capture_file.specs.declared.packet.Packet.{Packet}
use Rattle.capture_file.specs.declared.packet.Step.{Step}
use Rattle.capture_file.specs.declared.packet.Step.TheVariants as steps
use Rattle.capture_file.specs.declared.capture.Kind.{Kind}
use Rattle.capture_file.specs.declared.capture.Kind.TheVariants as kinds
use Rattle.capture_file.specs.declared.fault.CaptureFault.{CaptureFault}
use Rattle.capture_file.specs.declared.fault.CaptureFault.TheVariants as faults
use Rattle.capture_file.specs.Numbers.{ordered_number}
use Rattle.capture_file.specs.Records.{EnhancedFails, EnhancedStep, IsEnhanced, IsPartRecord, IsSimple, IsTooLong, IsWholeRecord, RecordStep, SimpleStep, longest, width_of}
use Rattle.capture_file.specs.Blocks.{BeginFails, BeginStep, BlockFails, BlockStep, FileFailsAt, FileKindFails, IsBadBlock, IsBadHead, IsBadLength, IsBlock, IsBrokenSection, IsFileHeader, IsHere, IsLength, IsPartBlock, IsReadBlockType, IsUnknown, PacketFails, PacketStep, FileReading, SectionFails, SectionStep, StepAt, StepOf, byte_order, least_of, magic, most_asked, section}

-- ---- numbers in bytes that go on

big_append : (w at : ℕ) (bytes more : List ℕ) → at + w ≤ length bytes
    → big_from at w (bytes ++ more) ≡ big_from at w bytes
big_append zero at bytes more h = refl
big_append (suc w) at bytes more h =
    ap (λ (b : ℕ). b * 256 ^ w + big_from (suc at) w (bytes ++ more))
    (get_or_append_left bytes more 0 at (omega (arith, h)))
    ∙ ap (λ (r : ℕ). slice_index bytes at * 256 ^ w + r) (big_append w (suc at) bytes more (omega (arith, h)))

little_append : (w at : ℕ) (bytes more : List ℕ) → at + w ≤ length bytes
    → little_from at w (bytes ++ more) ≡ little_from at w bytes
little_append zero at bytes more h = refl
little_append (suc w) at bytes more h =
    ap (λ (b : ℕ). b + 256 * little_from (suc at) w (bytes ++ more))
    (get_or_append_left bytes more 0 at (omega (arith, h)))
    ∙ ap (λ (r : ℕ). slice_index bytes at + 256 * r) (little_append w (suc at) bytes more (omega (arith, h)))

number_append : (order : Order) (w at : ℕ) (bytes more : List ℕ) → at + w ≤ length bytes
    → ordered_number order w at bytes ≡ ordered_number order w at (bytes ++ more)
number_append Little w at bytes more h = sym (little_append w at bytes more h)
number_append Big w at bytes more h = sym (big_append w at bytes more h)

length_append : (bytes more : List ℕ) → length bytes ≤ length (bytes ++ more)
length_append [] more = omega arith
length_append (b ∷ bytes) more = omega (arith, length_append bytes more)

longer : (n : ℕ) (bytes more : List ℕ) → n ≤ length bytes → n ≤ length (bytes ++ more)
longer n bytes more h = omega (arith, h, length_append bytes more)

-- ---- what is broken stays broken

section_stays : (bytes more : List ℕ) (fault : CaptureFault) → SectionFails bytes fault
    → SectionFails (bytes ++ more) fault
section_stays bytes more faults.NoMemory f = f
section_stays bytes more faults.Format f = (
  longer 12 bytes more f.0,
  λ order e. f.1 order (number_append order 4 8 bytes more f.0 ∙ e),
)
section_stays bytes more faults.Length f = (
  longer 12 bytes more f.0,
  f.1,
  sym (number_append f.1 4 8 bytes more f.0) ∙ f.2,
  subst (IsBadLength 28) (number_append f.1 4 4 bytes more (omega (arith, f.0))) f.3,
)
section_stays bytes more faults.Interface f = f

unknown_stays : (bytes more : List ℕ) → IsUnknown bytes → IsUnknown (bytes ++ more)
unknown_stays bytes more (l, inl u) =
    let e : ordered_number Big 4 0 bytes ≡ ordered_number Big 4 0 (bytes ++ more) =
    number_append Big 4 0 bytes more (omega (arith, l)) in
    (longer 24 bytes more l, inl (λ q. u.0 (e ∙ q), λ order precise q. u.1 order precise (e ∙ q)))
unknown_stays bytes more (l, inr u) = (
  longer 24 bytes more l,
  inr (
    u.0,
    u.1,
    sym (number_append Big 4 0 bytes more (omega (arith, l))) ∙ u.2,
    λ q. u.3 (number_append u.0 2 4 bytes more (omega (arith, l)) ∙ q),
  ),
)

broken_section_stays : (bytes more : List ℕ) (fault : CaptureFault) → IsBrokenSection bytes fault
    → IsBrokenSection (bytes ++ more) fault
broken_section_stays bytes more fault f = (
  longer 24 bytes more f.0,
  sym (number_append Big 4 0 bytes more (omega (arith, f.0))) ∙ f.1,
  section_stays bytes more fault f.2,
)

begin_stays : (bytes more : List ℕ) (fault : CaptureFault) → BeginFails bytes fault
    → BeginFails (bytes ++ more) fault
begin_stays bytes more faults.NoMemory f = broken_section_stays bytes more faults.NoMemory f
begin_stays bytes more faults.Format (inl u) = inl (unknown_stays bytes more u)
begin_stays bytes more faults.Format (inr f) = inr (broken_section_stays bytes more faults.Format f)
begin_stays bytes more faults.Length f = broken_section_stays bytes more faults.Length f
begin_stays bytes more faults.Interface f = broken_section_stays bytes more faults.Interface f

head_stays : (order : Order) (bytes more : List ℕ) → IsBadHead order bytes
    → IsBadHead order (bytes ++ more)
head_stays order bytes more f =
    let kind : ordered_number order 4 0 bytes ≡ ordered_number order 4 0 (bytes ++ more) =
    number_append order 4 0 bytes more (omega (arith, f.0)) in
    let size : ordered_number order 4 4 bytes ≡ ordered_number order 4 4 (bytes ++ more) =
    number_append order 4 4 bytes more f.0 in
    let P : ℕ → ℕ → Type 0 = λ k n. IsBadLength 12 n ⊎ (IsReadBlockType k × (longest < n)) in (
      longer 8 bytes more f.0,
      λ q. f.1 (kind ∙ q),
      subst (λ (k : ℕ). P k (ordered_number order 4 4 (bytes ++ more))) kind
          (subst (λ (n : ℕ). P (ordered_number order 4 0 bytes) n) size f.2),
    )

-- a block that is there as a whole has a head
head_here : (order : Order) (bytes : List ℕ) (n : ℕ) → IsHere order bytes n → 8 ≤ length bytes
head_here order bytes n h = omega (arith, h.whole, h.fits.enough)

kind_here : (order : Order) (bytes more : List ℕ) (n : ℕ) → IsHere order bytes n
    → ordered_number order 4 0 bytes ≡ ordered_number order 4 0 (bytes ++ more)
kind_here order bytes more n h = number_append order 4 0 bytes more (omega (arith, head_here order bytes n h))

here_stays : (order : Order) (bytes more : List ℕ) (n : ℕ) → IsHere order bytes n
    → IsHere order (bytes ++ more) n
here_stays order bytes more n h = record {
  reads = subst IsReadBlockType (kind_here order bytes more n h) h.reads;
  length_is = sym (number_append order 4 4 bytes more (head_here order bytes n h)) ∙ h.length_is;
  fits = h.fits;
  whole = longer n bytes more h.whole;
}

block_stays : (order : Order) (bytes more : List ℕ) → IsBadBlock order bytes
    → IsBadBlock order (bytes ++ more)
block_stays order bytes more f =
    let n : ℕ = f.0 in
    let same : take n bytes ≡ take n (bytes ++ more) = sym (take-append-le n bytes more f.1.whole) in
    let P : List ℕ → ℕ → Type 0 =
    λ block kind. (ordered_number order 4 (n - 4) block ≢ n) ⊎ (n < least_of kind) in (
      n,
      here_stays order bytes more n f.1,
      subst (λ (k : ℕ). P (take n (bytes ++ more)) k) (kind_here order bytes more n f.1)
          (subst (λ (b : List ℕ). P b (ordered_number order 4 0 bytes)) same f.2),
    )

abbrev pub PacketBroken : Order → List Interface → CaptureFault → List ℕ → Type 0
PacketBroken order interfaces fault bytes = (n : ℕ) × IsHere order bytes n
    × PacketFails order (ordered_number order 4 0 bytes) interfaces (take n bytes) fault

packet_stays : (order : Order) (interfaces : List Interface) (fault : CaptureFault)
    (bytes more : List ℕ) → PacketBroken order interfaces fault bytes
    → PacketBroken order interfaces fault (bytes ++ more)
packet_stays order interfaces fault bytes more f =
    let n : ℕ = f.0 in
    let same : take n bytes ≡ take n (bytes ++ more) = sym (take-append-le n bytes more f.1.whole) in (
      n,
      here_stays order bytes more n f.1,
      subst (λ (k : ℕ). PacketFails order k interfaces (take n (bytes ++ more)) fault)
          (kind_here order bytes more n f.1)
          (subst (λ (b : List ℕ). PacketFails order (ordered_number order 4 0 bytes) interfaces b fault) same f.2),
    )

abbrev pub SectionBroken : Order → CaptureFault → List ℕ → Type 0
SectionBroken order fault bytes = (ordered_number order 4 0 bytes ≡ section) × SectionFails bytes fault

twelve : (bytes : List ℕ) (fault : CaptureFault) → SectionFails bytes fault → 12 ≤ length bytes
twelve bytes faults.NoMemory f = absurd f
twelve bytes faults.Format f = f.0
twelve bytes faults.Length f = f.0
twelve bytes faults.Interface f = absurd f

section_block_stays : (order : Order) (fault : CaptureFault) (bytes more : List ℕ)
    → SectionBroken order fault bytes → SectionBroken order fault (bytes ++ more)
section_block_stays order fault bytes more f = (
  sym (number_append order 4 0 bytes more (omega (arith, twelve bytes fault f.1))) ∙ f.0,
  section_stays bytes more fault f.1,
)

blocks_stay : (order : Order) (old : FileReading) (bytes more : List ℕ) (fault : CaptureFault)
    → fault ≢ faults.NoMemory → BlockFails order old bytes fault
    → BlockFails order old (bytes ++ more) fault
blocks_stay order old bytes more faults.NoMemory some f = absurd (some refl)
blocks_stay order old bytes more faults.Format some f = section_block_stays order faults.Format bytes more f
blocks_stay order old bytes more faults.Length some (inl f) =
    inl (section_block_stays order faults.Length bytes more f)
blocks_stay order old bytes more faults.Length some (inr (inl f)) = inr (inl (head_stays order bytes more f))
blocks_stay order old bytes more faults.Length some (inr (inr (inl f))) =
    inr (inr (inl (block_stays order bytes more f)))
blocks_stay order old bytes more faults.Length some (inr (inr (inr f))) =
    inr (inr (inr (packet_stays order old.interfaces faults.Length bytes more f)))
blocks_stay order old bytes more faults.Interface some f =
    packet_stays order old.interfaces faults.Interface bytes more f

long_stays : (order : Order) (bytes more : List ℕ) → IsTooLong order bytes
    → IsTooLong order (bytes ++ more)
long_stays order bytes more f = (
  longer 16 bytes more f.0,
  subst (λ (n : ℕ). longest < n) (number_append order 4 8 bytes more (omega (arith, f.0))) f.1,
)

stays_of : (kind : Kind) (old : FileReading) (bytes more : List ℕ) (fault : CaptureFault)
    → fault ≢ faults.NoMemory → FileKindFails kind old bytes fault → FileKindFails kind old (bytes ++ more) fault
stays_of kinds.Unknown old bytes more fault some f = begin_stays bytes more fault f
stays_of (kinds.Classic order precise link) old bytes more fault some f =
    (f.0, long_stays order bytes more f.1)
stays_of (kinds.Blocks order) old bytes more fault some f = blocks_stay order old bytes more fault some f

pub stays : (old : FileReading) (bytes more : List ℕ) (fault : CaptureFault) → fault ≢ faults.NoMemory
    → FileFailsAt old bytes fault → FileFailsAt old (bytes ++ more) fault
stays old bytes more fault some f = stays_of old.kind old bytes more fault some f

-- ---- what is broken is not told

-- no number is the one that tells the order, in both orders
one_order : (bytes : List ℕ) → ordered_number Big 4 8 bytes ≡ byte_order → ordered_number Little 4 8 bytes ≡ byte_order → ⊥
one_order bytes b l =
    let big : slice_index bytes 8 * 16777216 + (slice_index bytes 9 * 65536
    + (slice_index bytes 10 * 256 + (slice_index bytes 11 * 1 + 0))) ≡ 439041101 = b in
    let little : slice_index bytes 8 + 256 * (slice_index bytes 9 + 256 * (slice_index bytes 10
    + 256 * (slice_index bytes 11 + 256 * 0))) ≡ 439041101 = l in
    omega (arith, big, little)

same_order : (o p : Order) (bytes : List ℕ) → ordered_number o 4 8 bytes ≡ byte_order
    → ordered_number p 4 8 bytes ≡ byte_order → o ≡ p
same_order Little Little bytes f g = refl
same_order Big Big bytes f g = refl
same_order Little Big bytes f g = absurd (one_order bytes g f)
same_order Big Little bytes f g = absurd (one_order bytes f g)

bad_length : (least n : ℕ) → IsBadLength least n → IsLength least n → ⊥
bad_length least n (inl l) ok = omega (arith, l, ok.enough)
bad_length least n (inr h) ok = h ok.aligned

section_excludes : (old new : FileReading) (bytes : List ℕ) (fault : CaptureFault) (step : Step)
    → SectionFails bytes fault → SectionStep old bytes new step → ⊥
section_excludes old new bytes fault (steps.Packet p n) f s = absurd s
section_excludes old new bytes faults.NoMemory (steps.Skip n) f s = absurd f
section_excludes old new bytes faults.Interface (steps.Skip n) f s = absurd f
section_excludes old new bytes faults.Format (steps.Skip n) f s = f.1 s.0 s.1.order_is
section_excludes old new bytes faults.Length (steps.Skip n) f s =
    let order : f.1 ≡ s.0 = same_order f.1 s.0 bytes f.2 s.1.order_is in
    let e : ordered_number f.1 4 4 bytes ≡ n = ap (λ (o : Order). ordered_number o 4 4 bytes) order ∙ s.1.length_is in
    bad_length 28 n (subst (IsBadLength 28) e f.3) s.1.fits
section_excludes old new bytes fault (steps.More n) f s =
    omega (arith, twelve bytes fault f, s.0, s.1)

magic_section : (order : Order) (precise : Bool) → magic order precise ≡ section → ⊥
magic_section Little false e = omega (arith, e)
magic_section Little true e = omega (arith, e)
magic_section Big false e = omega (arith, e)
magic_section Big true e = omega (arith, e)

magic_order : (o : Order) (p : Bool) (q : Order) (r : Bool) → magic o p ≡ magic q r → o ≡ q
magic_order Little p Little r e = refl
magic_order Big p Big r e = refl
magic_order Little false Big false e = absurd (omega (arith, e))
magic_order Little false Big true e = absurd (omega (arith, e))
magic_order Little true Big false e = absurd (omega (arith, e))
magic_order Little true Big true e = absurd (omega (arith, e))
magic_order Big false Little false e = absurd (omega (arith, e))
magic_order Big false Little true e = absurd (omega (arith, e))
magic_order Big true Little false e = absurd (omega (arith, e))
magic_order Big true Little true e = absurd (omega (arith, e))

unknown_header : (bytes : List ℕ) (order : Order) (precise : Bool) (link : ℕ) → IsUnknown bytes
    → IsFileHeader order precise link bytes → ⊥
unknown_header bytes order precise link (l, inl u) h = u.1 order precise h.begins
unknown_header bytes order precise link (l, inr u) h =
    let e : u.0 ≡ order = magic_order u.0 u.1 order precise (sym u.2 ∙ h.begins) in
    u.3 (ap (λ (o : Order). ordered_number o 2 4 bytes) e ∙ h.version)

unknown_section : (bytes : List ℕ) → IsUnknown bytes → ordered_number Big 4 0 bytes ≡ section → ⊥
unknown_section bytes (l, inl u) e = u.0 e
unknown_section bytes (l, inr u) e = magic_section u.0 u.1 (sym u.2 ∙ e)

broken_excludes : (old new : FileReading) (bytes : List ℕ) (fault : CaptureFault) (step : Step)
    → IsBrokenSection bytes fault → BeginStep old bytes new step → ⊥
broken_excludes old new bytes fault (steps.Packet p n) f s = absurd s
broken_excludes old new bytes fault (steps.Skip n) f (inl s) =
    magic_section s.1 s.2 (sym s.4.begins ∙ f.1)
broken_excludes old new bytes fault (steps.Skip n) f (inr s) =
    section_excludes old new bytes fault (steps.Skip n) f.2 s.1
broken_excludes old new bytes fault (steps.More n) f s = omega (arith, f.0, s.0, s.1)

unknown_excludes : (old new : FileReading) (bytes : List ℕ) (step : Step) → IsUnknown bytes
    → BeginStep old bytes new step → ⊥
unknown_excludes old new bytes (steps.Packet p n) u s = absurd s
unknown_excludes old new bytes (steps.Skip n) u (inl s) = unknown_header bytes s.1 s.2 s.3 u s.4
unknown_excludes old new bytes (steps.Skip n) u (inr s) = unknown_section bytes u s.0
unknown_excludes old new bytes (steps.More n) u s = omega (arith, u.0, s.0, s.1)

begin_excludes : (old new : FileReading) (bytes : List ℕ) (fault : CaptureFault) (step : Step)
    → BeginFails bytes fault → BeginStep old bytes new step → ⊥
begin_excludes old new bytes faults.NoMemory step f s = broken_excludes old new bytes faults.NoMemory step f s
begin_excludes old new bytes faults.Format step (inl u) s = unknown_excludes old new bytes step u s
begin_excludes old new bytes faults.Format step (inr f) s = broken_excludes old new bytes faults.Format step f s
begin_excludes old new bytes faults.Length step f s = broken_excludes old new bytes faults.Length step f s
begin_excludes old new bytes faults.Interface step f s = broken_excludes old new bytes faults.Interface step f s

record_excludes : (order : Order) (precise : Bool) (link : ℕ) (bytes : List ℕ) (step : Step)
    → IsTooLong order bytes → RecordStep order precise link bytes step → ⊥
record_excludes order precise link bytes (steps.Packet p n) f s = omega (arith, f.1, s.short)
record_excludes order precise link bytes (steps.Skip n) f s = absurd s
record_excludes order precise link bytes (steps.More n) f (l, inl s) = omega (arith, f.0, s.0)
record_excludes order precise link bytes (steps.More n) f (l, inr s) = omega (arith, f.1, s.2)

-- ---- blocks

read_section : (kind : ℕ) → IsReadBlockType kind → kind ≡ section → ⊥
read_section kind (inl k) e = omega (arith, k, e)
read_section kind (inr (inl k)) e = omega (arith, k, e)
read_section kind (inr (inr (inl k))) e = omega (arith, k, e)
read_section kind (inr (inr (inr k))) e = omega (arith, k, e)

packet_read : (order : Order) (kind : ℕ) (interfaces : List Interface) (block : List ℕ) (step : Step)
    → PacketStep order kind interfaces block step → IsReadBlockType kind
packet_read order kind interfaces block step (inl s) = inr (inr (inl s.0))
packet_read order kind interfaces block step (inr (inl k, s)) = inr (inl k)
packet_read order kind interfaces block step (inr (inr k, s)) = inr (inr (inr k))

section_block_excludes : (order : Order) (old new : FileReading) (bytes : List ℕ) (fault : CaptureFault)
    (step : Step) → SectionBroken order fault bytes → BlockStep order old bytes new step → ⊥
section_block_excludes order old new bytes fault (steps.Packet p n) f s =
    read_section (ordered_number order 4 0 bytes)
    (packet_read order (ordered_number order 4 0 bytes) old.interfaces (take n bytes) (steps.Packet p n) s.1) f.0
section_block_excludes order old new bytes fault (steps.Skip n) f (inl s) =
    section_excludes old new bytes fault (steps.Skip n) f.1 s.1
section_block_excludes order old new bytes fault (steps.Skip n) f (inr (inl s)) =
    read_section (ordered_number order 4 0 bytes) (inl s.0) f.0
section_block_excludes order old new bytes fault (steps.Skip n) f (inr (inr s)) = s.0.0 f.0
section_block_excludes order old new bytes fault (steps.More n) f ((l, inl s), same) =
    omega (arith, twelve bytes fault f.1, s.0)
section_block_excludes order old new bytes fault (steps.More n) f ((l, inr (h, inl s)), same) =
    omega (arith, twelve bytes fault f.1, l, s.1)
section_block_excludes order old new bytes fault (steps.More n) f ((l, inr (h, inr s)), same) =
    read_section (ordered_number order 4 0 bytes) s.0 f.0

-- what the head of a block says that is told and is no section
abbrev pub HeadIsGood : Order → List ℕ → Type 0
HeadIsGood order bytes = IsLength 12 (ordered_number order 4 4 bytes)
    × (IsReadBlockType (ordered_number order 4 0 bytes) → ordered_number order 4 4 bytes ≤ longest)

good_block : (order : Order) (bytes : List ℕ) (n : ℕ) → IsBlock order bytes n → HeadIsGood order bytes
good_block order bytes n b =
    (subst (IsLength 12) (sym b.before) b.length_is, λ reads. omega (arith, b.before, b.short))

told_head : (order : Order) (old new : FileReading) (bytes : List ℕ) (step : Step)
    → BlockStep order old bytes new step → ordered_number order 4 0 bytes ≢ section → 8 ≤ length bytes
    → HeadIsGood order bytes
told_head order old new bytes (steps.Packet p n) s other head = good_block order bytes n s.0
told_head order old new bytes (steps.Skip n) (inl s) other head = absurd (other s.0)
told_head order old new bytes (steps.Skip n) (inr (inl s)) other head = good_block order bytes n s.1
told_head order old new bytes (steps.Skip n) (inr (inr s)) other head =
    (subst (IsLength 12) (sym s.0.2) s.0.3, λ reads. absurd (s.0.1 reads))
told_head order old new bytes (steps.More n) ((l, inl s), same) other head = absurd (omega (arith, head, s.0))
told_head order old new bytes (steps.More n) ((l, inr (h, inl s)), same) other head = absurd (other s.0)
told_head order old new bytes (steps.More n) ((l, inr (h, inr s)), same) other head =
    (subst (IsLength 12) s.1 s.2, λ reads. omega (arith, s.1, s.3))

bad_head : (order : Order) (bytes : List ℕ) → HeadIsGood order bytes
    → (IsBadLength 12 (ordered_number order 4 4 bytes)
    ⊎ (IsReadBlockType (ordered_number order 4 0 bytes) × (longest < ordered_number order 4 4 bytes))) → ⊥
bad_head order bytes good (inl bad) = bad_length 12 (ordered_number order 4 4 bytes) bad good.0
bad_head order bytes good (inr bad) = omega (arith, good.1 bad.0, bad.1)

-- a whole block that is read tells an interface or a packet
abbrev pub TellsBlock : Order → ℕ → List Interface → List ℕ → Type 0
TellsBlock order kind interfaces block = ((kind ≡ 1) × (20 ≤ length block))
    ⊎ ((step : Step) × PacketStep order kind interfaces block step)

abbrev pub IsToldHere : Order → List Interface → List ℕ → ℕ → Type 0
IsToldHere order interfaces bytes n = (ordered_number order 4 (n - 4) (take n bytes) ≡ n)
    × TellsBlock order (ordered_number order 4 0 bytes) interfaces (take n bytes)

told_here : (order : Order) (old new : FileReading) (bytes : List ℕ) (step : Step) (n : ℕ)
    → BlockStep order old bytes new step → IsHere order bytes n
    → IsToldHere order old.interfaces bytes n
told_here order old new bytes (steps.Packet p m) n s h =
    let e : m ≡ n = sym s.0.before ∙ h.length_is in
    subst (IsToldHere order old.interfaces bytes) e (s.0.after, inr (steps.Packet p m, s.1))
told_here order old new bytes (steps.Skip m) n (inl s) h =
    absurd (read_section (ordered_number order 4 0 bytes) h.reads s.0)
told_here order old new bytes (steps.Skip m) n (inr (inl s)) h =
    let e : m ≡ n = sym s.1.before ∙ h.length_is in
    subst (IsToldHere order old.interfaces bytes) e (s.1.after, inl (s.0, s.2.1))
told_here order old new bytes (steps.Skip m) n (inr (inr s)) h = absurd (s.0.1 h.reads)
told_here order old new bytes (steps.More m) n ((l, inl s), same) h =
    absurd (omega (arith, head_here order bytes n h, s.0))
told_here order old new bytes (steps.More m) n ((l, inr (g, inl s)), same) h =
    absurd (read_section (ordered_number order 4 0 bytes) h.reads s.0)
told_here order old new bytes (steps.More m) n ((l, inr (g, inr s)), same) h =
    absurd (omega (arith, l, s.1, h.length_is, h.whole))

enhanced_fits : (order : Order) (kind : ℕ) (interfaces : List Interface) (block : List ℕ) (step : Step)
    → EnhancedStep order kind interfaces block step → (p : Packet) × IsEnhanced order kind interfaces block p
enhanced_fits order kind interfaces block (steps.Packet p n) s = (p, s.1)
enhanced_fits order kind interfaces block (steps.Skip n) s = absurd s
enhanced_fits order kind interfaces block (steps.More n) s = absurd s

simple_fits : (order : Order) (interfaces : List Interface) (block : List ℕ) (step : Step)
    → SimpleStep order interfaces block step → (p : Packet) × IsSimple order interfaces block p
simple_fits order interfaces block (steps.Packet p n) s = (p, s.1)
simple_fits order interfaces block (steps.Skip n) s = absurd s
simple_fits order interfaces block (steps.More n) s = absurd s

least_told : (order : Order) (kind : ℕ) (interfaces : List Interface) (block : List ℕ)
    → TellsBlock order kind interfaces block → least_of kind ≤ length block
least_told order kind interfaces block (inl t) = subst (λ (k : ℕ). least_of k ≤ length block) (sym t.0) t.1
least_told order kind interfaces block (inr (step, inl s)) =
    subst (λ (k : ℕ). least_of k ≤ length block) (sym s.0) (simple_fits order interfaces block step s.1).1.fits
least_told order kind interfaces block (inr (step, inr (inl k, s))) =
    let fits : ordered_number order 4 20 block + 32 ≤ length block =
    (enhanced_fits order kind interfaces block step s).1.fits in
    subst (λ (k : ℕ). least_of k ≤ length block) (sym k) (omega (arith, fits))
least_told order kind interfaces block (inr (step, inr (inr k, s))) =
    let fits : ordered_number order 4 20 block + 32 ≤ length block =
    (enhanced_fits order kind interfaces block step s).1.fits in
    subst (λ (k : ℕ). least_of k ≤ length block) (sym k) (omega (arith, fits))

length_taken : (n : ℕ) (bytes : List ℕ) → length (take n bytes) ≤ n
length_taken zero bytes = omega arith
length_taken (suc n) [] = omega arith
length_taken (suc n) (b ∷ bytes) = omega (arith, length_taken n bytes)

bad_block : (order : Order) (interfaces : List Interface) (bytes : List ℕ) (n : ℕ)
    → IsToldHere order interfaces bytes n
    → ((ordered_number order 4 (n - 4) (take n bytes) ≢ n) ⊎ (n < least_of (ordered_number order 4 0 bytes))) → ⊥
bad_block order interfaces bytes n t (inl other) = other t.0
bad_block order interfaces bytes n t (inr short) =
    omega (
      arith,
      short,
      length_taken n bytes,
      least_told order (ordered_number order 4 0 bytes) interfaces (take n bytes) t.1,
    )

past_none : (interfaces : List Interface) (k : ℕ) → length interfaces ≤ k → slice_get interfaces k ≡ None
past_none [] k l = refl
past_none (i ∷ interfaces) zero l = absurd (omega (arith, l))
past_none (i ∷ interfaces) (suc k) l = past_none interfaces k (omega (arith, l))

none_there : (i : Interface) (found : Option Interface) → found ≡ Some i → found ≡ None → ⊥
none_there i found p q = let e : Some i ≡ None = sym p ∙ q in cc

enhanced_bad : (order : Order) (kind : ℕ) (interfaces : List Interface) (block : List ℕ)
    (fault : CaptureFault) (p : Packet) → IsEnhanced order kind interfaces block p
    → EnhancedFails order kind interfaces block fault → ⊥
enhanced_bad order kind interfaces block faults.NoMemory p e f = absurd f
enhanced_bad order kind interfaces block faults.Format p e f = absurd f
enhanced_bad order kind interfaces block faults.Length p e f = omega (arith, e.fits, f)
enhanced_bad order kind interfaces block faults.Interface p e f =
    none_there e.interface (slice_get interfaces (ordered_number order (width_of kind) 8 block)) e.described
    (past_none interfaces (ordered_number order (width_of kind) 8 block) f)

three_of : (kind : ℕ) → kind ≡ 3 → ((kind ≡ 2) ⊎ (kind ≡ 6)) → ⊥
three_of kind e (inl k) = omega (arith, e, k)
three_of kind e (inr k) = omega (arith, e, k)

one_of : (kind : ℕ) → kind ≡ 1 → ((kind ≡ 2) ⊎ (kind ≡ 6)) → ⊥
one_of kind e (inl k) = omega (arith, e, k)
one_of kind e (inr k) = omega (arith, e, k)

no_interface : (order : Order) (interfaces : List Interface) (block : List ℕ) (p : Packet)
    → IsSimple order interfaces block p → interfaces ≡ [] → ⊥
no_interface order interfaces block p s e =
    none_there s.interface (slice_get interfaces 0) s.described
    (ap (λ (xs : List Interface). slice_get xs 0) e)

packet_bad : (order : Order) (kind : ℕ) (interfaces : List Interface) (block : List ℕ)
    (fault : CaptureFault) → TellsBlock order kind interfaces block
    → PacketFails order kind interfaces block fault → ⊥
packet_bad order kind interfaces block fault (inl t) (inl f) = omega (arith, t.0, f.0)
packet_bad order kind interfaces block fault (inl t) (inr f) = one_of kind t.0 f.0
packet_bad order kind interfaces block fault (inr (step, inl s)) (inl f) =
    let fits = simple_fits order interfaces block step s.1 in
    no_interface order interfaces block fits.0 fits.1 f.2
packet_bad order kind interfaces block fault (inr (step, inl s)) (inr f) = three_of kind s.0 f.0
packet_bad order kind interfaces block fault (inr (step, inr s)) (inl f) = three_of kind f.0 s.0
packet_bad order kind interfaces block fault (inr (step, inr s)) (inr f) =
    let fits = enhanced_fits order kind interfaces block step s.1 in
    enhanced_bad order kind interfaces block fault fits.0 fits.1 f.1

packet_excludes : (order : Order) (old new : FileReading) (bytes : List ℕ) (fault : CaptureFault)
    (step : Step) → PacketBroken order old.interfaces fault bytes → BlockStep order old bytes new step → ⊥
packet_excludes order old new bytes fault step f s =
    packet_bad order (ordered_number order 4 0 bytes) old.interfaces (take f.0 bytes) fault
    (told_here order old new bytes step f.0 s f.1).1 f.2

block_excludes : (order : Order) (old new : FileReading) (bytes : List ℕ) (fault : CaptureFault)
    (step : Step) → fault ≢ faults.NoMemory → BlockFails order old bytes fault
    → BlockStep order old bytes new step → ⊥
block_excludes order old new bytes faults.NoMemory step some f s = some refl
block_excludes order old new bytes faults.Format step some f s =
    section_block_excludes order old new bytes faults.Format step f s
block_excludes order old new bytes faults.Length step some (inl f) s =
    section_block_excludes order old new bytes faults.Length step f s
block_excludes order old new bytes faults.Length step some (inr (inl f)) s =
    bad_head order bytes (told_head order old new bytes step s f.1 f.0) f.2
block_excludes order old new bytes faults.Length step some (inr (inr (inl f))) s =
    bad_block order old.interfaces bytes f.0 (told_here order old new bytes step f.0 s f.1) f.2
block_excludes order old new bytes faults.Length step some (inr (inr (inr f))) s =
    packet_excludes order old new bytes faults.Length step f s
block_excludes order old new bytes faults.Interface step some f s =
    packet_excludes order old new bytes faults.Interface step f s

excludes_of : (kind : Kind) (old new : FileReading) (bytes : List ℕ) (fault : CaptureFault) (step : Step)
    → fault ≢ faults.NoMemory → FileKindFails kind old bytes fault → StepOf kind old bytes new step → ⊥
excludes_of kinds.Unknown old new bytes fault step some f s = begin_excludes old new bytes fault step f s
excludes_of (kinds.Classic order precise link) old new bytes fault step some f s =
    record_excludes order precise link bytes step f.1 s.0
excludes_of (kinds.Blocks order) old new bytes fault step some f s =
    block_excludes order old new bytes fault step some f s

pub excludes : (old new : FileReading) (bytes : List ℕ) (fault : CaptureFault) (step : Step)
    → fault ≢ faults.NoMemory → FileFailsAt old bytes fault → StepAt old bytes new step → ⊥
excludes old new bytes fault step some f s = excludes_of old.kind old new bytes fault step some f s

-- ---- how much is asked for

abbrev pub Asks : List ℕ → ℕ → FileReading → FileReading → Type 0
Asks bytes n old new = (length bytes < n) × (n ≤ most_asked) × (new ≡ old)

asks_record : (order : Order) (bytes : List ℕ) (n : ℕ) → IsPartRecord order bytes n → n ≤ most_asked
asks_record order bytes n (l, inl s) = omega (arith, s.1)
asks_record order bytes n (l, inr s) = omega (arith, s.1, s.2)

asks_block : (order : Order) (bytes : List ℕ) (n : ℕ) → IsPartBlock order bytes n → n ≤ most_asked
asks_block order bytes n (l, inl s) = omega (arith, s.1)
asks_block order bytes n (l, inr (h, inl s)) = omega (arith, s.1)
asks_block order bytes n (l, inr (h, inr s)) = omega (arith, s.3)

asks_of : (kind : Kind) (old new : FileReading) (bytes : List ℕ) (n : ℕ)
    → StepOf kind old bytes new (steps.More n) → Asks bytes n old new
asks_of kinds.Unknown old new bytes n s = (s.0, omega (arith, s.1), s.2)
asks_of (kinds.Classic order precise link) old new bytes n s = (s.0.0, asks_record order bytes n s.0, s.1)
asks_of (kinds.Blocks order) old new bytes n s = (s.0.0, asks_block order bytes n s.0, s.1)

pub asks : (old new : FileReading) (bytes : List ℕ) (n : ℕ) → StepAt old bytes new (steps.More n)
    → Asks bytes n old new
asks old new bytes n s = asks_of old.kind old new bytes n s

-- ---- a record that is begun

abbrev pub zeros : ℕ → List ℕ
zeros zero = []
zeros (suc n) = 0 ∷ zeros n

enough_zeros : (n : ℕ) → n ≤ length (zeros n)
enough_zeros zero = omega arith
enough_zeros (suc n) = omega (arith, enough_zeros n)

enough : (n : ℕ) (bytes : List ℕ) → n ≤ length (bytes ++ zeros n)
enough n [] = enough_zeros n
enough n (b ∷ bytes) = omega (arith, enough n bytes)

pub can_be_whole : (order : Order) (bytes : List ℕ) (n : ℕ) → IsPartRecord order bytes n
    → 16 ≤ length bytes → (more : List ℕ) × IsWholeRecord order (bytes ++ more) n
can_be_whole order bytes n (l, inl s) head = absurd (omega (arith, s.0, head))
can_be_whole order bytes n (l, inr s) head =
    let e : ordered_number order 4 8 bytes ≡ ordered_number order 4 8 (bytes ++ zeros n) =
    number_append order 4 8 bytes (zeros n) (omega (arith, head)) in (
      zeros n,
      (enough n bytes, s.1 ∙ ap (λ (k : ℕ). 16 + k) e, omega (arith, s.2, e)),
    )
