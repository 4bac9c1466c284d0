-- What the parts of this crate do, as its own functions see it.
use Rattle.std.specs.Prelude.{◌≡◌, ℕ, ◌+◌, ◌<◌, ◌≤◌, true, List, [], ◌∷◌, ◌++◌, length, slice_index}
use Rattle.std.specs.List.{AllByRecursion, Contains}
use Rattle.tcp_streams.specs.Pieces.{Piece, AreCutFrom, BeginsWith, is_covered, HasByte, Clash}
use Rattle.tcp_streams.specs.Reassembly.{held, cost}
use Rattle.tcp_streams.specs.declared.fault.SegmentFault.{SegmentFault}
use Rattle.tcp_streams.specs.declared.fault.SegmentFault.TheVariants as faults

-- a piece with this place and these bytes
abbrev pub piece : ℕ → List ℕ → Piece
piece offset bytes = record { offset = offset; bytes = bytes }

-- As HasTaken, while pieces that wait may already follow what was given out.
pub record UpTo (pieces : List Piece) (given : List ℕ) (waiting : List Piece) : Type 0 where
  pub sound : (stream : List ℕ) → AreCutFrom stream pieces → BeginsWith stream given
  pub had : (i : ℕ) → i < length given → is_covered pieces i ≡ true
  pub bytes : (i : ℕ) → i < length given → HasByte pieces i (slice_index given i)
  pub kept : (i : ℕ) → length given ≤ i → is_covered waiting i ≡ is_covered pieces i
  pub carried : (stream : List ℕ) → AreCutFrom stream pieces → AreCutFrom stream waiting
  pub among : (i b : ℕ) → HasByte waiting i b → HasByte pieces i b

-- the second piece has each place of the first
abbrev pub LiesIn : Piece → Piece → Type 0
LiesIn p q = (q.offset ≤ p.offset) × (p.offset + length p.bytes ≤ q.offset + length q.bytes)

-- one of the pieces does
abbrev pub LiesInSome : Piece → List Piece → Type 0
LiesInSome p pieces = (q : Piece) × Contains pieces q × LiesIn p q

-- the piece comes: these bytes are given out, and from now on these pieces wait
abbrev pub TakesPiece : ℕ → List Piece → Piece → ℕ → List Piece → List ℕ → Type 0
TakesPiece count waiting p count' waiting' more = (pieces : List Piece) (given : List ℕ)
    → length given ≡ count → UpTo pieces given waiting
    → (length (given ++ more) ≡ count') × UpTo (pieces ++ p ∷ []) (given ++ more) waiting'

-- When a piece is refused.
abbrev pub PieceFails : ℕ → List Piece → ℕ → Piece → SegmentFault → Type 0
PieceFails count waiting limit p faults.NoMemory = Unit {0}
PieceFails count waiting limit p (faults.Gap at) = (at ≡ count) × (count < p.offset)
    × (limit < held waiting + cost p)
PieceFails count waiting limit p (faults.Conflict at) = (q : Piece) × Contains waiting q × Clash at p q
PieceFails count waiting limit p faults.Long = Unit {0}

-- each piece that waits begins after what was given out
abbrev pub AreLater : ℕ → List Piece → Type 0
AreLater count waiting = AllByRecursion (λ p. count < p.offset) waiting

-- from these pieces that wait to those, giving these bytes out
abbrev pub DrainsWaiting : ℕ → List Piece → ℕ → List Piece → List ℕ → Type 0
DrainsWaiting count waiting count' waiting' more = (pieces : List Piece) (given : List ℕ) → length given ≡ count
    → UpTo pieces given waiting → (length (given ++ more) ≡ count') × UpTo pieces (given ++ more) waiting'
