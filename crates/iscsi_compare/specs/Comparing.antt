-- Two streams in step: whether they have one meaning, and where they part.
use Rattle.std.specs.Prelude.{◌≡◌, ℕ, List, [], ◌∷◌, ◌++◌, length, Option, Some, None, Result, Ok, Err}
use Rattle.std.specs.Io.KnownBytes.{Consumes, IsAtEnd}
use Rattle.iscsi_pdu.specs.Meaning.{AreBytes}
use Rattle.iscsi_stream.specs.declared.fault.StreamFault.{StreamFault}
use Rattle.iscsi_stream.specs.declared.fault.StreamFault.TheVariants as stream
use Rattle.iscsi_stream.specs.Stream.{Message, StreamMeans, longest_segment, BeginsWithPdus, SplitsStream}
use Rattle.iscsi_stream.specs.Shown.{IsShownLine}
use Rattle.iscsi_stream.specs.Normalising.{StreamRestFails}
use Rattle.iscsi_compare.specs.declared.fault.Which.TheVariants.{First, Second}
use Rattle.iscsi_compare.specs.declared.fault.CompareFault.{CompareFault}
use Rattle.iscsi_compare.specs.declared.fault.CompareFault.TheVariants as fault
use Rattle.iscsi_compare.specs.declared.verdict.Verdict.{Verdict}
use Rattle.iscsi_compare.specs.declared.verdict.Verdict.TheVariants as verdict

-- What was read of a stream, and what is left of it where that is known.
pub record ReadInput : Type 0 where
  pub read : List ℕ
  pub left : Option (List ℕ)

-- A reader gave this input: what it had before is what was read and what is left.
pub record GaveInput (old new : Option (List ℕ)) (input : ReadInput) : Type 0 where
  pub bytes : AreBytes input.read
  pub consumed : Consumes old new input.read
  pub left_is : input.left ≡ new

-- PDUs of these meanings begin the stream.
abbrev pub BeginsWithMessages : ReadInput → List Message → Type 0
BeginsWithMessages input ms =
    (given : List ℕ) × (rest : List ℕ) × BeginsWithPdus longest_segment input.read ms given rest

-- The stream was read to its end, and means this.
abbrev pub MeansAll : ReadInput → List Message → Type 0
MeansAll input ms = StreamMeans input.read ms × IsAtEnd input.left

-- what stands behind PDUs of these meanings: another PDU, or the end of the stream
abbrev pub StreamGoesOn : ReadInput → List Message → Option Message → Type 0
StreamGoesOn input ms (Some m) = BeginsWithMessages input (ms ++ m ∷ [])
StreamGoesOn input ms None = MeansAll input ms

-- The PDUs before this place have these meanings.
abbrev pub StandsAtPlace : ReadInput → List Message → ℕ → Type 0
StandsAtPlace input ms place =
    (given : List ℕ) × (rest : List ℕ) × BeginsWithPdus longest_segment input.read ms given rest
    × (place ≡ length given)

-- Both streams are at their ends, and mean the same.
abbrev pub AgreeAtEnds : ReadInput → ReadInput → Type 0
AgreeAtEnds first second = (ms : List Message) × MeansAll first ms × MeansAll second ms

-- The streams mean the same up to these places, and there they differ: in the meaning of the PDU,
-- or one of them ends.
pub record Part (first second : ReadInput) (place other_place : ℕ) : Type 0 where
  pub ms : List Message
  pub at : StandsAtPlace first ms place
  pub other_at : StandsAtPlace second ms other_place
  pub next : Option Message
  pub other_next : Option Message
  pub goes_on : StreamGoesOn first ms next
  pub other_goes_on : StreamGoesOn second ms other_next
  pub differ : next ≡ other_next → ⊥

-- a stream that ends within a PDU was read to its end
abbrev pub EndsIfCut : StreamFault → ReadInput → Type 0
EndsIfCut (stream.Truncated place) input = IsAtEnd input.left
EndsIfCut (stream.Head fault place) input = Unit {0}
EndsIfCut (stream.OverLimit place) input = Unit {0}
EndsIfCut stream.NoMemory input = Unit {0}
EndsIfCut stream.Failed input = Unit {0}

-- No PDU stands behind PDUs of these meanings.
abbrev pub NoPduFollows : ReadInput → List Message → Type 0
NoPduFollows input ms =
    (given : List ℕ) × (rest : List ℕ) × SplitsStream longest_segment input.read ms given rest

-- The stream is refused behind PDUs of these meanings, for this reason.
abbrev pub IsRefused : StreamFault → ReadInput → List Message → Type 0
IsRefused f input ms =
    (given : List ℕ) × (rest : List ℕ) × SplitsStream longest_segment input.read ms given rest
    × StreamRestFails f given rest × EndsIfCut f input

-- Of both streams the PDUs before are read, and mean the same; this is the first fault behind them,
-- that of the first stream before that of the second.
abbrev pub ComparisonFails : CompareFault → ReadInput → ReadInput → Type 0
ComparisonFails fault.NoMemory first second =
    (ms : List Message) × BeginsWithMessages first ms × BeginsWithMessages second ms
ComparisonFails (fault.Stream First f) first second =
    (ms : List Message) × IsRefused f first ms × BeginsWithMessages second ms
ComparisonFails (fault.Stream Second f) first second =
    (ms : List Message) × (next : Option Message) × StreamGoesOn first ms next
    × IsRefused f second ms
ComparisonFails (fault.Read First) first second =
    (ms : List Message) × NoPduFollows first ms × BeginsWithMessages second ms
ComparisonFails (fault.Read Second) first second =
    (ms : List Message) × (next : Option Message) × StreamGoesOn first ms next
    × NoPduFollows second ms

-- What was read of the streams where a comparison answers.
abbrev pub ComparePost : Result Verdict CompareFault → ReadInput → ReadInput → Type 0
ComparePost (Ok verdict.Same) first second = AgreeAtEnds first second
ComparePost (Ok (verdict.Differ place other_place)) first second =
    Part first second place other_place
ComparePost (Err f) first second = ComparisonFails f first second

-- A line for each stream was appended where they differ, and else nothing.
abbrev pub AppendsDifference : Result Verdict CompareFault → List ℕ → List ℕ → Type 0
AppendsDifference (Ok verdict.Same) before after = after ≡ before
AppendsDifference (Ok (verdict.Differ place other_place)) before after =
    (line : List ℕ) × (other_line : List ℕ) × IsShownLine line × IsShownLine other_line
    × (after ≡ before ++ (line ++ other_line))
AppendsDifference (Err f) before after = after ≡ before
