-- Two streams in step: whether they are two runs of one job, and where they part.
use Rattle.std.specs.Prelude.{ℕ, List, ◌++◌, Option, Result, Ok, Err, option_to_list}
use Rattle.iscsi_stream.specs.Stream.{Message}
use Rattle.iscsi_compare.specs.declared.fault.Which.TheVariants.{First, Second}
use Rattle.iscsi_compare.specs.declared.fault.CompareFault.{CompareFault}
use Rattle.iscsi_compare.specs.declared.fault.CompareFault.TheVariants as fault
use Rattle.iscsi_compare.specs.declared.verdict.Verdict.{Verdict}
use Rattle.iscsi_compare.specs.declared.verdict.Verdict.TheVariants as verdict
use Rattle.iscsi_compare.specs.Comparing.{ReadInput, BeginsWithMessages, MeansAll, StreamGoesOn, StandsAtPlace, NoPduFollows, IsRefused}
use Rattle.iscsi_compare.specs.SameJob.{SameJob}

-- The PDUs before are of one job, and of what follows them this holds.
abbrev pub BehindOneJob : (List Message → List Message → Type 0) → Type 0
BehindOneJob Holds =
    (ms : List Message) × (ns : List Message) × SameJob ms ns × Holds ms ns

-- Both streams are at their ends, and of one job.
abbrev pub AgreeOnJob : ReadInput → ReadInput → Type 0
AgreeOnJob first second = BehindOneJob (λ ms ns. MeansAll first ms × MeansAll second ns)

-- The streams are of one job up to these places, and no more with what stands there: a PDU, or the
-- end of the stream.
pub record PartFromJob (first second : ReadInput) (place other_place : ℕ) : Type 0 where
  pub ms : List Message
  pub ns : List Message
  pub same : SameJob ms ns
  pub at : StandsAtPlace first ms place
  pub other_at : StandsAtPlace second ns other_place
  pub next : Option Message
  pub other_next : Option Message
  pub goes_on : StreamGoesOn first ms next
  pub other_goes_on : StreamGoesOn second ns other_next
  pub differ : SameJob (ms ++ option_to_list next) (ns ++ option_to_list other_next) → ⊥

-- Of both streams the PDUs before are read, and of one job; this is the first fault behind them, that
-- of the first stream before that of the second.
abbrev pub FailsInJob : CompareFault → ReadInput → ReadInput → Type 0
FailsInJob fault.NoMemory first second =
    BehindOneJob (λ ms ns. BeginsWithMessages first ms × BeginsWithMessages second ns)
FailsInJob (fault.Stream First f) first second =
    BehindOneJob (λ ms ns. IsRefused f first ms × BeginsWithMessages second ns)
FailsInJob (fault.Stream Second f) first second =
    BehindOneJob (λ ms ns.
    (next : Option Message) × StreamGoesOn first ms next × IsRefused f second ns)
FailsInJob (fault.Read First) first second =
    BehindOneJob (λ ms ns. NoPduFollows first ms × BeginsWithMessages second ns)
FailsInJob (fault.Read Second) first second =
    BehindOneJob (λ ms ns. (next : Option Message) × StreamGoesOn first ms next
    × NoPduFollows second ns)

-- What was read of the streams where a comparison of two runs answers.
abbrev pub ComparesJobs : Result Verdict CompareFault → ReadInput → ReadInput → Type 0
ComparesJobs (Ok verdict.Same) first second = AgreeOnJob first second
ComparesJobs (Ok (verdict.Differ place other_place)) first second =
    PartFromJob first second place other_place
ComparesJobs (Err f) first second = FailsInJob f first second
