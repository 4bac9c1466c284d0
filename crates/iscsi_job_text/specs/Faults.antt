-- Why a line is refused, by what it means.
use Rattle.std.specs.Prelude.{◌≡◌, Option, None}
use Rattle.iscsi_job_text.specs.declared.fault.LineFault.{LineFault}
use Rattle.iscsi_job_text.specs.declared.fault.LineFault.TheVariants as fault

-- A line is refused only if it means nothing. Nothing is said where memory ran out.
abbrev pub RefusesOnly : {A : Type 0} → Option A → LineFault → Type 0
RefusesOnly meaning fault.NoMemory = Unit {0}
RefusesOnly meaning (fault.Refused reason) = meaning ≡ None
