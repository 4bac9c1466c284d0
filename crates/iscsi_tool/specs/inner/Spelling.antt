-- More of `Spelling`, of which no public contract speaks.
use Rattle.std.specs.Prelude.{◌≡◌, ◌⊎◌, ℕ, Bool, false, List, Result, Err}
use Rattle.iscsi_stream.specs.declared.fault.ToolFault.{ToolFault}
use Rattle.iscsi_stream.specs.declared.fault.ToolFault.TheVariants as tool
use Rattle.iscsi_tool.specs.Answering.{line_end}

-- Behind the answers the line end that is due is written, where no byte was cut, or a write failed.
abbrev pub LineEndWritten : Result (Unit {0}) ToolFault → Bool → Result (Unit {0}) ToolFault → List ℕ → Type 0
LineEndWritten outcome is_cut result ending = (result ≡ Err tool.Write)
    ⊎ ((is_cut ≡ false) × (result ≡ outcome) × (ending ≡ line_end outcome))
