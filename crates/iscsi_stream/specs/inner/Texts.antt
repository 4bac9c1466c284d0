-- More of `Texts`, of which no public contract speaks.
use Rattle.std.specs.Prelude.{ℕ, List}
use Rattle.iscsi_text.specs.Fault.{IsFirstFault}
use Rattle.iscsi_stream.specs.declared.fault.ToolFault.{ToolFault}
use Rattle.iscsi_stream.specs.declared.fault.ToolFault.TheVariants as tool

-- why bytes have no canonical text: their first fault, or that memory is out
abbrev pub TextRefused : List ℕ → ToolFault → Type 0
TextRefused bytes tool.NoMemory = Unit {0}
TextRefused bytes (tool.Stream fault) = ⊥
TextRefused bytes (tool.Text fault) = IsFirstFault bytes fault
TextRefused bytes tool.TextTooLong = ⊥
TextRefused bytes tool.Read = ⊥
TextRefused bytes tool.Write = ⊥
TextRefused bytes tool.NotHex = ⊥
TextRefused bytes (tool.Protocol rule) = ⊥
