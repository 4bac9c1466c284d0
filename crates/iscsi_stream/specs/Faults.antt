-- Faults of the calls that read a stream and write another.
use Rattle.iscsi_stream.specs.declared.fault.StreamFault.{StreamFault}
use Rattle.iscsi_stream.specs.declared.fault.StreamFault.TheVariants as stream
use Rattle.iscsi_stream.specs.declared.fault.ToolFault.{ToolFault}
use Rattle.iscsi_stream.specs.declared.fault.ToolFault.TheVariants as tool

-- a stream's `NoMemory` is the tool's own
abbrev pub tool_fault : StreamFault → ToolFault
tool_fault stream.NoMemory = tool.NoMemory
tool_fault (stream.Head fault place) = tool.Stream (stream.Head fault place)
tool_fault (stream.OverLimit place) = tool.Stream (stream.OverLimit place)
tool_fault (stream.Truncated place) = tool.Stream (stream.Truncated place)
tool_fault stream.Failed = tool.Stream stream.Failed
