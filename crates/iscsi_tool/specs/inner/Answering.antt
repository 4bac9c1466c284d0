-- More of `Answering`, of which no public contract speaks.
use Rattle.iscsi_stream.specs.declared.fault.ToolFault.{ToolFault}
use Rattle.iscsi_stream.specs.declared.fault.ToolFault.TheVariants as tool
use Rattle.iscsi_target.specs.declared.fault.TargetFault.TheVariants as faults
use Rattle.iscsi_serve.specs.declared.session_fault.SessionFault.{SessionFault}
use Rattle.iscsi_serve.specs.declared.session_fault.SessionFault.TheVariants as session

-- The fault of a filter for that of its session.
abbrev pub filter_fault : SessionFault → ToolFault
filter_fault session.NoMemory = tool.NoMemory
filter_fault (session.Target faults.NoMemory) = tool.NoMemory
filter_fault (session.Target (faults.Stream fault)) = tool.Stream fault
filter_fault (session.Target (faults.Protocol rule)) = tool.Protocol rule
filter_fault (session.Target faults.Closed) = tool.Read
filter_fault session.Read = tool.Read
filter_fault session.Sync = tool.Write
filter_fault session.Write = tool.Write
