-- A session whose stream is called cut has read it to its end.
use Rattle.std.proofs.Common.{ℕ, List, Option, Err}
use Rattle.std.specs.Io.KnownBytes.{IsAtEnd}
use Rattle.iscsi_stream.specs.declared.fault.StreamFault.TheVariants as stream
use Rattle.iscsi_target.specs.declared.fault.TargetFault.TheVariants as faults
use Rattle.iscsi_serve.specs.declared.session_fault.SessionFault.{SessionFault}
use Rattle.iscsi_serve.specs.declared.session_fault.SessionFault.TheVariants as session
use Rattle.iscsi_serve.specs.Session.{EndsCut}
use Rattle.iscsi_filters.specs.Filters.{CutAtEnd}
use Rattle.iscsi_tool.specs.inner.Answering.{filter_fault}

pub session_at_end : (fault : SessionFault) (left : Option (List ℕ)) → EndsCut (Err fault) left → CutAtEnd (Err (filter_fault fault)) (IsAtEnd left)
session_at_end session.NoMemory left h = tt
session_at_end (session.Target faults.NoMemory) left h = tt
session_at_end (session.Target (faults.Stream (stream.Head f p))) left h = tt
session_at_end (session.Target (faults.Stream (stream.OverLimit p))) left h = tt
session_at_end (session.Target (faults.Stream (stream.Truncated p))) left h = h
session_at_end (session.Target (faults.Stream stream.NoMemory)) left h = tt
session_at_end (session.Target (faults.Stream stream.Failed)) left h = tt
session_at_end (session.Target (faults.Protocol rule)) left h = tt
session_at_end (session.Target faults.Closed) left h = tt
session_at_end session.Read left h = tt
session_at_end session.Sync left h = tt
session_at_end session.Write left h = tt
