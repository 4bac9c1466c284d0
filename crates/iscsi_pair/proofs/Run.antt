-- Every run in which all requests are accepted: its outcomes are those of one disk.
pub mod MoveLemmas
pub mod OpeningLemmas
pub mod ComesLemmas
pub mod MemoryLemmas
pub mod QueueReading
pub mod DiskInvariant
pub mod CarriedBytes
pub mod InvariantHolds
pub mod OneDiskLaw
pub mod ProgressLemmas
pub mod ServedRunsLaw
pub mod GivingLemmas
pub mod RestLemmas
