-- One request between two ends that are in step: its outcome is that of the disk.
pub mod Invariant
pub mod AnswersInOrder
pub mod DataInLemmas
pub mod ReadLemmas
pub mod PingLemmas
pub mod DataOutLemmas
pub mod WriteTurnLemmas
pub mod WriteCommandLemmas
pub mod WriteLemmas
pub mod OneRequestLaw
