pub mod SessionEndLemmas
pub mod FedMoreLemmas
pub mod SyncedLemmas
pub mod NextPduLemmas
pub mod PieceLemmas
pub mod SessionReadInvariant
pub mod SessionCrashLemmas
