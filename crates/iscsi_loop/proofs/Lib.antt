pub mod ScriptLemmas
pub mod ReportLemmas
pub mod HistoryLemmas
pub mod PairStepLemmas
pub mod RequestLemmas
pub mod OnDiskLaw
pub mod DeclaredLemmas
pub mod BlameLemmas
