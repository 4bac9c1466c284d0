pub mod WordLemmas
pub mod EntryLemmas
pub mod JobLemmas
pub mod LineLemmas
pub mod RequestLemmas
