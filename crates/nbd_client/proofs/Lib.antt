pub mod HeardLemmas
pub mod ServingLemmas
pub mod ServedLemmas
