pub mod SingleTaskLemmas
pub mod ContinuationLemmas
pub mod TaskRunLemmas
pub mod ServingLemmas
pub mod DispatchLemmas
pub mod TurnFrontLaw
pub mod OutOfMemoryLemmas
