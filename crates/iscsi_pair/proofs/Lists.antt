-- Some run serves a list of requests, and what is written is read.
pub mod BlockLemmas
pub mod StepLemmas
pub mod RoundLemmas
pub mod LoginIsServed
pub mod ListsAreServedLaw
pub mod ReadBackLaw
pub mod ServingLemmas
