-- Each end of a pair, in every world that it comes to.
pub mod TargetRun
pub mod InitiatorClose
pub mod InitiatorEnds
pub mod InitiatorPieces
pub mod InitiatorRun
pub mod BothRuns
pub mod EndsLaw
pub mod OneWorldLaw
pub mod TargetHeldStays
