pub mod Rows
mod CommandRows
pub mod HeldLaws
pub mod SequenceLaws
pub mod LoginSendLemmas
pub mod WritingLemmas
pub mod StepLemmas
pub mod FaultLemmas
pub mod ReceivingLemmas
pub mod SequenceLemmas
pub mod OutcomeLaws
pub mod ReadLaws
pub mod OneOutcomeLaw
