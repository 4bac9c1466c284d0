pub mod Commands
pub mod Script
pub mod LoopSteps
pub mod LoopPairs
