pub mod Commands
pub mod Script
pub mod Reports
pub mod Looping
pub mod LoopSteps
pub mod LoopPairs
pub mod inner
