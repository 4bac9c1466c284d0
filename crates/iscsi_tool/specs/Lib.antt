pub mod Answering
pub mod Spelling
pub mod Captures
pub mod Filtering
pub mod Telling
pub mod CaptureComparisons
pub mod Running
pub mod inner
