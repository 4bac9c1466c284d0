pub mod Answering
pub mod Spelling
pub mod Capturing
