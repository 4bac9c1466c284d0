pub mod Answers
pub mod Steps
pub mod Queue
pub mod Writes
pub mod Turns
pub mod Feed
pub mod Access
pub mod Rows
