pub mod Jobs
pub mod Requests
pub mod Answers
pub mod Recordings
