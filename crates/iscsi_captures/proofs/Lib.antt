pub mod Hearing
pub mod Listed
pub mod Shown
pub mod Reading
