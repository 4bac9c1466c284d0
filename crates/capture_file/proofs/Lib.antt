pub mod Broken
pub mod Headers
