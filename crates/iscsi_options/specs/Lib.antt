pub mod Limits
pub mod Options
