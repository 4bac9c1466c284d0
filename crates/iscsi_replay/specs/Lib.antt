pub mod Rules
pub mod Outcomes
pub mod inner
