pub mod Numbering
pub mod Uses
pub mod Tasks
