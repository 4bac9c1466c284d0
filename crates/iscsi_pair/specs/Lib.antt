pub mod World
pub mod Traffic
pub mod LocalDisk
pub mod Served
pub mod Outcomes
pub mod Example
pub mod inner
