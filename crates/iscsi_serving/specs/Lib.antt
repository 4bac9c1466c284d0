pub mod Access
pub mod Configuring
pub mod Ending
pub mod Executed
pub mod Faults
