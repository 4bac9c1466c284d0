pub mod Reservations
pub mod Blocks
pub mod Data
pub mod Worked
