pub mod Lining
pub mod Noting
pub mod Passing
pub mod Reading
