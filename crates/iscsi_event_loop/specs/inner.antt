pub mod Giving
pub mod Limited
pub mod Moving
pub mod Room
pub mod Running
pub mod Serving
