pub mod Admitting
pub mod Giving
pub mod Limited
pub mod Paces
pub mod Running
pub mod Serving
pub mod inner
