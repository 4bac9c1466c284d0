pub mod Gathering
pub mod Headers
pub mod Passing
pub mod Texts
