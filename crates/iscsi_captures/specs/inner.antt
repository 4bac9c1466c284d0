pub mod Meant
pub mod Listing
pub mod Giving
