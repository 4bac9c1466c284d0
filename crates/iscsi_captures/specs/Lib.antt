pub mod Faults
pub mod Meant
pub mod Listing
pub mod Written
pub mod Giving
pub mod inner
