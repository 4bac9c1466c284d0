pub mod FailAt
pub mod Sparse
pub mod Found
pub mod Reading
pub mod Taken
