pub mod Rows
pub mod Said
pub mod Services
pub mod Storage
pub mod Words
