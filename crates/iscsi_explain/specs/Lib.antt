pub mod Forms
pub mod Showing
