pub mod Comparisons
pub mod Program
