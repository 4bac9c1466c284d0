pub mod HexText
pub mod Filters
pub mod Program
