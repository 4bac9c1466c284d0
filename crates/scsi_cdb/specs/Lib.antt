pub mod Layout
pub mod Blocks
pub mod Sense
pub mod ParameterData
pub mod Plain
