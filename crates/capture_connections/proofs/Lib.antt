pub mod Places
pub mod Apart
pub mod Determined
pub mod EqualEnds
pub mod Keeping
pub mod Counting
