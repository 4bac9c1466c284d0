pub mod AtEndLemmas
pub mod HexLineLemmas
pub mod Untouched
