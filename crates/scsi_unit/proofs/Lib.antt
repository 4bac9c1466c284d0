pub mod TellingLemmas
pub mod SupportedLemmas
pub mod LengthLemmas
