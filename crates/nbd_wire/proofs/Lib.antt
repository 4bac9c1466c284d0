pub mod HandshakeLemmas
pub mod TransmissionLemmas
