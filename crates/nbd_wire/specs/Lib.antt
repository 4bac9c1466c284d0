pub mod Numbers
pub mod Handshake
pub mod Transmission
