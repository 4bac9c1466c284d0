pub mod Fields
pub mod FreeBits
pub mod Meaning
pub mod Rules
pub mod Serial
