pub mod AllowedLaw
pub mod AccessLaws
