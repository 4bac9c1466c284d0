pub mod Name
pub mod Stage
pub mod Negotiation
pub mod Held
pub mod Answer
pub mod Offers
pub mod Check
pub mod inner
