pub mod Chap
pub mod Exchange
pub mod Initiator
pub mod Laws
pub mod Inside
