pub mod Sides
pub mod Belonging
pub mod SameEnds
pub mod Following
pub mod Private
pub mod Directions
pub mod Waiting
pub mod inner
