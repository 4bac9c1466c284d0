pub mod GivingLemmas
pub mod RoomLemmas
pub mod RunningLemmas
