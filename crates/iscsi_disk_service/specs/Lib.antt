pub mod Disks
pub mod Doors
pub mod Serials
pub mod inner
