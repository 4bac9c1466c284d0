pub mod CrashMemory
pub mod FileStore
pub mod Hiding
pub mod HostFile
pub mod Past
pub mod StopsAt
