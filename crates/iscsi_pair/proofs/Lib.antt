pub mod Wire
pub mod Ends
pub mod Login
pub mod Request
pub mod Run
pub mod Lists
