pub mod Comparing
pub mod SameJob
pub mod SameJobVerdict
pub mod inner
