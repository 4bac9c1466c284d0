pub mod Comparing
pub mod Inside
pub mod SameJobJudge
pub mod SameJobLearning
pub mod SameJobNumbers
