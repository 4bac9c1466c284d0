pub mod PastLemmas
pub mod ZeroLemmas
