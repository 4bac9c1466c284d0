pub mod OpenWriteLemmas
pub mod JoiningLemmas
pub mod WriteTilingLaws
pub mod UnansweredR2tLaw
pub mod ResponseLaw
