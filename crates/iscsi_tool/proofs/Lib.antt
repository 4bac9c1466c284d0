pub mod AnsweredLemmas
mod AtEndLemmas
pub mod SpellingLemmas
pub mod RunningLemmas
