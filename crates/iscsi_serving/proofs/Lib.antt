pub mod ExecutedLemmas
