-- PDUs that are read as they were written, and what their texts and numbers have room for.
pub mod PrefixLemmas
pub mod WindowLemmas
pub mod WrittenPdus
pub mod TextSizes
pub mod ToldOutcomes
pub mod OutcomeRanges
pub mod OfferedTexts
