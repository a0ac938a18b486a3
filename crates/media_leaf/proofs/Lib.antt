pub mod BodyTests
pub mod DataLemmas
pub mod EntryLemmas
pub mod InodeLemmas
pub mod LeafLaws
pub mod LeafTest
pub mod TruncationLemmas
