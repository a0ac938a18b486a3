pub mod FoundIndex
pub mod IndexWalk
