pub mod MainLebs
pub mod Passes
pub mod Spaces
pub mod Sums
