pub mod Covered
pub mod Refusals
pub mod Stored
pub mod Filled
pub mod Whole
mod IndexWeight
mod Counts
mod Spaces
mod Writable
