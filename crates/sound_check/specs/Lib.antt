pub mod Calls
pub mod Reads
pub mod Shape
pub mod Stages
