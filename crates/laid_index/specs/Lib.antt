pub mod Packing
pub mod Indexed
pub mod Opened
pub mod Rows
pub mod Answered
pub mod Crowned
pub mod Counted
