pub mod Marked
pub mod Counted
pub mod Weights
pub mod Places
pub mod Facts
pub mod Spaces
