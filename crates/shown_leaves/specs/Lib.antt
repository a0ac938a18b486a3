pub mod Copies
pub mod FalseNodes
pub mod Judged
pub mod Sources
pub mod Spots
pub mod Stored
pub mod Told
