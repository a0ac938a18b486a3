pub mod Added
pub mod FreeEnds
pub mod Places
pub mod LebSums
