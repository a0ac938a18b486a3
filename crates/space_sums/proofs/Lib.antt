pub mod Admitted
pub mod Full
pub mod Index
pub mod Keeps
pub mod NextIndex
pub mod PassSums
