pub mod Keeping
pub mod Picking
pub mod Replaying
pub mod Sums
pub mod Winning
