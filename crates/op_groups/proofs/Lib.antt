pub mod Asked
pub mod Gone
pub mod LastBlock
pub mod Limits
pub mod Parts
