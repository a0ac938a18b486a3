pub mod Uses
pub mod Weight
pub mod Told
