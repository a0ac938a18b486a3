pub mod Effects
pub mod Ends
pub mod Keeps
pub mod LookUps
pub mod Orders
pub mod Pieces
