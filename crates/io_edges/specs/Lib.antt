pub mod Counts
pub mod Keeper
pub mod Pieces
pub mod Sink
pub mod MemKeeper
pub mod MemSink
pub mod Host
