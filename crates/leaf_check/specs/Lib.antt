pub mod Committed
pub mod LeafReads
pub mod NodeKeys
pub mod Overlaps
pub mod Standings
pub mod Sweep
