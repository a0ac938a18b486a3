pub mod OpenHeads
pub mod Syncing
