pub mod Elsewhere
pub mod Kept
pub mod KeyNumbers
pub mod NodeBytes
pub mod ProperFiles
pub mod SetsSoFar
pub mod TreeMade
