pub mod Dirty
pub mod OnVolume
