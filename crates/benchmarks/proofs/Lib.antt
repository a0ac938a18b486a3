pub mod OnVolume
pub mod Standing
