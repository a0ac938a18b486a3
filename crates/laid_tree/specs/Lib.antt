pub mod Leaves
pub mod Standing
