pub mod Unmoved
pub mod Sound
