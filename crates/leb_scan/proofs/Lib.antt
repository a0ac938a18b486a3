pub mod Aligned
pub mod Heads
pub mod OneItem
pub mod Places
pub mod Shown
pub mod Steps
pub mod Texts
pub mod Unwritten
