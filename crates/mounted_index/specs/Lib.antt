pub mod Shown
pub mod Changed
pub mod ShownLaws
pub mod Committed
pub mod Running
pub mod RunningLaws
pub mod DirtyLaws
pub mod Sizes
