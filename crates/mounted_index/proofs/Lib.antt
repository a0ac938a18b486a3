pub mod Shown
pub mod Standing
pub mod Committed
pub mod Running
pub mod ClientSteps
