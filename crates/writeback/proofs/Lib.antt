pub mod JobLines
pub mod Lists
pub mod Running
pub mod Sent
pub mod Tasking
