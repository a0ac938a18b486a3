pub mod Props
pub mod Paged
pub mod Loaded
pub mod Commit
pub mod Worked
