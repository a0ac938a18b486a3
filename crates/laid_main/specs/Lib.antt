pub mod Filling
pub mod Props
