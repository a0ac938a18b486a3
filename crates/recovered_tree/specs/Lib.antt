pub mod Checked
pub mod Files
pub mod Highest
pub mod Sets
