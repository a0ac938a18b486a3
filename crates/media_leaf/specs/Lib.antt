pub mod Data
pub mod Entry
pub mod Inode
pub mod Truncation
pub mod LeafNode
