pub mod BigModel
pub mod Nodes
pub mod Packed
pub mod PackedLaws
