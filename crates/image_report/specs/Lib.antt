pub mod Lebs
pub mod Lines
pub mod Looked
pub mod Told
