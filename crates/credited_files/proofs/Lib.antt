pub mod Moving
pub mod Others
