pub mod Firsts
pub mod Images
pub mod Kept
pub mod Order
pub mod Shapes
pub mod Spaces
pub mod Stages
pub mod Told
