pub mod Lines
pub mod NeverBoth
pub mod OneImage
pub mod Listed
pub mod Faulty
