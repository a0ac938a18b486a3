pub mod Keys
pub mod Laid
pub mod Places
pub mod Plain
pub mod Rows
pub mod Stands
pub mod Together
