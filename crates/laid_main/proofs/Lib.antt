pub mod Units
pub mod Laid
