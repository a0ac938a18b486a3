pub mod Buffer
pub mod Units
