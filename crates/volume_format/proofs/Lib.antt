pub mod Units
pub mod Alone
pub mod NewProps
pub mod Addresses
pub mod Areas
pub mod Made
pub mod Formatted
