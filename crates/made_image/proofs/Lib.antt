pub mod Addresses
pub mod Kept
pub mod Made
pub mod Copies
pub mod Chained
