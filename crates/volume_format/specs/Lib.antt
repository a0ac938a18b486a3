pub mod Alone
pub mod Format
