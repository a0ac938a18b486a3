pub mod Content
pub mod Journal
pub mod Stands
pub mod Gathered
pub mod Groups
pub mod Places
