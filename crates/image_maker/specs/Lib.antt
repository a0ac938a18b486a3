pub mod Leaves
pub mod Image
pub mod Packed
pub mod Places
pub mod Laying
