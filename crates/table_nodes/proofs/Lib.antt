pub mod Unloaded
