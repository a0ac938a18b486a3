pub mod Subcommands
pub mod Walked
