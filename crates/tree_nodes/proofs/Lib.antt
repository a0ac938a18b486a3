pub mod Before
pub mod Blocks
pub mod Changes
pub mod Names
pub mod Shown
pub mod Trees
