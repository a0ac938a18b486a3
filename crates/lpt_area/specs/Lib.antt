pub mod Tree
pub mod Written
pub mod Only
pub mod Laid
pub mod KeptLaws
