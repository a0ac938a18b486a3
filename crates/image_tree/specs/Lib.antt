pub mod Judged
pub mod Reads
pub mod Sources
pub mod Trees
