pub mod Heads
pub mod HeadLaws
pub mod PrefixLaws
pub mod Prefixes
