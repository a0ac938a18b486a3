pub mod Candidates
pub mod MainArea
pub mod Picks
pub mod PropsTree
pub mod Totals
pub mod Tournament
