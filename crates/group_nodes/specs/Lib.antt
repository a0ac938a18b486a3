pub mod Nodes
pub mod NodeLaws
pub mod Texts
pub mod TextLaws
pub mod Groups
pub mod LengthLaws
pub mod FitLaws
