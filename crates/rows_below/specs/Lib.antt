pub mod NodeSaid
pub mod RowBelow
pub mod RowBelowLaws
