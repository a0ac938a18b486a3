pub mod FrameLemmas
pub mod ItemLemmas
pub mod LawLemmas
pub mod NodeLemmas
pub mod PackingLemmas
pub mod TableLemmas
