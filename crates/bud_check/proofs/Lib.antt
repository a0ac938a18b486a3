pub mod CleanBuds
pub mod Firsts
pub mod NamedBuds
pub mod ReadBuds
pub mod SoundBuds
pub mod TextFirsts
