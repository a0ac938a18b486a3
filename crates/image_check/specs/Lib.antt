pub mod Told
pub mod Firsts
pub mod WrongValues
pub mod FirstLaws
pub mod PropertyWalk
pub mod Needs
pub mod KeptLaws
