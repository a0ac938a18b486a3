pub mod Alike
pub mod Sound
pub mod Asked
pub mod Forgotten
pub mod Insertions
pub mod Maps
pub mod Orders
pub mod SameMaps
