pub mod Weights
pub mod CountedLeaves
pub mod RoomSides
