pub mod Lebs
pub mod Rooms
pub mod LebTexts
pub mod Standing
pub mod Answers
pub mod Written
pub mod Ordered
pub mod KeysApart
