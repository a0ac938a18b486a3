pub mod Roots
pub mod Written
pub mod DirtyCounted
pub mod Hand
