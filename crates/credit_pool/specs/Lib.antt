pub mod States
pub mod Rule
pub mod Steps
pub mod Seats
pub mod Masters
pub mod Draws
