pub mod Books
pub mod BookLaws
