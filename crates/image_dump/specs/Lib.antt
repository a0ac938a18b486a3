pub mod ContentsLaws
pub mod Listing
pub mod Opening
