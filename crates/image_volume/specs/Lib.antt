pub mod Written
pub mod WrittenLaws
pub mod ImageVolume
pub mod Reading
pub mod ImageVolumeLaws
