pub mod Fits
pub mod ReadBack
pub mod Reading
