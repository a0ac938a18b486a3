pub mod Buffers
pub mod Results
pub mod Texts
pub mod Writes
